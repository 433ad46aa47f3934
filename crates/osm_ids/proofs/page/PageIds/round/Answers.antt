use Rattle.std.proofs.Common.{◌≡◌, ◌-◌, pos, length, get_or, ap, arith, rules, of_z, w64, subst, ◌≤ℤ◌}
use mir.Val.{SFits}
use Rattle.std.proofs.lemmas.Int.{to_z-of_z, ints}
use Rattle.std.proofs.lemmas.List.{length-take}
use Rattle.osm_ids.specs.Windows.{IsSameOrNext, held}
use Rattle.osm_ids.proofs.Places.{any_at}
use Rattle.osm_ids.proofs.Rounds.{not_there, some_before, gap_known, run_known, told_known}
use Rattle.osm_ids.proofs.page.PageIds.round.Goals as goal

pub returns-then-at-ids-clause-there : goal.returns-then-at-ids-clause-there
returns-then-at-ids-clause-there c = grind (arith, not_there, to_z-of_z)

pub returns-then-at-ids-clause-known : goal.returns-then-at-ids-clause-known
returns-then-at-ids-clause-known c = λ ids kept.
    let page = c.args.self.now in
    let at = c.place_of-at.result in
    let long : length page.ids ≡ 128 = search rules in
    let low : SFits w64 (get_or (held page) (at - 1) (pos 0)) = search rules in
    let high : SFits w64 page.below = search rules in
    told_known ids _ _ _ _ _ _ c.told.ensures (to_z-of_z w64 _ low) (to_z-of_z w64 _ high)
    (gap_known ids page at page.below kept (omega (arith, c.if-at-ids.true, length-take page.count page.ids, long, c.requires.some)) c.place_of-at.ensures.within (omega (arith, ints)) (λ lt. absurd (omega (arith, lt, c.if-at-ids.true))))

pub returns-then-ids-at-clause-there : goal.returns-then-ids-at-clause-there
returns-then-ids-at-clause-there c = grind (arith, not_there, to_z-of_z)

pub returns-then-ids-at-clause-known : goal.returns-then-ids-at-clause-known
returns-then-ids-at-clause-known c = λ ids kept.
    let page = c.args.self.now in
    let at = c.place_of-at.result in
    let long : length page.ids ≡ 128 = search rules in
    let low : SFits w64 (get_or (held page) (at - 1) (pos 0)) = search rules in
    let high : SFits w64 (get_or (held page) at (pos 0)) = search rules in
    let some = some_before page c.args.id _ at (to_z-of_z w64 c.args.id c.ranges.id) c.requires c.place_of-at.ensures (λ lt e. c.if-ids-at.true (ap (of_z w64) e)) (omega (arith, length-take page.count page.ids, long, c.requires.some)) in
    told_known ids _ _ _ _ _ _ c.told-then-ids-at.ensures (to_z-of_z w64 _ low) (to_z-of_z w64 _ high)
    (gap_known ids page at _ kept some c.place_of-at.ensures.within (kept.top _ (any_at (held page) at (omega (arith, c.if-at-ids.false, c.place_of-at.ensures.within)))) (λ _. omega (arith, ints)))

pub returns-clause-known : goal.returns-clause-known
returns-clause-known c = λ ids kept.
    let page = c.args.self.now in
    let at = c.place_of-at.result in
    let to = c.run_after-to.result in
    let run = c.run_after-to.ensures in
    let low : SFits w64 c.before-2.result = search rules in
    let high : SFits w64 c.after.result = search rules in
    let first : SFits w64 (get_or (held page) at (pos 0)) = search rules in
    let last : SFits w64 (get_or (held page) to (pos 0)) = search rules in
    told_known ids _ _ _ _ _ _ c.told-2.ensures (to_z-of_z w64 _ low) (to_z-of_z w64 _ high)
    (λ x above below.
    let begins = subst (λ z. z ≤ℤ x) (to_z-of_z w64 _ first) (c.before-2.ensures x above) in
    let next = subst (λ z. IsSameOrNext z c.after.result) (to_z-of_z w64 _ last) c.after.ensures in
    let up = next.high in
    run_known ids page at to kept run.high.0 run.high.1 run.run x begins (omega (arith, ints, up, below)))
