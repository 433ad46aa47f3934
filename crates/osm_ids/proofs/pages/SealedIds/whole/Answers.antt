use Rattle.std.proofs.Common.{◌≡◌, ◌+◌, ◌-◌, ◌<ℤ◌, List, ℤ, get_or, length, sym, ap, subst, ◌∙◌, arith, rules, w64}
use mir.Val.{SFits}
use Rattle.std.proofs.lemmas.Int.{ints, to_z-of_z}
use Rattle.osm_ids.specs.declared.index.PageStart.{PageStart}
use Rattle.osm_ids.specs.declared.page.Known.{Known}
use Rattle.osm_ids.specs.Index.{HasPage, first_of}
use Rattle.osm_ids.specs.Pages.{rising}
use Rattle.osm_ids.proofs.Kept.{whole_page}
use Rattle.osm_ids.proofs.Rounds.{told_known}
use Rattle.osm_ids.proofs.Sealing.{sealed_now, page_count, start_is}
use Rattle.osm_ids.proofs.pages.SealedIds.whole.Goals as goal

pub returns : goal.returns
returns c = λ id passed.
    let s = sealed_now _ _ _ c.self.invariant.1 _ c.self.view_is in
    let all = rising c.args.self.now in
    let n = c.args.begun - 1 in
    let same : n + 1 ≡ c.args.begun = omega (arith, c.requires) in
    let value = c.deref.ensures.value in
    let start = c.index.result.now in
    let next = c.in_ok-next.next.now in
    let at = c.in_ok-next.ensures.lookup in
    let low : SFits w64 start.first = search rules in
    let high : SFits w64 next.first = search rules in
    let there = passed.there c.requires in
    let lt : HasPage all (n + 1) = omega (arith, at.3.0, ap length value, page_count _ _ _ s, c.requires) in
    let first = to_z-of_z w64 _ low ∙ ap (λ (a : PageStart). a.first) (c.index.ensures ∙ start_is _ _ _ s n there _) in
    let second = to_z-of_z w64 _ high ∙ ap (λ (a : PageStart). a.first) (at.3.1 next ∙ ap (λ k. get_or c.deref.result.now k next) (sym same) ∙ ap (λ (i : List PageStart). get_or i (n + 1) next) value ∙ start_is _ _ _ s (n + 1) lt _) in
    let there = λ (x : ℤ). whole_page c.args.self.now n _ _ _ x lt first second c.abs_diff.ensures c.if-abs_diff-ne-PAGE.false in
    record {
      known = told_known c.args.self.now _ _ _ _ _ _ c.told.ensures first second (λ x above below. there x (omega (arith, ints, above)) (omega (arith, ints, below)));
      there = there id (passed.low c.requires) (let high = passed.high (subst (HasPage all) same lt) in let up : id <ℤ first_of all (n + 1) = subst (λ k. id <ℤ first_of all k) (sym same) high in omega (arith, ints, up)) ∙ sym (ap (λ (k : Known). k.there) c.told.ensures);
    }
