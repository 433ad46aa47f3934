use Rattle.std.proofs.Common.{◌<◌, ◌≤ℤ◌, subst, arith, rules, w64}
use mir.Val.{SFits}
use Rattle.std.proofs.lemmas.Bool.Decides.{nat_tests}
use Rattle.std.proofs.lemmas.Int.{to_z-of_z, ints}
use Rattle.osm_ids.specs.Order.{IsAbove, IsReached}
use Rattle.osm_ids.proofs.Sets.{Ids}
use Rattle.osm_ids.proofs.Sealing.{above_last, reached_last}
use Rattle.osm_ids.proofs.pages.SealedIds.takes.Goals as goal

pub returns-then-self-id-clause-above : goal.returns-then-self-id-clause-above
returns-then-self-id-clause-above c = λ _.
    let fits : SFits w64 c.self.inside.last = search rules in
    subst (λ (s : Ids). IsAbove s c.args.id) c.self.view_is
    (above_last _ _ _ c.self.invariant.1 c.self.inside.last c.args.id c.self.invariant.3 (λ _. let up = c.if-self-id.true in omega (arith, ints, up, to_z-of_z w64 c.args.id c.ranges.id, to_z-of_z w64 c.self.inside.last fits)))

pub returns-else-self-id-clause-above : goal.returns-else-self-id-clause-above
returns-else-self-id-clause-above c = λ e. grind (arith, nat_tests, above_last, c.self.invariant.2)

pub returns-else-self-id-clause-reached : goal.returns-else-self-id-clause-reached
returns-else-self-id-clause-reached c = λ e.
    let fits : SFits w64 c.self.inside.last = search rules in
    let some : 0 < c.self.inside.count = grind (arith, nat_tests) in
    let low : c.args.id ≤ℤ c.self.inside.last = let up = c.if-self-id.false in omega (arith, ints, up, to_z-of_z w64 c.args.id c.ranges.id, to_z-of_z w64 c.self.inside.last fits) in
    subst (λ (s : Ids). IsReached s c.args.id) c.self.view_is (reached_last _ _ _ c.self.invariant.1 c.self.inside.last c.args.id c.self.invariant.3 (omega (arith, c.self.invariant.2, some)) low)
