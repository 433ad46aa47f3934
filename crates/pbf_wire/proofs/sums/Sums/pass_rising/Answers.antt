use Rattle.std.proofs.Common.{ℕ, ◌*◌, ◌+ℤ◌, ◌<ℤ◌, ap, ◌∙◌, rules, arith, w64}
use Rattle.std.proofs.lemmas.Int.{ints, to_z-of_z}
use mir.Val.{SFits}
use Rattle.pbf_wire.specs.Signed.{unzigzag}
use Rattle.pbf_wire.proofs.RisingRuns.{run_is}
use Rattle.pbf_wire.proofs.sums.Sums.pass_rising.Goals as goal

pub returns-clause-passed : goal.returns-clause-passed
returns-clause-passed c = λ t values n past.
    let old = c.args.self.now in
    let new = c.add_near.new.self in
    let span = c.args.span in
    let e = c.in-Some.ensures in
    let old_fits : SFits w64 old.total = search rules in
    let new_fits : SFits w64 new.total = search rules in
    let above_fits : SFits w64 span.above = search rules in
    let below_fits : SFits w64 span.below = search rules in
    let low : span.above <ℤ old.total = omega (arith, ints, c.if-next-span.false, to_z-of_z w64 _ old_fits, to_z-of_z w64 _ above_fits) in
    let high : new.total <ℤ span.below = omega (arith, ints, c.if-span-next.false, to_z-of_z w64 _ new_fits, to_z-of_z w64 _ below_fits) in
    let is = c.add_near.ensures.total ∙ ap (λ (n : ℕ). old.total +ℤ unzigzag (2 * n)) c.from.ensures in
    run_is old new _ c.in-Some.rise span values n e.rising e.passed low high is c.add_near.ensures.entries c.add_near.ensures.same.0 c.add_near.ensures.same.1 past
