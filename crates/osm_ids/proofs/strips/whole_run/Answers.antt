use Rattle.std.proofs.Common.{◌≡◌, ◌<◌, ◌*◌, ◌/◌, ◌^◌, ◌+◌, ◌-ℤ◌, ◌<ℤ◌, ◌∙◌, ap, pos, nat_abs, to_z, of_z, w64, arith, rules}
use mir.Val.{SFits}
use Rattle.std.proofs.Math.Nat.{one-le-pow}
use Rattle.std.proofs.lemmas.Int.{to_z-of_z, ints}
use Rattle.osm_ids.proofs.StripLemmas.{same_run}
use Rattle.osm_ids.proofs.strips.whole_run.Goals as goal

pub returns : goal.returns
returns c = λ other inside.
    let width = 2 ^ c.args.runs.shift in
    let n = c.unsigned_abs.result in
    let start = c.start_of-start.result in
    let end = start + c.width_of.result in
    let is : n ≡ nat_abs c.args.id = search rules in
    let few : end < 9223372036854775808 = search rules in
    let first : to_z w64 start ≡ pos start = grind (arith, ints, few) in
    let last : to_z w64 end ≡ pos end = grind (arith, ints, few) in
    let low : SFits w64 (pos start -ℤ pos 1) = search (rules, few) in
    let above : to_z w64 (of_z w64 (to_z w64 start -ℤ pos 1)) ≡ pos start -ℤ pos 1 = rw first (to_z-of_z w64 (pos start -ℤ pos 1) low) in
    let from : (pos start -ℤ pos 1) <ℤ other = grind (arith, ints, above, inside) in
    let to : other <ℤ pos end = grind (arith, ints, last, inside) in
    let some : 0 < width = omega (arith, one-le-pow c.args.runs.shift 2 (omega arith)) in
    let begins : start ≡ n / width * width = c.start_of-start.ensures.value in
    let ends : end ≡ n / width * width + width = search rules in
    same_run n width other some (rw (← begins) from) (rw (← ends) to) ∙ ap (λ m. m / width) is
