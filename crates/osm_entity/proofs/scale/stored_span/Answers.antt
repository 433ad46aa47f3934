use Rattle.std.proofs.Common.{rules, arith, ◌≡◌, ◌≤◌, ◌≤ℤ◌, ◌-ℤ◌, ◌+ℤ◌, ◌^◌, pos, w64, SFits, refl, to_z, of_z, to_z-of_z, subst, ap, ap₂, ◌∙◌}
use Rattle.std.specs.Prelude.{nat_abs}
use Rattle.std.specs.Int.{int_div_euclid}
use Rattle.std.proofs.lemmas.Int.{ints}
use Rattle.osm_entity.proofs.ScaleLemmas.{span_is, apart, first_kept, last_kept, next_kept, next_fits, one_less_fits}
use Rattle.osm_entity.proofs.scale.stored_span.Goals as goal

pub overflow_sub-high : goal.overflow_sub-high
overflow_sub-high c =
    let small : nat_abs (to_z w64 (of_z w64 c.args.offset)) ≤ 2 ^ 60 = search rules in
    let small_high : nat_abs (to_z w64 (of_z w64 c.args.high)) ≤ 2 ^ 60 = search rules in
    omega (arith, ints, small, small_high)

pub overflow_sub-low-2 : goal.overflow_sub-low-2
overflow_sub-low-2 c =
    let offset = to_z w64 (of_z w64 c.args.offset) in
    let low = to_z w64 (of_z w64 c.args.low) in
    let small : nat_abs offset ≤ 2 ^ 60 = search rules in
    let small_low : nat_abs low ≤ 2 ^ 60 = search rules in
    one_less_fits (low -ℤ offset) (apart low offset small_low small)

pub overflow_add-result : goal.overflow_add-result
overflow_add-result c =
    let offset = to_z w64 (of_z w64 c.args.offset) in
    let high = to_z w64 (of_z w64 c.args.high) in
    let small : nat_abs offset ≤ 2 ^ 60 = search rules in
    let small_high : nat_abs high ≤ 2 ^ 60 = search rules in
    let most = subst (λ z. nat_abs c.whole_units-2.result ≤ nat_abs z) (last_kept high offset high offset small_high small refl refl) c.whole_units-2.ensures.small in
    next_fits c.whole_units-2.result (high -ℤ offset) most (apart high offset small_high small)

pub returns : goal.returns
returns c =
    let low_is = to_z-of_z c.ranges.low in
    let high_is = to_z-of_z c.ranges.high in
    let offset_is = to_z-of_z c.ranges.offset in
    let small_offset = subst (λ z. nat_abs z ≤ 2 ^ 60) offset_is (c.is_moderate.ensures c.if-not-is_moderate.false) in
    let small_low : nat_abs (to_z w64 (of_z w64 c.args.low)) ≤ 2 ^ 60 = search rules in
    let small_high = subst (λ z. nat_abs z ≤ 2 ^ 60) high_is (c.is_moderate-else-not-is_moderate-2.ensures c.if-not-is_moderate-3.false) in
    let first = first_kept c.args.low c.args.offset _ _ (subst (λ z. nat_abs z ≤ 2 ^ 60) low_is small_low) small_offset low_is offset_is in
    let last = last_kept c.args.high c.args.offset _ _ small_high small_offset high_is offset_is in
    let unit : to_z w64 (of_z w64 c.from-unit.result) ≡ c.args.granularity = search rules in
    let one : pos 1 ≤ℤ c.args.granularity = search rules in
    let fits : SFits w64 c.whole_units.result = search rules in
    let above_is = to_z-of_z fits ∙ c.whole_units.ensures.value ∙ ap₂ int_div_euclid first unit in
    let most : nat_abs c.whole_units-2.result ≤ nat_abs (c.args.high -ℤ c.args.offset) = subst (λ z. nat_abs c.whole_units-2.result ≤ nat_abs z) last c.whole_units-2.ensures.small in
    let below_is = next_kept c.whole_units-2.result (c.args.high -ℤ c.args.offset) most (apart c.args.high c.args.offset small_high small_offset) ∙ ap (λ q. q +ℤ pos 1) (c.whole_units-2.ensures.value ∙ ap₂ int_div_euclid last unit) in
    span_is c.args.offset c.args.granularity c.args.low c.args.high _ _ one above_is below_is
