use Rattle.std.proofs.Common.{◌≡◌, ◌++◌, ◌-◌, ℕ, List, take, ap, sym, ◌∙◌, rules, to_z, w64}
use Rattle.std.proofs.lemmas.Int.{to_z-of_z}
use mir.Val.{SFits}
use Rattle.pbf_wire.specs.Cursors.{sums_left}
use Rattle.pbf_wire.specs.Packed.{last_from}
use Rattle.pbf_wire.specs.Taking.{left_of, deltas_after}
use Rattle.pbf_wire.proofs.TakingLemmas.{front_is, last_is, small_front, taken_values, taken_deltas}
use Rattle.pbf_wire.proofs.delta_out.DeltaOut.take_spelled.Goals as goal

pub invariant_of-self-2 : goal.invariant_of-self-2
invariant_of-self-2 c =
    let d = c.self.inside in
    let values = c.args.values.now in
    let n = c.args.count - c.pass_quick-left.result in
    let more = take n (sums_left values) in
    let new = c.pass_quick-left.new.self in
    let e = c.pass_quick-left.ensures.spelled in
    let last_fits : SFits w64 d.last = search rules in
    let total_fits : SFits w64 values.total = search rules in
    let new_fits : SFits w64 new.total = search rules in
    let same : values.total ≡ d.last = sym (to_z-of_z w64 values.total total_fits) ∙ ap (to_z w64) (sym c.if-self-values.false) ∙ to_z-of_z w64 d.last last_fits in
    let bytes = front_is (left_of values) (left_of new) n e c.bytes_until-bytes.result.now c.bytes_until-bytes.ensures (c.are_needed.ensures c.if-not-are_needed.false) in
    let items = c.in_ok-extend_from_slice.ensures.items ∙ ap (λ (w : List ℕ). d.bytes.items ++ w) (bytes ∙ ap (λ z. deltas_after z more) same) in
    let last = last_is (left_of values) (left_of new) n e ∙ ap (λ z. last_from z more) same in
    rw (items, to_z-of_z w64 new.total new_fits, last) (taken_deltas d.bytes.items d.last more c.self.invariant (small_front (sums_left values) _ c.requires))

pub returns-clause-taken : goal.returns-clause-taken
returns-clause-taken c =
    let d = c.self.inside in
    let values = c.args.values.now in
    let n = c.args.count - c.pass_quick-left.result in
    let more = take n (sums_left values) in
    let e = c.pass_quick-left.ensures.spelled in
    let last_fits : SFits w64 d.last = search rules in
    let total_fits : SFits w64 values.total = search rules in
    let same : values.total ≡ d.last = sym (to_z-of_z w64 values.total total_fits) ∙ ap (to_z w64) (sym c.if-self-values.false) ∙ to_z-of_z w64 d.last last_fits in
    let bytes = front_is (left_of values) (left_of c.pass_quick-left.new.self) n e c.bytes_until-bytes.result.now c.bytes_until-bytes.ensures (c.are_needed.ensures c.if-not-are_needed.false) in
    let items = c.in_ok-extend_from_slice.ensures.items ∙ ap (λ (w : List ℕ). d.bytes.items ++ w) (bytes ∙ ap (λ z. deltas_after z more) same) in
    rw (items, ← c.self.view_is) (taken_values d.bytes.items d.last more c.self.invariant (small_front (sums_left values) _ c.requires))
