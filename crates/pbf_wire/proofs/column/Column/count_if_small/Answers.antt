use Rattle.std.proofs.Common.{◌+◌, ◌≤◌, ◌^◌, arith}
use Rattle.std.specs.Prelude.{nat_lt}
use Rattle.std.proofs.lemmas.List.Sums.{count_by-le-length}
use Rattle.pbf_wire.proofs.ShortLemmas.{begun_counted, begun_small, left_short}
use Rattle.pbf_wire.proofs.column.Column.count_if_small.Goals as goal

-- each of both has at most 2^25
few : (c : goal.In_ok-left) → (c.in_ok-begun.begun + c.in_ok-left.left) ≤ 2 ^ 26
few c =
    let column = c.args.self.now in
    let begun = c.in_ok-begun.ensures {u = tt} in
    let left = c.in_ok-left.ensures {u = tt} in
    omega (arith, begun.counted, count_by-le-length (λ b. nat_lt b 128) column.packed.now, left.counted, left_short column.number column.fields.0, c.len.ensures, c.if-len-gt-MOST_BYTES.false, c.if-self-gt-MOST_BYTES.false)

pub overflow_add-result : goal.overflow_add-result
overflow_add-result c = omega (arith, few c)

pub returns-clause-counted : goal.returns-clause-counted
returns-clause-counted c =
    let begun = c.in_ok-begun.ensures {u = tt} in
    let left = c.in_ok-left.ensures {u = tt} in
    (begun_counted c.args.self.now c.in_ok-begun.begun c.in_ok-left.left begun.counted begun.short left.counted, few c)

pub returns-clause-small : goal.returns-clause-small
returns-clause-small c = begun_small c.args.self.now (c.in_ok-begun.ensures {u = tt}).short (c.in_ok-left.ensures {u = tt}).small
