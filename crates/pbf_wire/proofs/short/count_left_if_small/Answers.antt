use Rattle.std.proofs.Common.{arith}
use Rattle.pbf_wire.specs.Cursors.{found_left}
use Rattle.pbf_wire.specs.Fields.{occurrence}
use Rattle.pbf_wire.proofs.ShortLemmas.{column_more, count_more}
use Rattle.pbf_wire.proofs.short.count_left_if_small.Goals as goal

pub loop-field-preserved-then-field-number : goal.loop-field-preserved-then-field-number
loop-field-preserved-then-field-number c =
    let k = c.args.number in
    let left = found_left c.loop-field.field-iterator in
    let rest = found_left c.next.new.self in
    let next = c.in-Some.ensures.steps in
    let more = count_more k left rest (occurrence c.in-Some.field) next c.if-field-number.true in
    record {
      can = tt;
      ends = tt;
      counted = omega (arith, more, c.in_ok-count.ensures.counted, c.loop-field.invariant.counted);
      room = c.loop-field.invariant.room;
      small = λ later. c.loop-field.invariant.small (column_more k left rest (occurrence c.in-Some.field) next (λ _. c.in_ok-count.ensures.small) later);
    }
