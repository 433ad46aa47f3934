use Rattle.pbf_wire.specs.Cursors.{found_left}
use Rattle.pbf_wire.specs.Fields.{occurrence}
use Rattle.pbf_wire.proofs.FaultLemmas.{occurs_later}
use Rattle.pbf_wire.proofs.structure.judge_twice.Goals as goal

pub loop-field-preserved-then-seen : goal.loop-field-preserved-then-seen
loop-field-preserved-then-seen c = record {
  can = tt;
  ends = tt;
  so_far = rw c.lesser-least.ensures (occurs_later c.loop-field.seen c.loop-field.least c.args.number (found_left c.loop-field.field-iterator) (found_left c.next.new.self) (occurrence c.in-Some.field) _ c.if-seen.true c.in-Some.ensures.steps c.if-field-number.true c.loop-field.invariant.so_far);
}
