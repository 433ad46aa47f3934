use Rattle.std.proofs.Common.{◌≡◌}
use Rattle.pbf_wire.specs.Least.{lesser, least}
use Rattle.pbf_wire.specs.Occurrence.{items}
use Rattle.pbf_wire.specs.Cursors.{fields_left}
use Rattle.pbf_wire.specs.Faults.{message_faults}
use Rattle.pbf_wire.proofs.form.judge_form.Given as goal

abbrev pub invariant-loop-item : goal.invariant-loop-item
invariant-loop-item g l = record {
  can : (goal.iterator-loop-item g).can_next l.item-iterator;
  ends : (goal.iterator-loop-item g).is_finite l.item-iterator;
  so_far : lesser l.least (least (message_faults l.kinds (g.J.Judge.faults l.inner) (fields_left l.item-iterator))) ≡ least (message_faults l.kinds (g.J.Judge.faults l.inner) (items l.message.at l.message.bytes.now));
}
