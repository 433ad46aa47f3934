use Rattle.std.proofs.Common.{◌≡◌}
use Rattle.std.specs.List.{flat_map}
use Rattle.pbf_wire.specs.Least.{lesser, least}
use Rattle.pbf_wire.specs.Cursors.{found_left}
use Rattle.pbf_wire.specs.Faults.{found_in}
use Rattle.pbf_wire.proofs.judge.judge_fields.Given as goal

abbrev pub invariant-loop-field : goal.invariant-loop-field
invariant-loop-field g l = record {
  can : (goal.iterator-loop-field g).can_next l.field-iterator;
  ends : (goal.iterator-loop-field g).is_finite l.field-iterator;
  so_far : lesser l.least (least (flat_map (g.J.Judge.faults l.judge) (found_left l.field-iterator))) ≡ least (flat_map (g.J.Judge.faults l.judge) (found_in l.message));
}
