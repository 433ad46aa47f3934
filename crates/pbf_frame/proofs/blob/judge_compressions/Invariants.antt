use Rattle.std.proofs.Common.{◌≡◌}
use Rattle.pbf_wire.specs.Least.{lesser, least}
use Rattle.pbf_wire.specs.Faults.{found_in}
use Rattle.pbf_wire.specs.Cursors.{found_left}
use Rattle.pbf_frame.specs.Blob.{compressed}
use Rattle.pbf_frame.proofs.blob.judge_compressions.Given as goal

abbrev pub invariant-loop-field : goal.invariant-loop-field
invariant-loop-field l = record {
  can : (goal.iterator-loop-field).can_next l.field-iterator;
  ends : (goal.iterator-loop-field).is_finite l.field-iterator;
  so_far : lesser l.least (least (compressed (found_left l.field-iterator))) ≡ least (compressed (found_in l.blob));
}
