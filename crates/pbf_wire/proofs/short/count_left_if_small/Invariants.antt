use Rattle.std.proofs.Common.{◌≡◌, ◌+◌, ◌≤◌, ◌^◌, length}
use Rattle.pbf_wire.specs.Occurrence.{found}
use Rattle.pbf_wire.specs.Columns.{joined}
use Rattle.pbf_wire.specs.Cursors.{fields_left, found_left}
use Rattle.pbf_wire.proofs.ShortLemmas.{AllSmallPlaced}
use Rattle.pbf_wire.proofs.short.count_left_if_small.Given as goal

abbrev pub invariant-loop-field : goal.invariant-loop-field
invariant-loop-field l = record {
  can : (goal.iterator-loop-field).can_next l.field-iterator;
  ends : (goal.iterator-loop-field).is_finite l.field-iterator;
  counted : l.count + length (joined l.number (found_left l.field-iterator)) ≡ length (joined l.number (found (fields_left l.fields)));
  room : length (joined l.number (found (fields_left l.fields))) ≤ 2 ^ 63;
  small : AllSmallPlaced (joined l.number (found_left l.field-iterator)) → AllSmallPlaced (joined l.number (found (fields_left l.fields)));
}
