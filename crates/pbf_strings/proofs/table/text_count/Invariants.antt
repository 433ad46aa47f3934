use Rattle.std.proofs.Common.{◌≡◌, ◌+◌, ◌≤◌, ◌^◌, length}
use Rattle.pbf_wire.specs.Reading.{each}
use Rattle.pbf_wire.specs.Cursors.{found_left}
use Rattle.pbf_strings.specs.Texts.{texts}
use Rattle.pbf_strings.proofs.table.text_count.Given as goal

abbrev pub invariant-loop-field : goal.invariant-loop-field
invariant-loop-field l = record {
  can : (goal.iterator-loop-field).can_next l.field-iterator;
  ends : (goal.iterator-loop-field).is_finite l.field-iterator;
  so_far : l.count + length (each 1 (found_left l.field-iterator)) ≡ length (texts l.message);
  room : length (texts l.message) ≤ 2 ^ 63;
}
