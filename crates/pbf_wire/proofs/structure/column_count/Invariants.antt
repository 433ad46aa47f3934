use Rattle.std.proofs.Common.{◌≡◌, ◌+◌, ◌≤◌, ◌^◌, length}
use Rattle.std.specs.List.{flat_map}
use Rattle.pbf_wire.specs.Cursors.{found_left}
use Rattle.pbf_wire.specs.Faults.{ends_of, column_count, found_in}
use Rattle.pbf_wire.proofs.structure.column_count.Given as goal

abbrev pub invariant-loop-field : goal.invariant-loop-field
invariant-loop-field l = record {
  can : (goal.iterator-loop-field).can_next l.field-iterator;
  ends : (goal.iterator-loop-field).is_finite l.field-iterator;
  so_far : l.count + length (flat_map (ends_of l.number) (found_left l.field-iterator)) ≡ column_count l.number (found_in l.message);
  room : column_count l.number (found_in l.message) ≤ 2 ^ 63;
}
