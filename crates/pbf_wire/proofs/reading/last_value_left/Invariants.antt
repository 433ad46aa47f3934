use Rattle.std.proofs.Common.{◌≡◌}
use Rattle.std.specs.List.{last_or}
use Rattle.pbf_wire.specs.Occurrence.{found}
use Rattle.pbf_wire.specs.Reading.{values, last_value}
use Rattle.pbf_wire.specs.Cursors.{fields_left, found_left}
use Rattle.pbf_wire.proofs.reading.last_value_left.Given as goal

abbrev pub invariant-loop-field : goal.invariant-loop-field
invariant-loop-field l = record {
  can : (goal.iterator-loop-field).can_next l.field-iterator;
  ends : (goal.iterator-loop-field).is_finite l.field-iterator;
  so_far : last_or l.last (values l.number (found_left l.field-iterator)) ≡ last_value l.number (found (fields_left l.fn.fields));
}
