use Rattle.std.proofs.Common.{◌≡◌, ◌++◌, map}
use Rattle.pbf_wire.specs.Cursors.{found_left}
use Rattle.pbf_wire.specs.Faults.{found_in}
use Rattle.pbf_wire.specs.Reading.{each}
use Rattle.pbf_header.specs.Header.{text_of}
use Rattle.pbf_header.proofs.read.texts.Given as goal

-- the texts so far and those that are left are all
abbrev pub invariant-loop-field : goal.invariant-loop-field
invariant-loop-field l = record {
  can : (goal.iterator-loop-field).can_next l.field-iterator;
  ends : (goal.iterator-loop-field).is_finite l.field-iterator;
  so_far : map text_of l.texts.items ++ each l.number (found_left l.field-iterator) ≡ each l.number (found_in l.payload);
}
