use Rattle.std.proofs.Common.{◌≡◌}
use Rattle.std.specs.List.{last_or}
use Rattle.std.specs.Option.{option_map}
use Rattle.pbf_wire.specs.Cursors.{found_left}
use Rattle.pbf_wire.specs.Faults.{found_in}
use Rattle.pbf_wire.specs.Reading.{each}
use Rattle.pbf_header.specs.Header.{last_text}
use Rattle.pbf_header.proofs.read.last_bytes.Given as goal

-- the last of the texts that are left, otherwise the last so far
abbrev pub invariant-loop-field : goal.invariant-loop-field
invariant-loop-field l = record {
  can : (goal.iterator-loop-field).can_next l.field-iterator;
  ends : (goal.iterator-loop-field).is_finite l.field-iterator;
  so_far : last_or (option_map (λ bytes. bytes.now) l.last) (each l.number (found_left l.field-iterator)) ≡ last_text l.number (found_in l.payload);
}
