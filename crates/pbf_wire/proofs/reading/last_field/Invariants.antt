use Rattle.std.proofs.Common.{◌≡◌, ◌==◌, None}
use Rattle.std.specs.List.{filter, last_or}
use Rattle.std.specs.Option.{option_map}
use Rattle.pbf_wire.specs.Faults.{found_in}
use Rattle.pbf_wire.specs.Fields.{occurrence}
use Rattle.pbf_wire.specs.Cursors.{found_left}
use Rattle.pbf_wire.proofs.reading.last_field.Given as goal

abbrev pub invariant-loop-field : goal.invariant-loop-field
invariant-loop-field l = record {
  can : (goal.iterator-loop-field).can_next l.field-iterator;
  ends : (goal.iterator-loop-field).is_finite l.field-iterator;
  so_far : last_or (option_map occurrence l.last) (filter (λ o. o.number == l.number) (found_left l.field-iterator)) ≡ last_or None (filter (λ o. o.number == l.number) (found_in l.message));
}
