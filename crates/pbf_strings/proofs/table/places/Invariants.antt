use Rattle.std.proofs.Common.{◌≡◌, ◌++◌, map}
use Rattle.std.specs.Prelude.{max}
use Rattle.std.specs.List.{AllByRecursion}
use Rattle.pbf_wire.specs.Reading.{each}
use Rattle.pbf_wire.specs.Cursors.{found_left}
use Rattle.pbf_strings.specs.Texts.{texts, longest, text_at}
use Rattle.pbf_strings.proofs.TextsLemmas.{IsAtPlace}
use Rattle.pbf_strings.proofs.table.places.Given as goal

-- the texts so far and those that are left are all, and each of these is found at its place
abbrev pub invariant-loop-field : goal.invariant-loop-field
invariant-loop-field l = record {
  can : (goal.iterator-loop-field).can_next l.field-iterator;
  ends : (goal.iterator-loop-field).is_finite l.field-iterator;
  so_far : map (text_at l.message) l.places.items ++ each 1 (found_left l.field-iterator) ≡ texts l.message;
  most : max l.longest (longest (each 1 (found_left l.field-iterator))) ≡ longest (texts l.message);
  placed : AllByRecursion (IsAtPlace l.message) (found_left l.field-iterator);
}
