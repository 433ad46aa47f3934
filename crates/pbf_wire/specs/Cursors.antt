-- What the cursors over a message have still to give.
use Rattle.std.specs.Prelude.{ℕ, ℤ, List, ◌++◌, map}
use Rattle.pbf_wire.specs.declared.fields.Fields.{Fields}
use Rattle.pbf_wire.specs.declared.fields.FoundFields.{FoundFields}
use Rattle.pbf_wire.specs.declared.column.Column.{Column}
use Rattle.pbf_wire.specs.declared.sums.Sums.{Sums}
use Rattle.pbf_wire.specs.Signed.{delta_in}
use Rattle.pbf_wire.specs.Sums.{sums_within}
use Rattle.pbf_wire.specs.Occurrence.{Occurrence, Item, items, found}
use Rattle.pbf_wire.specs.Columns.{entries, read_entries, placed, joined}

-- the items that are left
unfoldable pub fields_left : Fields → List Item
fields_left fields = items fields.at fields.rest.now

-- those before the first fault
abbrev pub found_left : FoundFields → List Occurrence
found_left fields = found (fields_left fields.0)

-- the numbers that are left, each beside the place of its occurrence
unfoldable pub column_left : Column → List (ℕ × ℕ)
column_left column = placed column.packed_place (read_entries (entries column.packed.now)) ++ joined column.number (found_left column.fields)

-- the numbers that are left
abbrev pub numbers_left : Column → List ℕ
numbers_left column = map (λ p. p.0) (column_left column)

-- the place of the occurrence that held the last number given
abbrev pub place_of_number : Column → ℕ
place_of_number column = column.place

-- the values of a delta column that are left
abbrev pub sums_left : Sums → List ℤ
sums_left sums = sums_within sums.limit sums.total (map (delta_in sums.narrow) (numbers_left sums.entries))

-- the last value given, 0 before the first
abbrev pub last_given : Sums → ℤ
last_given sums = sums.total
