-- Values that are passed, and the bytes that spell them.
use Rattle.std.specs.Prelude.{◌≡◌, ℕ, ℤ, List, ◌++◌, length, map}
use Rattle.pbf_wire.specs.declared.sums.Sums.{Sums}
use Rattle.pbf_wire.specs.Columns.{packed}
use Rattle.pbf_wire.specs.Cursors.{sums_left}
use Rattle.pbf_wire.specs.Packed.{last_from}
use Rattle.pbf_wire.specs.Signed.{zigzag}
use Rattle.pbf_wire.specs.Sums.{differences}
use Rattle.pbf_wire.specs.Varint.{AreNeeded}

-- what a cursor has still to give: the bytes of the occurrence that was begun, and the values; and the last one given
pub record Left : Type 0 where
  pub bytes : List ℕ
  pub values : List ℤ
  pub last : ℤ

abbrev pub left_of : Sums → Left
left_of sums = record { bytes = sums.entries.packed.now; values = sums_left sums; last = sums.total }

-- the bytes that are written for these values after a last one
abbrev pub deltas_after : ℤ → List ℤ → List ℕ
deltas_after last values = packed (map zigzag (differences last values))

-- so many values are passed, and with them bytes: those that are written for them, if none of the bytes is needless
pub record PassesSpelled (old new : Left) (count : ℕ) : Type 0 where
  pub taken : List ℤ
  pub counted : length taken ≡ count
  pub given : old.values ≡ taken ++ new.values
  pub last : new.last ≡ last_from old.last taken
  pub front : List ℕ
  pub bytes : old.bytes ≡ front ++ new.bytes
  pub spelled : AreNeeded 0 front → front ≡ deltas_after old.last taken
