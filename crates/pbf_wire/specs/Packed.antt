-- Packed columns that are being written, as the lists that they hold.
use Rattle.std.specs.Prelude.{◌≡◌, ℕ, ℤ, pos, ◌<◌, ◌^◌, List, [], ◌∷◌, map}
use Rattle.std.specs.List.{AllByRecursion}
use Rattle.pbf_wire.specs.Signed.{unzigzag, IsWithin}
use Rattle.pbf_wire.specs.Sums.{sums_from, deltas}
use Rattle.pbf_wire.specs.Columns.{entries, read_entries, packed}
use Rattle.pbf_wire.specs.declared.limits.TheConstants.{SUM_LIMIT}

-- the bytes are the packed column of these numbers
pub record IsPacked (bytes : List ℕ) (numbers : List ℕ) : Type 0 where
  pub bytes_are : bytes ≡ packed numbers
  pub fit : AllByRecursion (λ n. n < 2 ^ 64) numbers

-- the numbers that the bytes hold
abbrev pub numbers_of : List ℕ → List ℕ
numbers_of bytes = read_entries (entries bytes)

-- the last of these values, or a start
abbrev pub last_from : ℤ → List ℤ → ℤ
last_from start [] = start
last_from start (v ∷ vs) = last_from v vs

-- the bytes are the packed column of the differences of these values, of which this is the last
pub record HoldsDeltas (bytes : List ℕ) (last : ℤ) (values : List ℤ) : Type 0 where
  pub bytes_are : bytes ≡ packed (deltas values)
  pub last_is : last ≡ last_from (pos 0) values
  pub within : AllByRecursion (IsWithin (pos SUM_LIMIT)) values

-- the values that the bytes hold
abbrev pub values_of : List ℕ → List ℤ
values_of bytes = sums_from (pos 0) (map unzigzag (numbers_of bytes))
