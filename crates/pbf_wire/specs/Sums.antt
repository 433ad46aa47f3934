-- Columns of differences and their sums.
use Rattle.std.specs.Prelude.{ℕ, ℤ, pos, ◌+◌, ◌+ℤ◌, ◌-ℤ◌, if◌then◌else◌, Option, Some, None, List, [], ◌∷◌, length, map, take}
use Rattle.std.specs.List.{range_with_len}
use Rattle.pbf_wire.specs.Signed.{zigzag, is_within}

-- a running sum and its limit
pub record Total : Type 0 where
  pub total : ℤ
  pub limit : ℤ

-- the sum of all entries
abbrev pub total : List ℤ → ℤ
total [] = pos 0
total (d ∷ ds) = d +ℤ total ds

-- value i of a column of differences: the sum of its first i + 1 entries, by itself
abbrev pub sum_at : List ℤ → ℕ → ℤ
sum_at entries i = total (take (i + 1) entries)

-- all values
abbrev pub sums : List ℤ → List ℤ
sums entries = map (sum_at entries) (range_with_len 0 (length entries))

-- the same from left to right, above a start
abbrev pub sums_from : ℤ → List ℤ → List ℤ
sums_from start [] = []
sums_from start (d ∷ ds) = (start +ℤ d) ∷ sums_from (start +ℤ d) ds

-- the sum of two numbers, if it is strictly between -limit and limit
unfoldable pub added : ℤ → ℤ → ℤ → Option ℤ
added limit total number = if is_within limit (total +ℤ number) then Some (total +ℤ number) else None

-- the same from left to right, up to the first that is out of range
abbrev pub sums_within : ℤ → ℤ → List ℤ → List ℤ
sums_within limit start [] = []
sums_within limit start (d ∷ ds) = elim (added limit start d) [ None ↦ [] | Some sum ↦ sum ∷ sums_within limit sum ds ]

-- each value less the one before, and the first less a start
abbrev pub differences : ℤ → List ℤ → List ℤ
differences start [] = []
differences start (v ∷ vs) = (v -ℤ start) ∷ differences v vs

-- the numbers of the column that is written for these values
abbrev pub deltas : List ℤ → List ℕ
deltas values = map zigzag (differences (pos 0) values)
