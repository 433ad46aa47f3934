-- Columns whose numbers take at most five bytes each.
use Rattle.std.specs.Prelude.{ℕ, ◌+◌, ◌<◌, List, length, slice_index}

-- of so many bytes from the index i on one ends a varint
abbrev pub EndsWithin : ℕ → List ℕ → ℕ → Type 0
EndsWithin most bytes i = (j : ℕ) × (j < most) × (i + j < length bytes) × (slice_index bytes (i + j) < 128)

-- of the five bytes from each index on
abbrev pub IsShort : List ℕ → Type 0
IsShort bytes = (i : ℕ) → i < length bytes → EndsWithin 5 bytes i
