-- How an id compares with the ids of a set.
use Rattle.std.specs.Prelude.{◌≡◌, ℤ, ◌<ℤ◌, ◌≤ℤ◌, List, true, false}
use Rattle.std.specs.List.{list_any}
use Rattle.std.specs.Ordering.{int_cmp, int_eq}
use Rattle.std.specs.FinSet as set

-- the id is above all of the set
abbrev pub IsAbove : set.FinSet int_cmp → ℤ → Type 0
IsAbove ids id = (x : ℤ) → set.contains ids x ≡ true → x <ℤ id

-- one of the set is no less than the id
abbrev pub IsReached : set.FinSet int_cmp → ℤ → Type 0
IsReached ids id = (x : ℤ) × (set.contains ids x ≡ true) × (id ≤ℤ x)

-- none of these ids is in the set, but each is below one of it
abbrev pub AreLate : set.FinSet int_cmp → List ℤ → Type 0
AreLate ids late = (x : ℤ) → list_any (int_eq x) late ≡ true → (set.contains ids x ≡ false) × IsReached ids x
