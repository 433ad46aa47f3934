-- Strips of ids: which of several sets may have an id.
use Rattle.std.specs.Prelude.{◌≡◌, ◌<◌, ◌/◌, ◌^◌, ℕ, ℤ, Bool, true, false, List, [], Option, Some, None, length, get_or, nat_abs, nat_eq}
use Rattle.std.specs.List.{list_any, slice_get}
use Rattle.std.specs.Int.Bits.{bit_and}
use Rattle.std.specs.FinSet as set
use Rattle.std.specs.Global.{Vec}
use Rattle.std.specs.Ordering.{int_cmp}
use Rattle.osm_ids.specs.declared.id_runs.IdRuns.{IdRuns}
use Rattle.osm_ids.specs.declared.strips.IdStrips.{IdStrips}

-- the run of ids that an id is in
abbrev pub id_run : IdRuns → ℤ → ℕ
id_run runs id = nat_abs id / 2 ^ runs.shift

-- the strip that an id is in
abbrev pub id_strip : IdRuns → ℤ → ℕ
id_strip runs id = bit_and (id_run runs id) runs.mask

abbrev pub strip_numbers : Option (Vec ℕ) → List ℕ
strip_numbers None = []
strip_numbers (Some strip) = strip.items

-- the numbers in the strip with this index
abbrev pub listed_at : List (Vec ℕ) → ℕ → List ℕ
listed_at strips index = strip_numbers (slice_get strips index)

abbrev pub HasNumber : List ℕ → ℕ → Type 0
HasNumber numbers number = list_any (nat_eq number) numbers ≡ true

-- each strip has the numbers that it had, and maybe more
abbrev pub AlsoLists : (old new : List (Vec ℕ)) → Type 0
AlsoLists old new = (index number : ℕ) → HasNumber (listed_at old index) number → HasNumber (listed_at new index) number

-- the numbers of the sets that have an id in the strip of this one
unfoldable pub named_at : IdStrips → ℤ → List ℕ
named_at strips id = listed_at strips.strips.items (id_strip strips.runs id)

-- this set is named for an id
abbrev pub IsNamed : IdStrips → ℤ → ℕ → Type 0
IsNamed strips id number = HasNumber (named_at strips id) number

-- the set of this number is named for each of its ids
abbrev pub NamesAll : IdStrips → ℕ → set.FinSet int_cmp → Type 0
NamesAll strips number ids = (id : ℤ) → set.contains ids id ≡ true → IsNamed strips id number

-- whether it is named for one of these ids
abbrev pub names_any : IdStrips → List ℤ → ℕ → Bool
names_any strips ids number = list_any (λ id. list_any (nat_eq number) (named_at strips id)) ids

abbrev pub NamesAny : IdStrips → List ℤ → ℕ → Type 0
NamesAny strips ids number = names_any strips ids number ≡ true

-- what was named still is
abbrev pub StillNames : IdStrips → IdStrips → Type 0
StillNames old new = (id : ℤ) (number : ℕ) → IsNamed old id number → IsNamed new id number

-- the mark with this number is set, if there is one
abbrev pub IsMarked : List Bool → ℕ → Type 0
IsMarked marks number = number < length marks → get_or marks number false ≡ true

-- marks were set, and none was cleared
pub record Marks (named : ℕ → Type 0) (old new : List Bool) : Type 0 where
  pub set : (number : ℕ) → named number → IsMarked new number
  pub kept : (number : ℕ) → IsMarked old number → IsMarked new number
  pub as_many : length new ≡ length old

-- the sets that are named were marked; if this is false, none is
pub record MarksNamed (named : ℕ → Type 0) (old new : List Bool) (some : Bool) : Type 0 where
  pub marked : Marks named old new
  pub none : some ≡ false → (number : ℕ) → named number → ⊥
