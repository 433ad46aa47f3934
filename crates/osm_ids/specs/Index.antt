-- The pages of rising ids, by their places.
use Rattle.std.specs.Prelude.{◌≡◌, ℕ, suc, ◌+◌, ◌-◌, ◌*◌, ◌<◌, ◌≤◌, List, length, take, drop, get_or, ℤ, pos, ◌<ℤ◌, ◌≤ℤ◌}
use Rattle.std.specs.Ordering.{int_cmp}
use Rattle.std.specs.FinSet as set
use Rattle.osm_ids.specs.declared.index.PageStart.{PageStart}
use Rattle.osm_ids.specs.declared.page.PageIds.{PageIds}
use Rattle.osm_ids.specs.Pages.{Page, ids_in}
use Rattle.osm_ids.specs.Windows.{IsSameOrNext, held, last_held}

-- the set that an index and bytes stand for
abbrev pub set_in : List PageStart → List ℕ → set.FinSet int_cmp
set_in index bytes = set.from_list (ids_in index bytes)

-- the ids have a page of that number
abbrev pub HasPage : List ℤ → ℕ → Type 0
HasPage ids n = 128 * n < length ids

-- the first id of a page
abbrev pub first_of : List ℤ → ℕ → ℤ
first_of ids n = get_or ids (128 * n) (pos 0)

-- the page whose first id is at a place
abbrev pub page_at : List ℤ → ℕ → Page
page_at ids at = record { first = get_or ids at (pos 0); others = take 127 (drop (suc at) ids) }

-- so many pages begin at or below the id, and the others above it
pub record ArePagesUpTo (ids : List ℤ) (id : ℤ) (n : ℕ) : Type 0 where
  pub there : 0 < n → HasPage ids (n - 1)
  pub low : 0 < n → first_of ids (n - 1) ≤ℤ id
  pub high : HasPage ids n → id <ℤ first_of ids n

-- a page was read, and which number it reaches to
pub record IsPageRead (ids : List ℤ) (n : ℕ) (page : PageIds) : Type 0 where
  pub held_is : held page ≡ take 128 (drop (128 * n) ids)
  pub within : page.count ≤ 128
  pub next : HasPage ids (n + 1) → page.below ≡ first_of ids (n + 1)
  pub last : length ids ≤ 128 * (n + 1) → IsSameOrNext (last_held page) page.below
