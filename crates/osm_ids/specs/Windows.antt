-- What look-ups in a set learnt.
use Rattle.std.specs.Prelude.{◌≡◌, ℕ, ◌<◌, ◌≤◌, ◌-◌, List, length, take, get_or, ℤ, pos, ◌<ℤ◌, ◌≤ℤ◌, ◌+ℤ◌, ◌-ℤ◌, nat_abs, true, false}
use Rattle.std.specs.List.{list_any, AllByRecursion}
use Rattle.std.specs.Ordering.{int_eq, int_cmp}
use Rattle.std.specs.FinSet as set
use Rattle.pbf_wire.specs.declared.span.Span.{Span}
use Rattle.pbf_wire.specs.Spans.{is_in}
use Rattle.osm_ids.specs.declared.page.Known.{Known}
use Rattle.osm_ids.specs.declared.page.PageIds.{PageIds}
use Rattle.osm_ids.specs.declared.window.Window.{Window}
use Rattle.osm_ids.specs.Order.{IsReached}
use Rattle.pbf_wire.specs.Packed.{last_from}
use Rattle.osm_ids.specs.Pages.{IsRising}

-- ---- a span of ids

-- of the ids of a span, a set has all, or none
abbrev pub IsTrueSpan : set.FinSet int_cmp → Known → Type 0
IsTrueSpan ids known = (id : ℤ) → known.span.above <ℤ id → id <ℤ known.span.below → set.contains ids id ≡ known.there

-- and so it is with this id
pub record TellsOfId (ids : set.FinSet int_cmp) (id : ℤ) (told : Known) : Type 0 where
  pub known : IsTrueSpan ids told
  pub there : set.contains ids id ≡ told.there

-- a set has none of these ids
abbrev pub Lacks : set.FinSet int_cmp → Span → Type 0
Lacks ids span = (id : ℤ) → is_in span id ≡ true → set.contains ids id ≡ false

-- a set has all of these ids
abbrev pub HasAll : set.FinSet int_cmp → Span → Type 0
HasAll ids span = (id : ℤ) → is_in span id ≡ true → set.contains ids id ≡ true

-- ---- a page

-- the ids of a page that was read
abbrev pub held : PageIds → List ℤ
held page = take page.count page.ids

abbrev pub first_held : PageIds → ℤ
first_held page = get_or page.ids 0 (pos 0)

-- the last of them
abbrev pub last_held : PageIds → ℤ
last_held page = last_from (pos 0) (held page)

-- these are ids of the set, and it has no others from the first of them up to `below`, to which it reaches
pub record IsTruePage (ids : set.FinSet int_cmp) (page : PageIds) : Type 0 where
  pub rising : IsRising (held page)
  pub within : page.count ≤ 128
  pub some : first_held page <ℤ page.below → 0 < page.count
  pub top : (id : ℤ) → list_any (int_eq id) (held page) ≡ true → id ≤ℤ page.below
  pub inside : (id : ℤ) → list_any (int_eq id) (held page) ≡ true → set.contains ids id ≡ true
  pub answer : (id : ℤ) → first_held page ≤ℤ id → id <ℤ page.below → set.contains ids id ≡ list_any (int_eq id) (held page)
  pub reached : (id : ℤ) → first_held page ≤ℤ id → id <ℤ page.below → IsReached ids id

-- the page has ids, and the first of them isn't above this one
pub record BeginsUpTo (page : PageIds) (id : ℤ) : Type 0 where
  pub rising : IsRising (held page)
  pub some : 0 < page.count
  pub within : page.count ≤ 128
  pub low : first_held page ≤ℤ id

-- the id is looked up among those of this page
pub record IsPageOf (ids : set.FinSet int_cmp) (id : ℤ) (page : PageIds) : Type 0 where
  pub kept : IsTruePage ids page
  pub begun : BeginsUpTo page id
  pub answer : set.contains ids id ≡ list_any (int_eq id) (held page)

-- so many of the ids are below this one
pub record IsPlaceAmong (ids : List ℤ) (id : ℤ) (at : ℕ) : Type 0 where
  pub within : at ≤ length ids
  pub behind : 0 < at → get_or ids (at - 1) (pos 0) <ℤ id
  pub ahead : at < length ids → id ≤ℤ get_or ids at (pos 0)

-- the number after another, or the same
pub record IsSameOrNext (number next : ℤ) : Type 0 where
  pub low : number ≤ℤ next
  pub high : next ≤ℤ (number +ℤ pos 1)

-- between two places of a list lie as many steps as numbers
abbrev pub IsRunOfIds : List ℤ → ℕ → ℕ → Type 0
IsRunOfIds ids from to = nat_abs (get_or ids to (pos 0) -ℤ get_or ids from (pos 0)) ≡ to - from

-- ---- a window

-- all that it holds is true of the set
pub record IsOf (ids : set.FinSet int_cmp) (window : Window) : Type 0 where
  pub pages : AllByRecursion (IsTruePage ids) window.pages
  pub next : window.next < 8
  pub known : IsTrueSpan ids window.known
