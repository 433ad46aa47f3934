-- Rising ids in pages: what lies in the index and in the bytes.
use Rattle.std.specs.Prelude.{◌≡◌, ℕ, zero, suc, ◌+◌, ◌-◌, ◌≤◌, List, [], ◌∷◌, ◌++◌, length, take, drop, ℤ, pos, ◌+ℤ◌, ◌-ℤ◌, ◌<ℤ◌, unsigned_abs, FitsSigned}
use Rattle.std.specs.Int.{w64}
use Rattle.std.specs.List.{flat_map, AllByRecursion}
use Rattle.std.specs.BTreeSet.{insert_key}
use Rattle.std.specs.Ordering.{int_cmp}
use Rattle.std.specs.FinSet as set
use Rattle.osm_ids.specs.declared.index.PageStart.{PageStart}
use Rattle.pbf_wire.specs.Columns.{packed}
use Rattle.pbf_wire.specs.Packed.{last_from, numbers_of}

-- ---- pages

-- a page: its first id, and the others
pub record Page : Type 0 where
  pub first : ℤ
  pub others : List ℤ

abbrev pub page_ids : Page → List ℤ
page_ids page = page.first ∷ page.others

abbrev pub ids_of_pages : List Page → List ℤ
ids_of_pages pages = flat_map page_ids pages

-- a page begins at the first id, and then at each 128th
unfoldable pub pages_past : ℕ → List ℤ → List Page
pages_past skip [] = []
pages_past (suc skip) (id ∷ ids) = pages_past skip ids
pages_past zero (id ∷ ids) = record { first = id; others = take 127 ids } ∷ pages_past 127 ids

-- the pages of these ids: all but the last have 128
abbrev pub pages_of : List ℤ → List Page
pages_of ids = pages_past 0 ids

-- every page but the last has 128 ids, and the last at most as many
abbrev pub HasFullPages : List Page → Type 0
HasFullPages [] = Unit {0}
HasFullPages (page ∷ []) = length page.others ≤ 127
HasFullPages (page ∷ next ∷ pages) = (length page.others ≡ 127) × HasFullPages (next ∷ pages)

-- ---- their bytes

-- how far an id is above the one before
abbrev pub gap : ℤ → ℤ → ℕ
gap low high = unsigned_abs (high -ℤ low)

-- each id less the one before it, the first less `low`
abbrev pub gaps : ℤ → List ℤ → List ℕ
gaps low [] = []
gaps low (id ∷ ids) = gap low id ∷ gaps id ids

-- the bytes of a page: its ids, the first apart, as shortest varints
abbrev pub page_bytes : Page → List ℕ
page_bytes page = packed (gaps page.first page.others)

abbrev pub bytes_of_pages : List Page → List ℕ
bytes_of_pages pages = flat_map page_bytes pages

-- the index of pages whose bytes begin at a place
abbrev pub starts_from : ℕ → List Page → List PageStart
starts_from at [] = []
starts_from at (page ∷ pages) = record { first = page.first; place = at } ∷ starts_from (at + length (page_bytes page)) pages

-- ---- read again

-- the ids that are so far above one another
abbrev pub raised : ℤ → List ℕ → List ℤ
raised low [] = []
raised low (n ∷ ns) = (low +ℤ pos n) ∷ raised (low +ℤ pos n) ns

-- the ids that an index and bytes stand for
abbrev pub ids_in : List PageStart → List ℕ → List ℤ
ids_in [] bytes = []
ids_in (start ∷ []) bytes = start.first ∷ raised start.first (numbers_of (drop start.place bytes))
ids_in (start ∷ next ∷ starts) bytes = start.first ∷ (raised start.first (numbers_of (take (next.place - start.place) (drop start.place bytes))) ++ ids_in (next ∷ starts) bytes)

-- ---- what is sealed

-- each id is above the one before
abbrev pub Rises : ℤ → List ℤ → Type 0
Rises low [] = Unit {0}
Rises low (id ∷ ids) = (low <ℤ id) × Rises id ids

abbrev pub IsRising : List ℤ → Type 0
IsRising [] = Unit {0}
IsRising (id ∷ ids) = Rises id ids

abbrev pub AllFit : List ℤ → Type 0
AllFit ids = AllByRecursion (FitsSigned w64) ids

-- the index and the bytes are those of the pages of rising ids
pub record IsSealed (index : List PageStart) (bytes : List ℕ) (ids : List ℤ) : Type 0 where
  pub starts : index ≡ starts_from 0 (pages_of ids)
  pub spelled : bytes ≡ bytes_of_pages (pages_of ids)
  pub rising : IsRising ids
  pub fits : AllFit ids

-- these numbers are how far apart the ids are that are still to come after those of a page
pub record ReadsPage (all held : List ℤ) (left : List ℕ) : Type 0 where
  pub fits : AllFit (raised (last_from (pos 0) held) left)
  pub whole : all ≡ held ++ raised (last_from (pos 0) held) left

-- ---- the rising list of a set

unfoldable pub in_order : List ℤ → List ℤ
in_order [] = []
in_order (id ∷ ids) = insert_key int_cmp (in_order ids) id

-- the ids of a set in rising order
abbrev pub rising : set.FinSet int_cmp → List ℤ
rising ids = in_order (set.items ids)
