-- Rising ids in pages: how they grow, and that they are read again.
use Rattle.std.proofs.Common.{◌≡◌, true, false, int_le, ℕ, zero, suc, ◌+◌, ◌-◌, ◌*◌, ◌%◌, ◌^◌, ◌<◌, ◌≤◌, List, [], ◌∷◌, ◌++◌, length, take, drop, get_or, ℤ, pos, ◌<ℤ◌, ◌≤ℤ◌, FitsSigned, w64, refl, sym, ap, subst, ◌∙◌, arith, length-append, append_assoc, take-append-drop}
use Rattle.std.specs.Int.{div_ceil}
use Rattle.std.specs.List.{AllByRecursion}
use Rattle.std.specs.List.Sorted.{IsPartitionedBy, IsPartitionPoint}
use Rattle.std.specs.Cmp.{int_cmp_total}
use Rattle.std.specs.FinSet as set
use Rattle.std.proofs.lemmas.Bool.{cases_lt}
use Rattle.std.proofs.lemmas.Int.{ints}
use Rattle.std.proofs.lemmas.Grind.{flat_map-append}
use Rattle.std.proofs.lemmas.List.{append-nil, drop-drop, drop_all, drop_more, length-drop, length-take, length-take-le, take_all, take_at, take-append-le}
use Rattle.std.proofs.Math.Seq.{drop-nil, drop-append_seam, take-append_seam}
use Rattle.pbf_wire.specs.Varint.{shortest}
use Rattle.pbf_wire.specs.Columns.{packed, read_entries}
use Rattle.pbf_wire.specs.Packed.{last_from, numbers_of}
use Rattle.pbf_wire.proofs.AllLemmas.{all_push, all_take, all_drop}
use Rattle.pbf_wire.proofs.Columns.{entries_none, entries_ok}
use Rattle.pbf_wire.proofs.Shortest.{shortest_spells}
use Rattle.pbf_wire.proofs.Spellings.{spelling_is_read}
use Rattle.pbf_wire.proofs.WritingLemmas.{shortest_positive}
use Rattle.pbf_wire.proofs.PackedLemmas.{column_read, packed_push}
use Rattle.osm_ids.specs.declared.index.PageStart.{PageStart}
use Rattle.osm_ids.specs.Index.{ArePagesUpTo, HasPage, first_of, page_at, set_in}
use Rattle.osm_ids.specs.Order.{IsAbove, IsReached}
use Rattle.osm_ids.specs.Pages.{gap, gaps, Page, page_ids, page_bytes, pages_past, pages_of, ids_of_pages, bytes_of_pages, starts_from, HasFullPages, Rises, IsRising, AllFit, raised, ids_in, IsSealed, rising}
use Rattle.osm_ids.proofs.Sets.{Ids, ids_of, contains-ids_of}
use Rattle.osm_ids.proofs.Places.{at_most, rises_take, last_most, last_there, some_of}
use Rattle.osm_ids.proofs.Rising.{rising_tail, len-rising, rising_of_set, rising_rises, ids_of-rising}

-- ---- the pages of a list

-- ids that are skipped begin no page
past_all : (ids : List ℤ) (skip : ℕ) → length ids ≤ skip → pages_past skip ids ≡ []
unfolding pages_past
past_all [] skip le = refl
past_all (id ∷ ids) zero le = absurd (omega arith)
past_all (id ∷ ids) (suc skip) le = past_all ids skip (omega arith)

-- the first page
first_page : (id : ℤ) (ids : List ℤ) → pages_of (id ∷ ids) ≡ record { first = id; others = take 127 ids } ∷ pages_past 127 ids
unfolding pages_past
first_page id ids = refl

-- if it is full
full_page : (id : ℤ) (ids rest : List ℤ) → 127 ≤ length ids → pages_of (id ∷ (ids ++ rest)) ≡ record { first = id; others = take 127 ids } ∷ pages_past 127 (ids ++ rest)
full_page id ids rest full = first_page id (ids ++ rest) ∙ ap (λ (front : List ℤ). record { first = id; others = front } ∷ pages_past 127 (ids ++ rest)) (take-append-le 127 ids rest full)

-- and if it is the last
last_page : (id : ℤ) (ids : List ℤ) → length ids ≤ 127 → pages_of (id ∷ ids) ≡ record { first = id; others = ids } ∷ []
last_page id ids few = grind (arith, first_page id ids, take_all 127 ids few, past_all ids 127 few)

-- joined, they are the list
ids-past : (skip : ℕ) (ids : List ℤ) → ids_of_pages (pages_past skip ids) ≡ drop skip ids
unfolding pages_past
ids-past skip [] = sym (drop-nil skip)
ids-past (suc skip) (id ∷ ids) = ids-past skip ids
ids-past zero (id ∷ ids) = ap (λ (rest : List ℤ). id ∷ (take 127 ids ++ rest)) (ids-past 127 ids) ∙ ap (λ (rest : List ℤ). id ∷ rest) (take-append-drop 127 ids)

pub ids-pages_of : (ids : List ℤ) → ids_of_pages (pages_of ids) ≡ ids
ids-pages_of ids = ids-past 0 ids

filled_past : (skip : ℕ) (ids : List ℤ) → HasFullPages (pages_past skip ids)
unfolding pages_past
filled_past skip [] = tt
filled_past (suc skip) (id ∷ ids) = filled_past skip ids
filled_past zero (id ∷ ids) = grind (arith, cases_lt 127 (length ids), length-take-le 127 ids, filled_past 127 ids, past_all ids 127, length-take 127 ids)

pub filled_pages_of : (ids : List ℤ) → HasFullPages (pages_of ids)
filled_pages_of ids = filled_past 0 ids

past_front : (ids rest : List ℤ) → pages_past (length ids) (ids ++ rest) ≡ pages_of rest
unfolding pages_past
past_front [] rest = refl
past_front (id ∷ ids) rest = past_front ids rest

-- filled pages are the pages of their ids
pub pages_of-ids : (pages : List Page) → HasFullPages pages → pages_of (ids_of_pages pages) ≡ pages
unfolding pages_past
pages_of-ids [] h = refl
pages_of-ids (page ∷ []) h = ap pages_of (append-nil (page_ids page)) ∙ last_page page.first page.others h
pages_of-ids (page ∷ next ∷ pages) h = grind (arith, take_all 127 page.others (omega (arith, h.0)), full_page page.first page.others (ids_of_pages (next ∷ pages)) (omega (arith, h.0)), past_front page.others (ids_of_pages (next ∷ pages)), pages_of-ids (next ∷ pages) h.1)

-- ---- by their places

-- a page by its number
past_at : (ids : List ℤ) (skip n k : ℕ) (d : Page) → n ≡ skip + 128 * k → n < length ids → get_or (pages_past skip ids) k d ≡ page_at ids n
unfolding pages_past
past_at [] skip n k d e lt = absurd (omega arith)
past_at (id ∷ ids) (suc skip) zero k d e lt = absurd (omega (arith, e))
past_at (id ∷ ids) (suc skip) (suc n) k d e lt = past_at ids skip n k d (omega (arith, e)) (omega arith)
past_at (id ∷ ids) zero zero zero d e lt = refl
past_at (id ∷ ids) zero (suc n) zero d e lt = absurd (omega (arith, e))
past_at (id ∷ ids) zero zero (suc k) d e lt = absurd (omega (arith, e))
past_at (id ∷ ids) zero (suc n) (suc k) d e lt = past_at ids 127 n k d (omega (arith, e)) (omega arith)

past_count : (skip : ℕ) (ids : List ℤ) → length (pages_past skip ids) ≡ div_ceil (length ids - skip) 128
unfolding pages_past
past_count skip [] = omega arith
past_count (suc skip) (id ∷ ids) = omega (arith, past_count skip ids)
past_count zero (id ∷ ids) = omega (arith, past_count 127 ids)

start_at : (at : ℕ) (pages : List Page) (k : ℕ) (d : PageStart) (e : Page) → k < length pages → get_or (starts_from at pages) k d ≡ record { first = (get_or pages k e).first; place = at + length (bytes_of_pages (take k pages)) }
start_at at [] k d e lt = absurd (omega arith)
start_at at (page ∷ pages) zero d e lt = ap (λ n. record { first = page.first; place = n }) (omega arith)
start_at at (page ∷ pages) (suc k) d e lt = grind (arith, start_at (at + length (page_bytes page)) pages k d e (omega arith), length-append (page_bytes page) (bytes_of_pages (take k pages)))

starts_count : (at : ℕ) (pages : List Page) → length (starts_from at pages) ≡ length pages
starts_count at [] = refl
starts_count at (page ∷ pages) = ap suc (starts_count (at + length (page_bytes page)) pages)

-- ---- reading

-- a page's ids rise, and its gaps are numbers of 64 bits
abbrev pub IsGood : Page → Type 0
IsGood page = Rises page.first page.others × AllByRecursion (λ n. n < 2 ^ 64) (gaps page.first page.others)

gaps_fit : (low : ℤ) (ids : List ℤ) → FitsSigned w64 low → AllFit ids → Rises low ids → AllByRecursion (λ n. n < 2 ^ 64) (gaps low ids)
gaps_fit low [] f fits rises = tt
gaps_fit low (id ∷ ids) f fits rises = (omega (arith, ints, f, fits.0, rises.0), gaps_fit id ids fits.0 fits.1 rises.1)

good_past : (skip : ℕ) (ids : List ℤ) → IsRising ids → AllFit ids → AllByRecursion IsGood (pages_past skip ids)
unfolding pages_past
good_past skip [] h fits = tt
good_past (suc skip) (id ∷ ids) h fits = good_past skip ids (rising_tail id ids h) fits.1
good_past zero (id ∷ ids) h fits = grind (arith, rises_take id 127 ids h, gaps_fit id (take 127 ids) fits.0 (all_take (FitsSigned w64) 127 ids fits.1) (rises_take id 127 ids h), all_take (FitsSigned w64) 127 ids fits.1, FitsSigned w64, good_past 127 ids (rising_tail id ids h) fits.1, rising_tail id ids h)

raised-gaps : (low : ℤ) (ids : List ℤ) → Rises low ids → raised low (gaps low ids) ≡ ids
raised-gaps low [] rises = refl
raised-gaps low (id ∷ ids) rises = grind (arith, raised-gaps id ids rises.1)

none_left : numbers_of [] ≡ []
none_left = ap read_entries (entries_none [] refl)

-- the gaps are read from their bytes, whatever follows
gaps_read : (ns more : List ℕ) → AllByRecursion (λ n. n < 2 ^ 64) ns → numbers_of (packed ns ++ more) ≡ ns ++ numbers_of more
gaps_read [] more h = refl
gaps_read (n ∷ ns) more h =
    let rest = packed ns ++ more in
    grind (arith, append_assoc (shortest n) (packed ns) more, entries_ok (shortest n ++ rest) n (length (shortest n)) (shortest_positive n), spelling_is_read (shortest n) rest n (shortest_spells n h.0), drop-append_seam (shortest n) rest, length-append (shortest n) rest, gaps_read ns more h.1)

page_ids_read : (page : Page) → IsGood page → raised page.first (numbers_of (page_bytes page)) ≡ page.others
page_ids_read page good = ap (raised page.first) (column_read (gaps page.first page.others) good.1) ∙ raised-gaps page.first page.others good.0

ids_in-starts : (at : ℕ) (pages : List Page) (bytes : List ℕ) → drop at bytes ≡ bytes_of_pages pages → AllByRecursion IsGood pages → ids_in (starts_from at pages) bytes ≡ ids_of_pages pages
ids_in-starts at [] bytes e good = refl
ids_in-starts at (page ∷ []) bytes e good = grind (arith, append-nil (page_bytes page), page_ids_read page good.0, append-nil page.others)
ids_in-starts at (page ∷ next ∷ pages) bytes e good =
    let rest = bytes_of_pages (next ∷ pages) in
    let size = length (page_bytes page) in
    let after : drop (at + size) bytes ≡ rest = sym (drop-drop size at bytes) ∙ ap (drop size) e ∙ drop-append_seam (page_bytes page) rest in
    let here : take ((at + size) - at) (drop at bytes) ≡ page_bytes page = ap (λ k. take k (drop at bytes)) (omega arith) ∙ ap (take size) e ∙ take-append_seam (page_bytes page) rest in
    grind (arith, here, page_ids_read page good.0, ids_in-starts (at + size) (next ∷ pages) bytes after good.1)

all_get : {X : Type 0} (P : X → Type 0) (xs : List X) (i : ℕ) (d : X) → AllByRecursion P xs → i < length xs → P (get_or xs i d)
all_get P [] i d h lt = absurd (omega arith)
all_get P (x ∷ xs) zero d h lt = h.0
all_get P (x ∷ xs) (suc i) d h lt = all_get P xs i d h.1 (omega arith)

-- each id takes a byte or begins a page
length-gaps : (low : ℤ) (ids : List ℤ) → length (gaps low ids) ≡ length ids
length-gaps low [] = refl
length-gaps low (id ∷ ids) = ap suc (length-gaps id ids)

sized_gaps : (ns : List ℕ) → length ns ≤ length (packed ns)
sized_gaps [] = omega arith
sized_gaps (n ∷ ns) = omega (arith, shortest_positive n, sized_gaps ns, length-append (shortest n) (packed ns))

sized : (pages : List Page) → length (ids_of_pages pages) ≤ length pages + length (bytes_of_pages pages)
sized [] = omega arith
sized (page ∷ pages) = grind (arith, sized_gaps (gaps page.first page.others), length-gaps page.first page.others, sized pages, length-append page.others (ids_of_pages pages), length-append (page_bytes page) (bytes_of_pages pages))

-- ---- one more id

-- it begins a page if all are full
abbrev lone : ℤ → List Page
lone id = record { first = id; others = [] } ∷ []

past_new : (ids : List ℤ) (skip : ℕ) (id : ℤ) → skip ≤ length ids → (length ids - skip) % 128 ≡ 0 → pages_past skip (ids ++ id ∷ []) ≡ pages_past skip ids ++ lone id
unfolding pages_past
past_new [] zero id le full = refl
past_new [] (suc skip) id le full = absurd (omega (arith, le))
past_new (x ∷ ids) (suc skip) id le full = past_new ids skip id (omega (arith, le)) (omega (arith, full))
past_new (x ∷ ids) zero id le full = grind (arith, full_page x ids (id ∷ []) (omega (arith, full)), past_new ids 127 id (omega (arith, full)) (omega (arith, full)))

starts-new : (at : ℕ) (pages : List Page) (id : ℤ) → starts_from at (pages ++ lone id) ≡ starts_from at pages ++ record { first = id; place = at + length (bytes_of_pages pages) } ∷ []
starts-new at [] id = ap (λ k. record { first = id; place = k } ∷ []) (omega arith)
starts-new at (page ∷ pages) id = grind (arith, length-append (page_bytes page) (bytes_of_pages pages), starts-new (at + length (page_bytes page)) pages id)

-- and otherwise the last page has one more
gaps-push : (low : ℤ) (ids : List ℤ) (id : ℤ) → gaps low (ids ++ id ∷ []) ≡ gaps low ids ++ gap (last_from low ids) id ∷ []
gaps-push low [] id = refl
gaps-push low (x ∷ ids) id = ap (λ (s : List ℕ). gap low x ∷ s) (gaps-push x ids id)

record IsLonger (pages more : List Page) (last id : ℤ) : Type 0 where
  starts : (at : ℕ) → starts_from at more ≡ starts_from at pages
  spelled : bytes_of_pages more ≡ bytes_of_pages pages ++ shortest (gap last id)

longer_last : (x : ℤ) (ids : List ℤ) (id : ℤ) → IsLonger (record { first = x; others = ids } ∷ []) (record { first = x; others = ids ++ id ∷ [] } ∷ []) (last_from x ids) id
longer_last x ids id = grind (arith, append-nil (packed (gaps x (ids ++ id ∷ []))), gaps-push x ids id, packed_push (gaps x ids) (gap (last_from x ids) id), append-nil (packed (gaps x ids)))

longer_cons : (page : Page) (pages more : List Page) (last id : ℤ) → IsLonger pages more last id → IsLonger (page ∷ pages) (page ∷ more) last id
longer_cons page pages more last id h = grind (arith, append_assoc (page_bytes page) (bytes_of_pages pages))

past_more : (ids : List ℤ) (skip : ℕ) (low id : ℤ) → 0 < (length ids - skip) % 128 → IsLonger (pages_past skip ids) (pages_past skip (ids ++ id ∷ [])) (last_from low ids) id
unfolding pages_past
past_more [] skip low id some = absurd (omega (arith, some))
past_more (x ∷ ids) (suc skip) low id some = past_more ids skip x id (omega (arith, some))
past_more (x ∷ ids) zero low id some =
    let page : Page = record { first = x; others = take 127 ids } in
    grind (arith, cases_lt (length ids) 127, last_page x ids, last_page x (ids ++ id ∷ []), length-append ids (id ∷ []), longer_last x ids id, full_page x ids (id ∷ []), longer_cons page (pages_past 127 ids) (pages_past 127 (ids ++ id ∷ [])) (last_from x ids) id, past_more ids 127 x id)

rises_push : (low : ℤ) (ids : List ℤ) (id : ℤ) → Rises low ids → last_from low ids <ℤ id → Rises low (ids ++ id ∷ [])
rises_push low [] id h up = (up, tt)
rises_push low (x ∷ ids) id h up = (h.0, rises_push x ids id h.1 up)

rising_push : (ids : List ℤ) (id : ℤ) → IsRising ids → IsAbove (ids_of ids) id → IsRising (ids ++ id ∷ [])
rising_push [] id h above = tt
rising_push (x ∷ ids) id h above = rises_push x ids id h (above (last_from x ids) (contains-ids_of (x ∷ ids) (last_from x ids) ∙ last_there (x ∷ ids) (omega arith)))

-- ---- an index and bytes

module _ (index : List PageStart) (bytes : List ℕ) (ids : List ℤ) (s : IsSealed index bytes ids) where
  abbrev pub pages : List Page
  pages = pages_of ids

  all_good : AllByRecursion IsGood pages
  all_good = good_past 0 ids s.rising s.fits

  -- what is sealed is read again
  pub sealed_ids : ids_in index bytes ≡ ids
  sealed_ids = ap (λ i. ids_in i bytes) s.starts ∙ ids_in-starts 0 pages bytes s.spelled all_good ∙ ids-pages_of ids

  sealed_rising : (all : Ids) → set_in index bytes ≡ all → rising all ≡ ids
  sealed_rising all e = rising_of_set (rising all) ids (rising_rises all) s.rising (ids_of-rising all ∙ sym e ∙ ap ids_of sealed_ids)

  pub sealed_now : (all : Ids) → set_in index bytes ≡ all → IsSealed index bytes (rising all)
  sealed_now all e = subst (IsSealed index bytes) (sym (sealed_rising all e)) s

  pub sealed_len : (all : Ids) → set_in index bytes ≡ all → length ids ≡ set.len all
  sealed_len all e = grind (arith, len-rising ids s.rising, sealed_ids, e)

  pub page_count : length index ≡ div_ceil (length ids) 128
  page_count = omega (arith, ap length s.starts, starts_count 0 pages, past_count 0 ids)

  pub few_ids : length ids ≤ length index + length bytes
  few_ids = omega (arith, sized pages, ap length (ids-pages_of ids), ap length s.starts, starts_count 0 pages, ap length s.spelled)

  -- an id above the last is above all
  pub above_last : (last id : ℤ) → (0 < length ids → last ≡ last_from (pos 0) ids) → (0 < length ids → last <ℤ id) → IsAbove (set_in index bytes) id
  above_last last id ends up x there = grind (arith, sealed_ids, contains-ids_of (ids_in index bytes) x, last_most ids x s.rising, some_of ids x)

  pub reached_last : (last id : ℤ) → (0 < length ids → last ≡ last_from (pos 0) ids) → 0 < length ids → id ≤ℤ last → IsReached (set_in index bytes) id
  reached_last last id ends some low = grind (arith, ids_of, sealed_ids, contains-ids_of, last_there)

  -- a page by its number
  module _ (n : ℕ) (lt : HasPage ids n) where
    pub begun : n < length index
    begun = omega (arith, page_count, lt)

    within : n < length pages
    within = omega (arith, past_count 0 ids, lt)

    page_is : get_or pages n (page_at ids 0) ≡ page_at ids (128 * n)
    page_is = past_at ids 0 (128 * n) n (page_at ids 0) (omega arith) lt

    -- its gaps are the last, or 127
    last_gaps : take 127 (gaps (first_of ids n) (page_at ids (128 * n)).others ++ numbers_of (bytes_of_pages (drop (n + 1) pages))) ≡ gaps (first_of ids n) (page_at ids (128 * n)).others
    last_gaps =
        let this = page_at ids (128 * n) in
        let own = gaps (first_of ids n) this.others in
        grind (arith, cases_lt (128 * (n + 1)) (length ids), length-gaps (first_of ids n) this.others, length-take 127 (drop (suc (128 * n)) ids), length-drop (suc (128 * n)) ids, take_at own (numbers_of (bytes_of_pages (drop (n + 1) pages))) 127, drop_all (n + 1) pages, past_count 0 ids, none_left, append-nil own, take_all 127 own)

    pub start_is : (d : PageStart) → get_or index n d ≡ record { first = first_of ids n; place = length (bytes_of_pages (take n pages)) }
    start_is d = grind (arith, s.starts, start_at 0 pages n d (page_at ids 0) within, page_is)

    cut : bytes ≡ bytes_of_pages (take n pages) ++ (page_bytes (page_at ids (128 * n)) ++ bytes_of_pages (drop (n + 1) pages))
    cut = grind (arith, take-append-drop n pages, drop_more pages n (page_at ids 0) within, page_is, flat_map-append page_bytes (take n pages) ((page_at ids (128 * n)) ∷ drop (n + 1) pages))

    pub place_within : (place : ℕ) → place ≡ length (bytes_of_pages (take n pages)) → place ≤ length bytes
    place_within place at = omega (arith, at, ap length cut, length-append (bytes_of_pages (take n pages)) (page_bytes (page_at ids (128 * n)) ++ bytes_of_pages (drop (n + 1) pages)))

    -- the bytes from its place on begin with its gaps
    pub page_read : (first : ℤ) (place : ℕ) (seen : List ℕ) (held : List ℤ) → first ≡ first_of ids n → place ≡ length (bytes_of_pages (take n pages)) → seen ≡ drop place bytes → (AllFit (raised first (take 127 (numbers_of seen))) → held ≡ first ∷ raised first (take 127 (numbers_of seen))) → held ≡ take 128 (drop (128 * n) ids)
    page_read first place seen held e at f is =
        let this = page_at ids (128 * n) in
        let others = this.others in
        let back = bytes_of_pages (drop (n + 1) pages) in
        let good = subst IsGood page_is (all_get IsGood pages n (page_at ids 0) all_good within) in
        let front = bytes_of_pages (take n pages) in
        let own = gaps this.first others in
        let read : raised first (take 127 (numbers_of seen)) ≡ others =
        grind (arith, e, at, f, cut, drop-append_seam front (page_bytes this ++ back), gaps_read own back good.1, last_gaps, raised-gaps this.first others good.0) in
        let fit : AllFit others = all_take (FitsSigned w64) 127 (drop (suc (128 * n)) ids) (all_drop (FitsSigned w64) (suc (128 * n)) ids s.fits) in
        let same : suc (128 * n) ≡ 128 * n + 1 = omega arith in
        let cut = drop_more ids (128 * n) (pos 0) lt in
        grind (arith, is (subst AllFit (sym read) fit), read, e, same, cut)

  -- the first ids of pages rise, so a search by halves finds where they pass an id
  first_is : (i : ℕ) (d : PageStart) → i < length index → (get_or index i d).first ≡ first_of ids i
  first_is i d lt = ap (λ (a : PageStart). a.first) (start_is i (omega (arith, page_count, lt)) d)

  pub parted_index : (id : ℤ) → IsPartitionedBy (λ (a : PageStart). int_le a.first id) index
  parted_index id i j d le lt there = grind (arith, ints, at_most ids (128 * i) (128 * j) (pos 0) s.rising (omega (arith, le)) (omega (arith, page_count, lt)), first_is i d (omega (arith, le, lt)), first_is j d lt, there)

  pub passed_at : (id : ℤ) (n : ℕ) → n ≤ length index → IsPartitionPoint (λ (a : PageStart). int_le a.first id ≡ true) (λ (a : PageStart). int_le a.first id ≡ false) index n → ArePagesUpTo ids id n
  passed_at id n le point = grind (arith, page_count, first_is (n - 1) (record { first = pos 0; place = 0 }), first_is n (record { first = pos 0; place = 0 }), begun n)

  -- one more id, above all others
  module _ (id : ℤ) (up : IsAbove (set_in index bytes) id) (f : FitsSigned w64 id) where
    grown : (index' : List PageStart) (bytes' : List ℕ) → index' ≡ starts_from 0 (pages_of (ids ++ id ∷ [])) → bytes' ≡ bytes_of_pages (pages_of (ids ++ id ∷ [])) → IsSealed index' bytes' (ids ++ id ∷ [])
    grown index' bytes' starts spelled = grind (arith, rising_push ids id s.rising (subst (λ (l : List ℤ). IsAbove (ids_of l) id) sealed_ids up), all_push (FitsSigned w64) ids id s.fits f, FitsSigned w64)

    pub new_page : length ids % 128 ≡ 0 → IsSealed (index ++ record { first = id; place = length bytes } ∷ []) bytes (ids ++ id ∷ [])
    new_page full = grind (arith, past_new ids 0 id (omega arith) (omega (arith, full)), grown, starts-new 0 pages id, flat_map-append page_bytes pages (lone id), append-nil (bytes_of_pages pages))

    pub longer_page : (last : ℤ) → (0 < length ids → last ≡ last_from (pos 0) ids) → 0 < length ids % 128 → IsSealed index (bytes ++ shortest (gap last id)) (ids ++ id ∷ [])
    longer_page last ends part = grind (arith, past_more ids 0 (pos 0) id (omega (arith, part)), grown, ends (omega (arith, part)))

    pub inserted : (index' : List PageStart) (bytes' : List ℕ) → ids_in index' bytes' ≡ ids ++ id ∷ [] → set_in index' bytes' ≡ set.insert (set_in index bytes) id
    inserted index' bytes' e = grind (arith, set.from_list_push int_cmp_total set.int_cmp-IsAntisymmetric ids id, sealed_ids)
