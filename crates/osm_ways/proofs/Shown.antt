-- What the phases' fields show: of the nodes that are kept, those of the box and the other refs apart.
use Rattle.std.proofs.Common.{arith, ◌≡◌, ℕ, zero, suc, ℤ, Bool, true, false, ◌||◌, List, [], ◌∷◌, map, drop, take, refl, ap}
use Rattle.std.specs.List.{list_any}
use Rattle.std.specs.FinSet as set
use Rattle.std.proofs.lemmas.Bool.Decides.{Decides-int_eq}
use Rattle.pbf_wire.specs.declared.span.Span.{Span}
use Rattle.pbf_wire.specs.Spans.{AreAlike}
use Rattle.osm_ids.specs.Windows.{Lacks}
use Rattle.osm_ids.proofs.OrderLemmas.{same_ids}
use Rattle.osm_ways.specs.Phases.{Ids, sets_of, start_ways}

union-empty : (s : Ids) → set.union s set.empty ≡ s
union-empty s = same_ids _ _ (λ id. grind (arith, set.members))

-- to add to a part is to add to the union
pub union-insert : (s t : Ids) (new : ℤ) → set.union s (set.insert t new) ≡ set.insert (set.union s t) new
union-insert s t new = same_ids _ _ (λ id. grind (arith, set.members))

-- what the one part has is there
pub insert_known : (s t : Ids) (id : ℤ) → set.contains s id ≡ true → set.insert (set.union s t) id ≡ set.union s t
insert_known s t id h = same_ids _ _ (λ x. grind (arith, set.members, h, Decides-int_eq x id))

-- what the one part has, the union has
pub in_union : (s t : Ids) (id : ℤ) → set.contains s id ≡ true → set.contains (set.union s t) id ≡ true
in_union s t id there = grind (arith, set.members)

-- what the one part lacks, the union has if the other does
pub in_other : (s t : Ids) (id : ℤ) → set.contains s id ≡ false → set.contains (set.union s t) id ≡ set.contains t id
in_other s t id lacks = grind (arith, set.members)

-- ---- the phase of ways

pub shown_start : (in_box sealed refs ways : Ids) → sealed ≡ in_box → refs ≡ set.empty → ways ≡ set.empty → sets_of sealed refs ways ≡ start_ways in_box
shown_start in_box sealed refs ways e f g = grind (arith, union-empty in_box)

-- ---- members

pub list_any-map : {X Y : Type 0} (test : Y → Bool) (view : X → Y) (xs : List X) → list_any (λ x. test (view x)) xs ≡ list_any test (map view xs)
list_any-map test view [] = refl
list_any-map test view (x ∷ xs) = ap (λ b. test (view x) || b) (list_any-map test view xs)

-- ---- refs that are skipped

-- it doesn't depend on refs that the set lacks
pub passed_absent : (refs : List ℤ) (ids : Ids) (span : Span) (n : ℕ) → Lacks ids span → AreAlike span true (take n refs) → list_any (set.contains ids) (drop n refs) ≡ list_any (set.contains ids) refs
passed_absent [] ids span zero lacks there = refl
passed_absent [] ids span (suc n) lacks there = refl
passed_absent (ref ∷ refs) ids span zero lacks there = refl
passed_absent (ref ∷ refs) ids span (suc n) lacks there = grind (arith, passed_absent refs ids span n lacks there.1, lacks ref there.0)
