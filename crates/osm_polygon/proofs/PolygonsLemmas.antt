-- Polygons that are one area.
use Rattle.std.proofs.Common.{◌≡◌, ◌∙◌, ℕ, ℤ, Bool, true, false, List, [], ◌∷◌, ◌++◌, take, drop, ap, sym, refl, rules, arith, take-append-drop, true≢false}
use Rattle.std.specs.Prelude.{◌&&◌, ◌||◌}
use Rattle.std.specs.Prelude.{int_le}
use Rattle.std.specs.List.{list_any, fold}
use Rattle.std.specs.Int.{int_min, int_max}
use Rattle.std.proofs.lemmas.Bool.{and_parts}
use Rattle.std.proofs.lemmas.List.Folds.{list_any-append}
use Rattle.std.proofs.lemmas.Int.{ints}
use Rattle.osm_area.specs.Area.{AreaSpec}
use Rattle.osm_box.specs.declared.bounding_box.BoundingBox.{BoundingBox}
use Rattle.osm_box.specs.BoundingBox.{is_inside}
use Rattle.osm_polygon.specs.Earth.{is_on_earth}
use Rattle.osm_polygon.specs.Polygon.{PolygonSpec, is_in_polygon}
use Rattle.osm_polygon.specs.declared.groups.Cluster.{Cluster}
use Rattle.osm_polygon.specs.Polygons.{box_of, is_in_any, box_of_both}
use Rattle.osm_polygon.specs.Groups.{is_in_clusters, clusters_area}

-- ---- boxes

min_first : (a b n : ℤ) → int_le a n ≡ true → int_le (int_min a b) n ≡ true
min_first a b n e = grind (arith, ints)

min_second : (a b n : ℤ) → int_le b n ≡ true → int_le (int_min a b) n ≡ true
min_second a b n e = grind (arith, ints)

max_first : (a b n : ℤ) → int_le n a ≡ true → int_le n (int_max a b) ≡ true
max_first a b n e = grind (arith, ints)

max_second : (a b n : ℤ) → int_le n b ≡ true → int_le n (int_max a b) ≡ true
max_second a b n e = grind (arith, ints)

both : {a b : Bool} → a ≡ true → b ≡ true → (a && b) ≡ true
both e f = rw (e, f) refl

module _ (lat lon : ℤ) where
  joined_first : (a b : BoundingBox) → is_inside a lat lon ≡ true → is_inside (box_of_both a b) lat lon ≡ true
  joined_first a b e =
      let parts = and_parts _ _ e in
      let lats = and_parts _ _ parts.0 in
      let lons = and_parts _ _ parts.1 in
      both (both (min_first a.bottom b.bottom lat lats.0) (max_first a.top b.top lat lats.1))
      (both (min_first a.left b.left lon lons.0) (max_first a.right b.right lon lons.1))

  joined_second : (a b : BoundingBox) → is_inside b lat lon ≡ true → is_inside (box_of_both a b) lat lon ≡ true
  joined_second a b e =
      let parts = and_parts _ _ e in
      let lats = and_parts _ _ parts.0 in
      let lons = and_parts _ _ parts.1 in
      both (both (min_second a.bottom b.bottom lat lats.0) (max_second a.top b.top lat lats.1))
      (both (min_second a.left b.left lon lons.0) (max_second a.right b.right lon lons.1))

  still : (area : BoundingBox) (polygons : List PolygonSpec) → is_inside area lat lon ≡ true
      → is_inside (fold (λ area polygon. box_of_both area polygon.bounds) area polygons) lat lon ≡ true
  still area [] e = e
  still area (p ∷ polygons) e = still (box_of_both area p.bounds) polygons (joined_first area p.bounds e)

  in_bounds : (p : PolygonSpec) → is_in_polygon p lat lon ≡ true → is_inside p.bounds lat lon ≡ true
  in_bounds p e = search rules

  bounded : (area : BoundingBox) (polygons : List PolygonSpec) → is_in_any polygons lat lon ≡ true
      → is_inside (fold (λ area polygon. box_of_both area polygon.bounds) area polygons) lat lon ≡ true
  bounded area [] e = absurd (true≢false (sym e))
  bounded area (p ∷ polygons) e = by (is_in_polygon p lat lon) refl (bounded (box_of_both area p.bounds) polygons) where
    by : (b : Bool) → is_in_polygon p lat lon ≡ b
        → (is_in_any polygons lat lon ≡ true → is_inside (fold (λ area polygon. box_of_both area polygon.bounds) (box_of_both area p.bounds) polygons) lat lon ≡ true)
        → is_inside (fold (λ area polygon. box_of_both area polygon.bounds) (box_of_both area p.bounds) polygons) lat lon ≡ true
    by true is rest = still (box_of_both area p.bounds) polygons (joined_second area p.bounds (in_bounds p is))
    by false is rest = rest (search (rules, is, e))

  of_earth : (p : PolygonSpec) → is_in_polygon p lat lon ≡ true → is_on_earth lat lon ≡ true
  of_earth p e = search rules

  on_earth : (polygons : List PolygonSpec) → is_in_any polygons lat lon ≡ true → is_on_earth lat lon ≡ true
  on_earth [] e = absurd (true≢false (sym e))
  on_earth (p ∷ polygons) e = by (is_in_polygon p lat lon) refl (on_earth polygons) where
    by : (b : Bool) → is_in_polygon p lat lon ≡ b → (is_in_any polygons lat lon ≡ true → is_on_earth lat lon ≡ true) → is_on_earth lat lon ≡ true
    by true is rest = of_earth p is
    by false is rest = rest (search (rules, is, e))

implied : (box any : Bool) → (any ≡ true → box ≡ true) → (box && any) ≡ any
implied true any h = refl
implied false true h = h refl
implied false false h = refl

-- the box of polygons takes none of their places away
pub in_box : (polygons : List PolygonSpec) (lat lon : ℤ) → (is_inside (box_of polygons) lat lon && is_in_any polygons lat lon) ≡ is_in_any polygons lat lon
in_box polygons lat lon = implied _ _ (bounded lat lon _ polygons)

-- ---- parts

module _ {X Y : Type 0} (p : X → Bool) (q : Y → Bool) where
  one_more : (xs : List X) (x : X) → list_any p (xs ++ x ∷ []) ≡ (list_any p xs || p x)
  one_more xs x = list_any-append p xs (x ∷ []) ∙ ap (λ b. list_any p xs || b) (or_false (p x)) where
    or_false : (b : Bool) → (b || false) ≡ b
    or_false true = refl
    or_false false = refl

  -- the last part
  pub part_last : (xs : List X) (x : X) (ys : List Y) → p x ≡ list_any q ys → list_any p (xs ++ x ∷ []) ≡ (list_any p xs || list_any q ys)
  part_last xs x ys e = one_more xs x ∙ ap (λ b. list_any p xs || b) e

  swapped : (a b c : Bool) → ((a || b) || c) ≡ (a || (c || b))
  swapped true b c = refl
  swapped false true true = refl
  swapped false true false = refl
  swapped false false true = refl
  swapped false false false = refl

  -- a part from the end
  pub part_moved : (xs : List X) (x : X) (ys : List Y) (at : ℕ) → p x ≡ list_any q (drop at ys)
      → (list_any p (xs ++ x ∷ []) || list_any q (take at ys)) ≡ (list_any p xs || list_any q ys)
  part_moved xs x ys at e =
      ap (λ b. b || list_any q (take at ys)) (part_last xs x (drop at ys) e)
      ∙ swapped (list_any p xs) (list_any q (drop at ys)) (list_any q (take at ys))
      ∙ ap (λ b. list_any p xs || b) (sym (list_any-append q (take at ys) (drop at ys)) ∙ ap (list_any q) (take-append-drop at ys))

-- ---- the area

module _ (polygons : List PolygonSpec) (bounds : BoundingBox) (clusters : List Cluster) (e : bounds ≡ box_of polygons)
    (has : (lat lon : ℤ) → is_in_clusters clusters lat lon ≡ is_in_any polygons lat lon) where
  -- the box of all polygons, and the earth, take nothing away
  whole : (lat lon : ℤ) → (clusters_area (record { bounds = bounds; clusters = clusters })).has lat lon ≡ is_in_any polygons lat lon
  whole lat lon =
      ap (λ b. (is_inside bounds lat lon && is_on_earth lat lon) && b) (has lat lon)
      ∙ ap (λ b. (is_inside b lat lon && is_on_earth lat lon) && is_in_any polygons lat lon) e
      ∙ implied _ _ (λ any. both (bounded lat lon _ polygons any) (on_earth lat lon polygons any))

  pub same_area : ◌≡◌ {A = AreaSpec} (clusters_area (record { bounds = bounds; clusters = clusters })) (record { bounds = box_of polygons; has = is_in_any polygons })
  same_area = λ i. record { bounds = e i; has = λ lat lon. whole lat lon i }
