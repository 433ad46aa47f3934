-- The box of a polygon has each place amid its edges.
use Rattle.std.proofs.Common.{◌≡◌, ◌∙◌, ℤ, ◌≤ℤ◌, ◌<ℤ◌, Bool, true, false, true≢false, List, [], ◌∷◌, ◌++◌, ⊎_elim, ap₂, sym, refl, arith}
use Rattle.std.specs.Prelude.{◌&&◌, int_le}
use Rattle.std.specs.List.{list_any, fold}
use Rattle.std.specs.Int.{int_min, int_max}
use Rattle.std.proofs.lemmas.Int.{ints}
use Rattle.osm_box.specs.declared.bounding_box.BoundingBox.{BoundingBox}
use Rattle.osm_box.specs.BoundingBox.{is_inside}
use Rattle.osm_polygon.specs.Earth.{is_on_earth}
use Rattle.osm_polygon.specs.Polygon.{Point, Side, is_amid, is_on, crosses, is_amid_edges, is_in_polygon}
use Rattle.osm_polygon.specs.Rings.{sides_back, ring_sides, rings_sides, grown, box_round, polygon_of}
use Rattle.osm_polygon.specs.Bands.{differ, is_odd_of, AreClosed}
use Rattle.osm_polygon.proofs.Counting.{odd_cons}
use Rattle.osm_polygon.proofs.EdgeLemmas.{either, le_is, is_le, not_le, on_amid, on_amid_lon, crossed_amid, crossed_east, crossed_west}
use Rattle.osm_polygon.proofs.BandLemmas.{amid_parts, closed_rings}

-- the box has the place
pub record Has (b : BoundingBox) (p : Point) : Type 0 where
  pub west : b.left ≤ℤ p.lon
  pub south : b.bottom ≤ℤ p.lat
  pub east : p.lon ≤ℤ b.right
  pub north : p.lat ≤ℤ b.top

-- ---- the box has both ends of each edge

min_first : (a b n : ℤ) → a ≤ℤ n → int_min a b ≤ℤ n
min_first a b n e = grind (arith, ints)

min_second : (a b : ℤ) → int_min a b ≤ℤ b
min_second a b = grind (arith, ints)

max_first : (a b n : ℤ) → n ≤ℤ a → n ≤ℤ int_max a b
max_first a b n e = grind (arith, ints)

max_second : (a b : ℤ) → b ≤ℤ int_max a b
max_second a b = grind (arith, ints)

grown_has : (b : BoundingBox) (p : Point) → Has (grown b p) p
grown_has b p = record {
  west = min_second b.left p.lon;
  south = min_second b.bottom p.lat;
  east = max_second b.right p.lon;
  north = max_second b.top p.lat;
}

grown_keeps : (b : BoundingBox) (q p : Point) → Has b p → Has (grown b q) p
grown_keeps b q p has = record {
  west = min_first b.left q.lon p.lon has.west;
  south = min_first b.bottom q.lat p.lat has.south;
  east = max_first b.right q.lon p.lon has.east;
  north = max_first b.top q.lat p.lat has.north;
}

box_keeps : (b : BoundingBox) (sides : List Side) (p : Point) → Has b p → Has (fold (λ area s. grown area s.to) b sides) p
box_keeps b [] p has = has
box_keeps b (s ∷ sides) p has = box_keeps (grown b s.to) sides p (grown_keeps b s.to p has)

abbrev AllTo : BoundingBox → List Side → Type 0
AllTo b [] = Unit {0}
AllTo b (s ∷ sides) = Has b s.to × AllTo b sides

abbrev pub AllIn : BoundingBox → List Side → Type 0
AllIn b [] = Unit {0}
AllIn b (s ∷ sides) = (Has b s.from × Has b s.to) × AllIn b sides

all_to : (b : BoundingBox) (sides : List Side) → AllTo (fold (λ area s. grown area s.to) b sides) sides
all_to b [] = tt
all_to b (s ∷ sides) = (box_keeps (grown b s.to) sides s.to (grown_has b s.to), all_to (grown b s.to) sides)

module _ (b : BoundingBox) where
  to_parts : (xs ys : List Side) → AllTo b (xs ++ ys) → AllTo b xs × AllTo b ys
  to_parts [] ys all = (tt, all)
  to_parts (x ∷ xs) ys all = let more = to_parts xs ys all.1 in ((all.0, more.0), more.1)

  in_joined : (xs ys : List Side) → AllIn b xs → AllIn b ys → AllIn b (xs ++ ys)
  in_joined [] ys one two = two
  in_joined (x ∷ xs) ys one two = (one.0, in_joined xs ys one.1 two)

  -- the last edge of a ring ends at its first place
  end_in : (first from : Point) (more : List Point) → AllTo b (sides_back first from more) → Has b first
  end_in first from [] all = all.0
  end_in first from (to ∷ more) all = end_in first to more all.1

  back_in : (first from : Point) (more : List Point) → AllTo b (sides_back first from more) → Has b from → AllIn b (sides_back first from more)
  back_in first from [] all has = ((has, all.0), tt)
  back_in first from (to ∷ more) all has = ((has, all.0), back_in first to more all.1 all.0)

  ring_in : (ring : List Point) → AllTo b (ring_sides ring) → AllIn b (ring_sides ring)
  ring_in [] all = tt
  ring_in (first ∷ more) all = back_in first first more all (end_in first first more all)

  rings_in : (rings : List (List Point)) → AllTo b (rings_sides rings) → AllIn b (rings_sides rings)
  rings_in [] all = tt
  rings_in (ring ∷ rings) all =
      let parts = to_parts (ring_sides ring) (rings_sides rings) all in
      in_joined (ring_sides ring) (rings_sides rings) (ring_in ring parts.0) (rings_in rings parts.1)

-- ---- places on edges, and places whose rays cross an odd number

module _ (b : BoundingBox) (p : Point) where
  amid_between : (low high a c n : ℤ) → low ≤ℤ a → low ≤ℤ c → a ≤ℤ high → c ≤ℤ high → is_amid a c n ≡ true → (low ≤ℤ n) × (n ≤ℤ high)
  amid_between low high a c n one two three four is =
      ⊎_elim (λ up. (omega (arith, ints, one, up.0), omega (arith, ints, four, up.1)))
      (λ down. (omega (arith, ints, two, down.0), omega (arith, ints, three, down.1))) (amid_parts a c n is)

  on_has : (s : Side) → Has b s.from → Has b s.to → is_on p s ≡ true → Has b p
  on_has s from to is =
      let lat = amid_between b.bottom b.top s.from.lat s.to.lat p.lat from.south to.south from.north to.north (on_amid p s is) in
      let lon = amid_between b.left b.right s.from.lon s.to.lon p.lon from.west to.west from.east to.east (on_amid_lon p s is) in
      record { west = lon.0; south = lat.0; east = lon.1; north = lat.1 }

  any_has : (sides : List Side) → AllIn b sides → list_any (is_on p) sides ≡ true → Has b p
  any_has [] all is = absurd (true≢false (sym is))
  any_has (s ∷ sides) all is = ⊎_elim (on_has s all.0.0 all.0.1) (any_has sides all.1) (either (is_on p s) (list_any (is_on p) sides) is)

  odd_within : (test other : Side → Bool) (sides : List Side) → AllIn b sides → ((s : Side) → Has b s.from → Has b s.to → test s ≡ other s)
      → is_odd_of test sides ≡ is_odd_of other sides
  odd_within test other [] all same = refl
  odd_within test other (s ∷ sides) all same =
      odd_cons test s sides ∙ ap₂ differ (same s all.0.0 all.0.1) (odd_within test other sides all.1 same) ∙ sym (odd_cons other s sides)

  none_odd : (sides : List Side) → is_odd_of (λ (s : Side). false) sides ≡ false
  none_odd [] = refl
  none_odd (s ∷ sides) = none_odd sides

  false_by : (t : Bool) → (t ≡ true → ⊥) → t ≡ false
  false_by true h = absurd (h refl)
  false_by false h = refl

  -- south, north, east and west of the box
  module _ (sides : List Side) (all : AllIn b sides) where
    uncrossed : ((s : Side) → Has b s.from → Has b s.to → crosses p s ≡ true → ⊥) → is_odd_of (crosses p) sides ≡ false
    uncrossed never = odd_within (crosses p) (λ s. false) sides all (λ s from to. false_by (crosses p s) (never s from to)) ∙ none_odd sides

    between : (s : Side) → Has b s.from → Has b s.to → crosses p s ≡ true → (b.bottom ≤ℤ p.lat) × (p.lat ≤ℤ b.top)
    between s from to is = amid_between b.bottom b.top s.from.lat s.to.lat p.lat from.south to.south from.north to.north (crossed_amid p s is)

    beyond_south : p.lat <ℤ b.bottom → is_odd_of (crosses p) sides ≡ false
    beyond_south off = uncrossed (λ s from to is. let h = (between s from to is).0 in omega (arith, ints, h, off))

    beyond_north : b.top <ℤ p.lat → is_odd_of (crosses p) sides ≡ false
    beyond_north off = uncrossed (λ s from to is. let h = (between s from to is).1 in omega (arith, ints, h, off))

    beyond_east : b.right <ℤ p.lon → is_odd_of (crosses p) sides ≡ false
    beyond_east off =
        odd_within (crosses p) (λ s. false) sides all
        (λ s from to. let one = from.east in let two = to.east in crossed_west p s (omega (arith, ints, one, off)) (omega (arith, ints, two, off)))
        ∙ none_odd sides

    beyond_west : AreClosed sides → p.lon <ℤ b.left → is_odd_of (crosses p) sides ≡ false
    beyond_west closed off =
        odd_within (crosses p) (λ s. differ (int_le s.from.lat p.lat) (int_le s.to.lat p.lat)) sides all
        (λ s from to. let one = from.west in let two = to.west in crossed_east p s (omega (arith, ints, one, off)) (omega (arith, ints, two, off)))
        ∙ closed (λ q. int_le q.lat p.lat)

    -- so a bound that the place is beyond would make the number even
    bound : (low high : ℤ) → is_odd_of (crosses p) sides ≡ true → (high <ℤ low → is_odd_of (crosses p) sides ≡ false) → low ≤ℤ high
    bound low high odd off = by (int_le low high) refl where
      by : (t : Bool) → int_le low high ≡ t → low ≤ℤ high
      by true is = le_is low high is
      by false is = absurd (true≢false (sym odd ∙ off (not_le low high is)))

    odd_has : AreClosed sides → is_odd_of (crosses p) sides ≡ true → Has b p
    odd_has closed odd = record {
      west = bound b.left p.lon odd (beyond_west closed);
      south = bound b.bottom p.lat odd beyond_south;
      east = bound p.lon b.right odd beyond_east;
      north = bound p.lat b.top odd beyond_north;
    }

    pub amid_has : AreClosed sides → is_amid_edges sides p ≡ true → Has b p
    amid_has closed is = ⊎_elim (any_has sides all) (odd_has closed) (either (list_any (is_on p) sides) (is_odd_of (crosses p) sides) is)

pub has_inside : (b : BoundingBox) (p : Point) → Has b p → is_inside b p.lat p.lon ≡ true
has_inside b p has =
    rw (is_le b.bottom p.lat has.south, is_le p.lat b.top has.north, is_le b.left p.lon has.west, is_le p.lon b.right has.east) refl

without_box : (box earth amid : Bool) → (amid ≡ true → box ≡ true) → ((box && earth) && amid) ≡ (earth && amid)
without_box true earth amid h = refl
without_box false earth true h = absurd (true≢false (sym (h refl)))
without_box false true false h = refl
without_box false false false h = refl

pub box_takes_none : (rings : List (List Point)) (lat lon : ℤ)
    → is_in_polygon (polygon_of rings) lat lon ≡ (is_on_earth lat lon && is_amid_edges (rings_sides rings) (record { lat = lat; lon = lon }))
box_takes_none rings lat lon =
    let sides = rings_sides rings in
    let p : Point = record { lat = lat; lon = lon } in
    let all = rings_in (box_round sides) rings (all_to _ sides) in
    without_box (is_inside (box_round sides) lat lon) (is_on_earth lat lon) (is_amid_edges sides p)
    (λ is. has_inside (box_round sides) p (amid_has (box_round sides) p sides all (closed_rings rings) is))
