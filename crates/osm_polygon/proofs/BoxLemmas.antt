-- The ring round a box has the places of the box.
use Rattle.std.proofs.Common.{◌≡◌, ◌∙◌, ℤ, pos, ◌≤ℤ◌, ◌<ℤ◌, ◌-ℤ◌, Bool, true, false, not, cond, List, [], ◌∷◌, ap, ap₂, sym, refl, rules, arith}
use Rattle.std.specs.Prelude.{◌*ℤ◌, ◌&&◌, ◌||◌, int_le, int_lt}
use Rattle.std.specs.List.{list_any}
use Rattle.std.proofs.lemmas.Int.{ints}
use Rattle.std.proofs.Math.IntN.{zero-*ℤ, *ℤ-zero}
use Rattle.osm_box.specs.declared.bounding_box.BoundingBox.{BoundingBox}
use Rattle.osm_box.specs.BoundingBox.{is_inside}
use Rattle.osm_polygon.specs.Polygon.{Point, Side, is_amid, turn, is_on, crosses, is_amid_edges}
use Rattle.osm_polygon.specs.Rings.{ring_sides, corners}
use Rattle.osm_polygon.specs.Bands.{differ, is_odd_of}
use Rattle.osm_polygon.proofs.Counting.{odd_cons}
use Rattle.osm_polygon.proofs.EdgeLemmas.{both, or_true, le_is, is_le, not_le, not_le_lt, upward, downward, crossed_east, crossed_west}
use Rattle.osm_polygon.proofs.BandLemmas.{closed_rings}
use Rattle.osm_polygon.proofs.BoundsLemmas.{Has, AllIn, amid_has, has_inside}

zero_times : (a b : ℤ) → a ≡ pos 0 → (a *ℤ b) ≡ pos 0
zero_times a b is = ap (λ (n : ℤ). n *ℤ b) is ∙ zero-*ℤ b

times_zero : (a b : ℤ) → b ≡ pos 0 → (a *ℤ b) ≡ pos 0
times_zero a b is = ap (λ (n : ℤ). a *ℤ n) is ∙ *ℤ-zero a

le_self : (a : ℤ) → a ≤ℤ a
le_self a = omega (arith, ints)

on_by : (p : Point) (s : Side) → turn s p ≡ pos 0 → is_amid s.from.lat s.to.lat p.lat ≡ true → is_amid s.from.lon s.to.lon p.lon ≡ true → is_on p s ≡ true
on_by p s one two three = rw (one, two, three) refl

-- an edge along a parallel is crossed nowhere
level_by : (le lt up down : Bool) → lt ≡ not le → cond le (lt && up) (le && down) ≡ false
level_by true lt up down is = rw is refl
level_by false lt up down is = refl

module _ (area : BoundingBox) (p : Point) where
  abbrev south : Side
  south = record { from = record { lat = area.bottom; lon = area.left }; to = record { lat = area.bottom; lon = area.right } }

  abbrev east : Side
  east = record { from = record { lat = area.bottom; lon = area.right }; to = record { lat = area.top; lon = area.right } }

  abbrev north : Side
  north = record { from = record { lat = area.top; lon = area.right }; to = record { lat = area.top; lon = area.left } }

  abbrev west : Side
  west = record { from = record { lat = area.top; lon = area.left }; to = record { lat = area.bottom; lon = area.left } }

  abbrev sides : List Side
  sides = south ∷ east ∷ north ∷ west ∷ []

  -- places of the box on these edges
  on_east : Has area p → area.right ≤ℤ p.lon → is_on p east ≡ true
  on_east has far =
      let nothing : (p.lon -ℤ area.right) ≡ pos 0 = let h = has.east in omega (arith, ints, h, far) in
      let one : ((area.right -ℤ area.right) *ℤ (p.lat -ℤ area.bottom)) ≡ pos 0 = zero_times (area.right -ℤ area.right) (p.lat -ℤ area.bottom) (omega (arith, ints)) in
      let two : ((area.top -ℤ area.bottom) *ℤ (p.lon -ℤ area.right)) ≡ pos 0 = times_zero (area.top -ℤ area.bottom) (p.lon -ℤ area.right) nothing in
      on_by p east (omega (arith, ints, one, two)) (upward area.bottom area.top p.lat has.south has.north) (upward area.right area.right p.lon far has.east)

  on_north : Has area p → area.top ≤ℤ p.lat → is_on p north ≡ true
  on_north has far =
      let nothing : (p.lat -ℤ area.top) ≡ pos 0 = let h = has.north in omega (arith, ints, h, far) in
      let one : ((area.left -ℤ area.right) *ℤ (p.lat -ℤ area.top)) ≡ pos 0 = times_zero (area.left -ℤ area.right) (p.lat -ℤ area.top) nothing in
      let two : ((area.top -ℤ area.top) *ℤ (p.lon -ℤ area.right)) ≡ pos 0 = zero_times (area.top -ℤ area.top) (p.lon -ℤ area.right) (omega (arith, ints)) in
      on_by p north (omega (arith, ints, one, two)) (upward area.top area.top p.lat far has.north) (downward area.right area.left p.lon has.west has.east)

  on_west : Has area p → p.lon ≤ℤ area.left → is_on p west ≡ true
  on_west has far =
      let nothing : (p.lon -ℤ area.left) ≡ pos 0 = let h = has.west in omega (arith, ints, h, far) in
      let one : ((area.left -ℤ area.left) *ℤ (p.lat -ℤ area.top)) ≡ pos 0 = zero_times (area.left -ℤ area.left) (p.lat -ℤ area.top) (omega (arith, ints)) in
      let two : ((area.bottom -ℤ area.top) *ℤ (p.lon -ℤ area.left)) ≡ pos 0 = times_zero (area.bottom -ℤ area.top) (p.lon -ℤ area.left) nothing in
      on_by p west (omega (arith, ints, one, two)) (downward area.top area.bottom p.lat has.south has.north) (upward area.left area.left p.lon has.west far)

  -- from the others the ray crosses only the eastern edge
  one_crossed : Has area p → p.lon <ℤ area.right → p.lat <ℤ area.top → area.left <ℤ p.lon → is_odd_of (crosses p) sides ≡ true
  one_crossed has right top left =
      odd_cons (crosses p) south (east ∷ north ∷ west ∷ []) ∙ ap (differ (crosses p south)) (odd_cons (crosses p) east (north ∷ west ∷ []))
      ∙ ap (λ b. differ (crosses p south) (differ (crosses p east) b)) (odd_cons (crosses p) north (west ∷ []) ∙ ap (differ (crosses p north)) (odd_cons (crosses p) west []))
      ∙ by (crosses p south) (crosses p east) (crosses p north) (crosses p west)
      (level_by (int_le area.bottom p.lat) (int_lt p.lat area.bottom) (int_lt (pos 0) (turn south p)) (int_lt (turn south p) (pos 0)) (not_le_lt p.lat area.bottom))
      (crossed_east p east right right ∙ ap₂ differ (is_le area.bottom p.lat has.south) (above area.top p.lat top))
      (level_by (int_le area.top p.lat) (int_lt p.lat area.top) (int_lt (pos 0) (turn north p)) (int_lt (turn north p) (pos 0)) (not_le_lt p.lat area.top))
      (crossed_west p west left left)
    where
      above : (a b : ℤ) → b <ℤ a → int_le a b ≡ false
      above a b h = search rules

      by : (a b c d : Bool) → a ≡ false → b ≡ true → c ≡ false → d ≡ false → differ a (differ b (differ c (differ d false))) ≡ true
      by a b c d one two three four = rw (one, two, three, four) refl

  amid_all : Has area p → is_amid_edges sides p ≡ true
  amid_all has = by (int_le area.right p.lon) (int_le area.top p.lat) (int_le p.lon area.left) refl refl refl where
    second : (a b c d odd : Bool) → b ≡ true → ((a || (b || (c || (d || false)))) || odd) ≡ true
    second true b c d odd is = refl
    second false b c d odd is = rw is refl

    third : (a b c d odd : Bool) → c ≡ true → ((a || (b || (c || (d || false)))) || odd) ≡ true
    third true b c d odd is = refl
    third false true c d odd is = refl
    third false false c d odd is = rw is refl

    fourth : (a b c d odd : Bool) → d ≡ true → ((a || (b || (c || (d || false)))) || odd) ≡ true
    fourth true b c d odd is = refl
    fourth false true c d odd is = refl
    fourth false false true d odd is = refl
    fourth false false false d odd is = rw is refl

    by : (e n w : Bool) → int_le area.right p.lon ≡ e → int_le area.top p.lat ≡ n → int_le p.lon area.left ≡ w → is_amid_edges sides p ≡ true
    by true n w one two three =
        second (is_on p south) (is_on p east) (is_on p north) (is_on p west) (is_odd_of (crosses p) sides) (on_east has (le_is area.right p.lon one))
    by false true w one two three =
        third (is_on p south) (is_on p east) (is_on p north) (is_on p west) (is_odd_of (crosses p) sides) (on_north has (le_is area.top p.lat two))
    by false false true one two three =
        fourth (is_on p south) (is_on p east) (is_on p north) (is_on p west) (is_odd_of (crosses p) sides) (on_west has (le_is p.lon area.left three))
    by false false false one two three =
        ap (λ b. list_any (is_on p) sides || b) (one_crossed has (not_le area.right p.lon one) (not_le area.top p.lat two) (not_le p.lon area.left three))
        ∙ or_true (list_any (is_on p) sides)

  inside_has : is_inside area p.lat p.lon ≡ true → Has area p
  inside_has is =
      let parts = both (int_le area.bottom p.lat && int_le p.lat area.top) (int_le area.left p.lon && int_le p.lon area.right) is in
      let lat = both (int_le area.bottom p.lat) (int_le p.lat area.top) parts.0 in
      let lon = both (int_le area.left p.lon) (int_le p.lon area.right) parts.1 in
      record {
        west = le_is area.left p.lon lon.0;
        south = le_is area.bottom p.lat lat.0;
        east = le_is p.lon area.right lon.1;
        north = le_is p.lat area.top lat.1;
      }

  all_in : area.left ≤ℤ area.right → area.bottom ≤ℤ area.top → AllIn area sides
  all_in level upright =
      let low = le_self area.bottom in
      let high = le_self area.top in
      let left = le_self area.left in
      let right = le_self area.right in
      let south_west : Has area south.from = record { west = left; south = low; east = level; north = upright } in
      let south_east : Has area south.to = record { west = level; south = low; east = right; north = upright } in
      let north_east : Has area north.from = record { west = level; south = upright; east = right; north = high } in
      let north_west : Has area north.to = record { west = left; south = upright; east = level; north = high } in
      ((south_west, south_east), ((south_east, north_east), ((north_east, north_west), ((north_west, south_west), tt))))

same_by : (amid inside : Bool) → (amid ≡ true → inside ≡ true) → (inside ≡ true → amid ≡ true) → amid ≡ inside
same_by true inside one two = sym (one refl)
same_by false true one two = two refl
same_by false false one two = refl

pub box_has_its_places : (area : BoundingBox) → area.left ≤ℤ area.right → area.bottom ≤ℤ area.top → (lat lon : ℤ)
    → is_amid_edges (ring_sides (corners area)) (record { lat = lat; lon = lon }) ≡ is_inside area lat lon
box_has_its_places area level upright lat lon =
    let p : Point = record { lat = lat; lon = lon } in
    same_by (is_amid_edges (sides area p) p) (is_inside area lat lon)
    (λ is. has_inside area p (amid_has area p (sides area p) (all_in area p level upright) (closed_rings (corners area ∷ [])) is))
    (λ is. amid_all area p (inside_has area p is))
