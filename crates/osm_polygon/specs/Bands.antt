-- Bands of latitude, each cut into cells of longitude.
use Rattle.std.specs.Prelude.{◌≡◌, ℕ, ◌+◌, ◌<◌, ◌&&◌, ◌||◌, Bool, not, true, false, List, [], ◌∷◌, filter, length, int_lt, int_le, nat_lt, nat_le, nat_eq}
use Rattle.std.specs.List.{list_any, sum_by}
use Rattle.osm_polygon.specs.declared.edge.Edge.{Edge}
use Rattle.osm_polygon.specs.declared.edge.Axis.TheVariants.{Latitude, Longitude}
use Rattle.osm_polygon.specs.declared.place.Place.{Place}
use Rattle.osm_polygon.specs.declared.bands.Band.{Band}
use Rattle.osm_polygon.specs.declared.bands.Probe.{Probe}
use Rattle.osm_polygon.specs.declared.bands.Border.{Border}
use Rattle.osm_polygon.specs.Polygon.{Point, Side, is_odd, is_on, crosses}
use Rattle.osm_polygon.specs.Edges.{point_of, side_of, strip_number, highest, is_in_strip}
use Rattle.osm_polygon.specs.Strips.{AreStrips, AreWithin, edges_held, lists_of}

-- one of two, and not the other
abbrev pub differ : Bool → Bool → Bool
differ true b = not b
differ false b = b

-- an odd number of them pass the test
abbrev pub is_odd_of : {X : Type 0} → (X → Bool) → List X → Bool
is_odd_of test xs = is_odd (length (filter test xs))

-- ---- the way from a place: south to the southern border of its band, and from there to the east

abbrev pub is_south_of : Border → Place → Bool
is_south_of border p = nat_le border.band (strip_number Latitude border.shift p)

-- an edge crosses the border
abbrev pub crosses_border : Border → Edge → Bool
crosses_border border e = differ (is_south_of border e.from) (is_south_of border e.to)

-- an end of an edge lies east of the place, no farther north, and north of the border
abbrev pub is_beside : Probe → Place → Bool
is_beside asked end =
    int_lt asked.place.lon end.lon
    && (int_le end.lat asked.place.lat && is_south_of asked.border end)

-- an edge crosses the way: either it crosses the ray from the place to the east, or just one of its ends lies
-- between that ray and the way
abbrev pub is_passed : Probe → Edge → Bool
is_passed asked e =
    differ (crosses (point_of asked.place) (side_of e))
    (differ (is_beside asked e.from) (is_beside asked e.to))

-- the place lies on one of the edges, or an odd number of edges crosses the way, of these and others
abbrev pub is_told : Probe → (others : Bool) → List Edge → Bool
is_told asked others edges =
    list_any (λ e. is_on (point_of asked.place) (side_of e)) edges
    || differ others (is_odd_of (is_passed asked) edges)

-- ---- cells

-- an edge lies east of the cell, and passes the test
abbrev pub is_east : (shift cell : ℕ) → (Edge → Bool) → Edge → Bool
is_east shift cell test e = nat_lt (highest Longitude shift e) cell && test e

-- an edge has its last place in the cell, and passes the test
abbrev pub is_last : (shift cell : ℕ) → (Edge → Bool) → Edge → Bool
is_last shift cell test e = nat_eq (highest Longitude shift e) cell && test e

-- for each cell from this one on, whether an odd number of edges lies east of it and passes the test
abbrev pub AreOdds : (Edge → Bool) → (shift cell : ℕ) → List Edge → List Bool → Type 0
AreOdds test shift cell edges [] = Unit {0}
AreOdds test shift cell edges (odd ∷ more) =
    (odd ≡ is_odd_of (is_east shift cell test) edges) × AreOdds test shift (cell + 1) edges more

-- ---- bands

-- the band north of the border, if these are its edges
pub record IsBand (border : Border) (edges : List Edge) (band : Band) : Type 0 where
  pub cells : AreStrips Longitude band.shift band.first edges (lists_of band.cells.items)
  pub odds : AreOdds (crosses_border border) band.shift band.first edges band.odds.items
  pub equal : length band.odds.items ≡ length band.cells.items
  pub within : AreWithin Longitude band.shift band.first
      (band.first + length band.cells.items) edges
  pub width : band.shift < 64

-- the bands from this number on
abbrev pub AreBands : (shift number : ℕ) → List Edge → List Band → Type 0
AreBands shift number edges [] = Unit {0}
AreBands shift number edges (band ∷ more) =
    IsBand (record { shift = shift; band = number })
    (filter (is_in_strip Latitude shift number) edges) band
    × AreBands shift (number + 1) edges more

-- what a band says of a place in it, if these are its edges, and an even number of them crosses its border
abbrev pub TellsOfPlace : Band → Probe → Bool → Type 0
TellsOfPlace band asked told =
    (edges : List Edge) → IsBand asked.border edges band
    → asked.border.band ≡ strip_number Latitude asked.border.shift asked.place
    → is_odd_of (crosses_border asked.border) edges ≡ false → told ≡ is_told asked false edges

-- of the edges an even number leaves or enters any set of places
abbrev pub AreClosed : List Side → Type 0
AreClosed sides =
    (set : Point → Bool) → is_odd_of (λ s. differ (set s.from) (set s.to)) sides ≡ false

-- how many edges the cells of all bands have together
abbrev pub held_by_bands : List Band → ℕ
held_by_bands bands = sum_by (λ b. edges_held b.cells.items) bands

-- how many cells that are
abbrev pub cells_by : List Band → ℕ
cells_by bands = sum_by (λ b. length b.cells.items) bands
