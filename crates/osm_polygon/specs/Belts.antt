-- Belts of latitude: each is a band, or is cut evenly into several.
use Rattle.std.specs.Prelude.{◌≡◌, ℕ, ◌+◌, ◌<◌, ◌≤◌, Bool, List, [], ◌∷◌, filter, length, map}
use Rattle.std.specs.List.{sum_by}
use Rattle.osm_polygon.specs.declared.edge.Edge.{Edge}
use Rattle.osm_polygon.specs.declared.edge.Axis.TheVariants.{Latitude}
use Rattle.osm_polygon.specs.declared.place.Place.{Place}
use Rattle.osm_polygon.specs.declared.bands.Band.{Band}
use Rattle.osm_polygon.specs.declared.bands.Probe.{Probe}
use Rattle.osm_polygon.specs.declared.belts.Belt.{Belt}
use Rattle.osm_polygon.specs.declared.belts.Belt.TheVariants.{One, Many}
use Rattle.osm_polygon.specs.declared.belts.BeltBands.{BeltBands}
use Rattle.osm_polygon.specs.Polygon.{is_amid_edges}
use Rattle.osm_polygon.specs.Edges.{point_of, side_of, strip_number, is_in_strip}
use Rattle.osm_polygon.specs.Strips.{edges_held}
use Rattle.osm_polygon.specs.Bands.{IsBand, AreBands, AreClosed, held_by_bands, cells_by}

-- the bands of the belt with this number, if these are the edges of the polygon: each place of it is in one of them
pub record AreBeltBands (shift number : ℕ) (edges : List Edge) (parts : BeltBands) : Type 0 where
  pub bands : AreBands parts.shift parts.first edges parts.bands.items
  pub begun : (p : Place) → strip_number Latitude shift p ≡ number
      → parts.first ≤ strip_number Latitude parts.shift p
  pub ends : (p : Place) → strip_number Latitude shift p ≡ number
      → strip_number Latitude parts.shift p < parts.first + length parts.bands.items
  pub width : parts.shift < 64

-- the belt with this number
abbrev pub IsBelt : (shift number : ℕ) → List Edge → Belt → Type 0
IsBelt shift number edges (One band) =
    IsBand (record { shift = shift; band = number })
    (filter (is_in_strip Latitude shift number) edges) band
IsBelt shift number edges (Many parts) = AreBeltBands shift number edges parts

-- the belts from this number on
abbrev pub AreBelts : (shift number : ℕ) → List Edge → List Belt → Type 0
AreBelts shift number edges [] = Unit {0}
AreBelts shift number edges (belt ∷ more) =
    IsBelt shift number edges belt × AreBelts shift (number + 1) edges more

-- ---- lookups

-- a place can be divided by the widths of bands and cells
abbrev pub AreNarrow : List Band → Type 0
AreNarrow [] = Unit {0}
AreNarrow (band ∷ more) = (band.shift < 64) × AreNarrow more

abbrev pub IsNarrow : Belt → Type 0
IsNarrow (One band) = band.shift < 64
IsNarrow (Many parts) = (parts.shift < 64) × AreNarrow parts.bands.items

-- what is said of a place of the belt, if these are the edges of the polygon
abbrev pub BeltBandsTell : BeltBands → Place → Bool → Type 0
BeltBandsTell parts place told =
    (shift : ℕ) (edges : List Edge)
    → AreBeltBands shift (strip_number Latitude shift place) edges parts
    → AreClosed (map side_of edges) → told ≡ is_amid_edges (map side_of edges) (point_of place)

abbrev pub BeltTells : Belt → Probe → Bool → Type 0
BeltTells belt asked told =
    (edges : List Edge) → IsBelt asked.border.shift asked.border.band edges belt
    → asked.border.band ≡ strip_number Latitude asked.border.shift asked.place
    → AreClosed (map side_of edges)
    → told ≡ is_amid_edges (map side_of edges) (point_of asked.place)

-- ---- how much that is

-- how many edges the cells of a belt have together
abbrev pub held_of : Belt → ℕ
held_of (One band) = edges_held band.cells.items
held_of (Many parts) = held_by_bands parts.bands.items

abbrev pub held_in : List Belt → ℕ
held_in belts = sum_by held_of belts

-- how many cells that are
abbrev pub cells_of : Belt → ℕ
cells_of (One band) = length band.cells.items
cells_of (Many parts) = cells_by parts.bands.items

abbrev pub cells_in : List Belt → ℕ
cells_in belts = sum_by cells_of belts
