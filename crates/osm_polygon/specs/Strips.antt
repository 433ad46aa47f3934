-- Strips of latitude or of longitude, each with the edges that have a place in it.
use Rattle.std.specs.Prelude.{◌≡◌, ℕ, zero, suc, ◌+◌, ◌-◌, ◌*◌, ◌/◌, ◌^◌, ◌<◌, ◌≤◌, ◌++◌, Bool, List, [], ◌∷◌, map, filter, length, min, max, if◌then◌else◌}
use Rattle.std.specs.List.{sum_by}
use Rattle.osm_polygon.specs.declared.edge.Edge.{Edge}
use Rattle.osm_polygon.specs.declared.edge.Axis.{Axis}
use Rattle.osm_polygon.specs.declared.strips.StripRange.{StripRange}
use Rattle.osm_polygon.specs.declared.strips.Strip.{Strip}
use Rattle.osm_polygon.specs.Edges.{lowest, highest, is_in_strip}

-- the edges of each strip
abbrev pub lists_of : List Strip → List (List Edge)
lists_of strips = map (λ s. s.edges.items) strips

-- these are the edges of the strips from this number on
abbrev pub AreStrips : Axis → ℕ → ℕ → List Edge → List (List Edge) → Type 0
AreStrips axis shift number edges [] = Unit {0}
AreStrips axis shift number edges (near ∷ more) =
    (near ≡ filter (is_in_strip axis shift number) edges)
    × AreStrips axis shift (number + 1) edges more

-- the edges have places in the strips from `first` on and before `end` only
abbrev pub AreWithin : Axis → ℕ → ℕ → ℕ → List Edge → Type 0
AreWithin axis shift first end [] = Unit {0}
AreWithin axis shift first end (e ∷ edges) =
    ((first ≤ lowest axis shift e) × (highest axis shift e < end))
    × AreWithin axis shift first end edges

-- the strips from `first` to `last`, in nanodegrees along the axis
abbrev pub cut_at : Axis → ℕ → ℕ → ℕ → StripRange
cut_at axis shift first last =
    record { axis = axis; shift = shift; first = first / 2 ^ shift; end = last / 2 ^ shift + 1 }

-- strips, each cut into parts that are 2^finer nanodegrees wide
abbrev pub parts_at : StripRange → ℕ → StripRange
parts_at strip finer = record {
  axis = strip.axis;
  shift = finer;
  first = strip.first * 2 ^ (strip.shift - finer);
  end = strip.end * 2 ^ (strip.shift - finer);
}

-- ---- an edge more

-- in the strip with this index
abbrev pub pushed_at : ℕ → Edge → List (List Edge) → List (List Edge)
pushed_at index e [] = []
pushed_at zero e (near ∷ more) = (near ++ e ∷ []) ∷ more
pushed_at (suc index) e (near ∷ more) = near ∷ pushed_at index e more

-- in each strip whose number passes the test
abbrev pub with_edge : (ℕ → Bool) → Edge → ℕ → List (List Edge) → List (List Edge)
with_edge test e number [] = []
with_edge test e number (near ∷ more) =
    (if test number then near ++ e ∷ [] else near) ∷ with_edge test e (number + 1) more

-- ---- how much that is

-- the first of these strips that an edge has a place in, and the one after the last
abbrev pub first_strip : StripRange → Edge → ℕ
first_strip cut e = max (lowest cut.axis cut.shift e) cut.first

abbrev pub end_strip : StripRange → Edge → ℕ
end_strip cut e = min (highest cut.axis cut.shift e + 1) cut.end

-- how many of them it has a place in
abbrev pub span_of : StripRange → Edge → ℕ
span_of cut e = end_strip cut e - first_strip cut e

abbrev pub spans_of : StripRange → List Edge → ℕ
spans_of cut edges = sum_by (span_of cut) edges

-- how many edges the strips have together
abbrev pub edges_held : List Strip → ℕ
edges_held strips = sum_by length (lists_of strips)
