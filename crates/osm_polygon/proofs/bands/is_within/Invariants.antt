use Rattle.std.proofs.Common.{◌≡◌, length}
use Rattle.osm_polygon.specs.Polygon.{is_on}
use Rattle.osm_polygon.specs.Edges.{point_of, side_of}
use Rattle.osm_polygon.specs.Bands.{is_passed, is_told}
use Rattle.osm_polygon.proofs.Counting.{joined}
use Rattle.osm_polygon.proofs.bands.is_within.Given as goal

-- what was seen and the edges that are left say what all edges do
abbrev pub invariant-edges : goal.invariant-edges
invariant-edges l = is_told l.asked l.fn.is_odd l.fn.edges ≡ joined (λ e. is_on (point_of l.asked.place) (side_of e)) (is_passed l.asked) l.is_odd l.rest

abbrev pub decreases-edges : goal.decreases-edges
decreases-edges l = length l.rest
