use Rattle.std.proofs.Common.{◌≡◌, ◌++◌, map, length}
use Rattle.osm_polygon.specs.RingPlaces.{rings_of}
use Rattle.osm_polygon.specs.Rings.{polygon_of}
use Rattle.osm_polygon.proofs.multi_polygon.made_of.Given as goal

-- the polygons that were made, and those that are left
abbrev pub invariant-polygons : goal.invariant-polygons
invariant-polygons l = l.made.items ++ map polygon_of (map rings_of l.rest) ≡ map polygon_of (map rings_of l.fn.polygons)

abbrev pub decreases-polygons : goal.decreases-polygons
decreases-polygons l = length l.rest
