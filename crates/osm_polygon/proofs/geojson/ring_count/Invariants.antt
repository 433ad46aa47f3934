use Rattle.std.proofs.Common.{◌≡◌, ◌+◌, ◌≤◌, map, length}
use Rattle.std.specs.Prelude.{min}
use Rattle.std.specs.List.{sum_by}
use Rattle.osm_polygon.specs.RingPlaces.{rings_of}
use Rattle.osm_polygon.proofs.geojson.ring_count.Given as goal

-- those counted, and those of the polygons that are left
abbrev pub invariant-polygons : goal.invariant-polygons
invariant-polygons l = record {
  counted : min (l.count + sum_by length (map rings_of l.rest)) 18446744073709551615 ≡ min (sum_by length (map rings_of l.fn.polygons)) 18446744073709551615;
  small : l.count ≤ 18446744073709551615;
}

abbrev pub decreases-polygons : goal.decreases-polygons
decreases-polygons l = length l.rest
