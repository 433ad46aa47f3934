use Rattle.std.proofs.Common.{◌≡◌, length}
use Rattle.osm_polygon.specs.Polygons.{is_in_any}
use Rattle.osm_polygon.proofs.groups.any_has.Given as goal

-- none of those before has it
abbrev pub invariant-polygons : goal.invariant-polygons
invariant-polygons l = is_in_any l.fn.polygons l.place.lat l.place.lon ≡ is_in_any l.rest l.place.lat l.place.lon

abbrev pub decreases-polygons : goal.decreases-polygons
decreases-polygons l = length l.rest
