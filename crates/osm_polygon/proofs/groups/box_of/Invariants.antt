use Rattle.std.proofs.Common.{◌≡◌, length}
use Rattle.std.specs.List.{fold}
use Rattle.osm_polygon.specs.Polygons.{box_of, box_of_both}
use Rattle.osm_polygon.proofs.groups.box_of.Given as goal

abbrev pub invariant-polygons : goal.invariant-polygons
invariant-polygons l = fold (λ area polygon. box_of_both area polygon.bounds) l.area l.rest ≡ box_of l.fn.polygons

abbrev pub decreases-polygons : goal.decreases-polygons
decreases-polygons l = length l.rest
