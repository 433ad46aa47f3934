use Rattle.std.proofs.Common.{◌≡◌, ℤ, length}
use Rattle.std.specs.Prelude.{◌||◌}
use Rattle.osm_polygon.specs.Groups.{is_in_clusters}
use Rattle.osm_polygon.specs.Polygons.{is_in_any}
use Rattle.osm_polygon.proofs.groups.clusters_of.Given as goal

-- the clusters that were made and the polygons that are left have the places of all polygons
abbrev pub invariant-parts : goal.invariant-parts
invariant-parts l = (lat lon : ℤ) → (is_in_clusters l.clusters.items lat lon || is_in_any l.polygons.items lat lon) ≡ is_in_any l.fn.polygons.items lat lon

abbrev pub decreases-parts : goal.decreases-parts
decreases-parts l = length l.polygons.items
