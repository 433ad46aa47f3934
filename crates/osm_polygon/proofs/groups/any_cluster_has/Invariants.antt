use Rattle.std.proofs.Common.{◌≡◌, length}
use Rattle.osm_polygon.specs.Groups.{is_in_clusters}
use Rattle.osm_polygon.proofs.groups.any_cluster_has.Given as goal

-- none of those before has it
abbrev pub invariant-clusters : goal.invariant-clusters
invariant-clusters l = is_in_clusters l.fn.clusters l.place.lat l.place.lon ≡ is_in_clusters l.rest l.place.lat l.place.lon

abbrev pub decreases-clusters : goal.decreases-clusters
decreases-clusters l = length l.rest
