-- Polygons in groups, and groups in clusters. Each has a box, without whose places it has none.
use Rattle.std.specs.Prelude.{ℤ, Bool, ◌&&◌, List}
use Rattle.std.specs.List.{list_any}
use Rattle.osm_area.specs.Area.{AreaSpec}
use Rattle.osm_box.specs.declared.bounding_box.BoundingBox.{BoundingBox}
use Rattle.osm_box.specs.BoundingBox.{is_inside}
use Rattle.osm_polygon.specs.declared.groups.Group.{Group}
use Rattle.osm_polygon.specs.declared.groups.Cluster.{Cluster}
use Rattle.osm_polygon.specs.Earth.{is_on_earth}
use Rattle.osm_polygon.specs.Polygons.{is_in_any}

abbrev pub is_in_group : Group → ℤ → ℤ → Bool
is_in_group group lat lon = is_inside group.bounds lat lon && is_in_any group.polygons.items lat lon

abbrev pub is_in_groups : List Group → ℤ → ℤ → Bool
is_in_groups groups lat lon = list_any (λ group. is_in_group group lat lon) groups

abbrev pub is_in_cluster : Cluster → ℤ → ℤ → Bool
is_in_cluster cluster lat lon =
    is_inside cluster.bounds lat lon && is_in_groups cluster.groups.items lat lon

abbrev pub is_in_clusters : List Cluster → ℤ → ℤ → Bool
is_in_clusters clusters lat lon = list_any (λ cluster. is_in_cluster cluster lat lon) clusters

-- clusters, and a box that has all of them
pub record ClustersSpec : Type 0 where
  pub bounds : BoundingBox
  pub clusters : List Cluster

abbrev pub clusters_area : ClustersSpec → AreaSpec
clusters_area area = record {
  bounds = area.bounds;
  has = λ lat lon. (is_inside area.bounds lat lon && is_on_earth lat lon)
      && is_in_clusters area.clusters lat lon;
}
