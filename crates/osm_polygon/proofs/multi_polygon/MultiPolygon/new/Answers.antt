use Rattle.std.proofs.Common.{◌≡◌, ◌∙◌, ℤ, map, ap}
use Rattle.osm_polygon.specs.Polygons.{box_of, is_in_any}
use Rattle.osm_polygon.specs.Groups.{is_in_clusters}
use Rattle.osm_polygon.specs.RingPlaces.{rings_of}
use Rattle.osm_polygon.specs.Rings.{polygon_of}
use Rattle.osm_polygon.proofs.PolygonsLemmas.{same_area}
use Rattle.osm_polygon.proofs.multi_polygon.MultiPolygon.new.Goals as goal

pub returns : goal.returns
returns c =
    let polygons = map polygon_of (map rings_of c.args.polygons.now) in
    let made : c.in_ok-made.made.items ≡ polygons = c.in_ok-made.ensures in
    let bounds : c.box_of-bounds.result ≡ box_of polygons = c.box_of-bounds.ensures ∙ ap box_of (c.as_slice.ensures.value ∙ made) in
    let has : (lat lon : ℤ) → is_in_clusters c.in_ok-clusters.clusters.items lat lon ≡ is_in_any polygons lat lon
    = λ lat lon. c.in_ok-clusters.ensures lat lon ∙ ap (λ l. is_in_any l lat lon) made in
    same_area polygons c.box_of-bounds.result c.in_ok-clusters.clusters.items bounds has
