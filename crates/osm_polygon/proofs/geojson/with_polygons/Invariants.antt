use Rattle.std.proofs.Common.{◌≡◌, map, drop}
use Rattle.json.specs.Value.{items_view}
use Rattle.osm_polygon.specs.RingPlaces.{rings_of}
use Rattle.osm_polygon.specs.GeoJson.{each_item, with_polygon}
use Rattle.osm_polygon.proofs.geojson.with_polygons.Given as goal

-- the items that are left give from here what all give from the start
abbrev pub invariant-loop-item : goal.invariant-loop-item
invariant-loop-item l = each_item (with_polygon) (map rings_of l.polygons.items) (items_view (drop l.item-index l.item-items)) ≡ each_item (with_polygon) (map rings_of l.fn.polygons.items) (items_view l.item-items)
