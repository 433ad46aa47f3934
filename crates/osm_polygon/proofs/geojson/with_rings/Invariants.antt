use Rattle.std.proofs.Common.{◌≡◌, map, drop}
use Rattle.json.specs.Value.{items_view}
use Rattle.osm_polygon.specs.RingPlaces.{places_of}
use Rattle.osm_polygon.specs.GeoJson.{each_item, with_ring}
use Rattle.osm_polygon.proofs.geojson.with_rings.Given as goal

-- the items that are left give from here what all give from the start
abbrev pub invariant-loop-item : goal.invariant-loop-item
invariant-loop-item l = each_item (with_ring) (map places_of l.rings.items) (items_view (drop l.item-index l.item-items)) ≡ each_item (with_ring) (map places_of l.fn.rings.items) (items_view l.item-items)
