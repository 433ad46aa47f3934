-- The ids of the nodes that lie in a box.
use Rattle.std.specs.Prelude.{ℤ, Bool, ◌&&◌, if◌then◌else◌, List, [], ◌∷◌, map, filter, drop}
use Rattle.pbf_wire.specs.Cursors.{sums_left}
use Rattle.pbf_wire.specs.Spans.{is_in}
use Rattle.pbf_wire.specs.declared.span.Span.{Span}
use Rattle.osm_box.specs.declared.bounding_box.BoundingBox.{BoundingBox}
use Rattle.osm_box.specs.BoundingBox.{is_inside}
use Rattle.osm_entity.specs.Entity.{NodeSpec}
use Rattle.osm_entity.specs.Scale.{nano_lat, nano_lon}
use Rattle.pbf_dense.specs.Places.{id_of}
use Rattle.pbf_dense.specs.declared.within.IdsWithin.{IdsWithin}

-- a node lies in a box, or on one of its edges
abbrev pub lies_in : BoundingBox → NodeSpec → Bool
lies_in area n = is_inside area (nano_lat n.scale n.lat) (nano_lon n.scale n.lon)

-- the ids of the nodes that do
abbrev pub ids_within : BoundingBox → List NodeSpec → List ℤ
ids_within area ns = map id_of (filter (lies_in area) ns)

-- the ids beside a latitude and a longitude that these spans have, as long as there are all three
abbrev pub ids_along : Span → Span → List ℤ → List ℤ → List ℤ → List ℤ
ids_along lat_span lon_span (id ∷ ids) (lat ∷ lats) (lon ∷ lons) =
    if is_in lat_span lat && is_in lon_span lon then id ∷ ids_along lat_span lon_span ids lats lons
    else ids_along lat_span lon_span ids lats lons
ids_along _ _ _ _ _ = []

-- the ids that are still to come
unfoldable pub ids_within_left : IdsWithin → List ℤ
ids_within_left it = ids_along it.lat_span it.lon_span (sums_left it.ids) (sums_left it.lats) (sums_left it.lons)

-- those after a node of which only the longitude was taken
abbrev pub after_one : IdsWithin → List ℤ
after_one it = ids_along it.lat_span it.lon_span (drop 1 (sums_left it.ids)) (drop 1 (sums_left it.lats)) (sums_left it.lons)

-- those from a node on of which this longitude was taken
abbrev pub after_lon : ℤ → IdsWithin → List ℤ
after_lon lon it = ids_along it.lat_span it.lon_span (sums_left it.ids) (sums_left it.lats) (lon ∷ sums_left it.lons)
