-- GeoJSON (RFC 7946) of polygons: geometries, collections of them, and features.
use Rattle.std.specs.Prelude.{ℕ, ◌+◌, ◌-◌, ℤ, pos, Bool, false, ◌&&◌, List, [], ◌∷◌, ◌++◌, length, codes, min, nat_lt, if◌then◌else◌}
use Rattle.std.specs.Prelude.{Option, Some, None, option_and_then, Result, Ok, Err}
use Rattle.std.specs.List.{slice_get, sum_by}
use Rattle.std.specs.Ordering.{int_eq}
use Rattle.std.specs.Str.{bytes_eq}
use Rattle.json.specs.Json.{Json, Items, no_items, item}
use Rattle.json.specs.Find.{get, at, as_array, as_number, as_str}
use Rattle.osm_polygon.specs.declared.fault.PolyFault.{PolyFault}
use Rattle.osm_polygon.specs.declared.fault.PolyPlace.{PolyPlace}
use Rattle.osm_polygon.specs.declared.fault.PolyPlace.TheVariants as where_
use Rattle.osm_polygon.specs.declared.fault.PolyReason.{PolyReason}
use Rattle.osm_polygon.specs.declared.fault.PolyReason.TheVariants as reason
use Rattle.osm_polygon.specs.declared.geojson.GeometryKind.{GeometryKind}
use Rattle.osm_polygon.specs.declared.geojson.GeometryKind.TheVariants as kind
use Rattle.osm_polygon.specs.Coordinates.{coordinate, is_long_to, place_at}
use Rattle.osm_polygon.specs.Number.{nanodegrees_of}
use Rattle.osm_polygon.specs.PolyFile.{RingsOrFault, PolygonsOrFault}
use Rattle.osm_polygon.specs.Polygon.{Point, Rings}

-- ---- in order, up to the first fault

abbrev pub OrShapeFault : Type 0 → Type 0
OrShapeFault A = Result A PolyFault

abbrev pub and_then : {A B E : Type 0} → Result A E → (A → Result B E) → Result B E
and_then (Ok x) next = next x
and_then (Err fault) next = Err fault

abbrev pub each_item : {A : Type 0} → (A → Json → OrShapeFault A) → A → Items → OrShapeFault A
each_item step done no_items = Ok done
each_item step done (item value more) = and_then (step done value) (λ d. each_item step d more)

-- what is there, or the fault that the text isn't GeoJSON of polygons
abbrev pub or_shape : {A : Type 0} → Option A → OrShapeFault A
or_shape None = Err (record { place = where_.Text; reason = reason.Shape })
or_shape (Some x) = Ok x

abbrev pub items_in : Json → OrShapeFault Items
items_in value = or_shape (as_array value)

abbrev pub member : List ℕ → Json → OrShapeFault Json
member name value = or_shape (get name value)

-- what there is so far, with what each item has
abbrev pub fold_items : {A : Type 0} → (A → Json → OrShapeFault A) → A → Json → OrShapeFault A
fold_items step done value = and_then (items_in value) (each_item step done)

-- ---- a ring

abbrev pub number_at : ℕ → Json → Option ℤ
number_at index value =
    option_and_then nanodegrees_of (option_and_then as_number (at index value))

-- a position begins with its longitude and its latitude
abbrev pub position : Json → Result Point PolyReason
position value = place_at (coordinate (pos 180000000000) (number_at 0 value))
    (coordinate (pos 90000000000) (number_at 1 value))

-- the ring of this number, counted from 1, with a place more
abbrev pub with_place : (ring : ℕ) → List Point → Result Point PolyReason → OrShapeFault (List Point)
with_place ring places (Ok place) =
    if is_long_to places place
    then Err (record { place = where_.Ring ring (length places + 1); reason = reason.Long })
    else Ok (places ++ place ∷ [])
with_place ring places (Err r) = Err (record { place = where_.Ring ring (length places + 1); reason = r })

abbrev pub with_position : (ring : ℕ) → List Point → Json → OrShapeFault (List Point)
with_position ring places value = with_place ring places (position value)

abbrev pub is_same_place : Point → Point → Bool
is_same_place p q = int_eq p.lat q.lat && int_eq p.lon q.lon

abbrev pub is_same_by : Option Point → Option Point → Bool
is_same_by (Some p) (Some q) = is_same_place p q
is_same_by _ _ = false

-- the last place is the first one again
abbrev pub is_closed : List Point → Bool
is_closed places = is_same_by (slice_get places 0) (slice_get places (length places - 1))

abbrev pub if_closed : (ring : ℕ) → List Point → OrShapeFault (List Point)
if_closed ring places =
    if nat_lt (length places) 4
    then Err (record { place = where_.Ring ring (length places); reason = reason.Short })
    else if is_closed places then Ok places
    else Err (record { place = where_.Ring ring (length places); reason = reason.Open })

abbrev pub ring_places : (ring : ℕ) → Items → OrShapeFault (List Point)
ring_places ring items = and_then (each_item (with_position ring) [] items) (if_closed ring)

abbrev pub with_ring : Rings → Json → RingsOrFault
with_ring rings value =
    and_then (items_in value) (λ items.
    and_then (ring_places (length rings + 1) items) (λ places. Ok (rings ++ places ∷ [])))

-- ---- a polygon

-- rings are counted together, and `before` rings come before the polygon's
abbrev pub ring_place_after : (before : ℕ) → PolyPlace → PolyPlace
ring_place_after before (where_.Ring ring position) =
    where_.Ring (min (before + ring) 18446744073709551615) position
ring_place_after before place = place

abbrev pub fault_after : (before : ℕ) → PolyFault → PolyFault
fault_after before fault =
    record { place = ring_place_after before fault.place; reason = fault.reason }

abbrev pub rings_after : (before : ℕ) → RingsOrFault → RingsOrFault
rings_after before (Ok rings) = Ok rings
rings_after before (Err fault) = Err (fault_after before fault)

-- a polygon without rings is none
abbrev pub and_polygon : List Rings → Rings → List Rings
and_polygon polygons [] = polygons
and_polygon polygons (ring ∷ rings) = polygons ++ (ring ∷ rings) ∷ []

abbrev pub with_polygon : List Rings → Json → PolygonsOrFault
with_polygon polygons value =
    and_then (rings_after (sum_by length polygons) (fold_items with_ring [] value)) (λ rings.
    Ok (and_polygon polygons rings))

-- ---- what has polygons

abbrev pub geometry_named : List ℕ → GeometryKind
geometry_named name =
    if bytes_eq name (codes "Polygon") then kind.Polygon
    else if bytes_eq name (codes "MultiPolygon") then kind.MultiPolygon
    else if bytes_eq name (codes "GeometryCollection") then kind.GeometryCollection
    else if bytes_eq name (codes "Feature") then kind.Feature
    else if bytes_eq name (codes "FeatureCollection") then kind.FeatureCollection
    else kind.Other

abbrev pub kind_by : Option (List ℕ) → GeometryKind
kind_by None = kind.Other
kind_by (Some name) = geometry_named name

abbrev pub geometry_of : Json → GeometryKind
geometry_of value = kind_by (option_and_then as_str (get (codes "type") value))

-- the polygons so far, with those of one thing more
abbrev pub shape_by : GeometryKind → List Rings → Json → PolygonsOrFault
shape_by kind.Polygon polygons value = and_then (member (codes "coordinates") value) (with_polygon polygons)
shape_by kind.MultiPolygon polygons value =
    and_then (member (codes "coordinates") value) (fold_items with_polygon polygons)
shape_by _ polygons value = or_shape None

abbrev pub with_shape : List Rings → Json → PolygonsOrFault
with_shape polygons value = shape_by (geometry_of value) polygons value

abbrev pub geometry_by : GeometryKind → List Rings → Json → PolygonsOrFault
geometry_by kind.GeometryCollection polygons value =
    and_then (member (codes "geometries") value) (fold_items with_shape polygons)
geometry_by _ polygons value = with_shape polygons value

abbrev pub with_geometry : List Rings → Json → PolygonsOrFault
with_geometry polygons value = geometry_by (geometry_of value) polygons value

abbrev pub feature_by : GeometryKind → List Rings → Json → PolygonsOrFault
feature_by kind.Feature polygons value = and_then (member (codes "geometry") value) (with_geometry polygons)
feature_by _ polygons value = or_shape None

abbrev pub with_feature : List Rings → Json → PolygonsOrFault
with_feature polygons value = feature_by (geometry_of value) polygons value

abbrev pub document_by : GeometryKind → Json → PolygonsOrFault
document_by kind.FeatureCollection value =
    and_then (member (codes "features") value) (fold_items with_feature [])
document_by kind.Feature value = with_feature [] value
document_by _ value = with_geometry [] value

-- ---- a text

abbrev pub if_some : List Rings → PolygonsOrFault
if_some [] = Err (record { place = where_.Text; reason = reason.Empty })
if_some (polygon ∷ polygons) = Ok (polygon ∷ polygons)

-- the polygons of coordinates that a polygon or a multipolygon has, if there is one
abbrev pub polygon_coordinates : Json → PolygonsOrFault
polygon_coordinates value = and_then (with_polygon [] value) if_some

abbrev pub multi_polygon_coordinates : Json → PolygonsOrFault
multi_polygon_coordinates value = and_then (fold_items with_polygon [] value) if_some

-- the polygons of the JSON that a text is, or its first fault
abbrev pub geojson_polygons : Option Json → PolygonsOrFault
geojson_polygons None = Err (record { place = where_.Text; reason = reason.Json })
geojson_polygons (Some value) = and_then (document_by (geometry_of value) value) if_some
