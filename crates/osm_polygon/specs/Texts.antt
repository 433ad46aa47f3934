-- The text of a polygon: GeoJSON, or a .poly file.
use Rattle.std.specs.Prelude.{ℕ, ◌==◌, Bool, ◌&&◌, List, [], ◌∷◌, drop, slice_index, if◌then◌else◌, Ok}
use Rattle.std.specs.Str.{trim_start}
use Rattle.json.specs.Json.{document}
use Rattle.osm_polygon.specs.GeoJson.{and_then, geojson_polygons}
use Rattle.osm_polygon.specs.PolyFile.{PolygonsOrFault, poly_rings}

-- the text after a byte order mark
abbrev pub is_marked : List ℕ → Bool
is_marked text =
    slice_index text 0 == 239 && (slice_index text 1 == 187 && slice_index text 2 == 191)

abbrev pub without_mark : List ℕ → List ℕ
without_mark text = if is_marked text then drop 3 text else text

-- the first character that is no blank is `{`
abbrev pub is_geojson : List ℕ → Bool
is_geojson text = slice_index (trim_start text) 0 == 123

-- the polygons of a text without a mark: a .poly file is one polygon of all its rings
abbrev pub unmarked_polygons : List ℕ → PolygonsOrFault
unmarked_polygons text =
    if is_geojson text then geojson_polygons (document text)
    else and_then (poly_rings text) (λ rings. Ok (rings ∷ []))

-- the polygons of a text, or its first fault
unfoldable pub polygons_of_text : List ℕ → PolygonsOrFault
polygons_of_text text = unmarked_polygons (without_mark text)
