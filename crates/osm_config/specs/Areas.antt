-- The area of an extract.
use Rattle.std.specs.Prelude.{ℕ, Bool, true, ◌||◌, List, [], ◌++◌, codes, if◌then◌else◌}
use Rattle.std.specs.Prelude.{Option, Some, None, is_some, Result, Ok, Err}
use Rattle.std.specs.Str.{bytes_eq}
use Rattle.json.specs.Json.{Json, array}
use Rattle.json.specs.Find.{at, get, as_number}
use Rattle.osm_box.specs.declared.bounding_box.BoundingBox.{BoundingBox}
use Rattle.osm_box.specs.declared.bounding_box.BoxFault.{BoxFault}
use Rattle.osm_box.specs.Degrees.{Parts, box_of_text}
use Rattle.osm_config.specs.declared.fault.ConfigReason.TheVariants as reason
use Rattle.osm_config.specs.declared.names.ConfigObject.TheVariants as kind
use Rattle.osm_config.specs.Faults.{OrFault, config_fault, or_fault}
use Rattle.osm_config.specs.Members.{file_name_in, judge_object, optional_string, required}
use Rattle.osm_polygon.specs.GeoJson.{and_then, polygon_coordinates, multi_polygon_coordinates}
use Rattle.osm_polygon.specs.PolyFile.{PolygonsOrFault}
use Rattle.osm_polygon.specs.Polygon.{Rings}

-- a box, polygons, or those of a file
pub data AreaMember : Type 0 where
  in_box : BoundingBox → AreaMember
  in_polygons : List Rings → AreaMember
  in_file : List ℕ → AreaMember

-- ---- bbox

-- the number in `bbox`, by its text
abbrev pub edge_in : (extract : ℕ) → Json → OrFault (List ℕ)
edge_in extract value = or_fault extract (codes "bbox") reason.Shape (as_number value)

abbrev pub edge_at : (extract index : ℕ) → Json → OrFault (List ℕ)
edge_at extract index value =
    and_then (or_fault extract (codes "bbox") reason.Shape (at index value)) (edge_in extract)

-- there are four, and so no fifth
abbrev pub edges_of_items : (extract : ℕ) → Json → OrFault Parts
edges_of_items extract value =
    if is_some (at 4 value) then config_fault extract (codes "bbox") reason.Shape
    else and_then (edge_at extract 0 value) (λ l.
    and_then (edge_at extract 1 value) (λ b.
    and_then (edge_at extract 2 value) (λ r.
    and_then (edge_at extract 3 value) (λ t.
    Ok (record { left = l; bottom = b; right = r; top = t })))))

abbrev pub edge_named : (extract : ℕ) → (name : List ℕ) → Json → OrFault (List ℕ)
edge_named extract name value = and_then (required extract name value) (edge_in extract)

abbrev pub edges_of_members : (extract : ℕ) → Json → OrFault Parts
edges_of_members extract value =
    and_then (judge_object extract (codes "bbox") kind.Edges value) (λ _.
    and_then (edge_named extract (codes "left") value) (λ l.
    and_then (edge_named extract (codes "bottom") value) (λ b.
    and_then (edge_named extract (codes "right") value) (λ r.
    and_then (edge_named extract (codes "top") value) (λ t.
    Ok (record { left = l; bottom = b; right = r; top = t }))))))

abbrev pub edges_in : (extract : ℕ) → Json → OrFault Parts
edges_in extract (array items) = edges_of_items extract (array items)
edges_in extract value = edges_of_members extract value

abbrev pub with_commas : Parts → List ℕ
with_commas edges =
    edges.left ++ codes "," ++ edges.bottom ++ codes "," ++ edges.right ++ codes "," ++ edges.top

abbrev pub or_box_fault : (extract : ℕ) → Result BoundingBox BoxFault → OrFault AreaMember
or_box_fault extract (Ok bounds) = Ok (in_box bounds)
or_box_fault extract (Err wrong) = config_fault extract (codes "bbox") (reason.BadBox wrong)

-- the box that `--box=left,bottom,right,top` is
abbrev pub box_of_json : (extract : ℕ) → Json → OrFault AreaMember
box_of_json extract value =
    and_then (edges_in extract value) (λ edges.
    or_box_fault extract (box_of_text (with_commas edges)))

-- ---- polygon and multipolygon

abbrev pub is_polygon_type : Option (List ℕ) → Bool
is_polygon_type None = true
is_polygon_type (Some name) = bytes_eq name (codes "poly") || bytes_eq name (codes "geojson")

abbrev pub file_in : (extract : ℕ) → (name : List ℕ) → Json → OrFault AreaMember
file_in extract name value =
    and_then (judge_object extract name kind.File value) (λ _.
    and_then (file_name_in extract (codes "file_name") value) (λ file.
    and_then (optional_string extract (codes "file_type") value) (λ type.
    if is_polygon_type type then Ok (in_file file)
    else config_fault extract (codes "file_type") reason.FileType)))

abbrev pub or_polygon_fault : (extract : ℕ) → (name : List ℕ) → PolygonsOrFault → OrFault AreaMember
or_polygon_fault extract name (Ok polygons) = Ok (in_polygons polygons)
or_polygon_fault extract name (Err wrong) = config_fault extract name (reason.BadPolygon wrong)

abbrev pub polygon_in : (extract : ℕ) → Json → OrFault AreaMember
polygon_in extract (array items) =
    or_polygon_fault extract (codes "polygon") (polygon_coordinates (array items))
polygon_in extract value = file_in extract (codes "polygon") value

abbrev pub multi_polygon_in : (extract : ℕ) → Json → OrFault AreaMember
multi_polygon_in extract (array items) =
    or_polygon_fault extract (codes "multipolygon") (multi_polygon_coordinates (array items))
multi_polygon_in extract value = file_in extract (codes "multipolygon") value

-- ---- exactly one of them

abbrev pub area_by : (extract : ℕ) → (bbox polygon multipolygon : Option Json) → OrFault AreaMember
area_by extract (Some value) None None = box_of_json extract value
area_by extract None (Some value) None = polygon_in extract value
area_by extract None None (Some value) = multi_polygon_in extract value
area_by extract _ _ _ = config_fault extract [] reason.Area

abbrev pub area_in : (extract : ℕ) → Json → OrFault AreaMember
area_in extract value =
    area_by extract (get (codes "bbox") value) (get (codes "polygon") value)
    (get (codes "multipolygon") value)
