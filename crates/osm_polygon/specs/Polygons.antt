-- Polygons as one area: it has the places that any of them has.
use Rattle.std.specs.Prelude.{ℤ, Bool, List, map}
use Rattle.std.specs.List.{list_any, fold}
use Rattle.std.specs.Int.{int_min, int_max}
use Rattle.osm_area.specs.Area.{AreaSpec}
use Rattle.osm_box.specs.declared.bounding_box.BoundingBox.{BoundingBox}
use Rattle.osm_polygon.specs.Polygon.{Rings, PolygonSpec, is_in_polygon}
use Rattle.osm_polygon.specs.Rings.{no_box, polygon_of}

-- the least box that has both
abbrev pub box_of_both : BoundingBox → BoundingBox → BoundingBox
box_of_both area other = record {
  left = int_min area.left other.left;
  bottom = int_min area.bottom other.bottom;
  right = int_max area.right other.right;
  top = int_max area.top other.top;
}

-- the least box that has the boxes of all polygons
abbrev pub box_of : List PolygonSpec → BoundingBox
box_of polygons = fold (λ area polygon. box_of_both area polygon.bounds) no_box polygons

-- polygons, and a box that has all of them
pub record PolygonsSpec : Type 0 where
  pub bounds : BoundingBox
  pub polygons : List PolygonSpec

-- any of the polygons has the place
abbrev pub is_in_any : List PolygonSpec → ℤ → ℤ → Bool
is_in_any polygons lat lon = list_any (λ polygon. is_in_polygon polygon lat lon) polygons

abbrev pub polygons_area : PolygonsSpec → AreaSpec
polygons_area area = record { bounds = area.bounds; has = is_in_any area.polygons }

-- the polygons with these rings
abbrev pub polygons_of : List Rings → PolygonsSpec
polygons_of polygons =
    record { bounds = box_of (map polygon_of polygons); polygons = map polygon_of polygons }
