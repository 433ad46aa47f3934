use Rattle.std.proofs.Common.{◌∙◌, ap}
use Rattle.std.specs.Prelude.{◌&&◌}
use Rattle.osm_box.specs.BoundingBox.{is_inside}
use Rattle.osm_polygon.specs.Polygons.{box_of, is_in_any}
use Rattle.osm_polygon.proofs.PolygonsLemmas.{in_box}
use Rattle.osm_polygon.proofs.groups.group_of.Goals as goal

pub returns : goal.returns
returns c = λ lat lon.
    let polygons = c.args.polygons.items in
    ap (λ b. is_inside b lat lon && is_in_any polygons lat lon) (c.box_of.ensures ∙ ap box_of c.as_slice.ensures.value)
    ∙ in_box polygons lat lon
