use Rattle.std.proofs.Common.{◌≡◌, ◌∙◌, ap, sym}
use Rattle.std.specs.Prelude.{◌&&◌}
use Rattle.std.proofs.lemmas.List.Sorted.{list_any-IsPermutation}
use Rattle.osm_box.specs.BoundingBox.{is_inside}
use Rattle.osm_polygon.specs.Polygon.{is_in_polygon}
use Rattle.osm_polygon.specs.Polygons.{box_of, is_in_any}
use Rattle.osm_polygon.specs.Groups.{is_in_groups}
use Rattle.osm_polygon.proofs.PolygonsLemmas.{in_box}
use Rattle.osm_polygon.proofs.groups.cluster_of.Goals as goal

pub returns : goal.returns
returns c = λ lat lon.
    let all = c.args.polygons.items in
    let sorted : is_in_any all lat lon ≡ is_in_any c.sort_by_key.new.self.items lat lon
    = list_any-IsPermutation (λ p. is_in_polygon p lat lon) all c.sort_by_key.new.self.items c.in_ok-sort_by_key.ensures.permutation in
    ap (λ b. is_inside b lat lon && is_in_groups c.in_ok-groups.groups.items lat lon) (c.box_of-bounds.ensures ∙ ap box_of c.as_slice.ensures.value)
    ∙ ap (λ b. is_inside (box_of all) lat lon && b) (c.in_ok-groups.ensures lat lon ∙ sym sorted)
    ∙ in_box all lat lon
