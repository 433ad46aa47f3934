use Rattle.std.proofs.Common.{◌≡◌, ◌∙◌, ◌-◌, ◌++◌, [], ◌∷◌, take, drop, ap}
use Rattle.osm_polygon.specs.Polygon.{is_in_polygon}
use Rattle.osm_polygon.specs.Polygons.{is_in_any}
use Rattle.osm_polygon.specs.Groups.{is_in_group}
use Rattle.osm_polygon.proofs.PolygonsLemmas.{part_last, part_moved}
use Rattle.osm_polygon.proofs.groups.groups_of.Goals as goal

pub parts-preserved : goal.parts-preserved
parts-preserved c = λ lat lon.
    let all = c.parts.polygons.items in
    let at = c.len-in-parts.result - c.args.size in
    let left : c.split_off.new.self.items ≡ take at all = c.in_ok-part.ensures.items in
    let part : c.in_ok-part.part.items ≡ drop at all = c.in_ok-part.ensures.tail in
    let same : is_in_group c.group_of.result lat lon ≡ is_in_any (drop at all) lat lon = c.group_of.ensures lat lon ∙ ap (λ l. is_in_any l lat lon) part in
    let more : c.push.new.self.items ≡ c.parts.groups.items ++ c.group_of.result ∷ [] = c.in_ok-push.ensures.items in
    rw (more, left) (part_moved (λ g. is_in_group g lat lon) (λ p. is_in_polygon p lat lon) c.parts.groups.items c.group_of.result all at same)
    ∙ c.parts.invariant lat lon

pub returns : goal.returns
returns c = λ lat lon.
    let more : c.push-2.new.self.items ≡ c.parts.groups.items ++ c.group_of-2.result ∷ [] = c.in_ok-push-2.ensures.items in
    rw more (part_last (λ g. is_in_group g lat lon) (λ p. is_in_polygon p lat lon) c.parts.groups.items c.group_of-2.result c.parts.polygons.items (c.group_of-2.ensures lat lon))
    ∙ c.parts.invariant lat lon
