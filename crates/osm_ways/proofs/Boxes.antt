-- What the selection sees by an area is within what it sees by a larger one, as of boxes.
use Rattle.std.proofs.Common.{◌≡◌, ℤ, Bool, true, List, refl, arith}
use Rattle.std.proofs.lemmas.Int.{ints}
use Rattle.std.proofs.lemmas.Bool.{and_from, and_parts}
use Rattle.osm_area.specs.Area.{AreaSpec, IsAreaWithin, box_area}
use Rattle.osm_box.specs.declared.bounding_box.BoundingBox.{BoundingBox}
use Rattle.osm_box.specs.BoundingBox.{is_between, is_inside, is_box_within}
use Rattle.osm_entity.specs.Entity.{TagSpec, decoded, node_at, way_through, relation_among}
use Rattle.osm_ways.specs.Selection.{AreSeenWithin, WantsMore}
use Rattle.osm_ways.specs.Seen.{seen_decoded, seen_entity}
use Rattle.osm_entity.proofs.ScaleLemmas.{between, ends}

-- if both ends of a span lie in a wider one, so does what is between them
between_wider : (low high least most n : ℤ) → is_between least most low ≡ true → is_between least most high ≡ true → is_between low high n ≡ true → is_between least most n ≡ true
between_wider low high least most n first last e = grind (arith, between least most n (omega (arith, ints, (ends least most low first).0, (ends low high n e).0)) (omega (arith, ints, (ends least most high last).1, (ends low high n e).1)))

pub inside_wider : (small large : BoundingBox) → is_box_within small large ≡ true → IsAreaWithin (box_area small) (box_area large)
inside_wider small large h lat lon e =
    let corners = and_parts (is_inside large small.bottom small.left) (is_inside large small.top small.right) h in
    let low = and_parts (is_between large.bottom large.top small.bottom) (is_between large.left large.right small.left) corners.0 in
    let high = and_parts (is_between large.bottom large.top small.top) (is_between large.left large.right small.right) corners.1 in
    let place = and_parts (is_between small.bottom small.top lat) (is_between small.left small.right lon) e in
    and_from _ _ (between_wider small.bottom small.top large.bottom large.top lat low.0 high.0 place.0) (between_wider small.left small.right large.left large.right lon low.1 high.1 place.1)

pub seen_decoded-within : (some more : List TagSpec → Bool) → WantsMore some more → (small large : AreaSpec) → IsAreaWithin small large → AreSeenWithin (seen_decoded some small) (seen_decoded more large)
seen_decoded-within some more w small large h (node_at id lat lon meta tags) = (refl, h lat lon)
seen_decoded-within some more w small large h (way_through id meta tags refs locations) = refl
seen_decoded-within some more w small large h (relation_among id meta tags members) = (refl, (w tags, refl))

pub seen_entity-within : (some more : List TagSpec → Bool) → WantsMore some more → (small large : AreaSpec) → IsAreaWithin small large → AreSeenWithin (seen_entity some small) (seen_entity more large)
seen_entity-within some more w small large h e = seen_decoded-within some more w small large h (decoded e)
