-- The selection sees stored and decoded entities alike.
use Rattle.std.proofs.Common.{◌≡◌, Bool, List, refl}
use Rattle.osm_area.specs.Area.{AreaSpec}
use Rattle.osm_entity.specs.Entity.{TagSpec, EntitySpec, node, way, relation, decoded}
use Rattle.osm_ways.specs.Seen.{seen_entity, seen_decoded}

pub seen_alike : (whole : List TagSpec → Bool) (area : AreaSpec) (e : EntitySpec) → seen_decoded whole area (decoded e) ≡ seen_entity whole area e
seen_alike whole area (node n) = refl
seen_alike whole area (way w) = refl
seen_alike whole area (relation r) = refl
