-- What the selection sees of entities. A place counts in nanodegrees.
use Rattle.std.specs.Prelude.{ℤ, Bool, false, List, map}
use Rattle.osm_area.specs.Area.{AreaSpec}
use Rattle.osm_entity.specs.declared.member.MemberKind.{MemberKind}
use Rattle.osm_entity.specs.declared.member.MemberKind.TheVariants as kind
use Rattle.osm_entity.specs.Scale.{nano_lat, nano_lon}
use Rattle.osm_entity.specs.Entity.{TagSpec, NodeSpec, MemberSpec, WaySpec, RelationSpec, EntitySpec, Decoded, node_at, way_through, relation_among, decoded}
use Rattle.osm_entity.specs.Sources.{refs_left}
use Rattle.osm_ways.specs.declared.phases.SeenWay.{SeenWay}
use Rattle.osm_ways.specs.Selection.{MemberSeen, node_member, way_member, relation_member, Seen, a_node, a_way, a_relation}

abbrev pub seen_node : AreaSpec → NodeSpec → Seen
seen_node area n = a_node n.id (area.has (nano_lat n.scale n.lat) (nano_lon n.scale n.lon))

abbrev pub seen_way : WaySpec → Seen
seen_way w = a_way w.id w.refs

-- by only its id and its refs
abbrev pub seen_refs : SeenWay → Seen
seen_refs w = a_way w.id (refs_left w.refs)

abbrev pub member_of_kind : MemberKind → ℤ → MemberSeen
member_of_kind kind.Node id = node_member id
member_of_kind kind.Way id = way_member id
member_of_kind kind.Relation id = relation_member id

abbrev pub seen_member : MemberSpec → MemberSeen
seen_member member = member_of_kind member.kind member.id

-- by whether it is wanted whole
abbrev pub seen_as : (whole : Bool) → RelationSpec → Seen
seen_as whole r = a_relation r.id whole (map seen_member r.members)

-- of no type that is wanted whole
abbrev pub seen_relation : RelationSpec → Seen
seen_relation = seen_as false

-- what is seen of an entity, by which relations are wanted whole; its scale is applied, since an area is in degrees
abbrev pub seen_decoded : (whole : List TagSpec → Bool) → AreaSpec → Decoded → Seen
seen_decoded whole area (node_at id lat lon meta tags) = a_node id (area.has lat lon)
seen_decoded whole area (way_through id meta tags refs locations) = a_way id refs
seen_decoded whole area (relation_among id meta tags members) = a_relation id (whole tags) (map seen_member members)

-- of a stored entity the same as of what it means
abbrev pub seen_entity : (whole : List TagSpec → Bool) → AreaSpec → EntitySpec → Seen
seen_entity whole area e = seen_decoded whole area (decoded e)
