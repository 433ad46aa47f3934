-- What views show, and what owned entities hold.
use Rattle.std.specs.Prelude.{map}
use Rattle.std.specs.Option.{option_map}
use Rattle.osm_entity.specs.declared.meta.Meta.{Meta}
use Rattle.osm_entity.specs.declared.meta.MetaRef.{MetaRef}
use Rattle.osm_entity.specs.declared.node.Node.{Node}
use Rattle.osm_entity.specs.declared.node.NodeRef.{NodeRef}
use Rattle.osm_entity.specs.declared.way.Way.{Way}
use Rattle.osm_entity.specs.declared.way.WayRef.{WayRef}
use Rattle.osm_entity.specs.declared.relation.Relation.{Relation}
use Rattle.osm_entity.specs.declared.relation.RelationRef.{RelationRef}
use Rattle.osm_entity.specs.declared.entity.EntityRef.{EntityRef}
use Rattle.osm_entity.specs.declared.entity.EntityRef.TheVariants as kinds
use Rattle.osm_entity.specs.Entity.{MetaSpec, NodeSpec, WaySpec, RelationSpec, EntitySpec, node, way, relation}
use Rattle.osm_entity.specs.Sources.{owned_tag, owned_member, tags_left, refs_left, locations_left, members_left}

-- ---- views

abbrev pub meta_of : MetaRef → MetaSpec
meta_of view = record {
  version = view.version;
  timestamp = view.timestamp;
  changeset = view.changeset;
  uid = view.uid;
  user = option_map (λ text. text.now) view.user;
  visible = view.visible;
}

abbrev pub node_of : NodeRef → NodeSpec
node_of view = record {
  id = view.id;
  lat = view.lat;
  lon = view.lon;
  meta = meta_of view.meta;
  tags = tags_left view.tags;
  scale = view.scale;
}

abbrev pub way_of : WayRef → WaySpec
way_of view = record {
  id = view.id;
  meta = meta_of view.meta;
  tags = tags_left view.tags;
  refs = refs_left view.refs;
  locations = locations_left view.locations;
  scale = view.scale;
}

abbrev pub relation_of : RelationRef → RelationSpec
relation_of view = record {
  id = view.id;
  meta = meta_of view.meta;
  tags = tags_left view.tags;
  members = members_left view.members;
  scale = view.scale;
}

abbrev pub entity_of : EntityRef → EntitySpec
entity_of (kinds.Node view) = node (node_of view)
entity_of (kinds.Way view) = way (way_of view)
entity_of (kinds.Relation view) = relation (relation_of view)

-- ---- owned entities

abbrev pub owned_meta : Meta → MetaSpec
owned_meta owned = record {
  version = owned.version;
  timestamp = owned.timestamp;
  changeset = owned.changeset;
  uid = owned.uid;
  user = option_map (λ text. text.items) owned.user;
  visible = owned.visible;
}

abbrev pub owned_node : Node → NodeSpec
owned_node owned = record {
  id = owned.id;
  lat = owned.lat;
  lon = owned.lon;
  meta = owned_meta owned.meta;
  tags = map owned_tag owned.tags.items;
  scale = owned.scale;
}

abbrev pub owned_way : Way → WaySpec
owned_way owned = record {
  id = owned.id;
  meta = owned_meta owned.meta;
  tags = map owned_tag owned.tags.items;
  refs = owned.refs.items;
  locations = owned.locations.items;
  scale = owned.scale;
}

abbrev pub owned_relation : Relation → RelationSpec
owned_relation owned = record {
  id = owned.id;
  meta = owned_meta owned.meta;
  tags = map owned_tag owned.tags.items;
  members = map owned_member owned.members.items;
  scale = owned.scale;
}
