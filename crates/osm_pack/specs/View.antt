-- The entity that is packed.
use Rattle.osm_entity.specs.Entity.{EntitySpec, node, way, relation}
use Rattle.osm_entity.specs.Views.{node_of, way_of, relation_of}
use Rattle.osm_pack.specs.declared.frames.EntityView.{EntityView}
use Rattle.osm_pack.specs.declared.frames.EntityView.TheVariants.{Node, Way, Relation}

abbrev pub entity_shown : EntityView → EntitySpec
entity_shown (Node view) = node (node_of view.now)
entity_shown (Way view) = way (way_of view.now)
entity_shown (Relation view) = relation (relation_of view.now)
