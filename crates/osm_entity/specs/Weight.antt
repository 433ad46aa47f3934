-- What an entity counts for in a block: itself, each tag, ref, location and member, and the lengths of all its texts,
-- repeats counted.
use Rattle.std.specs.Prelude.{ℕ, ◌+◌, ◌*◌, List, [], ◌∷◌, length, Option, Some, None}
use Rattle.osm_entity.specs.declared.weight.TheConstants.{ENTITY_WEIGHT, PART_WEIGHT}
use Rattle.osm_entity.specs.Entity.{TagSpec, MemberSpec, NodeSpec, WaySpec, RelationSpec, EntitySpec, node, way, relation}

abbrev pub tags_weight : List TagSpec → ℕ
tags_weight [] = 0
tags_weight (tag ∷ tags) = PART_WEIGHT + length tag.0 + length tag.1 + tags_weight tags

abbrev pub members_weight : List MemberSpec → ℕ
members_weight [] = 0
members_weight (member ∷ members) = PART_WEIGHT + length member.role + members_weight members

abbrev pub text_weight : Option (List ℕ) → ℕ
text_weight None = 0
text_weight (Some text) = length text

abbrev pub entity_weight : EntitySpec → ℕ
entity_weight (node n) = ENTITY_WEIGHT + text_weight n.meta.user + tags_weight n.tags
entity_weight (way w) = ENTITY_WEIGHT + text_weight w.meta.user + tags_weight w.tags + PART_WEIGHT * length w.refs + PART_WEIGHT * length w.locations
entity_weight (relation r) = ENTITY_WEIGHT + text_weight r.meta.user + tags_weight r.tags + members_weight r.members

abbrev pub node_weight : NodeSpec → ℕ
node_weight n = entity_weight (node n)

abbrev pub way_weight : WaySpec → ℕ
way_weight w = entity_weight (way w)

abbrev pub relation_weight : RelationSpec → ℕ
relation_weight r = entity_weight (relation r)
