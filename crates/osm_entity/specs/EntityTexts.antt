-- The texts that an entity uses, repeats and all, in the order in which a written table gets them: of each tag the key and then
-- the value, then the user, then the roles.
use Rattle.std.specs.Prelude.{ℕ, List, [], ◌∷◌, ◌++◌, map}
use Rattle.std.specs.Option.{option_to_list}
use Rattle.osm_entity.specs.Entity.{TagSpec, NodeSpec, WaySpec, RelationSpec, EntitySpec, node, way, relation}

abbrev pub tag_texts : List TagSpec → List (List ℕ)
tag_texts [] = []
tag_texts (tag ∷ tags) = tag.0 ∷ tag.1 ∷ tag_texts tags

abbrev pub node_texts : NodeSpec → List (List ℕ)
node_texts n = tag_texts n.tags ++ option_to_list n.meta.user

abbrev pub way_texts : WaySpec → List (List ℕ)
way_texts w = tag_texts w.tags ++ option_to_list w.meta.user

abbrev pub relation_texts : RelationSpec → List (List ℕ)
relation_texts r = tag_texts r.tags ++ (option_to_list r.meta.user ++ map (λ m. m.role) r.members)

abbrev pub entity_texts : EntitySpec → List (List ℕ)
entity_texts (node n) = node_texts n
entity_texts (way w) = way_texts w
entity_texts (relation r) = relation_texts r
