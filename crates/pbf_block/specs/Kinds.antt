-- Only the entities of some kinds.
use Rattle.std.specs.Prelude.{ℕ, ◌==◌, Bool, false, List, [], if◌then◌else◌}
use Rattle.std.specs.List.{flat_map}
use Rattle.pbf_wire.specs.Faults.{entered, fields_in}
use Rattle.pbf_wire.specs.Occurrence.{Occurrence}
use Rattle.osm_entity.specs.declared.scale.Scale.{Scale}
use Rattle.osm_entity.specs.Entity.{EntitySpec, node, way, relation}
use Rattle.pbf_block.specs.declared.kinds.Kinds.{Kinds}
use Rattle.pbf_block.specs.declared.primitive_block.TheConstants.{PRIMITIVEGROUP}
use Rattle.pbf_block.specs.declared.group.TheConstants.{NODES, DENSE, WAYS, RELATIONS}
use Rattle.pbf_block.specs.Entity.{Decoding}
use Rattle.pbf_block.specs.Group.{member_entities}

-- an entity is of one of the kinds
abbrev pub is_among : Kinds → EntitySpec → Bool
is_among kinds (node n) = kinds.nodes
is_among kinds (way w) = kinds.ways
is_among kinds (relation r) = kinds.relations

-- the field k of a group holds entities of one of the kinds
abbrev pub holds_kind : Kinds → ℕ → Bool
holds_kind kinds k =
    if k == NODES then kinds.nodes
    else (if k == DENSE then kinds.nodes
    else (if k == WAYS then kinds.ways
    else (if k == RELATIONS then kinds.relations
    else false)))

-- ---- the entities of these kinds, where other fields are skipped

abbrev pub member_entities_among : Kinds → Decoding → List (List ℕ) → Scale → Occurrence → List EntitySpec
member_entities_among kinds how table scale o = if holds_kind kinds o.number then member_entities how table scale o else []

abbrev pub group_entities_among : Kinds → Decoding → List (List ℕ) → Scale → Occurrence → List EntitySpec
group_entities_among kinds how table scale o = entered PRIMITIVEGROUP (λ place at m. flat_map (member_entities_among kinds how table scale) (fields_in at m)) o

abbrev pub entities_among : Kinds → Decoding → List (List ℕ) → Scale → List Occurrence → List EntitySpec
entities_among kinds how table scale os = flat_map (group_entities_among kinds how table scale) os
