-- A PrimitiveGroup: its faults phase by phase, and the entities that its fields hold.
use Rattle.std.specs.Prelude.{ℕ, ◌==◌, Bool, not, ◌&&◌, ◌||◌, nat_lt, List, [], ◌∷◌, ◌++◌, if◌then◌else◌, map, Option, unwrap_or}
use Rattle.std.specs.Option.{option_map}
use Rattle.std.specs.List.{flat_map, find}
use Rattle.pbf_wire.specs.declared.fault.Fault.{Fault}
use Rattle.pbf_wire.specs.declared.fault.Reason.TheVariants.{MixedGroup, Changesets, EntityLarge}
use Rattle.pbf_wire.specs.Occurrence.{Occurrence, items}
use Rattle.pbf_wire.specs.Faults.{fault_where, inside, entered, fields_in, message_faults, nested_faults, twice}
use Rattle.osm_entity.specs.declared.scale.Scale.{Scale}
use Rattle.osm_entity.specs.declared.weight.TheConstants.{HIGHEST_WEIGHT}
use Rattle.osm_entity.specs.Entity.{EntitySpec, node, way, relation}
use Rattle.osm_entity.specs.Weight.{entity_weight}
use Rattle.pbf_dense.specs.Judged.{dense_wire, dense_structure, dense_values}
use Rattle.pbf_block.specs.declared.entity.TheConstants.{INFO}
use Rattle.pbf_block.specs.declared.group.TheConstants.{NODES, DENSE, WAYS, RELATIONS, CHANGESETS, GROUP_KINDS}
use Rattle.pbf_block.specs.declared.info.TheConstants.{INFO_KINDS}
use Rattle.pbf_block.specs.declared.node.TheConstants.{NODE_KINDS}
use Rattle.pbf_block.specs.declared.primitive_block.TheConstants.{PRIMITIVEGROUP}
use Rattle.pbf_block.specs.declared.relation.TheConstants.{RELATION_KINDS}
use Rattle.pbf_block.specs.declared.way.TheConstants.{WAY_KINDS}
use Rattle.pbf_block.specs.Entity.{Decoding}
use Rattle.pbf_block.specs.Node.{node_structure, node_values, node_in}
use Rattle.pbf_block.specs.Relation.{relation_structure, relation_values, relation_in}
use Rattle.pbf_block.specs.Way.{way_structure, way_values, way_in}

-- ---- wire form, changesets excepted

-- of an entity and of its Infos, or of dense nodes
abbrev pub member_wire : Occurrence → List Fault
member_wire o =
    entered NODES (nested_faults NODE_KINDS INFO INFO_KINDS) o ++ entered DENSE dense_wire o
    ++ entered WAYS (nested_faults WAY_KINDS INFO INFO_KINDS) o ++ entered RELATIONS (nested_faults RELATION_KINDS INFO INFO_KINDS) o

abbrev pub group_wire : ℕ → ℕ → List ℕ → List Fault
group_wire place at m = message_faults GROUP_KINDS member_wire (items at m)

-- ---- structure

-- a field that holds entities
abbrev pub holds_entities : ℕ → Bool
holds_entities k = k == NODES || k == DENSE || k == WAYS || k == RELATIONS

-- the number of the first of them
abbrev pub first_member : List Occurrence → Option ℕ
first_member os = option_map (λ o. o.number) (find (λ o. holds_entities o.number) os)

-- it holds entities of another kind than the first, if there is a first
abbrev pub is_of_other_kind : Option ℕ → ℕ → Bool
is_of_other_kind first k = holds_entities k && not (k == unwrap_or first k)

abbrev pub entities_structure : Occurrence → List Fault
entities_structure o = entered NODES node_structure o ++ entered DENSE dense_structure o ++ entered WAYS way_structure o ++ entered RELATIONS relation_structure o

-- a field of entities of another kind than the first, a field of changesets, and the entities that a field holds
abbrev pub member_structure : Option ℕ → Occurrence → List Fault
member_structure first o =
    fault_where (is_of_other_kind first o.number) o.place MixedGroup ++ fault_where (o.number == CHANGESETS) o.place Changesets ++ entities_structure o

abbrev pub group_structure : ℕ → ℕ → List ℕ → List Fault
group_structure place at m = let os = fields_in at m in twice DENSE os ++ flat_map (member_structure (first_member os)) os

-- ---- values, if the table has as many texts as the limit

abbrev pub member_values : ℕ → Occurrence → List Fault
member_values limit o = entered NODES (node_values limit) o ++ entered DENSE (dense_values limit) o ++ entered WAYS (way_values limit) o ++ entered RELATIONS (relation_values limit) o

-- ---- the entities of a field

-- those of the message that the field k holds
abbrev pub message_entities : Decoding → List (List ℕ) → Scale → ℕ → List Occurrence → List EntitySpec
message_entities how table scale k os =
    if k == NODES then node (node_in table scale os) ∷ []
    else (if k == DENSE then map node (how.dense table scale os)
    else (if k == WAYS then way (way_in how table scale os) ∷ []
    else (if k == RELATIONS then relation (relation_in how table scale os) ∷ []
    else [])))

abbrev pub member_entities : Decoding → List (List ℕ) → Scale → Occurrence → List EntitySpec
member_entities how table scale o = inside (λ at m. message_entities how table scale o.number (fields_in at m)) o.content

-- ---- weights

abbrev pub weight_fault : ℕ → EntitySpec → List Fault
weight_fault place entity = fault_where (nat_lt HIGHEST_WEIGHT (entity_weight entity)) place EntityLarge

-- of the entities of one field, at that field's place
abbrev pub member_weights : Decoding → List (List ℕ) → Scale → Occurrence → List Fault
member_weights how table scale o = flat_map (weight_fault o.place) (member_entities how table scale o)

-- ---- groups in a block

-- if a field of the block is a group, what f gives for each field of that group; otherwise nothing
abbrev pub in_group : {X : Type 0} → (Occurrence → List X) → Occurrence → List X
in_group f o = entered PRIMITIVEGROUP (λ place at m. flat_map f (fields_in at m)) o
