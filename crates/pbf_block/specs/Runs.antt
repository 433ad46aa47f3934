-- The entities of a payload, those of one field together.
use Rattle.std.specs.Prelude.{List, [], ◌∷◌, ◌++◌, map, Option, Some, None}
use Rattle.std.specs.List.{flat_map}
use Rattle.pbf_wire.specs.Cursors.{found_left}
use Rattle.pbf_wire.specs.Faults.{entered, fields_in, found_in}
use Rattle.pbf_wire.specs.Occurrence.{Occurrence}
use Rattle.osm_entity.specs.Entity.{NodeSpec, WaySpec, RelationSpec, EntitySpec, node, way, relation}
use Rattle.pbf_dense.specs.declared.dense.Dense.{Dense}
use Rattle.pbf_dense.specs.Cursors.{dense_left}
use Rattle.pbf_dense.specs.Nodes.{nodes_along}
use Rattle.pbf_block.specs.declared.entities.Entities.{Entities}
use Rattle.pbf_block.specs.declared.primitive_block.TheConstants.{PRIMITIVEGROUP}
use Rattle.pbf_block.specs.declared.members.GroupFields.{GroupFields}
use Rattle.pbf_block.specs.declared.unmade.Unmade.{Unmade}
use Rattle.pbf_block.specs.Node.{node_in}
use Rattle.pbf_block.specs.Relation.{relation_in}
use Rattle.pbf_block.specs.Way.{way_in}
use Rattle.pbf_block.specs.declared.runs.Run.{Run}
use Rattle.pbf_block.specs.declared.runs.Run.TheVariants as run
use Rattle.pbf_block.specs.declared.runs.Runs.{Runs}
use Rattle.pbf_block.specs.Kinds.{member_entities_among}
use Rattle.pbf_block.specs.PrimitiveBlock.{streaming}

-- the node that a message holds, which is not made yet
abbrev pub node_from : Unmade → NodeSpec
node_from u = node_in u.table.now u.scale (found_in u.message)

-- the way
abbrev pub way_from : Unmade → WaySpec
way_from u = way_in streaming u.table.now u.scale (found_in u.message)

-- the relation
abbrev pub relation_from : Unmade → RelationSpec
relation_from u = relation_in streaming u.table.now u.scale (found_in u.message)

-- the nodes of a dense message
abbrev pub nodes_from : Unmade → List NodeSpec
nodes_from u = nodes_along u.table.now u.scale (found_in u.message)

-- those that a run holds
abbrev pub run_entities : Run → List EntitySpec
run_entities run.Nothing = []
run_entities (run.Node u) = node (node_from u) ∷ []
run_entities (run.Way u) = way (way_from u) ∷ []
run_entities (run.Relation u) = relation (relation_from u) ∷ []
run_entities (run.Dense u) = map node (nodes_from u)

-- those of runs one after another
abbrev pub joined_runs : List (List EntitySpec) → List EntitySpec
joined_runs runs = flat_map (λ es. es) runs

-- ---- what is still to come

-- the fields of a field of the payload, which may be a group
abbrev pub group_members : Occurrence → List Occurrence
group_members o = entered PRIMITIVEGROUP (λ place. fields_in) o

abbrev pub group_fields_left : GroupFields → List Occurrence
group_fields_left it = found_left it.fields ++ flat_map group_members (found_left it.groups)

unfoldable pub runs_left : Runs → List (List EntitySpec)
runs_left it = map (member_entities_among it.kinds streaming it.table.now it.scale) (group_fields_left it.members)

-- of the dense message that was begun
abbrev pub begun_dense : Option Dense → List EntitySpec
begun_dense None = []
begun_dense (Some dense) = map node (dense_left dense)

abbrev pub entities_left : Entities → List EntitySpec
entities_left it = begun_dense it.dense ++ joined_runs (runs_left it.runs)
