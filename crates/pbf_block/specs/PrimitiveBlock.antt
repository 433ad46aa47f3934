-- A PrimitiveBlock: the entities in it, its faults phase by phase, and the first of them.
use Rattle.std.specs.Prelude.{ℕ, pos, nat_lt, int_lt, List, [], ◌∷◌, ◌++◌, length, Option}
use Rattle.std.specs.List.{flat_map}
use Rattle.pbf_wire.specs.declared.fault.Fault.{Fault}
use Rattle.pbf_wire.specs.declared.fault.Reason.{Reason}
use Rattle.pbf_wire.specs.declared.fault.Reason.TheVariants.{TooManyStrings, Granularity, DateGranularity}
use Rattle.pbf_wire.specs.Occurrence.{Occurrence, items}
use Rattle.pbf_wire.specs.Faults.{fault_where, entered, fields_in, in_last, leaf_faults, message_faults, missing, twice}
use Rattle.pbf_wire.specs.Phases.{first_fault, in_phases}
use Rattle.pbf_wire.specs.Signed.{low_i32}
use Rattle.pbf_wire.specs.Sums.{sums, sums_within}
use Rattle.pbf_strings.specs.Texts.{texts, table_kinds}
use Rattle.osm_entity.specs.Entity.{EntitySpec}
use Rattle.pbf_dense.specs.Nodes.{nodes, nodes_along}
use Rattle.pbf_block.specs.declared.primitive_block.TheConstants.{STRINGTABLE, PRIMITIVEGROUP, GRANULARITY, DATE_GRANULARITY, BLOCK_KINDS}
use Rattle.pbf_block.specs.Entity.{Decoding}
use Rattle.pbf_block.specs.Group.{group_wire, group_structure, in_group, member_values, member_entities, member_weights}
use Rattle.pbf_block.specs.Scale.{scale_of, stored_texts}
use Rattle.pbf_strings.specs.declared.table.TheConstants.{MOST_TEXTS}
use Rattle.pbf_wire.specs.declared.limits.TheConstants.{SUM_LIMIT}

-- ---- entities

-- each value of a column is the sum of all entries up to its own
abbrev pub indexed : Decoding
indexed = record { values = sums; dense = nodes }

-- running sums, up to the first that is out of range
abbrev pub streaming : Decoding
streaming = record { values = sums_within (pos SUM_LIMIT) (pos 0); dense = nodes_along }

-- the entities of a payload that begins at this place: group by group, in a group field by field, of a dense message node by
-- node
unfoldable pub entities : ℕ → List ℕ → List EntitySpec
entities at payload = let os = fields_in at payload in flat_map (in_group (member_entities indexed (stored_texts os) (scale_of os))) os

-- ---- wire form

abbrev pub part_wire : Occurrence → List Fault
part_wire o = entered STRINGTABLE (leaf_faults table_kinds) o ++ entered PRIMITIVEGROUP group_wire o

-- of a payload that begins at this place, and of all messages in it
unfoldable pub wire_faults : ℕ → List ℕ → List Fault
wire_faults at m = message_faults BLOCK_KINDS part_wire (items at m)

-- ---- structure: messages that lack or repeat something, or whose columns don't fit together

-- a table has too many texts
abbrev pub table_structure : ℕ → ℕ → List ℕ → List Fault
table_structure place at m = fault_where (nat_lt MOST_TEXTS (length (texts m))) place TooManyStrings

abbrev pub part_structure : Occurrence → List Fault
part_structure o = entered STRINGTABLE table_structure o ++ entered PRIMITIVEGROUP group_structure o

unfoldable pub structure_faults : ℕ → List ℕ → List Fault
structure_faults at m = let os = fields_in at m in missing STRINGTABLE at os ++ twice STRINGTABLE os ++ flat_map part_structure os

-- ---- values: numbers out of range, each at the field that holds it, if the table has as many texts as the limit

-- a number that must be at least 1
abbrev pub positive : Reason → ℕ → ℕ → List Fault
positive reason place v = fault_where (int_lt (low_i32 v) (pos 1)) place reason

unfoldable pub value_faults : ℕ → ℕ → List ℕ → List Fault
value_faults limit at m =
    let os = fields_in at m in
    in_last GRANULARITY (positive Granularity) os ++ in_last DATE_GRANULARITY (positive DateGranularity) os ++ flat_map (in_group (member_values limit)) os

-- ---- weights: entities that are too heavy to be written

unfoldable pub payload_weights : ℕ → List ℕ → List Fault
payload_weights at m = let os = fields_in at m in flat_map (in_group (member_weights indexed (stored_texts os) (scale_of os))) os

-- ---- all phases

-- phase by phase; the texts are those of the last table, wherever it is
abbrev pub block_phases : ℕ → List ℕ → List (List Fault)
block_phases at m = wire_faults at m ∷ structure_faults at m ∷ value_faults (length (stored_texts (fields_in at m))) at m ∷ payload_weights at m ∷ []

-- the first of them: the least of the first phase that has one
unfoldable pub block_fault : ℕ → List ℕ → Option Fault
block_fault at m = first_fault (block_phases at m)

-- all of them, each with its phase; a frame has seven before them
abbrev pub all_faults : ℕ → List ℕ → List (ℕ × Fault)
all_faults at m = in_phases 8 (block_phases at m)
