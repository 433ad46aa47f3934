-- A Relation: its faults phase by phase, and what it says. Its wire faults are those of its fields, `RELATION_KINDS`, and of its Infos.
use Rattle.std.specs.Prelude.{ℕ, pos, Bool, not, ◌==◌, ◌&&◌, List, ◌++◌}
use Rattle.std.specs.List.{flat_map}
use Rattle.pbf_wire.specs.declared.fault.Fault.{Fault}
use Rattle.pbf_wire.specs.declared.fault.Reason.TheVariants.{MemberColumns, MemberKind}
use Rattle.pbf_wire.specs.Columns.{column, joined}
use Rattle.pbf_wire.specs.Faults.{below_fault, column_count, embedded, fault_where, fields_in, in_last, index_faults}
use Rattle.pbf_wire.specs.Occurrence.{Occurrence}
use Rattle.pbf_wire.specs.Signed.{low_i64}
use Rattle.osm_entity.specs.declared.scale.Scale.{Scale}
use Rattle.osm_entity.specs.Entity.{RelationSpec}
use Rattle.osm_entity.specs.Sources.{column_members}
use Rattle.pbf_dense.specs.Judged.{range_faults}
use Rattle.pbf_block.specs.declared.entity.TheConstants.{ID, INFO}
use Rattle.pbf_block.specs.declared.relation.TheConstants.{ROLES_SID, MEMIDS, TYPES}
use Rattle.pbf_block.specs.Entity.{Decoding, entity_structure, entity_values, tags_in, values_in}
use Rattle.pbf_block.specs.Info.{info_in, out_of_range}
use Rattle.pbf_block.specs.Scale.{number_or}

-- the three columns of members are of one count
abbrev pub are_members : List Occurrence → Bool
are_members os = column_count ROLES_SID os == column_count MEMIDS os && column_count TYPES os == column_count MEMIDS os

abbrev pub relation_structure : ℕ → ℕ → List ℕ → List Fault
relation_structure place at m = let os = fields_in at m in entity_structure place os ++ fault_where (not (are_members os)) place MemberColumns

-- if the table has as many texts as the limit
abbrev pub relation_values : ℕ → ℕ → ℕ → List ℕ → List Fault
relation_values limit place at m =
    let os = fields_in at m in
    in_last ID (out_of_range 62 low_i64) os ++ entity_values limit os
    ++ index_faults limit (joined ROLES_SID os) ++ range_faults MEMIDS os ++ flat_map (below_fault MemberKind 3) (joined TYPES os)

unfoldable pub relation_in : Decoding → List (List ℕ) → Scale → List Occurrence → RelationSpec
relation_in how table scale os = record {
  id = number_or (pos 0) low_i64 ID os;
  meta = info_in table (embedded INFO os);
  tags = tags_in table os;
  members = column_members table (column TYPES os) (values_in how MEMIDS os) (column ROLES_SID os);
  scale = scale;
}
