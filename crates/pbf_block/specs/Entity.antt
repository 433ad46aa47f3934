-- What a Node, a Way and a Relation have in common: faults phase by phase, and what is read.
use Rattle.std.specs.Prelude.{ℕ, ℤ, ◌==◌, not, List, ◌++◌, map}
use Rattle.std.specs.List.{flat_map}
use Rattle.pbf_wire.specs.declared.fault.Fault.{Fault}
use Rattle.pbf_wire.specs.declared.fault.Reason.TheVariants.{TagColumns}
use Rattle.pbf_wire.specs.Columns.{column, joined}
use Rattle.pbf_wire.specs.Faults.{column_count, entered, fault_where, index_faults, missing, twice}
use Rattle.pbf_wire.specs.Occurrence.{Occurrence}
use Rattle.pbf_wire.specs.Signed.{unzigzag}
use Rattle.osm_entity.specs.declared.scale.Scale.{Scale}
use Rattle.osm_entity.specs.Entity.{TagSpec, NodeSpec}
use Rattle.osm_entity.specs.Sources.{paired_tags}
use Rattle.pbf_block.specs.declared.entity.TheConstants.{ID, KEYS, VALS, INFO}
use Rattle.pbf_block.specs.Info.{info_values}

-- an id, no second Info, and as many keys as values
abbrev pub entity_structure : ℕ → List Occurrence → List Fault
entity_structure place os = missing ID place os ++ twice INFO os ++ fault_where (not (column_count KEYS os == column_count VALS os)) place TagColumns

-- tags and Infos, if the table has as many texts as the limit; an id is stored in two ways, and judged by its kind
abbrev pub entity_values : ℕ → List Occurrence → List Fault
entity_values limit os = index_faults limit (joined KEYS os) ++ index_faults limit (joined VALS os) ++ flat_map (entered INFO (info_values limit)) os

abbrev pub tags_in : List (List ℕ) → List Occurrence → List TagSpec
tags_in table os = paired_tags table (column KEYS os) (column VALS os)

-- what is left open: what is read of a column of differences, and of a dense message. It is said once by index, and once as cursors
-- go along the columns
pub record Decoding : Type 0 where
  pub values : List ℤ → List ℤ
  pub dense : List (List ℕ) → Scale → List Occurrence → List NodeSpec

abbrev pub values_in : Decoding → ℕ → List Occurrence → List ℤ
values_in how k os = how.values (map unzigzag (column k os))
