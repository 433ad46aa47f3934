-- A Way: its faults phase by phase, and what it says. Its wire faults are those of its fields, `WAY_KINDS`, and of its Infos.
use Rattle.std.specs.Prelude.{ℕ, pos, Bool, not, ◌==◌, ◌&&◌, List, ◌++◌}
use Rattle.std.specs.List.{zip}
use Rattle.pbf_wire.specs.declared.fault.Fault.{Fault}
use Rattle.pbf_wire.specs.declared.fault.Reason.TheVariants.{LocationColumns}
use Rattle.pbf_wire.specs.Faults.{column_count, embedded, fault_where, fields_in, in_last}
use Rattle.pbf_wire.specs.Occurrence.{Occurrence}
use Rattle.pbf_wire.specs.Signed.{low_i64}
use Rattle.osm_entity.specs.declared.scale.Scale.{Scale}
use Rattle.osm_entity.specs.Entity.{WaySpec}
use Rattle.pbf_dense.specs.Judged.{goes_with, range_faults}
use Rattle.pbf_block.specs.declared.entity.TheConstants.{ID, INFO}
use Rattle.pbf_block.specs.declared.way.TheConstants.{REFS, WAY_LAT, WAY_LON}
use Rattle.pbf_block.specs.Entity.{Decoding, entity_structure, entity_values, tags_in, values_in}
use Rattle.pbf_block.specs.Info.{info_in, out_of_range}
use Rattle.pbf_block.specs.Scale.{number_or}

-- there are as many latitudes as longitudes, and no locations or as many as refs
abbrev pub are_located : List Occurrence → Bool
are_located os = column_count WAY_LAT os == column_count WAY_LON os && goes_with (column_count REFS os) WAY_LAT os

abbrev pub way_structure : ℕ → ℕ → List ℕ → List Fault
way_structure place at m = let os = fields_in at m in entity_structure place os ++ fault_where (not (are_located os)) place LocationColumns

-- if the table has as many texts as the limit
abbrev pub way_values : ℕ → ℕ → ℕ → List ℕ → List Fault
way_values limit place at m =
    let os = fields_in at m in
    in_last ID (out_of_range 62 low_i64) os ++ entity_values limit os
    ++ range_faults REFS os ++ range_faults WAY_LAT os ++ range_faults WAY_LON os

unfoldable pub way_in : Decoding → List (List ℕ) → Scale → List Occurrence → WaySpec
way_in how table scale os = record {
  id = number_or (pos 0) low_i64 ID os;
  meta = info_in table (embedded INFO os);
  tags = tags_in table os;
  refs = values_in how REFS os;
  locations = zip (values_in how WAY_LAT os) (values_in how WAY_LON os);
  scale = scale;
}
