-- An Info: what is judged of its values, and the metadata that it says.
use Rattle.std.specs.Prelude.{ℕ, ℤ, pos, ◌^◌, List, ◌==◌, not, ◌++◌}
use Rattle.std.specs.Option.{option_map}
use Rattle.pbf_wire.specs.declared.fault.Fault.{Fault}
use Rattle.pbf_wire.specs.declared.fault.Reason.TheVariants.{StringIndex}
use Rattle.pbf_wire.specs.Faults.{below_fault, fields_in, in_last, range_fault}
use Rattle.pbf_wire.specs.Occurrence.{Occurrence}
use Rattle.pbf_wire.specs.Reading.{last_number}
use Rattle.pbf_wire.specs.Signed.{low_i32, low_i64}
use Rattle.osm_entity.specs.Entity.{MetaSpec}
use Rattle.osm_entity.specs.Sources.{named}
use Rattle.pbf_dense.specs.declared.dense_info.TheConstants.{VERSION, TIMESTAMP, CHANGESET, UID, USER_SID, VISIBLE}

-- a number, as it is read, isn't strictly between -2^bits and 2^bits
abbrev pub out_of_range : ℕ → (ℕ → ℤ) → ℕ → ℕ → List Fault
out_of_range bits read place v = range_fault (pos (2 ^ bits)) place (read v)

-- the faults of values, if the table has as many texts as the limit
abbrev pub info_values : ℕ → ℕ → ℕ → List ℕ → List Fault
info_values limit place at m =
    let os = fields_in at m in
    in_last TIMESTAMP (out_of_range 62 low_i64) os ++ in_last CHANGESET (out_of_range 62 low_i64) os
    ++ in_last UID (out_of_range 30 low_i32) os ++ in_last USER_SID (λ place v. below_fault StringIndex limit (v, place)) os

-- what the fields say; without fields nothing
abbrev pub info_in : List (List ℕ) → List Occurrence → MetaSpec
info_in table os = record {
  version = option_map low_i32 (last_number VERSION os);
  timestamp = option_map low_i64 (last_number TIMESTAMP os);
  changeset = option_map low_i64 (last_number CHANGESET os);
  uid = option_map low_i32 (last_number UID os);
  user = option_map (named table) (last_number USER_SID os);
  visible = option_map (λ n. not (n == 0)) (last_number VISIBLE os);
}
