-- The faults of a DenseInfo and of a DenseNodes, phase by phase. `place` is that of its field in the file, `at` that of its first byte.
use Rattle.std.specs.Prelude.{ℕ, zero, suc, ◌^◌, ◌==◌, ◌&&◌, ◌||◌, pos, Bool, true, false, not, nat_lt, if◌then◌else◌, ◌≡◌, ◌≤◌, List, [], ◌∷◌, ◌++◌, length, map, Option, Some, None}
use Rattle.std.specs.List.{flat_map}
use Rattle.std.specs.Option.{option_or}
use Rattle.pbf_wire.specs.declared.fault.Fault.{Fault}
use Rattle.pbf_wire.specs.declared.fault.Reason.TheVariants.{ColumnLengths, KeysVals, EntityLarge}
use Rattle.pbf_wire.specs.Occurrence.{Occurrence}
use Rattle.pbf_wire.specs.Columns.{joined, column}
use Rattle.pbf_wire.specs.Least.{least}
use Rattle.pbf_wire.specs.Faults.{fault_where, entered, fields_in, nested_faults, twice, column_count, index_faults, sum_faults, index_sum_faults}
use Rattle.osm_entity.specs.declared.scale.Scale.{Scale}
use Rattle.osm_entity.specs.Entity.{NodeSpec}
use Rattle.osm_entity.specs.Sources.{low_32}
use Rattle.osm_entity.specs.Weight.{node_weight}
use Rattle.pbf_dense.specs.declared.dense_nodes.TheConstants.{DENSE_KINDS, ID, DENSEINFO, LAT, LON, KEYS_VALS}
use Rattle.pbf_dense.specs.declared.dense_info.TheConstants.{DENSEINFO_KINDS, VERSION, TIMESTAMP, CHANGESET, UID, USER_SID, VISIBLE}
use Rattle.pbf_dense.specs.declared.phase.Phase.{Phase}
use Rattle.pbf_dense.specs.declared.phase.Phase.TheVariants as phase
use Rattle.pbf_dense.specs.Nodes.{nodes}
use Rattle.osm_entity.specs.declared.weight.TheConstants.{HIGHEST_WEIGHT}
use Rattle.pbf_wire.specs.declared.limits.TheConstants.{SUM_LIMIT}

-- ---- a DenseInfo: structure

-- the column k is empty, or has this many entries
abbrev pub goes_with : ℕ → ℕ → List Occurrence → Bool
goes_with n k os = column_count k os == 0 || column_count k os == n

-- a column of a DenseInfo is neither empty nor has an entry for each node
abbrev pub info_counts : ℕ → ℕ → ℕ → List ℕ → List Fault
info_counts n place at m =
    let os = fields_in at m in
    fault_where (not (goes_with n VERSION os && (goes_with n TIMESTAMP os && (goes_with n CHANGESET os && (goes_with n UID os && (goes_with n USER_SID os && goes_with n VISIBLE os)))))) place ColumnLengths

-- ---- a DenseInfo: values

-- the values of the column k of differences that are out of range
abbrev pub range_faults : ℕ → List Occurrence → List Fault
range_faults k os = sum_faults (pos SUM_LIMIT) false (joined k os)

-- the values of a DenseInfo that are out of range, and users that the table has no text for
abbrev pub dense_info_values : ℕ → ℕ → ℕ → List ℕ → List Fault
dense_info_values limit place at m =
    let os = fields_in at m in
    range_faults TIMESTAMP os ++ (range_faults CHANGESET os ++ (sum_faults (pos (2 ^ 30)) true (joined UID os) ++ index_sum_faults limit (joined USER_SID os)))

-- ---- a DenseNodes: wire form

-- the wire faults of the message and of its DenseInfos
unfoldable pub dense_wire : ℕ → ℕ → List ℕ → List Fault
dense_wire place at m = nested_faults DENSE_KINDS DENSEINFO DENSEINFO_KINDS place at m

-- ---- a DenseNodes: structure

-- how many ids there are, by the bytes that end a varint
abbrev pub id_count : List Occurrence → ℕ
id_count os = column_count ID os

-- the latitudes or the longitudes are more or fewer than the ids
abbrev pub coordinate_counts : ℕ → List Occurrence → List Fault
coordinate_counts place os = fault_where (not (column_count LAT os == column_count ID os && column_count LON os == column_count ID os)) place ColumnLengths

-- keys with their values, and a 0 in key place, so many times, and nothing after
abbrev pub are_runs : ℕ → List ℕ → Bool
are_runs zero [] = true
are_runs (suc n) (zero ∷ rest) = are_runs n rest
are_runs (suc n) (suc key ∷ value ∷ rest) = are_runs (suc n) rest
are_runs _ _ = false

-- there are no tags at all, or a run of them for each node
abbrev pub are_tag_runs : ℕ → List ℕ → Bool
are_tag_runs n column = are_runs 0 column || are_runs n column

abbrev pub run_faults : ℕ → List Occurrence → List Fault
run_faults place os = fault_where (not (are_tag_runs (column_count ID os) (map low_32 (column KEYS_VALS os)))) place KeysVals

-- the faults of counts, of the tags' form, and of more than one DenseInfo
unfoldable pub dense_structure : ℕ → ℕ → List ℕ → List Fault
dense_structure place at m =
    let os = fields_in at m in
    coordinate_counts place os ++ (run_faults place os ++ (twice DENSEINFO os ++ flat_map (entered DENSEINFO (info_counts (column_count ID os))) os))

-- ---- a DenseNodes: values

-- the numbers that name texts: all but the zeros in key place
abbrev pub texts_named : Bool → List (ℕ × ℕ) → List (ℕ × ℕ)
texts_named in_value [] = []
texts_named true (x ∷ xs) = x ∷ texts_named false xs
texts_named false (x ∷ xs) = if low_32 x.0 == 0 then texts_named false xs else x ∷ texts_named true xs

-- the values that are out of range, and the numbers that a table of this length has no text for
unfoldable pub dense_values : ℕ → ℕ → ℕ → List ℕ → List Fault
dense_values limit place at m =
    let os = fields_in at m in
    range_faults ID os ++ (range_faults LAT os ++ (range_faults LON os ++ (index_faults limit (texts_named false (joined KEYS_VALS os)) ++ flat_map (entered DENSEINFO (dense_info_values limit)) os)))

-- ---- a DenseNodes: weights

abbrev pub node_weight_fault : ℕ → NodeSpec → List Fault
node_weight_fault place n = fault_where (nat_lt HIGHEST_WEIGHT (node_weight n)) place EntityLarge

-- each node that is too heavy
unfoldable pub dense_weights : ℕ → List NodeSpec → List Fault
dense_weights place nodes = flat_map (node_weight_fault place) nodes

-- the scale of the stored numbers themselves; a weight is the same at every scale
abbrev pub as_stored : Scale
as_stored = record { granularity = pos 1; date_granularity = pos 1; lat_offset = pos 0; lon_offset = pos 0 }

-- ---- the phases of both together

-- the first fault of the phases before the weights
unfoldable pub fault_before_weights : ℕ → ℕ → ℕ → List ℕ → Option Fault
fault_before_weights limit place at m = option_or (least (dense_wire place at m)) (option_or (least (dense_structure place at m)) (least (dense_values limit place at m)))

-- if there is none, these
abbrev pub if_none : Option Fault → List Fault → List Fault
if_none None faults = faults
if_none (Some f) faults = []

-- the faults of a phase; weights are judged only if the other phases have none
abbrev pub phase_faults : Phase → ℕ → ℕ → List (List ℕ) → List ℕ → List Fault
phase_faults phase.Wire place at table m = dense_wire place at m
phase_faults phase.Structure place at table m = dense_structure place at m
phase_faults phase.Values place at table m = dense_values (length table) place at m
phase_faults phase.Weights place at table m = if_none (fault_before_weights (length table) place at m) (dense_weights place (nodes table as_stored (fields_in at m)))

-- the first fault by phase
unfoldable pub dense_fault : ℕ → ℕ → List (List ℕ) → List ℕ → Option Fault
dense_fault place at table m = option_or (fault_before_weights (length table) place at m) (least (phase_faults phase.Weights place at table m))

-- the phases before the weights have no fault
pub record IsSoundDense (table : List (List ℕ)) (at : ℕ) (m : List ℕ) : Type 0 where
  pub place : ℕ
  pub few : length table ≤ SUM_LIMIT
  pub wire : dense_wire place at m ≡ []
  pub structure : dense_structure place at m ≡ []
  pub values : dense_values (length table) place at m ≡ []
