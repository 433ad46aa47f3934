-- The nodes of a dense message.
use Rattle.std.specs.Prelude.{ℕ, ℤ, pos, List, [], ◌∷◌, length, map}
use Rattle.std.specs.List.{range_with_len}
use Rattle.pbf_wire.specs.Occurrence.{Occurrence}
use Rattle.pbf_wire.specs.Columns.{column}
use Rattle.pbf_wire.specs.Signed.{unzigzag}
use Rattle.pbf_wire.specs.Sums.{sum_at, sums_within}
use Rattle.pbf_wire.specs.Faults.{embedded}
use Rattle.osm_entity.specs.declared.scale.Scale.{Scale}
use Rattle.osm_entity.specs.Entity.{NodeSpec}
use Rattle.osm_entity.specs.Sources.{low_32, tag_of, run}
use Rattle.pbf_dense.specs.declared.dense_nodes.TheConstants.{ID, DENSEINFO, LAT, LON, KEYS_VALS}
use Rattle.pbf_dense.specs.Info.{dense_meta, InfoSpec, meta_at, info_along, info_rest}
use Rattle.pbf_dense.specs.Runs.{tags_at, after_run}
use Rattle.pbf_wire.specs.declared.limits.TheConstants.{SUM_LIMIT}

-- ---- by indices into whole columns

-- value i of the column k of differences
abbrev pub value_at : ℕ → List Occurrence → ℕ → ℤ
value_at k os i = sum_at (map unzigzag (column k os)) i

-- node i of the message that has these occurrences
abbrev pub node_at : List (List ℕ) → Scale → List Occurrence → ℕ → NodeSpec
node_at table scale os i = record {
  id = value_at ID os i;
  lat = value_at LAT os i;
  lon = value_at LON os i;
  meta = dense_meta table (embedded DENSEINFO os) i;
  tags = tags_at table (map low_32 (column KEYS_VALS os)) i;
  scale = scale;
}

-- the nodes: one for each id
unfoldable pub nodes : List (List ℕ) → Scale → List Occurrence → List NodeSpec
nodes table scale os = map (node_at table scale os) (range_with_len 0 (length (column ID os)))

-- ---- by columns that move together

-- the nodes, as long as there are an id, a latitude and a longitude
abbrev pub nodes_of_columns : List (List ℕ) → Scale → List ℤ → List ℤ → List ℤ → InfoSpec → List ℕ → List NodeSpec
nodes_of_columns table scale (id ∷ ids) (lat ∷ lats) (lon ∷ lons) info keys_vals =
    record { id = id; lat = lat; lon = lon; meta = meta_at table info 0; tags = map (tag_of table) (run keys_vals); scale = scale }
    ∷ nodes_of_columns table scale ids lats lons (info_rest info) (after_run keys_vals)
nodes_of_columns _ _ _ _ _ _ _ = []

-- the values of the column k of differences, up to the first that is out of range
abbrev pub values_along : ℕ → List Occurrence → List ℤ
values_along k os = sums_within (pos SUM_LIMIT) (pos 0) (map unzigzag (column k os))

-- the nodes of the message that has these occurrences
unfoldable pub nodes_along : List (List ℕ) → Scale → List Occurrence → List NodeSpec
nodes_along table scale os =
    nodes_of_columns table scale (values_along ID os) (values_along LAT os) (values_along LON os) (info_along (embedded DENSEINFO os)) (map low_32 (column KEYS_VALS os))
