-- What the cursors over dense nodes have still to give.
use Rattle.std.specs.Prelude.{◌≡◌, ℕ, List, drop, map}
use Rattle.pbf_wire.specs.Cursors.{numbers_left, sums_left}
use Rattle.pbf_wire.specs.declared.sums.Sums.{Sums}
use Rattle.osm_entity.specs.Entity.{NodeSpec}
use Rattle.osm_entity.specs.Sources.{low_32}
use Rattle.pbf_dense.specs.Info.{InfoSpec}
use Rattle.pbf_dense.specs.Nodes.{nodes_of_columns}
use Rattle.pbf_dense.specs.declared.info.InfoColumns.{InfoColumns}
use Rattle.pbf_dense.specs.declared.dense.Dense.{Dense}

abbrev pub info_left : InfoColumns → InfoSpec
info_left columns = record {
  versions = numbers_left columns.versions;
  timestamps = sums_left columns.timestamps;
  changesets = sums_left columns.changesets;
  uids = sums_left columns.uids;
  users = sums_left columns.users;
  visible = numbers_left columns.visible;
}

-- the nodes that are still to come
unfoldable pub dense_left : Dense → List NodeSpec
dense_left dense = nodes_of_columns dense.table.now dense.scale (sums_left dense.ids) (sums_left dense.lats) (sums_left dense.lons) (info_left dense.info) (map low_32 (numbers_left dense.keys_vals))

-- a cursor over the ids has passed so many of those that are still to come
unfoldable pub AreIdsAfter : ℕ → Dense → Sums → Type 0
AreIdsAfter count dense ids = sums_left ids ≡ drop count (sums_left dense.ids)
