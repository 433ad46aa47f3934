-- How the numbers of nodes are taken over from one message to another.
use Rattle.std.specs.Prelude.{◌≡◌, ℕ, ◌++◌, take, drop}
use Rattle.pbf_wire.specs.Cursors.{sums_left}
use Rattle.pbf_dense.specs.Cursors.{info_left}
use Rattle.pbf_dense.specs.InfoTaken.{TakesInfo}
use Rattle.pbf_dense.specs.WrittenDense.{info_held}
use Rattle.pbf_dense.specs.declared.dense.Dense.{Dense}
use Rattle.pbf_dense.specs.declared.dense_out.DenseOut.{DenseOut}

-- the ids, places and metadata of so many nodes are taken, but for their users, and added to others; the rest stays
pub record TakesColumns (count : ℕ) (from rest : Dense) (old new : DenseOut) : Type 0 where
  pub ids : new.ids ≡ old.ids ++ take count (sums_left from.ids)
  pub lats : new.lats ≡ old.lats ++ take count (sums_left from.lats)
  pub lons : new.lons ≡ old.lons ++ take count (sums_left from.lons)
  pub info : TakesInfo count (info_left from.info) (info_left rest.info) (info_held old.info) (info_held new.info)
  pub ids_left : sums_left rest.ids ≡ drop count (sums_left from.ids)
  pub lats_left : sums_left rest.lats ≡ drop count (sums_left from.lats)
  pub lons_left : sums_left rest.lons ≡ drop count (sums_left from.lons)
  pub keys_vals : rest.keys_vals ≡ from.keys_vals
  pub table : rest.table ≡ from.table
  pub scale : rest.scale ≡ from.scale
  pub runs : new.runs ≡ old.runs
  pub tagged : new.tagged ≡ old.tagged
