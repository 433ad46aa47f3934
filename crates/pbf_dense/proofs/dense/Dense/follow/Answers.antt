use Rattle.std.proofs.Common.{map}
use Rattle.pbf_wire.specs.Cursors.{numbers_left, sums_left}
use Rattle.osm_entity.specs.Sources.{low_32}
use Rattle.pbf_dense.specs.Cursors.{AreIdsAfter, dense_left, info_left}
use Rattle.pbf_dense.proofs.MovingLemmas.{moving_on}
use Rattle.pbf_dense.proofs.dense.Dense.follow.Goals as goal

pub returns : goal.returns
unfolding dense_left AreIdsAfter
returns c =
    let dense = c.args.self.now in
    let on = moving_on dense.table.now dense.scale c.args.count (sums_left dense.ids) (sums_left dense.lats) (sums_left dense.lons) (info_left dense.info) (map low_32 (numbers_left dense.keys_vals)) in
    rw (c.requires, c.pass.ensures, c.pass-2.ensures, c.pass-3.ensures, c.skip_runs.ensures) on
