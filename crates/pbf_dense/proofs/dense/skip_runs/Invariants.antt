use Rattle.std.proofs.Common.{◌≡◌, map}
use Rattle.pbf_wire.specs.Cursors.{numbers_left}
use Rattle.osm_entity.specs.Sources.{low_32}
use Rattle.pbf_dense.specs.Runs.{after_runs}
use Rattle.pbf_dense.proofs.dense.skip_runs.Given as goal

abbrev pub invariant-runs : goal.invariant-runs
invariant-runs l = after_runs l.left (map low_32 (numbers_left l.rest)) ≡ after_runs l.count (map low_32 (numbers_left l.fn.numbers))

abbrev pub decreases-runs : goal.decreases-runs
decreases-runs l = l.left
