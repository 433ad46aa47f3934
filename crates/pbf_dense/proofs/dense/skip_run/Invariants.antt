use Rattle.std.proofs.Common.{◌≡◌, length, map}
use Rattle.pbf_wire.specs.Cursors.{numbers_left}
use Rattle.osm_entity.specs.Sources.{low_32}
use Rattle.pbf_dense.specs.Runs.{after_run}
use Rattle.pbf_dense.proofs.dense.skip_run.Given as goal

abbrev pub invariant-tags : goal.invariant-tags
invariant-tags l = after_run (map low_32 (numbers_left l.rest)) ≡ after_run (map low_32 (numbers_left l.fn.numbers))

abbrev pub decreases-tags : goal.decreases-tags
decreases-tags l = length (numbers_left l.rest)
