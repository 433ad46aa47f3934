use Rattle.std.proofs.Common.{◌≡◌, length, map}
use Rattle.pbf_wire.specs.Cursors.{numbers_left}
use Rattle.osm_entity.specs.Sources.{low_32}
use Rattle.pbf_dense.specs.Judged.{are_runs}
use Rattle.pbf_dense.proofs.dense_nodes.are_runs.Given as goal

abbrev pub invariant-runs : goal.invariant-runs
invariant-runs l = are_runs l.left (map low_32 (numbers_left l.numbers)) ≡ are_runs l.nodes (map low_32 (numbers_left l.keys_vals))

abbrev pub decreases-runs : goal.decreases-runs
decreases-runs l = length (numbers_left l.numbers)
