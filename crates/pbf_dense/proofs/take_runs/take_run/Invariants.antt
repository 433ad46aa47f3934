use Rattle.std.proofs.Common.{◌≡◌, ◌||◌, length, map}
use Rattle.pbf_wire.specs.Cursors.{numbers_left}
use Rattle.osm_entity.specs.Sources.{low_32, run_tags}
use Rattle.pbf_dense.specs.Runs.{after_run}
use Rattle.pbf_dense.specs.WrittenDense.{are_some}
use Rattle.pbf_dense.proofs.DenseOutLemmas.{RunPut}
use Rattle.pbf_dense.proofs.take_runs.take_run.Given as goal

abbrev pub invariant-tags : goal.invariant-tags
invariant-tags g l = record {
  so_far : RunPut l.fn.table (run_tags l.texts (numbers_left l.fn.numbers)) l.fn.runs l.table l.runs (run_tags l.texts (numbers_left l.rest));
  tagged : (l.tagged || are_some (run_tags l.texts (numbers_left l.rest))) ≡ are_some (run_tags l.texts (numbers_left l.fn.numbers));
  rest : after_run (map low_32 (numbers_left l.rest)) ≡ after_run (map low_32 (numbers_left l.fn.numbers));
}

abbrev pub decreases-tags : goal.decreases-tags
decreases-tags g l = length (numbers_left l.rest)
