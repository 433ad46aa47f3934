use Rattle.std.proofs.Common.{◌≡◌, ◌+◌, ◌-◌, ◌^◌, ◌≤◌, length, map, min}
use Rattle.pbf_wire.specs.Cursors.{numbers_left}
use Rattle.osm_entity.specs.Sources.{low_32, run_tags}
use Rattle.osm_entity.specs.Weight.{tags_weight}
use Rattle.pbf_dense.specs.Runs.{after_run}
use Rattle.pbf_dense.proofs.weigh.weigh_run.Given as goal

abbrev pub invariant-tags : goal.invariant-tags
invariant-tags l = record {
  fits : l.weight ≤ 2 ^ 64 - 1;
  so_far : min (l.weight + tags_weight (run_tags l.table (numbers_left l.rest))) (2 ^ 64 - 1) ≡ min (tags_weight (run_tags l.table (numbers_left l.fn.numbers))) (2 ^ 64 - 1);
  rest : after_run (map low_32 (numbers_left l.rest)) ≡ after_run (map low_32 (numbers_left l.fn.numbers));
}

abbrev pub decreases-tags : goal.decreases-tags
decreases-tags l = length (numbers_left l.rest)
