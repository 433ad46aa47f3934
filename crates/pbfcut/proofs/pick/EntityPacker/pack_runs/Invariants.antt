use Rattle.std.proofs.Common.{◌≡◌, ◌++◌, List}
use Rattle.osm_entity.specs.Entity.{EntitySpec}
use Rattle.pbf_block.specs.Runs.{joined_runs, runs_left}
use Rattle.pbfcut.specs.Pick.{picks_of}
use Rattle.pbfcut.proofs.PackingLemmas.{PackedEach}
use Rattle.pbfcut.proofs.pick.EntityPacker.pack_runs.Given as goal

-- what is picked of the runs that are gone was packed and counted
abbrev pub invariant-loop-run : goal.invariant-loop-run
invariant-loop-run g l = record {
  can : (goal.iterator-loop-run g).can_next l.run-iterator;
  ends : (goal.iterator-loop-run g).is_finite l.run-iterator;
  gone : List EntitySpec;
  split : gone ++ joined_runs (runs_left l.run-iterator) ≡ joined_runs (runs_left l.fn.runs);
  each : PackedEach g.D.Drain (picks_of l.initial.self.picker) gone l.initial.self l.self l.initial.packer l.packer;
}
