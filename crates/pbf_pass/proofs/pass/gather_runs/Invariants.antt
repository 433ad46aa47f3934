use Rattle.std.proofs.Common.{◌≡◌}
use Rattle.std.specs.List.{fold}
use Rattle.pbf_block.specs.Runs.{joined_runs, runs_left}
use Rattle.pbf_pass.proofs.pass.gather_runs.Given as goal

-- what is left gives what all of the runs give
abbrev pub invariant-loop-run : goal.invariant-loop-run
invariant-loop-run g l = record {
  can : (goal.iterator-loop-run g).can_next l.run-iterator;
  ends : (goal.iterator-loop-run g).is_finite l.run-iterator;
  gathered : fold g.G.Gather.gathered l.gathering (joined_runs (runs_left l.run-iterator)) ≡ fold g.G.Gather.gathered l.initial.gathering (joined_runs (runs_left l.initial.runs));
}
