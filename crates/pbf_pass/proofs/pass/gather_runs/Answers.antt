use Rattle.std.proofs.Common.{arith}
use Rattle.pbf_pass.proofs.GatherLemmas.{gathered_run}
use Rattle.pbf_pass.proofs.pass.gather_runs.Goals as goal

pub loop-run-init : goal.loop-run-init
loop-run-init g c = grind arith

pub loop-run-preserved : goal.loop-run-preserved
loop-run-preserved g c = record {
  can = tt;
  ends = tt;
  gathered = gathered_run g.G.Gather.gathered _ _ _ _ _ _ c.in-Some.ensures.steps c.in_ok-gather_run.ensures c.loop-run.invariant.gathered;
}
