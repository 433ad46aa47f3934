use Rattle.std.proofs.Common.{◌∙◌}
use Rattle.pbf_dense.proofs.DenseOutLemmas.{run_step, run_put}
use Rattle.pbf_dense.proofs.dense_out.push_each_tag.Goals as goal

pub loop-key-preserved : goal.loop-key-preserved
loop-key-preserved g c = record {
  can = tt;
  ends = tt;
  so_far = run_step _ _ _ _ _ _ _ _ _ (c.in-Some.key.now, c.in-Some.value.now) _ _ _ _ c.loop-key.invariant.so_far c.in-Some.ensures.steps c.in_ok-index_of.ensures.texts (c.from.ensures ∙ c.in_ok-index_of.ensures.index) c.in_ok-push.ensures.ok
      c.in_ok-index_of-2.ensures.texts (c.from-in-loop-key.ensures ∙ c.in_ok-index_of-2.ensures.index) c.in_ok-push-2.ensures.ok;
}

pub returns-clause-runs : goal.returns-clause-runs
returns-clause-runs g c = run_put c.args.table.now _ _ _ _ _ _ c.loop-key.invariant.so_far c.in-None.ensures.steps.0 c.in_ok-push-3.ensures.ok
