use Rattle.std.proofs.Common.{◌∙◌}
use Rattle.pbf_block.proofs.EntityLemmas.{put_step, all_put}
use Rattle.pbf_block.proofs.entity_write.put_tag_fields.Goals as goal

pub loop-key-preserved : goal.loop-key-preserved
loop-key-preserved g c = record {
  can = tt;
  ends = tt;
  so_far = put_step _ _ _ _ _ _ _ _ _ (c.in-Some.key.now, c.in-Some.value.now) _ _ _ _ c.loop-key.invariant.so_far c.in-Some.ensures.steps c.in_ok-index_of.ensures.texts (c.from.ensures ∙ c.in_ok-index_of.ensures.index)
      c.in_ok-index_of-2.ensures.texts (c.from-in-loop-key.ensures ∙ c.in_ok-index_of-2.ensures.index) c.in_ok-push.ensures.ok c.in_ok-push-2.ensures.ok;
}

pub returns-clause-keys : goal.returns-clause-keys
returns-clause-keys g c = (all_put _ _ _ _ _ _ c.loop-key.invariant.so_far c.in-None.ensures.steps.0).1

pub returns-clause-values : goal.returns-clause-values
returns-clause-values g c = (all_put _ _ _ _ _ _ c.loop-key.invariant.so_far c.in-None.ensures.steps.0).2
