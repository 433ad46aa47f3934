use Rattle.std.proofs.Common.{rules, ◌∙◌, arith}
use Rattle.std.proofs.lemmas.Grind.{common_steps}
use Rattle.osm_entity.specs.Sources.{lent_member}
use Rattle.pbf_block.proofs.EntityLemmas.{role_step, all_roles_put}
use Rattle.pbf_block.proofs.entity_write.put_member_fields.Goals as goal

pub loop-member-preserved : goal.loop-member-preserved
loop-member-preserved g c = record {
  can = tt;
  ends = tt;
  fits = search rules;
  roles = role_step _ _ _ _ _ _ (lent_member c.in-Some.member) _ _ _ c.loop-member.invariant.roles c.in-Some.ensures.steps c.in_ok-index_of.ensures.texts (c.from.ensures ∙ c.in_ok-index_of.ensures.index) c.in_ok-push.ensures.ok;
  ids = grind (arith, common_steps);
  kinds = grind (arith, common_steps);
}

pub returns-clause-roles : goal.returns-clause-roles
returns-clause-roles g c = all_roles_put _ _ _ _ _ c.loop-member.invariant.roles c.in-None.ensures.steps.0
