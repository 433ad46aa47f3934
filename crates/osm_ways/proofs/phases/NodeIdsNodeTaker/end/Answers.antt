use Rattle.std.proofs.Common.{◌∙◌}
use Rattle.osm_ways.proofs.Shown.{shown_start}
use Rattle.osm_ways.proofs.phases.NodeIdsNodeTaker.end.Goals as goal

pub invariant_of-result : goal.invariant_of-result
invariant_of-result c = c.new.ensures c.in_ok-sealed.field-0

pub returns : goal.returns
returns c = shown_start c.args.self _ _ _ (c.in_ok-sealed.ensures ∙ c.self.view_is) c.new-2.ensures c.new-3.ensures
