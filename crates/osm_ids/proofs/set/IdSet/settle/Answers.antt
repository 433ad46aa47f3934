use Rattle.std.proofs.Common.{arith}
use Rattle.osm_ids.proofs.OrderLemmas.{none_late}
use Rattle.osm_ids.proofs.set.IdSet.settle.Goals as goal

pub returns-in_ok-self-inside : goal.returns-in_ok-self-inside
returns-in_ok-self-inside c = grind (arith, c.new.ensures.empty, none_late c.in_ok-self-inside.field-0, c.in_ok-self-inside.ensures, c.self.view_is)

pub invariant_of-self : goal.invariant_of-self
invariant_of-self c = grind (arith, c.new-self-inside.ensures.kept c.in_ok-self-inside.field-0)
