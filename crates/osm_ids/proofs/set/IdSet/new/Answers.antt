use Rattle.std.proofs.Common.{arith}
use Rattle.std.specs.FinSet as set
use Rattle.osm_ids.proofs.OrderLemmas.{none_late}
use Rattle.osm_ids.proofs.set.IdSet.new.Goals as goal

pub invariant_of-result : goal.invariant_of-result
invariant_of-result c = grind (arith, c.new-3.ensures.kept c.new.result)

pub returns : goal.returns
returns c = grind (arith, none_late set.empty)
