use Rattle.std.proofs.Common.{arith}
use Rattle.osm_ways.proofs.SortedLemmas.{sorted_step-passes_over}
use Rattle.osm_ways.proofs.sorted.SortedPhaseNodeTaker.take_outside.Goals as goal

pub returns-clause-taken : goal.returns-clause-taken
returns-clause-taken c id = grind (arith, c.begin_more.ensures, c.take_outside.ensures.taken id, c.self.view_is)

pub returns-clause-alike : goal.returns-clause-alike
returns-clause-alike c = sorted_step-passes_over
