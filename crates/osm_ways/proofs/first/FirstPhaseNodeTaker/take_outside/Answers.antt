use Rattle.osm_ways.proofs.FirstLemmas.{first_step-passes_over}
use Rattle.osm_ways.proofs.first.FirstPhaseNodeTaker.take_outside.Goals as goal

pub returns-clause-alike : goal.returns-clause-alike
returns-clause-alike c = first_step-passes_over
