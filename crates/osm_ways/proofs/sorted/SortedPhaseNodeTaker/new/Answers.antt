use Rattle.osm_ways.proofs.SortedLemmas.{sorted_takes_first}
use Rattle.osm_ways.proofs.sorted.SortedPhaseNodeTaker.new.Goals as goal

pub returns-clause-takes : goal.returns-clause-takes
returns-clause-takes c = sorted_takes_first
