use Rattle.osm_ways.proofs.SortedLemmas.{sorted_takes_all}
use Rattle.osm_ways.proofs.sorted.SortedPhaseRelationTaker.end_all.Goals as goal

pub returns-in_err-end-clause-takes : goal.returns-in_err-end-clause-takes
returns-in_err-end-clause-takes c = sorted_takes_all

pub returns-clause-takes : goal.returns-clause-takes
returns-clause-takes c = sorted_takes_all
