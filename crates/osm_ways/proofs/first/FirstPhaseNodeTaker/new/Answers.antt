use Rattle.osm_ways.proofs.FirstLemmas.{first_in_order, first_broken, fresh_first}
use Rattle.osm_ways.proofs.first.FirstPhaseNodeTaker.new.Goals as goal

pub returns-clause-new : goal.returns-clause-new
returns-clause-new c = fresh_first _ _ _ c.new.ensures c.new-3.ensures c.new-4.ensures

pub returns-clause-takes : goal.returns-clause-takes
returns-clause-takes c = record { all = first_in_order; nodes = first_broken }
