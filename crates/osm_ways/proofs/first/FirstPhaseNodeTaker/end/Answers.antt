use Rattle.osm_ways.proofs.first.FirstPhaseNodeTaker.end.Goals as goal

pub invariant_of-result : goal.invariant_of-result
invariant_of-result c = c.new.ensures c.in_ok-sealed.field-0
