use Rattle.osm_ways.proofs.parents.RelationPhase.begin_members.Goals as goal

pub invariant_of-result : goal.invariant_of-result
invariant_of-result c = c.new.ensures c.in_ok-ways.ways
