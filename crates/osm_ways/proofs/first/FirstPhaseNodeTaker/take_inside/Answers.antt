use Rattle.osm_ways.proofs.first.FirstPhaseNodeTaker.take_inside.Goals as goal

pub invariant_of-self-then-self-2 : goal.invariant_of-self-then-self-2
invariant_of-self-then-self-2 c = (c.self.invariant.0, λ _. c.new-self-inside.ensures c.add.new.self)
