use Rattle.osm_ways.proofs.choosing.Near.new.Goals as goal

pub invariant_of-result : goal.invariant_of-result
invariant_of-result c = c.new.ensures c.args.ids.now
