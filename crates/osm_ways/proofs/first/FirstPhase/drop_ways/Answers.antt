use Rattle.std.proofs.Common.{arith}
use Rattle.osm_ways.proofs.FirstLemmas.{shown_dropped}
use Rattle.osm_ways.proofs.first.FirstPhase.drop_ways.Goals as goal

pub returns : goal.returns
returns c = grind (arith, shown_dropped c.self.inside.has_ways c.self.inside.in_order c.self.inside.box_ids c.self.inside.refs c.self.inside.way_ids)
