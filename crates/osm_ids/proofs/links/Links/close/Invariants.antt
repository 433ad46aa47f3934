use Rattle.std.proofs.Common.{[]}
use Rattle.osm_ids.specs.Links.{GrowsToLeast, to_follow}
use Rattle.osm_ids.proofs.links.Links.close.Given as goal

abbrev pub invariant-loop-id : goal.invariant-loop-id
invariant-loop-id l = GrowsToLeast l.self-inside.links.keys [] l.fn.start l.ids l.work.items

abbrev pub decreases-loop-id : goal.decreases-loop-id
decreases-loop-id l = to_follow l.self-inside.links.keys l.ids l.work.items
