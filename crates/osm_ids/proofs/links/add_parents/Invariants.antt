use Rattle.std.specs.List.{filter}
use Rattle.osm_ids.specs.Links.{FollowsLinks, is_of}
use Rattle.osm_ids.proofs.links.add_parents.Given as goal

abbrev pub invariant-loop-link : goal.invariant-loop-link
invariant-loop-link l = FollowsLinks l.links.keys (filter (is_of l.fn.id) l.links.keys) l.link-iterator l.fn.ids l.fn.work.items l.ids l.work.items
