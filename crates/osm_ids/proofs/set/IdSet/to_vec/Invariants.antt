use Rattle.std.proofs.Common.{◌≡◌, ◌++◌, length}
use Rattle.osm_ids.specs.Pages.{rising}
use Rattle.osm_ids.proofs.Sets.{ids_of}
use Rattle.osm_ids.proofs.set.IdSet.to_vec.Given as goal

abbrev pub invariant-ids : goal.invariant-ids
invariant-ids l = l.ids.items ++ l.walk ≡ rising l.self-inside.pages

abbrev pub decreases-ids : goal.decreases-ids
decreases-ids l = length l.walk

abbrev pub invariant-loop-id : goal.invariant-loop-id
invariant-loop-id l = record {
  same : ids_of (l.ids.items ++ l.id-iterator) ≡ l.self;
}
