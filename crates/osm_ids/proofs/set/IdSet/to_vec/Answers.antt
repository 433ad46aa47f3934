use Rattle.std.proofs.Common.{arith, ◌∷◌, [], ℤ, append_assoc, append-nil, rules, w64}
use Rattle.std.specs.Map.Iter.{deref}
use Rattle.std.proofs.lemmas.Int.{to_z-of_z}
use Rattle.std.proofs.lemmas.Map.Iter.{rest_more}
use Rattle.osm_ids.proofs.OrderLemmas.{ids_of-append}
use Rattle.osm_ids.proofs.Rising.{ids_of-rising}
use Rattle.osm_ids.proofs.set.IdSet.to_vec.Goals as goal

pub loop-id-init : goal.loop-id-init
loop-id-init c = grind (arith, append-nil c.ids.ids.items, c.ids.invariant, c.into_iter-id-iterator.ensures.into_iter_gives, c.iter-id-items.ensures.rest, ids_of-append c.ids.ids.items c.self.inside.late.keys, ids_of-rising c.self.inside.pages, c.self.view_is)

pub loop-id-preserved : goal.loop-id-preserved
loop-id-preserved c = grind (arith, rest_more (deref {X = ℤ}), c.in_ok-push-2.ensures.items, to_z-of_z w64 c.in-Some-id.id.now (search rules), append_assoc c.loop-id.ids.items (c.in-Some-id.id.now ∷ []) c.next-in-loop-id.new.self, c.loop-id.invariant.same)
