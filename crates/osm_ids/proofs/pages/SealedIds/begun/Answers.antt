use Rattle.std.proofs.Common.{◌≡◌, true, false, int_le, length, List, sym, ap, subst, arith, rules}
use Rattle.std.specs.List.Sorted.{IsPartitionedBy, IsPartitionPoint}
use Rattle.std.proofs.lemmas.List.Sorted.{IsPartitionPoint-from_clause}
use Rattle.osm_ids.specs.declared.index.PageStart.{PageStart}
use Rattle.osm_ids.proofs.Sealing.{sealed_now, parted_index, passed_at}
use Rattle.osm_ids.proofs.pages.SealedIds.begun.Goals as goal

pub returns : goal.returns
returns c =
    let index = c.self.inside.index.items in
    let s = sealed_now _ _ _ c.self.invariant.1 _ c.self.view_is in
    let n = c.partition_point.result in
    let value = c.deref.ensures.value in
    let point : IsPartitionPoint (λ (a : PageStart). int_le a.first c.args.id ≡ true) (λ (a : PageStart). int_le a.first c.args.id ≡ false) c.deref.result.now n = IsPartitionPoint-from_clause (λ (a : PageStart). int_le a.first c.args.id) _ _ c.partition_point.ensures.partitioned (subst (IsPartitionedBy (λ (a : PageStart). int_le a.first c.args.id)) (sym value) (parted_index _ _ _ s c.args.id)) (λ a r q k. search rules) in
    passed_at _ _ _ s c.args.id n (omega (arith, c.partition_point.ensures.bound, ap length value)) (subst (λ (i : List PageStart). IsPartitionPoint (λ (a : PageStart). int_le a.first c.args.id ≡ true) (λ (a : PageStart). int_le a.first c.args.id ≡ false) i n) value point)
