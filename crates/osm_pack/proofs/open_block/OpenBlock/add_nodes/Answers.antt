use Rattle.std.proofs.Common.{ℕ, ◌+◌, arith, take, refl, sym, ap}
use Rattle.std.proofs.lemmas.List.{length-take-le}
use Rattle.pbf_dense.specs.Cursors.{dense_left}
use Rattle.osm_pack.proofs.CutLemmas.{kept_bounds}
use Rattle.osm_pack.proofs.OpenLemmas.{MayJoin, many_added, many_room}
use Rattle.osm_pack.proofs.open_block.OpenBlock.add_nodes.Goals as goal
use Rattle.pbf_wire.proofs.AllLemmas.{all_take}

pub take-requires-clause-room : goal.take-requires-clause-room
take-requires-clause-room g c =
    let was = c.requires.«open» in
    let ns = take c.weigh-joining.result.count (dense_left c.args.nodes.now) in
    let bounds = kept_bounds was.entities was.held.block in
    let few = length-take-le c.weigh-joining.result.count (dense_left c.args.nodes.now) (omega (arith, c.weigh-joining.ensures.few, c.min-most.ensures, c.requires.many)) in
    let may : MayJoin c.args.self.now.count c.args.self.now.weight ns = record {
      few = omega (arith, bounds.0, was.held.count, few, c.weigh-joining.ensures.few, c.min-most.ensures, c.saturating_sub.ensures);
      light = omega (arith, bounds.1, was.held.weight, c.weigh-joining.ensures.light, c.weigh-joining.ensures.weight, c.saturating_sub-room.ensures);
    } in
    many_room c.args.self.now was.entities ns was.held (all_take _ c.weigh-joining.result.count (dense_left c.args.nodes.now) c.requires.alike) may

pub returns-clause-added : goal.returns-clause-added
returns-clause-added g c = λ es h.
    let ns = take c.weigh-joining.result.count (dense_left c.args.nodes.now) in
    let bounds = kept_bounds es h.block in
    let few = length-take-le c.weigh-joining.result.count (dense_left c.args.nodes.now) (omega (arith, c.weigh-joining.ensures.few, c.min-most.ensures, c.requires.many)) in
    let may : MayJoin c.args.self.now.count c.args.self.now.weight ns = record {
      few = omega (arith, bounds.0, h.count, few, c.weigh-joining.ensures.few, c.min-most.ensures, c.saturating_sub.ensures);
      light = omega (arith, bounds.1, h.weight, c.weigh-joining.ensures.light, c.weigh-joining.ensures.weight, c.saturating_sub-room.ensures);
    } in
    many_added c.args.self.now _ es ns h (all_take _ c.weigh-joining.result.count (dense_left c.args.nodes.now) c.requires.alike) may refl (ap (λ (k : ℕ). c.args.self.now.count + k) (sym few)) (ap (λ (w : ℕ). c.args.self.now.weight + w) c.weigh-joining.ensures.weight) c.in_ok-take.ensures.texts c.in_ok-take.ensures.taken refl refl
