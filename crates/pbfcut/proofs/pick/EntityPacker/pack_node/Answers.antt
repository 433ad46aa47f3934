use Rattle.std.proofs.Common.{refl, rules}
use Rattle.std.proofs.lemmas.Result.{err_from_is_err_and}
use Rattle.osm_entity.specs.Entity.{node}
use Rattle.osm_entity.specs.Views.{node_of}
use Rattle.pbfcut.proofs.PackingLemmas.{keeps_same, packs_one, stops_one, unfit_one}
use Rattle.pbfcut.proofs.pick.EntityPacker.pack_node.Goals as goal

pub returns-in_default : goal.returns-in_default
returns-in_default g c = record {
  packed = tt;
  stopped = unfit_one g.D.Drain c.args.self.now.number (node (node_of c.args.view.now)) c.args.packer.now (rw c.in_default.is at c.weight_if_light.ensures);
  keeps = keeps_same g.D.Drain c.args.packer.now c.requires.ready.0;
  same = (refl, refl);
}

pub returns-in_err-push_node : goal.returns-in_err-push_node
returns-in_err-push_node g c =
    let p = err_from_is_err_and c.from_residual.result c.from_residual.ensures.1 in
    let push = c.in_err-push_node.ensures in
    rw (p.1, p.2) (record {
      packed = tt;
      stopped = stops_one g.D.Drain c.args.self.now.number (node (node_of c.args.view.now)) c.args.packer.now _ _ c.in-Some.ensures.0 (push.front c.requires.ready.1) (push.uses.stops c.requires.ready.1);
      keeps = record { header = push.header; drain_kept = push.uses.keeps };
      same = (refl, refl);
    })

pub returns : goal.returns
returns g c =
    let push = c.in_ok-push_node.ensures in
    record {
      packed = packs_one g.D.Drain (node (node_of c.args.view.now)) c.args.packer.now _ c.args.self.now.counts _ c.in-Some.ensures.0 push.pending push.written push.packing.1 (search rules);
      stopped = tt;
      keeps = record { header = push.header; drain_kept = push.uses.keeps };
      same = (refl, refl);
    }
