use Rattle.std.proofs.Common.{◌<◌, List, [], take, drop, arith, refl, ap, take-append-drop}
use Rattle.std.proofs.lemmas.List.{length-take-le}
use Rattle.std.proofs.lemmas.Result.{err_from_is_err_and}
use Rattle.osm_entity.specs.Entity.{NodeSpec}
use Rattle.osm_entity.specs.Views.{node_of}
use Rattle.pbf_wire.proofs.AllLemmas.{all_take, all_fewer}
use Rattle.pbf_dense.specs.Cursors.{dense_left}
use Rattle.pbf_dense.proofs.NumberLemmas.{dense_fits}
use Rattle.pbfcut.specs.declared.pick.EntityPacker.{EntityPacker}
use Rattle.pbfcut.specs.declared.picker.Picker.{Picker}
use Rattle.pbfcut.specs.Pick.{picks_of}
use Rattle.pbfcut.proofs.PackingLemmas.{each_left}
use Rattle.pbfcut.proofs.ManyLemmas.{alike_after, scaled_taken, each_many, each_refused}
use Rattle.pbfcut.proofs.pick.EntityPacker.pack_many.Goals as goal

pub returns-then-most-lt-FEW-clause-packs : goal.returns-then-most-lt-FEW-clause-packs
returns-then-most-lt-FEW-clause-packs g c = record {
  gone = [];
  others = dense_left c.args.left.now.nodes;
  split = refl;
  rest = refl;
  each = each_left g.D.Drain (picks_of c.args.self.now.picker) [] c.args.self.now (record c.args.self.now { picker = c.picked_run-most.new.picker }) c.args.packer.now tt (ap (λ (p : Picker). record c.args.self.now { picker = p }) c.picked_run-most.ensures.same) refl c.requires.ready.0 c.requires.ready.1;
}

pub push_nodes-requires-clause-alike : goal.push_nodes-requires-clause-alike
push_nodes-requires-clause-alike g c =
    let some : 0 < c.args.left.now.alike = omega (arith, c.if-most-lt-FEW.false, c.picked_run-most.ensures.few) in
    alike_after (node_of c.args.like.now) c.args.left.now.alike (dense_left c.args.left.now.nodes) some c.requires.even

pub returns-in_err-count-clause-packs : goal.returns-in_err-count-clause-packs
returns-in_err-count-clause-packs g c =
    let p = err_from_is_err_and c.from_residual.result c.from_residual.ensures.1 in
    let push = c.in_err-count.ensures in
    rw (p.1, p.2) (record {
      gone = [];
      others = dense_left c.args.left.now.nodes;
      split = refl;
      rest = tt;
      each = each_refused g.D.Drain c.args.self.now (record c.args.self.now { picker = c.picked_run-most.new.picker }) c.args.packer.now c.push_nodes.new.self _ c.requires.ready.1 push.kept push.header push.uses (c.picked_run-most.ensures.same, refl);
    })

pub returns-clause-packs : goal.returns-clause-packs
returns-clause-packs g c =
    let push = c.in_ok-count.ensures in
    let all = dense_left c.args.left.now.nodes in
    let count = c.in_ok-count.count in
    let ns : List NodeSpec = take count all in
    let some : 0 < c.args.left.now.alike = omega (arith, c.if-most-lt-FEW.false, c.picked_run-most.ensures.few) in
    let one = c.requires.even.kind some in
    let now : EntityPacker = record c.args.self.now { picker = c.picked_run-most.new.picker; counts = record c.args.self.now.counts { nodes = c.saturating_add-self.result } } in
    let long = length-take-le count all (omega (arith, push.few, c.picked_run-most.ensures.few, c.requires.even.counted)) in
    record {
      gone = ns;
      others = drop count all;
      split = take-append-drop count all;
      rest = push.rest;
      each = each_many g.D.Drain ns c.args.self.now now c.args.packer.now c.push_nodes.new.self tt (all_fewer _ count c.picked_run-most.result all push.few c.picked_run-most.ensures.picked) (all_take _ count all (dense_fits c.args.left.now.nodes))
          (scaled_taken count one.likeness all one.scaled one.same.1) push.pending push.kept push.header push.packing.1 (omega (arith, long, c.saturating_add-self.ensures)) (refl, refl) (c.picked_run-most.ensures.same, refl);
    }
