use Rattle.std.proofs.Common.{◌≡◌, [], List, map, ℤ, rules, sym, ap, ◌∙◌, subst}
use Rattle.std.specs.List.{filter, AllByRecursion}
use Rattle.std.proofs.lemmas.Int.{to_z-of_z}
use Rattle.std.proofs.lemmas.Result.{err_from_is_err_and}
use mir.Syntax.{w64}
use mir.Val.{SFits, to_z, of_z}
use Rattle.osm_entity.specs.Entity.{NodeSpec, node}
use Rattle.osm_entity.specs.Views.{node_of}
use Rattle.pbf_dense.specs.Cursors.{dense_left}
use Rattle.pbf_dense.specs.Steady.{NumbersFit}
use Rattle.pbf_dense.proofs.NumberLemmas.{dense_fits}
use Rattle.pbfcut.specs.declared.pick.EntityPacker.{EntityPacker}
use Rattle.pbfcut.specs.declared.picker.Picker.{Picker}
use Rattle.pbfcut.specs.Pick.{picks_of, picks_id}
use Rattle.pbfcut.specs.Many.{AreEven}
use Rattle.pbfcut.proofs.NodeLemmas.{NonePicked, OnNodes, at_first, all_gone, some_passed, rest_passed, passed_left, taken_left, one_packed, one_stops, many_packed, many_stop}
use Rattle.pbfcut.proofs.ManyLemmas.{even_next, even_after}
use Rattle.pbfcut.proofs.pick.EntityPacker.pack_nodes.Goals as goal

pub nodes-init : goal.nodes-init
nodes-init g c =
    let same = ap dense_left c.of-left.ensures.nodes in
    record {
      on = subst (λ l. OnNodes g.D.Drain c.args.self.now (dense_left c.args.dense.now) c.args.packer.now l c.args.self.now c.args.packer.now) (sym same)
          (at_first g.D.Drain c.args.self.now (dense_left c.args.dense.now) c.args.packer.now c.requires.0 c.requires.1);
      even = subst (λ l. AreEven c.of-left.result.alike l) (sym same) c.of-left.ensures.even;
    }

pub pack_node-requires-clause-numbers : goal.pack_node-requires-clause-numbers
pack_node-requires-clause-numbers g c =
    (subst (λ (l : List NodeSpec). AllByRecursion NumbersFit l) (rw c.in-Some.is at c.next_in.ensures.next) (dense_fits c.test_if_picked.new.self.nodes)).0

pub pack_many-requires-clause-even : goal.pack_many-requires-clause-even
pack_many-requires-clause-even g c =
    even_next c.test_if_picked.new.self.alike c.next_in.new.self.alike (dense_left c.test_if_picked.new.self.nodes) (dense_left c.next_in.new.self.nodes) (node_of c.in-Some.view) (rw c.in-Some.is at c.next_in.ensures.next) c.next_in.ensures.alike c.test_if_picked.ensures.even

pub returns-in_err-pack_node : goal.returns-in_err-pack_node
returns-in_err-pack_node g c =
    let p = err_from_is_err_and c.from_residual.result c.from_residual.ensures.1 in
    let fits : SFits w64 c.id.result = search rules in
    let here = ap (λ (z : ℤ). picks_id c.nodes.self.picker z) (sym c.id.ensures ∙ sym (to_z-of_z w64 c.id.result fits)) ∙ (ap (λ (p : Picker). picks_id p (to_z w64 (of_z w64 c.id.result))) (sym c.test_if_picked.ensures.same) ∙ (sym c.picks_id.ensures.picked ∙ c.if-picks_id.true)) in
    let then : EntityPacker = record c.nodes.self { picker = c.picks_id.new.self } in
    let same : then ≡ c.nodes.self = ap (λ (p : Picker). record c.nodes.self { picker = p }) (c.picks_id.ensures.same ∙ c.test_if_picked.ensures.same) in
    rw (p.1, p.2) (one_stops g.D.Drain c.args.self.now (dense_left c.args.dense.now) c.args.packer.now (dense_left c.nodes.left.nodes) (dense_left c.next_in.new.self.nodes) (node_of c.in-Some.view) c.nodes.self then c.pack_node.new.self c.nodes.packer c.pack_node.new.packer _ (sym (ap dense_left c.test_if_picked.ensures.nodes) ∙ rw c.in-Some.is at c.next_in.ensures.next) here same c.nodes.invariant.on c.in_err-pack_node.ensures)

-- the next node is packed, and then others with it
pub nodes-preserved-in-Continue-branch-2 : goal.nodes-preserved-in-Continue-branch-2
nodes-preserved-in-Continue-branch-2 g c =
    let fits : SFits w64 c.id.result = search rules in
    let here = ap (λ (z : ℤ). picks_id c.nodes.self.picker z) (sym c.id.ensures ∙ sym (to_z-of_z w64 c.id.result fits)) ∙ (ap (λ (p : Picker). picks_id p (to_z w64 (of_z w64 c.id.result))) (sym c.test_if_picked.ensures.same) ∙ (sym c.picks_id.ensures.picked ∙ c.if-picks_id.true)) in
    let then : EntityPacker = record c.nodes.self { picker = c.picks_id.new.self } in
    let same : then ≡ c.nodes.self = ap (λ (p : Picker). record c.nodes.self { picker = p }) (c.picks_id.ensures.same ∙ c.test_if_picked.ensures.same) in
    let one = one_packed g.D.Drain c.args.self.now (dense_left c.args.dense.now) c.args.packer.now (dense_left c.nodes.left.nodes) (dense_left c.next_in.new.self.nodes) (node_of c.in-Some.view) c.nodes.self then c.pack_node.new.self c.nodes.packer c.pack_node.new.packer _ (sym (ap dense_left c.test_if_picked.ensures.nodes) ∙ rw c.in-Some.is at c.next_in.ensures.next) here same c.nodes.invariant.on c.in_ok-pack_node.ensures in
    record {
      on = many_packed g.D.Drain c.args.self.now (dense_left c.args.dense.now) c.args.packer.now (dense_left c.next_in.new.self.nodes) (dense_left c.pack_many.new.left.nodes) c.pack_node.new.self c.pack_many.new.self c.pack_node.new.packer c.pack_many.new.packer _ one c.in_ok-pack_many.ensures.packs;
      even = c.in_ok-pack_many.ensures.even;
    }

pub nodes-smaller-in-Continue-branch-2 : goal.nodes-smaller-in-Continue-branch-2
nodes-smaller-in-Continue-branch-2 g c =
    let some = c.in_ok-pack_many.ensures.packs in
    taken_left (dense_left c.nodes.left.nodes) (dense_left c.next_in.new.self.nodes) some.gone some.others (dense_left c.pack_many.new.left.nodes) (node_of c.in-Some.view) (sym (ap dense_left c.test_if_picked.ensures.nodes) ∙ rw c.in-Some.is at c.next_in.ensures.next) some.split some.rest

pub returns-in_err-pack_many : goal.returns-in_err-pack_many
returns-in_err-pack_many g c =
    let p = err_from_is_err_and c.from_residual-in_err-pack_many.result c.from_residual-in_err-pack_many.ensures.1 in
    let fits : SFits w64 c.id.result = search rules in
    let here = ap (λ (z : ℤ). picks_id c.nodes.self.picker z) (sym c.id.ensures ∙ sym (to_z-of_z w64 c.id.result fits)) ∙ (ap (λ (p : Picker). picks_id p (to_z w64 (of_z w64 c.id.result))) (sym c.test_if_picked.ensures.same) ∙ (sym c.picks_id.ensures.picked ∙ c.if-picks_id.true)) in
    let then : EntityPacker = record c.nodes.self { picker = c.picks_id.new.self } in
    let same : then ≡ c.nodes.self = ap (λ (p : Picker). record c.nodes.self { picker = p }) (c.picks_id.ensures.same ∙ c.test_if_picked.ensures.same) in
    let one = one_packed g.D.Drain c.args.self.now (dense_left c.args.dense.now) c.args.packer.now (dense_left c.nodes.left.nodes) (dense_left c.next_in.new.self.nodes) (node_of c.in-Some.view) c.nodes.self then c.pack_node.new.self c.nodes.packer c.pack_node.new.packer _ (sym (ap dense_left c.test_if_picked.ensures.nodes) ∙ rw c.in-Some.is at c.next_in.ensures.next) here same c.nodes.invariant.on c.in_ok-pack_node.ensures in
    rw (p.1, p.2) (many_stop g.D.Drain c.args.self.now (dense_left c.args.dense.now) c.args.packer.now (dense_left c.next_in.new.self.nodes) (dense_left c.pack_many.new.left.nodes) c.pack_node.new.self c.pack_many.new.self c.pack_node.new.packer c.pack_many.new.packer _ one c.in_err-pack_many.ensures.packs)

pub returns-in_default-unpicked : goal.returns-in_default-unpicked
returns-in_default-unpicked g c =
    let ns = dense_left c.next_in.new.self.nodes in
    let fits : SFits w64 c.id.result = search rules in
    let here = ap (λ (z : ℤ). picks_id c.nodes.self.picker z) (sym c.id.ensures ∙ sym (to_z-of_z w64 c.id.result fits)) ∙ (ap (λ (p : Picker). picks_id p (to_z w64 (of_z w64 c.id.result))) (sym c.test_if_picked.ensures.same) ∙ (sym c.picks_id.ensures.picked ∙ c.if-picks_id.false)) in
    let later = subst (λ (p : Picker). filter (picks_of p) (map node ns) ≡ []) (c.picks_id.ensures.same ∙ c.test_if_picked.ensures.same) c.in_default-unpicked.ensures.none in
    let then : EntityPacker = record c.nodes.self { picker = c.unpicked.new.picker } in
    let same : then ≡ c.nodes.self = ap (λ (p : Picker). record c.nodes.self { picker = p }) (c.unpicked.ensures.same ∙ (c.picks_id.ensures.same ∙ c.test_if_picked.ensures.same)) in
    rest_passed g.D.Drain c.args.self.now (dense_left c.args.dense.now) c.args.packer.now (dense_left c.nodes.left.nodes) ns (node_of c.in-Some.view) c.nodes.self then c.nodes.packer _ (sym (ap dense_left c.test_if_picked.ensures.nodes) ∙ rw c.in-Some.is at c.next_in.ensures.next) here later same c.nodes.invariant.on

pub nodes-preserved : goal.nodes-preserved
nodes-preserved g c =
    let ns = dense_left c.next_in.new.self.nodes in
    let fits : SFits w64 c.id.result = search rules in
    let here = ap (λ (z : ℤ). picks_id c.nodes.self.picker z) (sym c.id.ensures ∙ sym (to_z-of_z w64 c.id.result fits)) ∙ (ap (λ (p : Picker). picks_id p (to_z w64 (of_z w64 c.id.result))) (sym c.test_if_picked.ensures.same) ∙ (sym c.picks_id.ensures.picked ∙ c.if-picks_id.false)) in
    let later = subst (λ (p : Picker). NonePicked p c.in-Some-unpicked.ahead.count ns) (c.picks_id.ensures.same ∙ c.test_if_picked.ensures.same) c.in-Some-unpicked.ensures.none in
    let then : EntityPacker = record c.nodes.self { picker = c.unpicked.new.picker } in
    let same : then ≡ c.nodes.self = ap (λ (p : Picker). record c.nodes.self { picker = p }) (c.unpicked.ensures.same ∙ (c.picks_id.ensures.same ∙ c.test_if_picked.ensures.same)) in
    let passed = c.pass_to.ensures.passed in
    record {
      on = some_passed g.D.Drain c.args.self.now (dense_left c.args.dense.now) c.args.packer.now (dense_left c.nodes.left.nodes) ns (dense_left c.pass_to.new.self.nodes) (node_of c.in-Some.view) c.in-Some-unpicked.ahead.count c.nodes.self then c.nodes.packer (sym (ap dense_left c.test_if_picked.ensures.nodes) ∙ rw c.in-Some.is at c.next_in.ensures.next) passed here later same c.nodes.invariant.on;
      even = even_after (node_of c.in-Some.view) c.next_in.new.self.alike c.pass_to.new.self.alike c.in-Some-unpicked.ahead.count ns (dense_left c.pass_to.new.self.nodes) passed c.pass_to.ensures.alike
          (even_next c.test_if_picked.new.self.alike c.next_in.new.self.alike (dense_left c.test_if_picked.new.self.nodes) ns (node_of c.in-Some.view) (rw c.in-Some.is at c.next_in.ensures.next) c.next_in.ensures.alike c.test_if_picked.ensures.even);
    }

pub nodes-smaller : goal.nodes-smaller
nodes-smaller g c =
    passed_left (dense_left c.nodes.left.nodes) (dense_left c.next_in.new.self.nodes) (dense_left c.pass_to.new.self.nodes) (node_of c.in-Some.view) c.in-Some-unpicked.ahead.count (sym (ap dense_left c.test_if_picked.ensures.nodes) ∙ rw c.in-Some.is at c.next_in.ensures.next) c.pass_to.ensures.passed

pub returns : goal.returns
returns g c =
    let tested : EntityPacker = record c.nodes.self { picker = c.test_if_picked.new.picker } in
    let same : c.nodes.self ≡ tested = sym (ap (λ (p : Picker). record c.nodes.self { picker = p }) c.test_if_picked.ensures.same) in
    let none = sym (ap dense_left c.test_if_picked.ensures.nodes) ∙ (rw c.in_default.is at c.next_in.ensures.next).0 in
    all_gone g.D.Drain c.args.self.now (dense_left c.args.dense.now) c.args.packer.now (dense_left c.nodes.left.nodes) tested c.nodes.packer _ none
    (subst (λ (now : EntityPacker). OnNodes g.D.Drain c.args.self.now (dense_left c.args.dense.now) c.args.packer.now (dense_left c.nodes.left.nodes) now c.nodes.packer) same c.nodes.invariant.on)
