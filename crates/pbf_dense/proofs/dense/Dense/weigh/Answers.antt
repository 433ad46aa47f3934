use Rattle.std.proofs.Common.{◌≡◌, map, refl, sym, ap, subst, ◌∙◌, arith}
use Rattle.pbf_wire.specs.Cursors.{numbers_left, sums_left}
use Rattle.osm_entity.specs.Sources.{low_32}
use Rattle.pbf_dense.specs.Steady.{AreSame, first_weight}
use Rattle.pbf_dense.specs.declared.weigh.Weights.{Weights}
use Rattle.pbf_dense.proofs.SteadyLemmas.{AreWeighed, one_weighed, same_weighed, nodes_weighed}
use Rattle.pbf_dense.proofs.dense.Dense.weigh.Goals as goal

pub nodes-preserved-in-Some : goal.nodes-preserved-in-Some
nodes-preserved-in-Some c =
    let dense = c.args.self.now in
    let table = dense.table.now in
    let old = c.nodes.weights in
    let new = c.next_same.new.self in
    let inv = c.nodes.invariant in
    let e = c.in-Some.ensures in
    let same = c.in-Some.same in
    let alike = subst (λ t. AreSame t.now (sums_left old.users) (sums_left new.users) (map low_32 (numbers_left old.keys_vals)) (map low_32 (numbers_left new.keys_vals)) same.count same.weight) inv.table e.same in
    record {
      few = omega (arith, e.few.1);
      light = omega (arith, e.few.2, inv.light);
      table = e.table ∙ inv.table;
      weighed = same_weighed table (sums_left dense.info.users) (sums_left old.users) (sums_left new.users) (map low_32 (numbers_left dense.keys_vals)) (map low_32 (numbers_left old.keys_vals)) (map low_32 (numbers_left new.keys_vals)) c.nodes.count c.nodes.weight same.count same.weight inv.weighed alike;
    }

pub nodes-preserved : goal.nodes-preserved
nodes-preserved c =
    let dense = c.args.self.now in
    let table = dense.table.now in
    let old = c.next_same.new.self in
    let new = c.next-next.new.self in
    let inv = c.nodes.invariant in
    let same : old ≡ c.nodes.weights = c.in_default.ensures.kept refl in
    let tables = ap (λ (w : Weights). w.table) same ∙ inv.table in
    let weighed = subst (λ (w : Weights). AreWeighed table (sums_left dense.info.users) (map low_32 (numbers_left dense.keys_vals)) (sums_left w.users) (map low_32 (numbers_left w.keys_vals)) c.nodes.count c.nodes.weight) (sym same) inv.weighed in
    let e = c.next-next.ensures in
    let users = sums_left old.users in
    let runs = map low_32 (numbers_left old.keys_vals) in
    let one = c.next-next.result in
    let fits = c.if-next-most_weight.false in
    let is : one ≡ first_weight table users runs = omega (arith, e.weight, ap (λ t. first_weight t.now users runs) tables, fits, c.min-most_weight.ensures) in
    record {
      few = omega (arith, c.nodes-test.true);
      light = omega (arith, fits, inv.light);
      table = e.table ∙ tables;
      weighed = one_weighed table (sums_left dense.info.users) users (sums_left new.users) (map low_32 (numbers_left dense.keys_vals)) runs (map low_32 (numbers_left new.keys_vals)) c.nodes.count c.nodes.weight one weighed is e.users e.tags;
    }

pub returns-after-nodes-clause-weight : goal.returns-after-nodes-clause-weight
returns-after-nodes-clause-weight c =
    let inv = c.nodes.invariant in
    nodes_weighed c.args.self.now (sums_left c.nodes.weights.users) (map low_32 (numbers_left c.nodes.weights.keys_vals)) c.nodes.count c.nodes.weight (omega (arith, inv.few, c.requires)) inv.weighed

pub returns-then-next-most_weight-clause-weight : goal.returns-then-next-most_weight-clause-weight
returns-then-next-most_weight-clause-weight c =
    let inv = c.nodes.invariant in
    nodes_weighed c.args.self.now (sums_left c.nodes.weights.users) (map low_32 (numbers_left c.nodes.weights.keys_vals)) c.nodes.count c.nodes.weight (omega (arith, inv.few, c.requires)) inv.weighed
