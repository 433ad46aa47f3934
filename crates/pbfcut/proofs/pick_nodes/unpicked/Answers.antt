use Rattle.std.proofs.Common.{false, ◌+◌, ℤ, List, drop, take, arith, rules, sym, ap, ◌∙◌, subst}
use Rattle.std.proofs.lemmas.Int.{to_z-of_z}
use mir.Syntax.{w64}
use mir.Val.{SFits, to_z, of_z}
use Rattle.pbf_wire.specs.Cursors.{sums_left}
use Rattle.pbf_dense.specs.Cursors.{dense_left}
use Rattle.pbf_dense.specs.Places.{BeginWithIds}
use Rattle.pbf_dense.proofs.PlaceLemmas.{passed_ids, read_id}
use Rattle.pbfcut.specs.declared.picker.Picker.{Picker}
use Rattle.pbfcut.specs.Pick.{picks_id}
use Rattle.pbfcut.proofs.NodeLemmas.{AreInside, one_more, more_inside, none_more, none_picked_of, fewer_left}
use Rattle.pbfcut.proofs.pick_nodes.unpicked.Goals as goal

pub ids-smaller : goal.ids-smaller
ids-smaller c =
    fewer_left (sums_left c.ids.ids) (sums_left c.next.new.self) c.in-Some.id c.pass_inside-count.result (sym c.pass_inside-count.ensures.past.passed ∙ c.in-Some.ensures.steps)

pub ids-preserved : goal.ids-preserved
ids-preserved c =
    let so_far = c.ids.invariant in
    let nodes = dense_left c.args.dense.now in
    let picker = c.args.picker.now in
    let id = c.in-Some.id in
    let m = c.pass_inside-count.result in
    let fits : SFits w64 id = search rules in
    let absent = subst (λ (p : Picker). AreInside p false c.absent.result) so_far.picker c.absent.ensures in
    let inside = more_inside picker false c.ids.count m (sums_left c.ids.ids) nodes c.absent.result absent c.pass_inside-count.ensures.past.alike so_far.ids_are so_far.none in
    let turn = sym c.pass_inside-count.ensures.past.passed ∙ c.in-Some.ensures.steps in
    let begin = subst (λ (l : List ℤ). BeginWithIds l (drop (c.ids.count + m) nodes)) turn inside.1 in
    let not_picked = ap (λ (z : ℤ). picks_id picker z) (sym (to_z-of_z w64 id fits)) ∙ (ap (λ (p : Picker). picks_id p (to_z w64 (of_z w64 id))) (sym so_far.picker) ∙ sym c.picks_id.ensures.picked ∙ c.if-picks_id.false) in
    let more = one_more picker false id (sums_left c.next.new.self) (c.ids.count + m) nodes not_picked begin inside.0 in
    record {
      picker = c.picks_id.ensures.same ∙ so_far.picker;
      few = omega (arith, so_far.few, c.pass_inside-count.ensures.fewer, c.if-count-eq-MOST_PASSED.false);
      ids_are = more.1;
      after = read_id c.args.dense.now c.pass_inside-count.new.self c.next.new.self (c.ids.count + m) id (passed_ids c.args.dense.now c.ids.ids c.pass_inside-count.new.self c.ids.count m so_far.after c.pass_inside-count.ensures.past.passed) c.in-Some.ensures.steps;
      none = more.0;
    }

pub returns-in_default-clause-none : goal.returns-in_default-clause-none
returns-in_default-clause-none c =
    let so_far = c.ids.invariant in
    let nodes = dense_left c.args.dense.now in
    let picker = c.args.picker.now in
    let m = c.pass_inside-count.result in
    let absent = subst (λ (p : Picker). AreInside p false c.absent.result) so_far.picker c.absent.ensures in
    let inside = more_inside picker false c.ids.count m (sums_left c.ids.ids) nodes c.absent.result absent c.pass_inside-count.ensures.past.alike so_far.ids_are so_far.none in
    none_more picker (c.ids.count + m) (drop m (sums_left c.ids.ids)) nodes (sym c.pass_inside-count.ensures.past.passed ∙ c.in_default.ensures.steps.0) inside.1 inside.0

pub returns-then-count-eq-MOST_PASSED-clause-none : goal.returns-then-count-eq-MOST_PASSED-clause-none
returns-then-count-eq-MOST_PASSED-clause-none c =
    let so_far = c.ids.invariant in
    let absent = subst (λ (p : Picker). AreInside p false c.absent.result) so_far.picker c.absent.ensures in
    let inside = more_inside c.args.picker.now false c.ids.count c.pass_inside-count.result (sums_left c.ids.ids) (dense_left c.args.dense.now) c.absent.result absent c.pass_inside-count.ensures.past.alike so_far.ids_are so_far.none in
    none_picked_of c.args.picker.now (take (c.ids.count + c.pass_inside-count.result) (dense_left c.args.dense.now)) inside.0

pub returns-then-count-eq-MOST_PASSED-clause-ahead : goal.returns-then-count-eq-MOST_PASSED-clause-ahead
returns-then-count-eq-MOST_PASSED-clause-ahead c =
    passed_ids c.args.dense.now c.ids.ids c.pass_inside-count.new.self c.ids.count c.pass_inside-count.result c.ids.invariant.after c.pass_inside-count.ensures.past.passed
