use Rattle.std.proofs.Common.{true, ◌+◌, ℤ, List, drop, arith, rules, sym, ap, ◌∙◌, subst}
use Rattle.std.proofs.lemmas.Int.{to_z-of_z}
use mir.Syntax.{w64}
use mir.Val.{SFits, to_z, of_z}
use Rattle.pbf_wire.specs.Cursors.{sums_left}
use Rattle.pbf_dense.specs.Cursors.{dense_left}
use Rattle.pbf_dense.specs.Places.{BeginWithIds}
use Rattle.pbfcut.specs.declared.picker.Picker.{Picker}
use Rattle.pbfcut.specs.Pick.{picks_id}
use Rattle.pbfcut.proofs.ManyLemmas.{each_picked_id}
use Rattle.pbfcut.proofs.NodeLemmas.{AreInside, one_more, more_inside}
use Rattle.pbfcut.proofs.pick_nodes.picked_run.Goals as goal

pub returns-then-picks_all-clause-picked : goal.returns-then-picks_all-clause-picked
returns-then-picks_all-clause-picked c = each_picked_id c.args.picker.now c.args.most (dense_left c.args.dense.now) (c.picks_all.ensures c.if-picks_all.true)

pub ids-preserved : goal.ids-preserved
ids-preserved c =
    let so_far = c.ids.invariant in
    let picker = c.args.picker.now in
    let id = c.in-Some.id in
    let fits : SFits w64 id = search rules in
    let is = ap (λ (z : ℤ). picks_id picker z) (sym (to_z-of_z w64 id fits)) ∙ (ap (λ (p : Picker). picks_id p (to_z w64 (of_z w64 id))) (sym so_far.picker) ∙ (sym c.picks_id.ensures.picked ∙ c.if-not-picks_id.false)) in
    let begin = subst (λ (l : List ℤ). BeginWithIds l (drop c.ids.run (dense_left c.args.dense.now))) c.in-Some.ensures.steps so_far.ids_are in
    let more = one_more picker true id (sums_left c.next.new.self) c.ids.run (dense_left c.args.dense.now) is begin so_far.picked in
    record { picker = c.picks_id.ensures.same ∙ so_far.picker; few = omega (arith, so_far.few, c.ids-test.true); ids_are = more.1; picked = more.0 }

-- and those after it whose ids are known to be there
pub ids-preserved-then-has : goal.ids-preserved-then-has
ids-preserved-then-has c =
    let so_far = c.ids.invariant in
    let picker = c.args.picker.now in
    let id = c.in-Some.id in
    let nodes = dense_left c.args.dense.now in
    let fits : SFits w64 id = search rules in
    let is = ap (λ (z : ℤ). picks_id picker z) (sym (to_z-of_z w64 id fits)) ∙ (ap (λ (p : Picker). picks_id p (to_z w64 (of_z w64 id))) (sym so_far.picker) ∙ (sym c.picks_id.ensures.picked ∙ c.if-not-picks_id.false)) in
    let begin = subst (λ (l : List ℤ). BeginWithIds l (drop c.ids.run nodes)) c.in-Some.ensures.steps so_far.ids_are in
    let one = one_more picker true id (sums_left c.next.new.self) c.ids.run nodes is begin so_far.picked in
    let there = subst (λ (p : Picker). AreInside p true c.present-span.result) (c.picks_id.ensures.same ∙ so_far.picker) c.present-span.ensures in
    let past = c.pass_inside-run.ensures.past in
    let more = more_inside picker true (c.ids.run + 1) c.pass_inside-run.result (sums_left c.next.new.self) nodes c.present-span.result there past.alike one.1 one.0 in
    record {
      picker = c.picks_id.ensures.same ∙ so_far.picker;
      few = omega (arith, so_far.few, c.ids-test.true, c.pass_inside-run.ensures.fewer);
      ids_are = subst (λ (l : List ℤ). BeginWithIds l (drop (c.ids.run + 1 + c.pass_inside-run.result) nodes)) (sym past.passed) more.1;
      picked = more.0;
    }
