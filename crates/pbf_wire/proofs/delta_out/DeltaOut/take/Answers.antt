use Rattle.std.proofs.Common.{◌≡◌, ◌-◌, [], ◌∷◌, ◌++◌, ap, sym, ◌∙◌, rules, w64}
use Rattle.std.proofs.lemmas.Int.{to_z-of_z}
use mir.Val.{SFits}
use Rattle.pbf_wire.specs.Cursors.{sums_left}
use Rattle.pbf_wire.proofs.TakingLemmas.{more_moved, one_moved, all_moved}
use Rattle.pbf_wire.proofs.delta_out.DeltaOut.take.Goals as goal

pub values-preserved : goal.values-preserved
values-preserved c =
    let value = c.in-Some.value in
    let fits : SFits w64 value = search rules in
    one_moved (sums_left c.args.values.now) c.args.self.now c.values.self (sums_left c.values.values) c.push.new.self (sums_left c.next.new.self) value c.args.count c.values.run.left c.values.invariant c.values-test.true c.in-Some.ensures.steps (c.in_ok-push.ensures.ok ∙ ap (λ v. c.values.self ++ v ∷ []) (to_z-of_z w64 value fits))

pub values-preserved-then-run-eq0 : goal.values-preserved-then-run-eq0
values-preserved-then-run-eq0 c =
    let all = sums_left c.args.values.now in
    let value = c.in-Some.value in
    let fits : SFits w64 value = search rules in
    let one = one_moved all c.args.self.now c.values.self (sums_left c.values.values) c.push.new.self (sums_left c.next.new.self) value c.args.count c.values.run.left c.values.invariant c.values-test.true c.in-Some.ensures.steps (c.in_ok-push.ensures.ok ∙ ap (λ v. c.values.self ++ v ∷ []) (to_z-of_z w64 value fits)) in
    let e = c.in_ok-run.ensures in
    more_moved all c.args.self.now c.push.new.self (sums_left c.next.new.self) c.take_spelled.new.self (sums_left c.take_spelled.new.values) c.args.count (c.values.run.left - 1) c.in_ok-run.run'.left one e.few e.taken e.rest

pub returns-in_default-clause-taken : goal.returns-in_default-clause-taken
returns-in_default-clause-taken c =
    (all_moved (sums_left c.args.values.now) c.args.self.now c.values.self (sums_left c.values.values) c.args.count c.values.run.left c.values.invariant (search rules)).0

pub returns-in_default-clause-rest : goal.returns-in_default-clause-rest
returns-in_default-clause-rest c =
    let none : sums_left c.values.values ≡ [] = search rules in
    let after : sums_left c.next.new.self ≡ [] = search rules in
    after ∙ sym none ∙ (all_moved (sums_left c.args.values.now) c.args.self.now c.values.self (sums_left c.values.values) c.args.count c.values.run.left c.values.invariant none).1
