use Rattle.std.proofs.Common.{arith, List, [], ◌∷◌, ◌++◌, refl, sym, ap, subst, length, length-append, append_assoc, ◌∙◌}
use Rattle.std.proofs.lemmas.Iterator.Adapters.{YieldsList-from_vec}
use Rattle.std.proofs.lemmas.Iterator.Consumers.{YieldsList-end, YieldsList-turn}
use Rattle.std.proofs.lemmas.List.{map-id}
use Rattle.std.specs.Result.{IsOk}
use Rattle.pbfcut.specs.Several.{AllThree, IsWriterOf}
use Rattle.pbfcut.proofs.SeveralLemmas.{all_done, pushed, three_length, three_length_first, three_more}
use Rattle.pbfcut.proofs.writing_each.load.Goals as goal

pub unreachable-requires : goal.unreachable-requires
unreachable-requires g c =
    let gives = c.into_iter-output-iterator.ensures.into_iter_gives in
    let turn = YieldsList-turn (YieldsList-from_vec {s = c.into_iter-output-iterator.result} _ gives.0 (gives.1 ∙ c.args.outputs.ok.0)) c.outputs.yielded c.outputs.output-iterator c.outputs.yielded_by c.next.result c.next.new.self c.in-Some.output c.in-Some.is c.next.ensures.steps in
    let so_far = c.outputs.invariant.writers in
    let bad : ⊥ = omega (arith, turn.0, c.requires.same, three_length_first (IsWriterOf c.args.pass.number) _ _ _ so_far.2, ap length so_far.1, length-append so_far.0 c.outputs.rest.now, c.in_default.ensures.cases) in
    bad

pub unwrap-requires : goal.unwrap-requires
unwrap-requires g c =
    let gives = c.into_iter-output-iterator.ensures.into_iter_gives in
    let turn = YieldsList-turn (YieldsList-from_vec {s = c.into_iter-output-iterator.result} _ gives.0 (gives.1 ∙ c.args.outputs.ok.0)) c.outputs.yielded c.outputs.output-iterator c.outputs.yielded_by c.next.result c.next.new.self c.in-Some.output c.in-Some.is c.next.ensures.steps in
    c.push.ensures.succeeds (omega (arith, c.outputs.invariant.room, turn.0, three_length (IsWriterOf c.args.pass.number) _ _ _ c.outputs.invariant.writers.2, c.outputs.writers.ok.0))

pub returns : goal.returns
returns g c =
    let gives = c.into_iter-output-iterator.ensures.into_iter_gives in
    let end = YieldsList-end (YieldsList-from_vec {s = c.into_iter-output-iterator.result} _ gives.0 (gives.1 ∙ c.args.outputs.ok.0)) c.outputs.yielded c.outputs.output-iterator c.outputs.yielded_by c.next.result c.next.new.self c.in-None.is c.next.ensures.steps in
    let so_far = c.outputs.invariant.writers in
    all_done (IsWriterOf c.args.pass.number) so_far.0 c.outputs.rest.now c.args.choices.now c.outputs.yielded c.args.outputs.items c.outputs.writers.items (sym (map-id c.outputs.yielded) ∙ end.0) so_far.1 c.requires.same so_far.2

pub outputs-preserved : goal.outputs-preserved
outputs-preserved g c =
    let gives = c.into_iter-output-iterator.ensures.into_iter_gives in
    let turn = YieldsList-turn (YieldsList-from_vec {s = c.into_iter-output-iterator.result} _ gives.0 (gives.1 ∙ c.args.outputs.ok.0)) c.outputs.yielded c.outputs.output-iterator c.outputs.yielded_by c.next.result c.next.new.self c.in-Some.output c.in-Some.is c.next.ensures.steps in
    let so_far = c.outputs.invariant.writers in
    let ok : IsOk c.push.result = c.push.ensures.succeeds (omega (arith, c.outputs.invariant.room, turn.0, three_length (IsWriterOf c.args.pass.number) _ _ _ so_far.2, c.outputs.writers.ok.0)) in
    let choice = c.in-Some-split_first.choice.now in
    record {
      writers = (
        so_far.0 ++ choice ∷ [],
        append_assoc so_far.0 (choice ∷ []) c.in-Some-split_first.later.now ∙ ap (λ l. so_far.0 ++ l) (sym c.in-Some-split_first.ensures.cases.0) ∙ so_far.1,
        subst (λ l. AllThree (IsWriterOf c.args.pass.number) (so_far.0 ++ choice ∷ []) (c.outputs.yielded ++ c.in-Some.output ∷ []) l) (sym (c.push.ensures.items ∙ pushed c.push.result _ _ ok)) (three_more (IsWriterOf c.args.pass.number) so_far.0 c.outputs.yielded c.outputs.writers.items choice c.in-Some.output c.new.result so_far.2 c.new.ensures),
      );
      room = omega (arith, c.outputs.invariant.room, c.push.ensures.capacity);
    }
