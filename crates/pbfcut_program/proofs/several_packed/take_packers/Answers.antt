use Rattle.std.proofs.Common.{◌++◌, ◌∷◌, [], arith, sym, subst, ◌∙◌}
use Rattle.std.specs.Result.{IsOk}
use Rattle.std.proofs.lemmas.Iterator.Adapters.{YieldsList-from_vec}
use Rattle.std.proofs.lemmas.Iterator.Consumers.{YieldsList-end, YieldsList-turn}
use Rattle.std.proofs.lemmas.List.{map-id}
use Rattle.pbfcut.proofs.SeveralLemmas.{pushed, zip_length}
use Rattle.pbfcut_program.specs.SeveralOuts.{AreUnpacked}
use Rattle.pbfcut_program.proofs.SeveralPackLemmas.{unpacked_length, unpacked_more}
use Rattle.pbfcut_program.proofs.several_packed.take_packers.Goals as goal

pub unwrap-requires : goal.unwrap-requires
unwrap-requires g c =
    let gives = c.into_iter-over-iterator.ensures.into_iter_gives in
    let turn = YieldsList-turn (YieldsList-from_vec {s = c.into_iter-over-iterator.result} _ gives.0 (gives.1 ∙ c.args.packing.ok.0)) c.packing.yielded c.packing.over-iterator c.packing.yielded_by c.next.result c.next.new.self c.in-Some.over c.in-Some.is c.next.ensures.steps in
    c.push.ensures.succeeds (omega (arith, c.packing.invariant.room, turn.0, zip_length _ _ _ (unpacked_length _ _ _ _ c.packing.invariant.outputs), c.packing.outputs.ok.0))

pub packing-preserved : goal.packing-preserved
packing-preserved g c =
    let gives = c.into_iter-over-iterator.ensures.into_iter_gives in
    let turn = YieldsList-turn (YieldsList-from_vec {s = c.into_iter-over-iterator.result} _ gives.0 (gives.1 ∙ c.args.packing.ok.0)) c.packing.yielded c.packing.over-iterator c.packing.yielded_by c.next.result c.next.new.self c.in-Some.over c.in-Some.is c.next.ensures.steps in
    let ok : IsOk c.push.result = c.push.ensures.succeeds (omega (arith, c.packing.invariant.room, turn.0, zip_length _ _ _ (unpacked_length _ _ _ _ c.packing.invariant.outputs), c.packing.outputs.ok.0)) in
    let taken = c.take_packer-output.result in
    record {
      outputs = subst (λ l. AreUnpacked (c.packing.yielded ++ c.in-Some.over ∷ []) c.args.returned taken.1 l) (sym (c.push.ensures.items ∙ pushed c.push.result _ _ ok)) (unpacked_more c.packing.yielded c.packing.outputs.items c.in-Some.over taken.0 c.args.returned c.packing.result taken.1 c.packing.invariant.outputs c.take_packer-output.ensures);
      room = omega (arith, c.packing.invariant.room, c.push.ensures.capacity);
    }

pub returns : goal.returns
returns g c =
    let gives = c.into_iter-over-iterator.ensures.into_iter_gives in
    let end = YieldsList-end (YieldsList-from_vec {s = c.into_iter-over-iterator.result} _ gives.0 (gives.1 ∙ c.args.packing.ok.0)) c.packing.yielded c.packing.over-iterator c.packing.yielded_by c.next.result c.next.new.self c.in-None.is c.next.ensures.steps in
    subst (λ l. AreUnpacked l c.args.returned c.packing.result c.packing.outputs.items) (sym (map-id c.packing.yielded) ∙ end.0) c.packing.invariant.outputs
