use Rattle.std.proofs.Common.{◌++◌, ◌∷◌, [], IfSome, arith, length, length-append, sym, subst, ◌≡◌, ◌∙◌}
use Rattle.std.specs.List.{AllZip}
use Rattle.std.specs.Result.{IsOk}
use Rattle.std.proofs.lemmas.Iterator.Adapters.{YieldsList-from_vec}
use Rattle.std.proofs.lemmas.Iterator.Consumers.{YieldsList-end, YieldsList-turn}
use Rattle.std.proofs.lemmas.List.{map-id}
use Rattle.std.proofs.lemmas.List.Elements.{All-from_recursion}
use Rattle.pbfcut.proofs.SeveralLemmas.{pushed, zip_length}
use Rattle.pbfcut_program.specs.Devices.{IsFreshOut}
use Rattle.pbfcut_program.specs.SeveralOuts.{IsPackingOver}
use Rattle.pbfcut_program.proofs.SeveralPackLemmas.{packing_more}
use Rattle.pbfcut_program.proofs.several_packed.put_packers.Goals as goal

pub unreachable-requires : goal.unreachable-requires
unreachable-requires g c =
    let gives = c.into_iter-output-iterator.ensures.into_iter_gives in
    let turn = YieldsList-turn (YieldsList-from_vec {s = c.into_iter-output-iterator.result} _ gives.0 (gives.1 ∙ c.args.outputs.ok.0)) c.outputs.yielded c.outputs.output-iterator c.outputs.yielded_by c.next.result c.next.new.self c.in-Some.output c.in-Some.is c.next.ensures.steps in
    let bad : ⊥ = omega (arith, turn.0, c.outputs.invariant.left, c.in_default.ensures.cases.0) in
    bad

pub put_packer-requires : goal.put_packer-requires
put_packer-requires g c =
    let gives = c.into_iter-output-iterator.ensures.into_iter_gives in
    let turn = YieldsList-turn (YieldsList-from_vec {s = c.into_iter-output-iterator.result} _ gives.0 (gives.1 ∙ c.args.outputs.ok.0)) c.outputs.yielded c.outputs.output-iterator c.outputs.yielded_by c.next.result c.next.new.self c.in-Some.output c.in-Some.is c.next.ensures.steps in
    subst (λ out. IfSome (g.D.Drain.taken out.drain) (λ taken. taken ≡ [])) (sym turn.1) (All-from_recursion (λ out. IsFreshOut g.D.Drain out.drain) c.args.outputs.items c.requires.fresh (length c.outputs.yielded) c.in-Some.output turn.0).1

pub unwrap-requires : goal.unwrap-requires
unwrap-requires g c =
    let gives = c.into_iter-output-iterator.ensures.into_iter_gives in
    let turn = YieldsList-turn (YieldsList-from_vec {s = c.into_iter-output-iterator.result} _ gives.0 (gives.1 ∙ c.args.outputs.ok.0)) c.outputs.yielded c.outputs.output-iterator c.outputs.yielded_by c.next.result c.next.new.self c.in-Some.output c.in-Some.is c.next.ensures.steps in
    c.push.ensures.succeeds (omega (arith, c.outputs.invariant.room, turn.0, zip_length IsPackingOver _ _ c.outputs.invariant.packing, c.outputs.packing.ok.0))

pub outputs-preserved : goal.outputs-preserved
outputs-preserved g c =
    let gives = c.into_iter-output-iterator.ensures.into_iter_gives in
    let turn = YieldsList-turn (YieldsList-from_vec {s = c.into_iter-output-iterator.result} _ gives.0 (gives.1 ∙ c.args.outputs.ok.0)) c.outputs.yielded c.outputs.output-iterator c.outputs.yielded_by c.next.result c.next.new.self c.in-Some.output c.in-Some.is c.next.ensures.steps in
    let ok : IsOk c.push.result = c.push.ensures.succeeds (omega (arith, c.outputs.invariant.room, turn.0, zip_length IsPackingOver _ _ c.outputs.invariant.packing, c.outputs.packing.ok.0)) in
    record {
      packing = subst (λ l. AllZip IsPackingOver (c.outputs.yielded ++ c.in-Some.output ∷ []) l) (sym (c.push.ensures.items ∙ pushed c.push.result _ _ ok)) (packing_more c.outputs.yielded c.outputs.packing.items c.in-Some.output c.put_packer.result c.outputs.invariant.packing c.put_packer.ensures);
      room = omega (arith, c.outputs.invariant.room, c.push.ensures.capacity);
      left = omega (arith, c.outputs.invariant.left, c.in-Some-pop.ensures.cases, length-append c.outputs.yielded (c.in-Some.output ∷ []));
    }

pub returns : goal.returns
returns g c =
    let gives = c.into_iter-output-iterator.ensures.into_iter_gives in
    let end = YieldsList-end (YieldsList-from_vec {s = c.into_iter-output-iterator.result} _ gives.0 (gives.1 ∙ c.args.outputs.ok.0)) c.outputs.yielded c.outputs.output-iterator c.outputs.yielded_by c.next.result c.next.new.self c.in-None.is c.next.ensures.steps in
    subst (λ l. AllZip IsPackingOver l c.outputs.packing.items) (sym (map-id c.outputs.yielded) ∙ end.0) c.outputs.invariant.packing
