use Rattle.std.proofs.Common.{arith, sym, subst, ◌∙◌}
use Rattle.std.specs.List.{AllZip}
use Rattle.std.proofs.lemmas.Iterator.Adapters.{YieldsList-from_vec}
use Rattle.std.proofs.lemmas.Iterator.Consumers.{YieldsList-end, YieldsList-turn}
use Rattle.std.proofs.lemmas.List.{map-id}
use Rattle.pbfcut.proofs.SeveralLemmas.{zip_length}
use Rattle.pbfcut_program.specs.SeveralOuts.{IsHashing}
use Rattle.pbfcut_program.proofs.several_outs.put_hashers.Goals as goal

pub unwrap-requires : goal.unwrap-requires
unwrap-requires g c =
    let gives = c.into_iter-output-iterator.ensures.into_iter_gives in
    let turn = YieldsList-turn (YieldsList-from_vec {s = c.into_iter-output-iterator.result} _ gives.0 (gives.1 ∙ c.args.outputs.ok.0)) c.outputs.yielded c.outputs.output-iterator c.outputs.yielded_by c.next.result c.next.new.self c.in-Some.output c.in-Some.is c.next.ensures.steps in
    c.push.ensures.succeeds (omega (arith, c.outputs.invariant.room, turn.0, zip_length IsHashing _ _ c.outputs.invariant.hashing, c.outputs.hashing.ok.0))

pub returns : goal.returns
returns g c =
    let gives = c.into_iter-output-iterator.ensures.into_iter_gives in
    let end = YieldsList-end (YieldsList-from_vec {s = c.into_iter-output-iterator.result} _ gives.0 (gives.1 ∙ c.args.outputs.ok.0)) c.outputs.yielded c.outputs.output-iterator c.outputs.yielded_by c.next.result c.next.new.self c.in-None.is c.next.ensures.steps in
    subst (λ l. AllZip IsHashing l c.outputs.hashing.items) (sym (map-id c.outputs.yielded) ∙ end.0) c.outputs.invariant.hashing
