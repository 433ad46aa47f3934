use Rattle.std.proofs.Common.{arith, sym, subst, ◌∙◌}
use Rattle.std.specs.List.{AllZip}
use Rattle.std.proofs.lemmas.Iterator.Adapters.{YieldsList-from_vec}
use Rattle.std.proofs.lemmas.Iterator.Consumers.{YieldsList-end, YieldsList-turn}
use Rattle.std.proofs.lemmas.List.{map-id}
use Rattle.pbfcut.proofs.SeveralLemmas.{zip_length}
use Rattle.pbfcut_program.specs.SeveralOuts.{IsUnhashed}
use Rattle.pbfcut_program.proofs.several_outs.take_hashers.Goals as goal

pub unwrap-requires : goal.unwrap-requires
unwrap-requires g c =
    let gives = c.into_iter-output-iterator.ensures.into_iter_gives in
    let turn = YieldsList-turn (YieldsList-from_vec {s = c.into_iter-output-iterator.result} _ gives.0 (gives.1 ∙ c.args.hashing.ok.0)) c.hashing.yielded c.hashing.output-iterator c.hashing.yielded_by c.next.result c.next.new.self c.in-Some.output c.in-Some.is c.next.ensures.steps in
    c.push.ensures.succeeds (omega (arith, c.hashing.invariant.room, turn.0, zip_length IsUnhashed _ _ c.hashing.invariant.outputs, c.hashing.outputs.ok.0))

pub returns : goal.returns
returns g c =
    let gives = c.into_iter-output-iterator.ensures.into_iter_gives in
    let end = YieldsList-end (YieldsList-from_vec {s = c.into_iter-output-iterator.result} _ gives.0 (gives.1 ∙ c.args.hashing.ok.0)) c.hashing.yielded c.hashing.output-iterator c.hashing.yielded_by c.next.result c.next.new.self c.in-None.is c.next.ensures.steps in
    subst (λ l. AllZip IsUnhashed l c.hashing.outputs.items) (sym (map-id c.hashing.yielded) ∙ end.0) c.hashing.invariant.outputs
