use Rattle.std.proofs.Common.{arith, sym, subst, ◌∙◌}
use Rattle.std.specs.List.{AllZip}
use Rattle.std.proofs.lemmas.Iterator.Adapters.{YieldsList-from_vec}
use Rattle.std.proofs.lemmas.Iterator.Consumers.{YieldsList-end, YieldsList-turn}
use Rattle.std.proofs.lemmas.List.{map-id}
use Rattle.pbfcut.specs.Several.{IsOutputOf}
use Rattle.pbfcut.proofs.SeveralLemmas.{zip_length}
use Rattle.pbfcut.proofs.writing_each.unload.Goals as goal

pub unwrap-requires : goal.unwrap-requires
unwrap-requires g c =
    let gives = c.into_iter-writer-iterator.ensures.into_iter_gives in
    let turn = YieldsList-turn (YieldsList-from_vec {s = c.into_iter-writer-iterator.result} _ gives.0 (gives.1 ∙ c.args.writers.ok.0)) c.writers.yielded c.writers.writer-iterator c.writers.yielded_by c.next.result c.next.new.self c.in-Some.writer c.in-Some.is c.next.ensures.steps in
    c.push.ensures.succeeds (omega (arith, c.writers.invariant.room, turn.0, zip_length IsOutputOf _ _ c.writers.invariant.outputs, c.writers.outputs.ok.0))

pub returns : goal.returns
returns g c =
    let gives = c.into_iter-writer-iterator.ensures.into_iter_gives in
    let end = YieldsList-end (YieldsList-from_vec {s = c.into_iter-writer-iterator.result} _ gives.0 (gives.1 ∙ c.args.writers.ok.0)) c.writers.yielded c.writers.writer-iterator c.writers.yielded_by c.next.result c.next.new.self c.in-None.is c.next.ensures.steps in
    subst (λ l. AllZip IsOutputOf l c.writers.outputs.items) (sym (map-id c.writers.yielded) ∙ end.0) c.writers.invariant.outputs
