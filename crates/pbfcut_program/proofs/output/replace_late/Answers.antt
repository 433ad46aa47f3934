use Rattle.std.proofs.Common.{[], ◌∷◌, inl, inr}
use Rattle.std.proofs.lemmas.Result.{IfErr-weaker}
use Rattle.pbfcut_program.specs.Events.{not_named}
use Rattle.pbfcut_program.proofs.OutLemmas.{fails_named}
use Rattle.pbfcut_program.proofs.output.replace_late.Goals as goal

pub returns-then-may_replace-clause-err : goal.returns-then-may_replace-clause-err
returns-then-may_replace-clause-err g c =
    let name = c.args.name.now in
    let path = c.args.place.path.now in
    IfErr-weaker c.replace.result _ _ (λ fault is. (not_named name path fault ∷ [], is, (tt, tt), inr (inl (fails_named name path fault)))) c.replace.ensures.err
