use Rattle.std.proofs.Common.{[], ◌∷◌, inl, inr, refl}
use Rattle.std.proofs.lemmas.Result.{IfErr-weaker, on_ok_weaker}
use Rattle.pbfcut_program.specs.Events.{linked, moved, not_named}
use Rattle.pbfcut_program.specs.declared.host.NameFault.TheVariants as naming
use Rattle.pbfcut_program.proofs.Logging.{and_then}
use Rattle.pbfcut_program.proofs.OutLemmas.{fails_named}
use Rattle.pbfcut_program.proofs.output.name_new.Goals as goal

pub returns-in-Ok-clause-ok : goal.returns-in-Ok-clause-ok
returns-in-Ok-clause-ok g c =
    let gone = c.remove.ensures in
    let name = c.args.name.now in
    let path = c.args.path.now in
    ([], linked name path ∷ gone.0 ∷ [], and_then (g.H.Host.log c.args.host.now) _ _ (linked name path ∷ []) (gone.0 ∷ []) c.in-Ok.ensures.linked gone.2, tt, inl (gone.0, gone.1, refl))

pub returns-in-Err-Exists-clause-err : goal.returns-in-Err-Exists-clause-err
returns-in-Err-Exists-clause-err g c =
    let failed = rw c.in-Err-Exists.field-0-is at c.in-Err-Exists.ensures.failed in
    (not_named c.args.name.now c.args.path.now naming.Exists ∷ [], failed, (tt, tt), inl tt)

pub returns-in-Err-Failed-clause-ok : goal.returns-in-Err-Failed-clause-ok
returns-in-Err-Failed-clause-ok g c =
    let name = c.args.name.now in
    let path = c.args.path.now in
    let first = not_named name path naming.Failed in
    let failed = rw c.in-Err-Failed.field-0-is at c.in-Err-Failed.ensures.failed in
    on_ok_weaker c.move_new.result (λ is. (first ∷ [], moved name path ∷ [], and_then (g.H.Host.log c.args.host.now) _ _ (first ∷ []) (moved name path ∷ []) failed is, (tt, tt), inr (inl refl))) c.move_new.ensures.moved

pub returns-in-Err-Failed-clause-err : goal.returns-in-Err-Failed-clause-err
returns-in-Err-Failed-clause-err g c =
    let name = c.args.name.now in
    let path = c.args.path.now in
    let first = not_named name path naming.Failed in
    let failed = rw c.in-Err-Failed.field-0-is at c.in-Err-Failed.ensures.failed in
    IfErr-weaker c.move_new.result _ _ (λ fault is. (first ∷ not_named name path fault ∷ [], and_then (g.H.Host.log c.args.host.now) _ _ (first ∷ []) (not_named name path fault ∷ []) failed is, (tt, (tt, tt)), inr (inl (fails_named name path fault)))) c.move_new.ensures.failed
