use Rattle.std.proofs.Common.{[], ◌∷◌, ◌++◌, inl, inr, subst, sym}
use Rattle.pbfcut_program.specs.Events.{not_synced}
use Rattle.pbfcut_program.specs.Fails.{FailsToFinish, Has}
use Rattle.pbfcut_program.proofs.EventLemmas.{has_after, has_before}
use Rattle.pbfcut_program.proofs.Logging.{and_then}
use Rattle.pbfcut_program.proofs.OutLemmas.{drops_after, kept_unsynced}
use Rattle.pbfcut_program.proofs.output.name_part.Goals as goal

pub returns-in-Err-sync_name : goal.returns-in-Err-sync_name
returns-in-Err-sync_name g c =
    let n = c.in-Ok.ensures.ok in
    let path = c.args.place.path.now in
    let late = not_synced path in
    ((n.0 ++ n.1) ++ late ∷ [], and_then (g.H.Host.log c.args.host.now) _ _ (n.0 ++ n.1) (late ∷ []) n.2 c.in-Err-sync_name.ensures.failed, (has_after _ (n.0 ++ n.1) (late ∷ []) (inl tt), inr (kept_unsynced c.args.place.overwrite path c.args.name.now n.0 n.1 n.3 n.4)))

pub returns-in-Err : goal.returns-in-Err
returns-in-Err g c =
    let e = c.in-Err.ensures.err in
    let gone = c.forget.ensures in
    (e.0 ++ gone.0, and_then (g.H.Host.log c.args.host.now) _ _ e.0 gone.0 e.1 gone.1, (subst (λ f. Has (FailsToFinish f) (e.0 ++ gone.0)) (sym c.finish_fault_of.ensures) (has_before _ e.0 gone.0 e.3), inl (drops_after c.args.name.now e.0 gone.0 e.2 gone.2)))
