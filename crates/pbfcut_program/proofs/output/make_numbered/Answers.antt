use Rattle.std.proofs.Common.{[], ◌∷◌, ◌++◌, ◌∙◌, inl, inr, sym}
use Rattle.pbfcut_program.specs.Events.{not_made}
use Rattle.pbfcut_program.specs.Files.{Misses}
use Rattle.pbfcut_program.proofs.EventLemmas.{each_both, has_after}
use Rattle.pbfcut_program.proofs.Logging.{and_then}
use Rattle.pbfcut_program.proofs.output.make_numbered.Goals as goal
use Rattle.pbfcut_program.proofs.output.make_numbered.Goals.{in-Ok-None, in-Err-Exists}

pub returns-in-Err : goal.returns-in-Err
returns-in-Err g c =
    let before = c.numbers.invariant in
    let failed = c.in-Err.ensures.failed in
    let e = not_made failed.0 c.in-Err.fault in
    record { ok = tt; err = (before.0 ++ e ∷ [], and_then (g.H.Host.log c.args.host.now) _ _ before.0 (e ∷ []) before.1 failed.1, each_both Misses before.0 (e ∷ []) before.2 (tt, tt), inr (has_after _ before.0 (e ∷ []) (inl tt))) }

pub numbers-preserved : goal.numbers-preserved
numbers-preserved g c =
    let before = c.numbers.invariant in
    elim c.match-make_part.branch [
      | in-Ok-None w ↦ (before.0, w.in-Ok-None.ensures.own w.in-Ok-None.field-0-is ∙ before.1, before.2, λ t. before.3 (sym w.tried-is ∙ t))
      | in-Err-Exists w ↦
          let failed = w.in-Err-Exists.ensures.failed in
          let e = not_made failed.0 w.in-Err-Exists.field-0 in
          (before.0 ++ e ∷ [], and_then (g.H.Host.log c.args.host.now) _ _ before.0 (e ∷ []) before.1 failed.1, each_both Misses before.0 (e ∷ []) before.2 (tt, tt), λ t. has_after _ before.0 (e ∷ []) (inl tt))
    ]
