use Rattle.std.proofs.Common.{[], ◌∷◌, ◌++◌, ◌∙◌, ap, append_assoc, sym}
use Rattle.std.proofs.lemmas.Result.{IfErr-weaker, IfOk-weaker}
use Rattle.pbfcut_program.specs.Events.{made, then_all}
use Rattle.pbfcut_program.specs.Files.{Misses}
use Rattle.pbfcut_program.proofs.EventLemmas.{each_both}
use Rattle.pbfcut_program.proofs.Logging.{and_then}
use Rattle.pbfcut_program.proofs.OutLemmas.{missed_later}
use Rattle.pbfcut_program.proofs.output.make_near.Goals as goal

pub returns-in-Err-Long-clause-ok : goal.returns-in-Err-Long-clause-ok
returns-in-Err-Long-clause-ok g c =
    let before = g.H.Host.log c.args.host.now in
    let first = c.in-Err-Long.ensures.err in
    IfOk-weaker c.make_short.result _ _ (λ out is. (
      first.0 ++ is.0,
      is.1,
      and_then before _ _ first.0 (is.0 ++ made is.1 ∷ []) first.1 is.2 ∙ ap (λ es. then_all before es) (sym (append_assoc first.0 is.0 (made is.1 ∷ []))),
      each_both Misses first.0 is.0 first.2 is.3,
      is.4,
      is.5,
      is.6,
    )) c.make_short.ensures.ok

pub returns-in-Err-Long-clause-err : goal.returns-in-Err-Long-clause-err
returns-in-Err-Long-clause-err g c =
    let before = g.H.Host.log c.args.host.now in
    let first = c.in-Err-Long.ensures.err in
    IfErr-weaker c.make_short.result _ _ (λ fault is. (first.0 ++ is.0, and_then before _ _ first.0 is.0 first.1 is.1, each_both Misses first.0 is.0 first.2 is.2, missed_later first.0 is.0 fault is.3)) c.make_short.ensures.err
