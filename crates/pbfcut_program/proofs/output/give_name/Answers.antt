use Rattle.std.proofs.Common.{[], ◌∷◌, ◌++◌, inl, inr, refl}
use Rattle.std.proofs.lemmas.Result.{IfErr-weaker, on_ok_weaker}
use Rattle.pbfcut_program.specs.Events.{not_named, renamed}
use Rattle.pbfcut_program.specs.Files.{Misnames}
use Rattle.pbfcut_program.proofs.EventLemmas.{each_both}
use Rattle.pbfcut_program.proofs.Logging.{and_then}
use Rattle.pbfcut_program.proofs.OutLemmas.{fails_late, fails_named}
use Rattle.pbfcut_program.proofs.output.give_name.Goals as goal

pub returns-then-may_replace-clause-ok : goal.returns-then-may_replace-clause-ok
returns-then-may_replace-clause-ok g c =
    on_ok_weaker c.replace.result (λ is. ([], renamed c.args.name.now c.args.place.path.now ∷ [], is, tt, inr (inr (c.may_replace.ensures c.if-may_replace.true, refl)))) c.replace.ensures.ok

pub returns-then-may_replace-clause-err : goal.returns-then-may_replace-clause-err
returns-then-may_replace-clause-err g c =
    let name = c.args.name.now in
    let path = c.args.place.path.now in
    IfErr-weaker c.replace.result _ _ (λ fault is. (not_named name path fault ∷ [], is, (tt, tt), inl (fails_named name path fault))) c.replace.ensures.err

pub returns-in-Err-Exists-clause-ok : goal.returns-in-Err-Exists-clause-ok
returns-in-Err-Exists-clause-ok g c =
    let log = g.H.Host.log in
    let first = c.in-Err-Exists.ensures.err in
    let late = renamed c.args.name.now c.args.place.path.now in
    on_ok_weaker c.replace_late.result (λ is. (first.0, late ∷ [], and_then (log c.args.host.now) _ _ first.0 (late ∷ []) first.1 is.1, first.2, inr (inr (is.0, refl)))) c.replace_late.ensures.ok

pub returns-in-Err-Exists-clause-err : goal.returns-in-Err-Exists-clause-err
returns-in-Err-Exists-clause-err g c =
    let log = g.H.Host.log in
    let first = c.in-Err-Exists.ensures.err in
    IfErr-weaker c.replace_late.result _ _ (λ fault is. (first.0 ++ is.0, and_then (log c.args.host.now) _ _ first.0 is.0 first.1 is.1, each_both Misnames first.0 is.0 first.2 is.2, fails_late first.0 is.0 c.in-Err-Exists.field-0 fault c.in-Err-Exists.field-0-is first.3 is.3)) c.replace_late.ensures.err
