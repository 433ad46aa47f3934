use Rattle.std.proofs.Common.{[], ◌∷◌, ◌++◌, List, inl, inr, refl}
use Rattle.std.proofs.lemmas.Result.{IfErr-weaker, err_from_is_err_and, on_ok_weaker}
use Rattle.pbfcut_program.specs.declared.host.Screen.TheVariants.{Output}
use Rattle.pbfcut_program.specs.Program.{RunsCheck}
use Rattle.pbfcut_program.specs.Lines.{check_lines, counts_text, prints}
use Rattle.pbfcut_program.specs.Events.{Event, opened, read}
use Rattle.pbfcut_program.specs.Fails.{judging_for}
use Rattle.pbfcut_program.specs.Manner.{manner_of}
use Rattle.pbfcut.specs.Tasks.{checking}
use Rattle.pbfcut_program.proofs.FailLemmas.{print_fails, tells_err, tells_ok}
use Rattle.pbfcut_program.proofs.Logging.{and_then}
use Rattle.pbfcut_program.proofs.Printed.{still_prints}
use Rattle.pbfcut_program.proofs.SettlingLemmas.{still_then, told_still}
use Rattle.pbfcut_program.proofs.reading.run_check.Goals as goal

pub returns-clause-ok : goal.returns-clause-ok
returns-clause-ok g c =
    let log = g.H.Host.log in
    let d = c.in_ok-report.ensures.ok in
    let r = c.in_ok-report.report in
    let first : List Event = opened c.args.path.now 1 d.0 ∷ read d.1 ∷ [] in
    on_ok_weaker c.print_checked.result (λ e. (
      _,
      and_then (log c.args.host.now) _ _ first _ d.2 e,
      record { has = d.0; first = d.1; counts = r.counts; digest = r.input; raw = r.raw; happened = refl; work = d.3 },
    )) (tells_ok _ _ _ c.print_checked.result c.print_checked.ensures)

pub returns-clause-err : goal.returns-clause-err
returns-clause-err g c =
    let log = g.H.Host.log in
    let d = c.in_ok-report.ensures.ok in
    let first : List Event = opened c.args.path.now 1 d.0 ∷ read d.1 ∷ [] in
    let r = c.in_ok-report.report in
    let m = manner_of c.args.engine in
    let path = c.args.path.now in
    let lines = prints Output (counts_text r.counts ∷ check_lines m.digests r.input r.raw path) in
    let done : RunsCheck m path (first ++ lines) = record { has = d.0; first = d.1; counts = r.counts; digest = r.input; raw = r.raw; happened = refl; work = d.3 } in
    IfErr-weaker c.print_checked.result _ _ (λ how f. (let p = print_fails m (judging_for checking) how (log c.args.host.now) _ _ (RunsCheck m path) first lines d.2 done f in (p.0, p.1, p.2, inr p.3))) (tells_err _ _ _ c.print_checked.result c.print_checked.ensures)

pub returns-in_err-report-clause-err : goal.returns-in_err-report-clause-err
returns-in_err-report-clause-err g c =
    let p = err_from_is_err_and c.from_residual.result c.from_residual.ensures.1 in
    let f = c.in_err-report.ensures.err in
    rw (p.1, p.2) (f.0, f.1, f.2, inl f.3)

pub returns-clause-files : goal.returns-clause-files
returns-clause-files g c =
    let r = c.in_ok-report.report in
    still_then _ _ _ c.in_ok-report.ensures.files (told_still _ _ _ c.print_checked.result c.print_checked.ensures (still_prints Output (counts_text r.counts ∷ check_lines c.args.engine.digests r.input r.raw c.args.path.now)))
