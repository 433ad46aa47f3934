use Rattle.std.proofs.Common.{◌≡◌, ◌⊎◌, [], ◌∷◌, List, ap, inl, inr, rules, string_bytes, subst, None}
use Rattle.std.proofs.lemmas.Result.{IfErr-weaker, on_ok_weaker}
use Rattle.pbfcut_program.specs.declared.host.Screen.TheVariants.{Output}
use Rattle.pbfcut_program.specs.Events.{Event, printed}
use Rattle.pbfcut_program.specs.Fails.{Each, FailsFor, Quiet, printing}
use Rattle.pbfcut_program.specs.Manner.{manner_of}
use Rattle.pbfcut_program.specs.SeveralWrites.{LeavesEach, RunsExtractEach, judging_each}
use Rattle.pbfcut_program.specs.Telling.{IsSaid}
use Rattle.pbfcut_program.proofs.FailLemmas.{print_fails, tells_err, tells_ok}
use Rattle.pbfcut_program.proofs.Logging.{then_none}
use Rattle.pbfcut_program.proofs.Meaning.{does_copy, fails_copy}
use Rattle.pbfcut_program.proofs.SayingLemmas.{silent_little}
use Rattle.pbfcut_program.proofs.SettlingLemmas.{told_still}
use Rattle.pbfcut_program.proofs.program.run_command.Goals as goal

pub returns-in-Help-clause-ok : goal.returns-in-Help-clause-ok
returns-in-Help-clause-ok g c =
    let same : c.as_bytes.result.now ≡ string_bytes c.in-Help.text = search rules in
    rw c.in-Help.is (on_ok_weaker c.print_text.result (λ e. (_, e, ap (λ t. printed Output t None ∷ []) same)) (tells_ok _ _ _ c.print_text.result c.print_text.ensures))

pub returns-in-Help-clause-err : goal.returns-in-Help-clause-err
returns-in-Help-clause-err g c =
    let log = g.H.Host.log in
    let same : c.as_bytes.result.now ≡ string_bytes c.in-Help.text = search rules in
    let help : List Event → Type 0 = λ all. all ≡ printed Output (string_bytes c.in-Help.text) None ∷ [] in
    let line : List Event = printed Output c.as_bytes.result.now None ∷ [] in
    let ends : help line = ap (λ t. printed Output t None ∷ []) same in
    rw c.in-Help.is (IfErr-weaker c.print_text.result _ _ (λ how f. (let p = print_fails (manner_of c.args.engine) printing how (log c.args.host.now) _ (log c.print_text.new.host) help [] line (then_none _) ends f in (p.0, p.1, (p.2, tt, inr p.3)))) (tells_err _ _ _ c.print_text.result c.print_text.ensures))

pub returns-in-Blobs-clause-ok : goal.returns-in-Blobs-clause-ok
returns-in-Blobs-clause-ok g c = rw c.in-Blobs.is c.run_blobs.ensures.ok

pub returns-in-Blobs-clause-err : goal.returns-in-Blobs-clause-err
returns-in-Blobs-clause-err g c = rw c.in-Blobs.is (IfErr-weaker c.run_blobs.result _ _ (λ how f. (f.0, f.1, (f.2, f.3, inl (silent_little c.args.engine.digests f.0 f.4)))) c.run_blobs.ensures.err)

pub returns-in-Info-clause-ok : goal.returns-in-Info-clause-ok
returns-in-Info-clause-ok g c = rw c.in-Info.is c.run_info.ensures.ok

pub returns-in-Info-clause-err : goal.returns-in-Info-clause-err
returns-in-Info-clause-err g c = rw c.in-Info.is (IfErr-weaker c.run_info.result _ _ (λ how f. (f.0, f.1, (f.2, tt, inl (silent_little c.args.engine.digests f.0 f.3)))) c.run_info.ensures.err)

pub returns-in-Show-clause-ok : goal.returns-in-Show-clause-ok
returns-in-Show-clause-ok g c = rw c.in-Show.is c.run_show.ensures.ok

pub returns-in-Show-clause-err : goal.returns-in-Show-clause-err
returns-in-Show-clause-err g c = rw c.in-Show.is (IfErr-weaker c.run_show.result _ _ (λ how f. (f.0, f.1, (f.2, f.3, inl (silent_little c.args.engine.digests f.0 f.4)))) c.run_show.ensures.err)

pub returns-in-Check-clause-ok : goal.returns-in-Check-clause-ok
returns-in-Check-clause-ok g c = rw c.in-Check.is c.run_check.ensures.ok

pub returns-in-Check-clause-err : goal.returns-in-Check-clause-err
returns-in-Check-clause-err g c = rw c.in-Check.is (IfErr-weaker c.run_check.result _ _ (λ how f. (f.0, f.1, (f.2, tt, f.3))) c.run_check.ensures.err)

pub returns-in-Extract-clause-ok : goal.returns-in-Extract-clause-ok
returns-in-Extract-clause-ok g c = rw c.in-Extract.is c.run_extract.ensures.ok

pub returns-in-Extract-clause-err : goal.returns-in-Extract-clause-err
returns-in-Extract-clause-err g c = rw c.in-Extract.is (IfErr-weaker c.run_extract.result _ _ (λ how f. (f.0, f.1, (f.2, f.3, f.4))) c.run_extract.ensures.err)

pub returns-in-Convert-clause-ok : goal.returns-in-Convert-clause-ok
returns-in-Convert-clause-ok g c = rw c.in-Convert.is c.run_writing.ensures.ok

pub returns-in-Convert-clause-err : goal.returns-in-Convert-clause-err
returns-in-Convert-clause-err g c = rw c.in-Convert.is (IfErr-weaker c.run_writing.result _ _ (λ how f. (f.0, f.1, (f.2, f.3, f.4))) c.run_writing.ensures.err)

pub returns-in-Help-clause-files : goal.returns-in-Help-clause-files
returns-in-Help-clause-files g c = rw c.in-Help.is (told_still _ _ _ c.print_text.result c.print_text.ensures (tt, tt))

pub returns-in-Blobs-clause-files : goal.returns-in-Blobs-clause-files
returns-in-Blobs-clause-files g c = rw c.in-Blobs.is c.run_blobs.ensures.files

pub returns-in-Info-clause-files : goal.returns-in-Info-clause-files
returns-in-Info-clause-files g c = rw c.in-Info.is c.run_info.ensures.files

pub returns-in-Show-clause-files : goal.returns-in-Show-clause-files
returns-in-Show-clause-files g c = rw c.in-Show.is c.run_show.ensures.files

pub returns-in-Check-clause-files : goal.returns-in-Check-clause-files
returns-in-Check-clause-files g c = rw c.in-Check.is c.run_check.ensures.files

pub returns-in-Extract-clause-files : goal.returns-in-Extract-clause-files
returns-in-Extract-clause-files g c = rw c.in-Extract.is c.run_extract.ensures.files

pub returns-in-Convert-clause-files : goal.returns-in-Convert-clause-files
returns-in-Convert-clause-files g c = rw c.in-Convert.is c.run_writing.ensures.files

pub returns-in-Pack-clause-ok : goal.returns-in-Pack-clause-ok
returns-in-Pack-clause-ok g c = on_ok_weaker c.run_writing-in-Pack.result (λ d. (d.0, d.1, does_copy (manner_of c.args.engine) c.args.command.now c.in-Pack.files d.0 c.in-Pack.is d.2)) c.run_writing-in-Pack.ensures.ok

pub returns-in-Pack-clause-err : goal.returns-in-Pack-clause-err
returns-in-Pack-clause-err g c = IfErr-weaker c.run_writing-in-Pack.result _ _ (λ how f. (f.0, f.1, fails_copy (manner_of c.args.engine) c.args.command.now c.in-Pack.files how f.0 c.in-Pack.is f.2 f.3 f.4)) c.run_writing-in-Pack.ensures.err

pub returns-in-ExtractEach-clause-ok : goal.returns-in-ExtractEach-clause-ok
returns-in-ExtractEach-clause-ok g c =
    let same = c.strategy_with.ensures in
    rw c.in-ExtractEach.is (on_ok_weaker c.run_extract_each.result (λ e. (e.0, e.1, subst (λ s. RunsExtractEach (manner_of c.args.engine) s c.in-ExtractEach.files e.0) same e.2)) c.run_extract_each.ensures.ok)

pub returns-in-ExtractEach-clause-err : goal.returns-in-ExtractEach-clause-err
returns-in-ExtractEach-clause-err g c =
    let m = manner_of c.args.engine in
    let files = c.in-ExtractEach.files in
    let same = c.strategy_with.ensures in
    rw c.in-ExtractEach.is (IfErr-weaker c.run_extract_each.result _ _ (λ how f. (f.0, f.1, subst (λ s. FailsFor files.input.now m (judging_each s files f.0) how f.0 × (Each Quiet f.0 ⊎ LeavesEach m s files f.0) × IsSaid m.digests (RunsExtractEach m s files) how f.0) same (f.2, f.3, f.4))) c.run_extract_each.ensures.err)

pub returns-in-ExtractEach-clause-files : goal.returns-in-ExtractEach-clause-files
returns-in-ExtractEach-clause-files g c = rw c.in-ExtractEach.is c.run_extract_each.ensures.files
