use Rattle.std.proofs.Common.{◌≡◌, ◌∙◌, ap, inl, inr, refl, map, string_bytes}
use Rattle.std.proofs.lemmas.Result.{err_from_is_err_and}
use Rattle.pbfcut_cli.specs.Joined.{normalized}
use Rattle.pbfcut_cli.specs.Words.{word_texts}
use Rattle.pbfcut_program.proofs.Logging.{and_then}
use Rattle.pbfcut_program.proofs.Meaning.{cli_why, fails_why, is_meant, why_shown}
use Rattle.pbfcut_program.proofs.SettlingLemmas.{nothing_done, run_settles_before}
use Rattle.pbfcut_program.proofs.program.work.Goals as goal

pub returns-in_err-command-clause-err : goal.returns-in_err-command-clause-err
returns-in_err-command-clause-err g c =
    let words = map string_bytes c.args.words.now in
    let is : word_texts c.as_slice.result.now ≡ normalized words = ap word_texts c.as_slice.ensures.value ∙ c.in_ok-texts.ensures ∙ ap (map string_bytes) c.deref.ensures.value ∙ c.in_ok-normalized.ensures in
    let p = err_from_is_err_and c.from_residual-in_err-command.result c.from_residual-in_err-command.ensures.1 in
    rw (p.1, p.2) (refl, cli_why c.args.program words (word_texts c.as_slice.result.now) c.in_err-command.field-0.0 is c.in_err-command.ensures.fault)

pub returns-in-Ok-clause-ok : goal.returns-in-Ok-clause-ok
returns-in-Ok-clause-ok g c =
    let words = map string_bytes c.args.words.now in
    let is : word_texts c.as_slice.result.now ≡ normalized words = ap word_texts c.as_slice.ensures.value ∙ c.in_ok-texts.ensures ∙ ap (map string_bytes) c.deref.ensures.value ∙ c.in_ok-normalized.ensures in
    let meant = is_meant c.args.program words (word_texts c.as_slice.result.now) c.in_ok-command.command is c.in_ok-command.ensures.read in
    let d = c.in-Ok.ensures.ok in
    let does = rw (c.prints_digests.ensures, c.packs.ensures) at d.2 in
    (d.0, d.1, inl (refl, (c.in_ok-command.command, meant, does)))

pub returns-clause-ok : goal.returns-clause-ok
returns-clause-ok g c =
    let words = map string_bytes c.args.words.now in
    let is : word_texts c.as_slice.result.now ≡ normalized words = ap word_texts c.as_slice.ensures.value ∙ c.in_ok-texts.ensures ∙ ap (map string_bytes) c.deref.ensures.value ∙ c.in_ok-normalized.ensures in
    let meant = is_meant c.args.program words (word_texts c.as_slice.result.now) c.in_ok-command.command is c.in_ok-command.ensures.read in
    let f = c.in-Err.ensures.err in
    let r = c.report_command.ensures in
    let fails = rw (c.prints_digests.ensures, c.packs.ensures) at f.2 in
    let why = fails_why c.args.program words c.in_ok-command.command c.in-Err.how f.0 meant fails in
    (_, and_then (g.H.Host.log c.args.host.now) _ _ f.0 _ f.1 r.1, inr (record { how = r.0; before = f.0; happened = refl; status_is = r.2; why = why_shown c.args.program words c.in-Err.how r.0 f.0 r.3 why }))

pub returns-in_err-normalized-clause-files : goal.returns-in_err-normalized-clause-files
returns-in_err-normalized-clause-files g c = inl (nothing_done (g.H.Host.log c.args.host.now))

pub returns-in_err-texts-clause-files : goal.returns-in_err-texts-clause-files
returns-in_err-texts-clause-files g c = inl (nothing_done (g.H.Host.log c.args.host.now))

pub returns-in_err-command-clause-files : goal.returns-in_err-command-clause-files
returns-in_err-command-clause-files g c = inl (nothing_done (g.H.Host.log c.args.host.now))

pub returns-in-Ok-clause-files : goal.returns-in-Ok-clause-files
returns-in-Ok-clause-files g c =
    let words = map string_bytes c.args.words.now in
    let is : word_texts c.as_slice.result.now ≡ normalized words = ap word_texts c.as_slice.ensures.value ∙ c.in_ok-texts.ensures ∙ ap (map string_bytes) c.deref.ensures.value ∙ c.in_ok-normalized.ensures in
    inr (c.in_ok-command.command, is_meant c.args.program words (word_texts c.as_slice.result.now) c.in_ok-command.command is c.in_ok-command.ensures.read, c.in-Ok.ensures.files)

pub returns-clause-files : goal.returns-clause-files
returns-clause-files g c =
    let words = map string_bytes c.args.words.now in
    let is : word_texts c.as_slice.result.now ≡ normalized words = ap word_texts c.as_slice.ensures.value ∙ c.in_ok-texts.ensures ∙ ap (map string_bytes) c.deref.ensures.value ∙ c.in_ok-normalized.ensures in
    let meant = is_meant c.args.program words (word_texts c.as_slice.result.now) c.in_ok-command.command is c.in_ok-command.ensures.read in
    run_settles_before c.args.program words _ _ _ (inr (c.in_ok-command.command, meant, c.in-Err.ensures.files)) (_, c.report_command.ensures.1, (tt, (tt, tt)))
