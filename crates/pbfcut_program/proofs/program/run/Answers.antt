use Rattle.std.proofs.Common.{[], ◌∷◌, List, refl, inr, map, string_bytes, ap, ◌∙◌}
use Rattle.pbfcut_cli.specs.Endings.{message_of, program_name}
use Rattle.pbfcut_program.specs.Events.{Event, advised, told, then_all}
use Rattle.pbfcut_program.proofs.Meaning.{why_shown}
use Rattle.pbfcut_program.proofs.SettlingLemmas.{run_settles_before}
use Rattle.pbfcut_program.proofs.program.run.Goals as goal

pub returns-in-Err-clause-run : goal.returns-in-Err-clause-run
returns-in-Err-clause-run g c =
    let e = c.in-Err.ensures.err in
    let r = c.report.ensures in
    let events : List Event = told (message_of (program_name c.args.program) r.0) ∷ advised ∷ [] in
    (events, r.1 ∙ ap (λ l. then_all l events) e.0, inr (record { how = r.0; before = []; happened = refl; status_is = r.2; why = why_shown c.args.program (map string_bytes c.args.words.now) c.in-Err.how r.0 [] r.3 e.1 }))

pub returns-in-Err-clause-files : goal.returns-in-Err-clause-files
returns-in-Err-clause-files g c = run_settles_before c.args.program (map string_bytes c.args.words.now) _ _ _ c.in-Err.ensures.files (_, c.report.ensures.1, (tt, (tt, tt)))
