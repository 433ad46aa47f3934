use Rattle.std.proofs.Common.{[], ◌∷◌}
use Rattle.pbfcut_cli.specs.Endings.{message_of, program_name}
use Rattle.pbfcut_program.specs.Events.{told, advised}
use Rattle.pbfcut_program.proofs.Logging.{and_then}
use Rattle.pbfcut_program.proofs.ending.report.Goals as goal

pub returns : goal.returns
returns g c =
    let t = c.tell_ending-status.ensures in
    (t.0, and_then _ _ _ (told (message_of (program_name c.args.program) t.0) ∷ []) (advised ∷ []) t.1 c.advise_words.ensures, t.2, t.3)
