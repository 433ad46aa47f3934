use Rattle.pbfcut_cli.specs.Words.{bare_app, extract_app, convert_app}
use Rattle.pbfcut_cli.proofs.CommandLemmas.{added, one_command}
use Rattle.pbfcut_cli.proofs.commands.writers.Goals as goal

pub returns : goal.returns
returns c =
    let extract = one_command c.with_command-command.result c.bare.result c.extract.result (extract_app c.args.program) c.extract.ensures c.with_command-command.ensures.app c.with_command-command.ensures.local in
    let first = added c.with_command-command.result c.bare.result bare_app c.bare.ensures _ extract in
    let convert = one_command c.with_command.result c.with_command-command.result c.convert.result (convert_app c.args.program) c.convert.ensures c.with_command.ensures.app c.with_command.ensures.local in
    added c.with_command.result c.with_command-command.result _ first _ convert
