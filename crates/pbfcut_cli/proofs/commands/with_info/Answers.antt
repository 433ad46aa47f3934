use Rattle.pbfcut_cli.specs.Words.{info_app}
use Rattle.pbfcut_cli.proofs.CommandLemmas.{one_command}
use Rattle.pbfcut_cli.proofs.commands.with_info.Goals as goal

pub returns-in-Pbfcutz : goal.returns-in-Pbfcutz
returns-in-Pbfcutz c = rw c.in-Pbfcutz.is (one_command c.with_command.result c.args.command c.info.result info_app c.info.ensures c.with_command.ensures.app c.with_command.ensures.local)
