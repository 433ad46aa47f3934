use Rattle.pbfcut_cli.specs.Words.{pack_app, unpack_app}
use Rattle.pbfcut_cli.proofs.CommandLemmas.{also, one_command}
use Rattle.pbfcut_cli.proofs.commands.with_packing.Goals as goal

pub returns-in-Pbfcutz : goal.returns-in-Pbfcutz
returns-in-Pbfcutz c =
    let first = one_command c.with_command-command.result c.args.command c.pack.result pack_app c.pack.ensures c.with_command-command.ensures.app c.with_command-command.ensures.local in
    let second = one_command c.with_command.result c.with_command-command.result c.unpack.result unpack_app c.unpack.ensures c.with_command.ensures.app c.with_command.ensures.local in
    rw c.in-Pbfcutz.is (also c.with_command.result c.with_command-command.result c.args.command _ first _ second)
