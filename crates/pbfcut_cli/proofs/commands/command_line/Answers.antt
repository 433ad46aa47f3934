use Rattle.pbfcut_cli.specs.Words.{writers_app, check_app, show_app, blobs_app, with_info, with_packing}
use Rattle.pbfcut_cli.proofs.CommandLemmas.{added, one_command}
use Rattle.pbfcut_cli.proofs.commands.command_line.Goals as goal

pub returns : goal.returns
returns c =
    let packing = added c.with_packing-command.result c.writers.result (writers_app c.args.program) c.writers.ensures (with_packing c.args.program) c.with_packing-command.ensures in
    let check = one_command c.with_command-command.result c.with_packing-command.result c.check.result check_app c.check.ensures c.with_command-command.ensures.app c.with_command-command.ensures.local in
    let first = added c.with_command-command.result c.with_packing-command.result _ packing _ check in
    let show = one_command c.with_command-command-2.result c.with_command-command.result c.show.result show_app c.show.ensures c.with_command-command-2.ensures.app c.with_command-command-2.ensures.local in
    let second = added c.with_command-command-2.result c.with_command-command.result _ first _ show in
    let blobs = one_command c.with_command-command-3.result c.with_command-command-2.result c.blobs.result blobs_app c.blobs.ensures c.with_command-command-3.ensures.app c.with_command-command-3.ensures.local in
    let third = added c.with_command-command-3.result c.with_command-command-2.result _ second _ blobs in
    added c.with_info.result c.with_command-command-3.result _ third (with_info c.args.program) c.with_info.ensures
