use Rattle.pbfcut_cli.specs.Words.{input_rule, last_rule, with_accepted, with_file_options}
use Rattle.pbfcut_cli.proofs.CommandLemmas.{also, one_rule}
use Rattle.pbfcut_cli.proofs.commands.with_any_files.Goals as goal

pub returns : goal.returns
returns c =
    let options = c.with_file_options.ensures in
    let accepted = also c.with_accepted-command.result c.with_file_options.result c.args.command with_file_options options with_accepted c.with_accepted-command.ensures in
    let second = one_rule c.with_arg-command.result c.with_accepted-command.result _ input_rule c.input.ensures.is c.with_arg-command.ensures in
    let both = also c.with_arg-command.result c.with_accepted-command.result c.args.command _ accepted _ second in
    let third = one_rule c.with_arg.result c.with_arg-command.result _ last_rule c.last.ensures.is c.with_arg.ensures in
    also c.with_arg.result c.with_arg-command.result c.args.command _ both _ third
