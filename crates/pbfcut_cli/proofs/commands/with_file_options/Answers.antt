use Rattle.pbfcut_cli.specs.Words.{option_rule, overwrite_rule}
use Rattle.pbfcut_cli.proofs.CommandLemmas.{also, one_rule}
use Rattle.pbfcut_cli.proofs.commands.with_file_options.Goals as goal

pub returns : goal.returns
returns c =
    let first = one_rule c.with_arg-command.result c.args.command _ option_rule c.option.ensures.is c.with_arg-command.ensures in
    let second = one_rule c.with_arg.result c.with_arg-command.result _ overwrite_rule c.overwrite.ensures.is c.with_arg.ensures in
    also c.with_arg.result c.with_arg-command.result c.args.command _ first _ second
