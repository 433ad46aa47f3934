use Rattle.pbfcut_cli.specs.Words.{input_rule, output_rule, with_accepted}
use Rattle.pbfcut_cli.proofs.CommandLemmas.{also, one_rule}
use Rattle.pbfcut_cli.proofs.commands.with_both_files.Goals as goal

pub returns : goal.returns
returns c =
    let first = one_rule c.with_arg-command.result c.with_accepted.result _ input_rule c.input.ensures.is c.with_arg-command.ensures in
    let both = also c.with_arg-command.result c.with_accepted.result c.args.command with_accepted c.with_accepted.ensures _ first in
    let second = one_rule c.with_arg.result c.with_arg-command.result _ output_rule c.output.ensures.is c.with_arg.ensures in
    also c.with_arg.result c.with_arg-command.result c.args.command _ both _ second
