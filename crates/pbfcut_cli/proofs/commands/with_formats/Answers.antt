use Rattle.std.proofs.Common.{codes}
use Rattle.pbfcut_cli.specs.Words.{named_rule}
use Rattle.pbfcut_cli.proofs.CommandLemmas.{also, one_rule}
use Rattle.pbfcut_cli.proofs.commands.with_formats.Goals as goal

pub returns : goal.returns
returns c =
    let first = one_rule c.with_arg-command.result c.args.command _ (named_rule (codes "output-format") 102) c.osmium_option.ensures.is c.with_arg-command.ensures in
    let second = one_rule c.with_arg.result c.with_arg-command.result _ (named_rule (codes "input-format") 70) c.osmium_option-2.ensures.is c.with_arg.ensures in
    also c.with_arg.result c.with_arg-command.result c.args.command _ first _ second
