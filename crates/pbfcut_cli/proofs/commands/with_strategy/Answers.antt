use Rattle.std.proofs.Common.{codes}
use Rattle.pbfcut_cli.specs.Words.{flag_rule, named_rule, types_rule}
use Rattle.pbfcut_cli.proofs.CommandLemmas.{also, one_rule}
use Rattle.pbfcut_cli.proofs.commands.with_strategy.Goals as goal

pub returns : goal.returns
returns c =
    let first = one_rule c.with_arg-command.result c.args.command _ (flag_rule (codes "set-bounds")) c.osmium_flag.ensures.is c.with_arg-command.ensures in
    let second = one_rule c.with_arg-command-2.result c.with_arg-command.result _ (named_rule (codes "strategy") 115) c.strategy.ensures.is c.with_arg-command-2.ensures in
    let third = one_rule c.with_arg.result c.with_arg-command-2.result _ types_rule c.types.ensures.is c.with_arg.ensures in
    let two = also c.with_arg-command-2.result c.with_arg-command.result c.args.command _ first _ second in
    also c.with_arg.result c.with_arg-command-2.result c.args.command _ two _ third
