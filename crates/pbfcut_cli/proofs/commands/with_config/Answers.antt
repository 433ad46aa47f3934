use Rattle.std.proofs.Common.{codes}
use Rattle.pbfcut_cli.specs.Words.{named_rule}
use Rattle.pbfcut_cli.proofs.CommandLemmas.{also, one_rule}
use Rattle.pbfcut_cli.proofs.commands.with_config.Goals as goal

pub returns-in-Pbfcutz : goal.returns-in-Pbfcutz
returns-in-Pbfcutz c =
    let first = one_rule c.with_arg-command.result c.args.command _ (named_rule (codes "config") 99) c.config.ensures.is c.with_arg-command.ensures in
    let second = one_rule c.with_arg.result c.with_arg-command.result _ (named_rule (codes "directory") 100) c.directory.ensures.is c.with_arg.ensures in
    rw c.in-Pbfcutz.is (also c.with_arg.result c.with_arg-command.result c.args.command _ first _ second)
