use Rattle.std.proofs.Common.{codes}
use Rattle.pbfcut_cli.specs.Words.{flag_rule, with_formats}
use Rattle.pbfcut_cli.proofs.CommandLemmas.{also, one_rule}
use Rattle.pbfcut_cli.proofs.commands.with_accepted.Goals as goal

pub returns : goal.returns
returns c =
    let first = one_rule c.with_arg-command.result c.args.command _ (flag_rule (codes "no-progress")) c.osmium_flag.ensures.is c.with_arg-command.ensures in
    let second = one_rule c.with_arg-command-2.result c.with_arg-command.result _ (flag_rule (codes "fsync")) c.osmium_flag-2.ensures.is c.with_arg-command-2.ensures in
    let both = also c.with_arg-command-2.result c.with_arg-command.result c.args.command _ first _ second in
    also c.with_formats.result c.with_arg-command-2.result c.args.command _ both with_formats c.with_formats.ensures
