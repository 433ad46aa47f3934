use Rattle.pbfcut_cli.specs.Words.{digests_rule, progress_rule}
use Rattle.pbfcut_cli.proofs.CommandLemmas.{also, one_rule}
use Rattle.pbfcut_cli.proofs.commands.with_told.Goals as goal

pub returns : goal.returns
returns c =
    let first = one_rule c.with_arg-command.result c.args.command _ progress_rule c.progress.ensures.is c.with_arg-command.ensures in
    let second = one_rule c.with_arg.result c.with_arg-command.result _ digests_rule c.digests.ensures.is c.with_arg.ensures in
    also c.with_arg.result c.with_arg-command.result c.args.command _ first _ second
