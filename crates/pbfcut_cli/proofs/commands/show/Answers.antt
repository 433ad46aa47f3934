use Rattle.std.proofs.Common.{Ok}
use Rattle.pbfcut_cli.specs.Words.{dates_rule, progress_rule, input_rule}
use Rattle.pbfcut_cli.proofs.CommandLemmas.{rule_added}
use Rattle.pbfcut_cli.proofs.commands.show.Goals as goal

pub returns : goal.returns
returns c =
    let first = rule_added c.with_arg-command.result (Ok c.named-command.result) _ c.named-command.ensures _ dates_rule c.dates.ensures.is c.with_arg-command.ensures in
    let second = rule_added c.with_arg-command-2.result c.with_arg-command.result _ first _ progress_rule c.progress.ensures.is c.with_arg-command-2.ensures in
    rule_added c.with_arg.result c.with_arg-command-2.result _ second _ input_rule c.input.ensures.is c.with_arg.ensures
