use Rattle.std.proofs.Common.{Ok}
use Rattle.pbfcut_cli.specs.Words.{input_rule, json_rule}
use Rattle.pbfcut_cli.proofs.CommandLemmas.{rule_added}
use Rattle.pbfcut_cli.proofs.commands.info.Goals as goal

pub returns : goal.returns
returns c =
    let first = rule_added c.with_arg.result (Ok c.named-command.result) _ c.named-command.ensures _ json_rule c.json.ensures.is c.with_arg.ensures in
    rule_added c.with_arg-2.result c.with_arg.result _ first _ input_rule c.input.ensures.is c.with_arg-2.ensures
