use Rattle.pbfcut_cli.specs.Words.{box_rule, polygon_rule}
use Rattle.pbfcut_cli.proofs.CommandLemmas.{also, one_rule}
use Rattle.pbfcut_cli.proofs.commands.with_region.Goals as goal

pub returns : goal.returns
returns c =
    let first = one_rule c.with_arg-command.result c.args.command _ box_rule c.in_ok-area.ensures.is c.with_arg-command.ensures in
    let second = one_rule c.with_arg.result c.with_arg-command.result _ polygon_rule c.polygon.ensures.is c.with_arg.ensures in
    also c.with_arg.result c.with_arg-command.result c.args.command _ first _ second
