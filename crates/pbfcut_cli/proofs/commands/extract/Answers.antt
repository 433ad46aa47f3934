use Rattle.pbfcut_cli.specs.Words.{options_app, with_config, with_files, with_raw, with_region, with_strategy}
use Rattle.pbfcut_cli.proofs.CommandLemmas.{added}
use Rattle.pbfcut_cli.proofs.commands.extract.Goals as goal

pub returns : goal.returns
returns c =
    let raw = added c.with_raw.result c.options.result options_app c.options.ensures (with_raw c.args.program) c.with_raw.ensures in
    let region = added c.with_region-command.result c.with_raw.result _ raw with_region c.with_region-command.ensures in
    let config = added c.with_config.result c.with_region-command.result _ region (with_config c.args.program) c.with_config.ensures in
    let strategy = added c.with_strategy-command.result c.with_config.result _ config with_strategy c.with_strategy-command.ensures in
    added c.with_files.result c.with_strategy-command.result _ strategy (with_files c.args.program) c.with_files.ensures
