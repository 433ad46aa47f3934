use Rattle.std.proofs.Common.{Ok}
use Rattle.pbfcut_cli.specs.Words.{with_files, with_raw, with_told}
use Rattle.pbfcut_cli.proofs.CommandLemmas.{added}
use Rattle.pbfcut_cli.proofs.commands.convert.Goals as goal

pub returns : goal.returns
returns c =
    let told = added c.with_told-command.result (Ok c.named-command.result) _ c.named-command.ensures with_told c.with_told-command.ensures in
    let raw = added c.with_raw.result c.with_told-command.result _ told (with_raw c.args.program) c.with_raw.ensures in
    added c.with_files.result c.with_raw.result _ raw (with_files c.args.program) c.with_files.ensures
