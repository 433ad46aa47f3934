use Rattle.std.proofs.Common.{refl}
use Rattle.pbfcut_cli.proofs.CommandLemmas.{both_names}
use Rattle.pbfcut_cli.proofs.commands.area.Goals as goal

pub returns : goal.returns
returns c = both_names c.alias.result c.box_alone.result _ c.box_alone.ensures refl c.alias.ensures
