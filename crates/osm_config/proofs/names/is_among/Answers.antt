use Rattle.std.proofs.Common.{◌∙◌}
use Rattle.osm_config.proofs.NameLemmas.{any_named}
use Rattle.osm_config.proofs.names.is_among.Goals as goal

pub returns : goal.returns
returns c = c.contains.ensures.value ∙ any_named c.args.name.now c.args.names.now
