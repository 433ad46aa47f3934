use Rattle.std.proofs.Common.{refl, rules}
use Rattle.osm_pack.proofs.OpenLemmas.{none_held}
use Rattle.osm_pack.proofs.open_block.OpenBlock.clear.Goals as goal

pub returns : goal.returns
returns g c = none_held _ refl refl refl c.clear.ensures c.new.ensures (search rules) c.clear-3.ensures
