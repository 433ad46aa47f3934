use Rattle.std.proofs.Common.{refl}
use Rattle.osm_pack.proofs.OpenLemmas.{none_held}
use Rattle.osm_pack.proofs.open_block.OpenBlock.new.Goals as goal

pub returns : goal.returns
returns g c = none_held _ refl refl refl c.new.ensures c.new-2.ensures c.new-3.ensures.items c.new-4.ensures
