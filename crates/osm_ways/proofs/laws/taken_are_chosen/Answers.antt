use Rattle.osm_ways.proofs.Taken.{taken_are_chosen}
use Rattle.osm_ways.proofs.laws.taken_are_chosen.Goals as goal

pub returns : goal.returns
returns g c = taken_are_chosen
