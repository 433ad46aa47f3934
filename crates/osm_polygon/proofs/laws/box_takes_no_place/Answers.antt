use Rattle.osm_polygon.proofs.BoundsLemmas.{box_takes_none}
use Rattle.osm_polygon.proofs.laws.box_takes_no_place.Goals as goal

pub returns : goal.returns
returns c = box_takes_none
