use Rattle.osm_polygon.proofs.BoxLemmas.{box_has_its_places}
use Rattle.osm_polygon.proofs.laws.rectangle_is_its_box.Goals as goal

pub returns : goal.returns
returns c = box_has_its_places
