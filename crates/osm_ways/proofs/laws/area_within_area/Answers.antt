use Rattle.osm_ways.proofs.Boxes.{seen_entity-within, seen_decoded-within}
use Rattle.osm_ways.proofs.laws.area_within_area.Goals as goal

pub returns-clause-stored : goal.returns-clause-stored
returns-clause-stored c = seen_entity-within

pub returns-clause-meant : goal.returns-clause-meant
returns-clause-meant c = seen_decoded-within
