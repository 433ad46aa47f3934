use Rattle.osm_ways.proofs.ParentLaws.{all_levels_least, links_are_parents}
use Rattle.osm_ways.proofs.laws.parents_are_least.Goals as goal

pub returns-clause-least : goal.returns-clause-least
returns-clause-least c = all_levels_least

pub returns-clause-links : goal.returns-clause-links
returns-clause-links c = links_are_parents
