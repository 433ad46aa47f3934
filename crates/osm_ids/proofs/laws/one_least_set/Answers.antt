use Rattle.osm_ids.proofs.Closing.{least_only}
use Rattle.osm_ids.proofs.laws.one_least_set.Goals as goal

pub returns-clause-only : goal.returns-clause-only
returns-clause-only c = least_only
