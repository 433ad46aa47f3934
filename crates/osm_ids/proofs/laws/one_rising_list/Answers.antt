use Rattle.osm_ids.specs.Pages.{rising}
use Rattle.osm_ids.proofs.Rising.{rising_rises, ids_of-rising, rising_of_set}
use Rattle.osm_ids.proofs.laws.one_rising_list.Goals as goal

pub returns-clause-some : goal.returns-clause-some
returns-clause-some c = λ s. (rising s, rising_rises s, ids_of-rising s)

pub returns-clause-only : goal.returns-clause-only
returns-clause-only c = rising_of_set
