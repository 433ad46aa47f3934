use Rattle.osm_ways.proofs.FirstLemmas.{first_in_order, first_broken}
use Rattle.osm_ways.proofs.laws.one_pass_is_two.Goals as goal

pub returns-clause-in_order : goal.returns-clause-in_order
returns-clause-in_order c = first_in_order

pub returns-clause-broken : goal.returns-clause-broken
returns-clause-broken c = first_broken
