use Rattle.osm_ways.proofs.SortedLemmas.{in_order_sorted, sorted_takes_all, sorted_takes_first}
use Rattle.osm_ways.proofs.laws.one_pass_is_three.Goals as goal

pub returns-clause-in_order : goal.returns-clause-in_order
returns-clause-in_order c = sorted_takes_all.all

pub returns-clause-broken : goal.returns-clause-broken
returns-clause-broken c seen e = (sorted_takes_first.nodes seen e, sorted_takes_all.nothing seen e)

pub returns-clause-sorted : goal.returns-clause-sorted
returns-clause-sorted c = in_order_sorted
