use Rattle.osm_ways.proofs.MemberLemmas.{chosen_with_members, none_to_add}
use Rattle.osm_ways.proofs.Passes.{chosen_is_kept, ways_stay, chosen_with_parents}
use Rattle.osm_ways.proofs.laws.passes_are_extract.Goals as goal

pub returns-clause-ways : goal.returns-clause-ways
returns-clause-ways c = chosen_is_kept

pub returns-clause-kept : goal.returns-clause-kept
returns-clause-kept c = ways_stay

pub returns-clause-parents : goal.returns-clause-parents
returns-clause-parents c = chosen_with_parents

pub returns-clause-members : goal.returns-clause-members
returns-clause-members c seen ids h whole = chosen_with_members whole seen ids h

pub returns-clause-spared : goal.returns-clause-spared
returns-clause-spared c = none_to_add
