-- Nodes, ways and relations in one pass. If all nodes come before all ways, and these before all relations, the sets are those of the three passes.
-- If not, the order is broken, and this pass gives only the nodes: ways and relations need passes of their own.
use Rattle.std.specs.Prelude.{ℕ, nat_le, Bool, true, false, ◌&&◌, if◌then◌else◌, List, [], ◌∷◌, map, refl}
use Rattle.std.specs.Coded.{Coded, code_by, coded×, coded_bool}
use Rattle.std.specs.List.{fold, list_all}
use Rattle.osm_ways.specs.First.{FirstSets, first_sets_code, first_step, start_first}
use Rattle.osm_ways.specs.Phases.{Found, found_code, found_with, nothing_found, start_ways}
use Rattle.osm_ways.specs.Selection.{Seen, a_node, a_way, a_relation}

-- whether a relation was taken; what nodes and ways gave; and what relations gave. Once the order is broken, no relation counts as taken, and what
-- ways and relations gave is empty
pub record SortedSets : Type 0 where
  pub has_relations : Bool
  pub first : FirstSets
  pub found : Found

abbrev pub sorted_sets_code : Coded SortedSets
sorted_sets_code = code_by (Bool × (FirstSets × Found)) (coded× coded_bool (coded× first_sets_code found_code)) (λ s. (s.has_relations, (s.first, s.found))) (λ p. record { has_relations = p.0; first = p.1.0; found = p.1.1 }) (λ _. refl)

abbrev pub start_sorted : SortedSets
start_sorted = record { has_relations = false; first = start_first; found = nothing_found }

-- what is left of nodes and ways once the order is broken: only the nodes
abbrev pub without_ways : FirstSets → FirstSets
without_ways sets = record { has_ways = sets.has_ways; in_order = false; ways = start_ways sets.ways.box_ids }

-- what is left when a node or a way comes. If a relation came before it, the order is broken here: whether that relation is kept may depend on it.
-- So the relations are dropped, and the ways with them, and from here on only nodes are kept
abbrev pub before_more : SortedSets → SortedSets
before_more sets = if sets.has_relations then record { has_relations = false; first = without_ways sets.first; found = nothing_found } else sets

abbrev pub with_more : SortedSets → Seen → SortedSets
with_more sets one = record sets { first = first_step sets.first one }

abbrev pub sorted_step : SortedSets → Seen → SortedSets
sorted_step sets (a_node id inside) = with_more (before_more sets) (a_node id inside)
sorted_step sets (a_way id refs) = with_more (before_more sets) (a_way id refs)
sorted_step sets (a_relation id whole members) =
    if sets.first.in_order then record { has_relations = true; first = sets.first; found = found_with sets.first.ways sets.found id whole members } else sets

-- nodes, ways and relations
abbrev pub rank : Seen → ℕ
rank (a_node id inside) = 0
rank (a_way id refs) = 1
rank (a_relation id whole members) = 2

-- these numbers don't fall
abbrev pub is_rising : List ℕ → Bool
is_rising [] = true
is_rising (n ∷ ns) = list_all (nat_le n) ns && is_rising ns

-- by type: no node comes after a way or a relation, and no way after a relation
abbrev pub is_sorted : List Seen → Bool
is_sorted seen = is_rising (map rank seen)

abbrev pub sorted_pass : List Seen → SortedSets
sorted_pass seen = fold sorted_step start_sorted seen
