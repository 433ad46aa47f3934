-- Nodes and ways in one pass: if no node comes after a way, the sets are those of the two passes.
use Rattle.std.specs.Prelude.{◌≡◌, Bool, true, false, ◌&&◌, not, if◌then◌else◌, List, refl}
use Rattle.std.specs.Coded.{Coded, code_by, coded×, coded_bool}
use Rattle.std.specs.List.{fold}
use Rattle.std.specs.FinSet as set
use Rattle.osm_ways.specs.Selection.{Seen, a_node, a_way, a_relation}
use Rattle.osm_ways.specs.Phases.{Ids, WaySets, way_sets_code, start_ways, node_step, way_step}

-- whether there was a way; whether no node came after one; and the sets, which are only those of the nodes if one did
pub record FirstSets : Type 0 where
  pub has_ways : Bool
  pub in_order : Bool
  pub ways : WaySets

abbrev pub first_sets_code : Coded FirstSets
first_sets_code = code_by (Bool × (Bool × WaySets)) (coded× coded_bool (coded× coded_bool way_sets_code)) (λ s. (s.has_ways, (s.in_order, s.ways))) (λ p. record { has_ways = p.0; in_order = p.1.0; ways = p.1.1 }) (λ _. refl)

-- if there was no way, or the ways were dropped, no refs and no ways are held
abbrev pub IsWayless : (has_ways in_order : Bool) (refs ways : Ids) → Type 0
IsWayless has_ways in_order refs ways = (has_ways && in_order) ≡ false → (refs ≡ set.empty) × (ways ≡ set.empty)

abbrev pub start_first : FirstSets
start_first = record { has_ways = false; in_order = true; ways = start_ways set.empty }

-- ways that came before a node are dropped: its id may be among their refs
abbrev pub before_node : FirstSets → FirstSets
before_node sets = record { has_ways = sets.has_ways; in_order = sets.in_order && not sets.has_ways; ways = start_ways sets.ways.box_ids }

abbrev pub first_step : FirstSets → Seen → FirstSets
first_step sets (a_node id inside) = record (before_node sets) { ways = start_ways (node_step sets.ways.box_ids (a_node id inside)) }
first_step sets (a_way id refs) =
    record sets { has_ways = true; ways = if sets.in_order then way_step sets.ways (a_way id refs) else sets.ways }
first_step sets (a_relation id whole members) = sets

abbrev pub first_pass : List Seen → FirstSets
first_pass seen = fold first_step start_first seen
