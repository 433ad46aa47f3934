-- Nodes, ways and relations in one pass: the sets are those of the three passes, if the order holds.
use Rattle.std.proofs.Common.{arith, ◌≡◌, ℕ, ℤ, Bool, true, false, ◌&&◌, not, List, [], ◌∷◌, map, refl, sym, ap, ◌∙◌}
use Rattle.std.specs.Prelude.{nat_le}
use Rattle.std.specs.List.{fold, list_all}
use Rattle.std.specs.FinSet as set
use Rattle.osm_ways.specs.Selection.{Seen, a_node, a_way, a_relation}
use Rattle.osm_ways.specs.Phases.{Found, Ids, RelationSets, TakesAll, TakesFirst, WaySets, PassesOver, found_with, node_step, nothing_found, relation_step, relations_from, start_relations, start_ways, way_step}
use Rattle.osm_ways.specs.First.{FirstSets, before_node}
use Rattle.osm_ways.specs.Sorted.{SortedSets, is_sorted, rank, sorted_pass, sorted_step, start_sorted, without_ways}
use Rattle.osm_ways.proofs.FirstLemmas.{broken, first_step-passes_over, fresh, going}

abbrev sorted : Bool → FirstSets → Found → SortedSets
sorted has_relations first found = record { has_relations = has_relations; first = first; found = found }

abbrev ends : SortedSets → List Seen → SortedSets
ends sets seen = fold sorted_step sets seen

-- what is said of the end if the order holds, and if it was broken
abbrev Whole : (ways : WaySets) → (relations : WaySets → RelationSets) → SortedSets → Type 0
Whole ways relations end = (end.first.ways ≡ ways) × (relations_from ways end.found ≡ relations ways)

abbrev NodesAlone : Ids → SortedSets → Type 0
NodesAlone ids end = (end.first.ways ≡ start_ways ids) × (end.found ≡ nothing_found)

-- ---- the order was broken

lost : (has_ways : Bool) (ids : Ids) (seen : List Seen) → ((ends (sorted false (broken has_ways ids) nothing_found) seen).first.in_order ≡ false) × NodesAlone (fold node_step ids seen) (ends (sorted false (broken has_ways ids) nothing_found) seen)
lost has_ways ids [] = (refl, (refl, refl))
lost has_ways ids (a_node id inside ∷ seen) = lost has_ways (node_step ids (a_node id inside)) seen
lost has_ways ids (a_way id refs ∷ seen) = lost true ids seen
lost has_ways ids (a_relation id whole members ∷ seen) = lost has_ways ids seen

-- ---- there were relations

abbrev after : Bool → WaySets → Found → SortedSets
after has_ways ways found = sorted true (record { has_ways = has_ways; in_order = true; ways = ways }) found

-- then no node and no way follows, and so these change nothing
abbrev Follows : WaySets → List Seen → Type 0
Follows ways seen = ((ids : Ids) → fold node_step ids seen ≡ ids) × (fold way_step ways seen ≡ ways)

after_on : (has_ways : Bool) (ways : WaySets) (found : Found) (seen : List Seen) → (ends (after has_ways ways found) seen).first.in_order ≡ true → Follows ways seen × Whole ways (λ w. fold relation_step (relations_from w found) seen) (ends (after has_ways ways found) seen)
after_on has_ways ways found [] e = ((λ ids. refl, refl), (refl, refl))
after_on has_ways ways found (a_node id inside ∷ seen) e = grind (arith, e, lost has_ways (node_step ways.box_ids (a_node id inside)) seen)
after_on has_ways ways found (a_way id refs ∷ seen) e = grind (arith, e, lost true ways.box_ids seen)
after_on has_ways ways found (a_relation id whole members ∷ seen) e = after_on has_ways ways (found_with ways found id whole members) seen e

after_broken : (has_ways : Bool) (ways : WaySets) (found : Found) (seen : List Seen) → (ends (after has_ways ways found) seen).first.in_order ≡ false → NodesAlone (fold node_step ways.box_ids seen) (ends (after has_ways ways found) seen)
after_broken has_ways ways found [] e = absurd (cc)
after_broken has_ways ways found (a_node id inside ∷ seen) e = (lost has_ways (node_step ways.box_ids (a_node id inside)) seen).1
after_broken has_ways ways found (a_way id refs ∷ seen) e = (lost true ways.box_ids seen).1
after_broken has_ways ways found (a_relation id whole members ∷ seen) e = after_broken has_ways ways (found_with ways found id whole members) seen e

-- ---- there were ways

going_on : (ways : WaySets) (seen : List Seen) → (ends (sorted false (going ways) nothing_found) seen).first.in_order ≡ true
    → ((ids : Ids) → fold node_step ids seen ≡ ids) × Whole (fold way_step ways seen) (λ w. fold relation_step (start_relations w) seen) (ends (sorted false (going ways) nothing_found) seen)
going_on ways [] e = (λ ids. refl, (refl, refl))
going_on ways (a_node id inside ∷ seen) e = grind (arith, e, lost true (node_step ways.box_ids (a_node id inside)) seen)
going_on ways (a_way id refs ∷ seen) e = going_on (way_step ways (a_way id refs)) seen e
going_on ways (a_relation id whole members ∷ seen) e = grind (arith, after_on true ways (found_with ways nothing_found id whole members) seen e)

going_broken : (ways : WaySets) (seen : List Seen) → (ends (sorted false (going ways) nothing_found) seen).first.in_order ≡ false → NodesAlone (fold node_step ways.box_ids seen) (ends (sorted false (going ways) nothing_found) seen)
going_broken ways [] e = absurd (cc)
going_broken ways (a_node id inside ∷ seen) e = (lost true (node_step ways.box_ids (a_node id inside)) seen).1
going_broken ways (a_way id refs ∷ seen) e = grind (arith, going_broken (way_step ways (a_way id refs)) seen e)
going_broken ways (a_relation id whole members ∷ seen) e = after_broken true ways (found_with ways nothing_found id whole members) seen e

-- ---- there were only nodes

fresh_on : (ids : Ids) (seen : List Seen) → (ends (sorted false (fresh ids) nothing_found) seen).first.in_order ≡ true
    → Whole (fold way_step (start_ways (fold node_step ids seen)) seen) (λ w. fold relation_step (start_relations w) seen) (ends (sorted false (fresh ids) nothing_found) seen)
fresh_on ids [] e = (refl, refl)
fresh_on ids (a_node id inside ∷ seen) e = fresh_on (node_step ids (a_node id inside)) seen e
fresh_on ids (a_way id refs ∷ seen) e = grind (arith, going_on (way_step (start_ways ids) (a_way id refs)) seen e)
fresh_on ids (a_relation id whole members ∷ seen) e = grind (arith, after_on false (start_ways ids) (found_with (start_ways ids) nothing_found id whole members) seen e)

fresh_broken : (ids : Ids) (seen : List Seen) → (ends (sorted false (fresh ids) nothing_found) seen).first.in_order ≡ false → NodesAlone (fold node_step ids seen) (ends (sorted false (fresh ids) nothing_found) seen)
fresh_broken ids [] e = absurd (cc)
fresh_broken ids (a_node id inside ∷ seen) e = fresh_broken (node_step ids (a_node id inside)) seen e
fresh_broken ids (a_way id refs ∷ seen) e = grind (arith, going_broken (way_step (start_ways ids) (a_way id refs)) seen e)
fresh_broken ids (a_relation id whole members ∷ seen) e = after_broken false (start_ways ids) (found_with (start_ways ids) nothing_found id whole members) seen e

-- ---- whether the order holds

-- all of these are of no earlier type
abbrev from : ℕ → List Seen → Bool
from first seen = list_all (nat_le first) (map rank seen)

from_none : (seen : List Seen) → from 0 seen ≡ true
from_none [] = refl
from_none (a_node id inside ∷ seen) = from_none seen
from_none (a_way id refs ∷ seen) = from_none seen
from_none (a_relation id whole members ∷ seen) = from_none seen

later_too : (seen : List Seen) → from 2 seen ≡ true → from 1 seen ≡ true
later_too [] e = refl
later_too (a_node id inside ∷ seen) e = absurd (cc)
later_too (a_way id refs ∷ seen) e = absurd (cc)
later_too (a_relation id whole members ∷ seen) e = later_too seen e

twice_first : (a b : Bool) → (a && b) ≡ (a && (a && b))
twice_first true b = refl
twice_first false b = refl

implied_first : (a b c : Bool) → (a ≡ true → b ≡ true) → (a && c) ≡ (b && (a && c))
implied_first true b c h = grind (arith, h refl)
implied_first false true c h = refl
implied_first false false c h = refl

after_sorted : (has_ways : Bool) (ways : WaySets) (found : Found) (seen : List Seen) → (ends (after has_ways ways found) seen).first.in_order ≡ (from 2 seen && is_sorted seen)
after_sorted has_ways ways found [] = refl
after_sorted has_ways ways found (a_node id inside ∷ seen) = (lost has_ways (node_step ways.box_ids (a_node id inside)) seen).0
after_sorted has_ways ways found (a_way id refs ∷ seen) = (lost true ways.box_ids seen).0
after_sorted has_ways ways found (a_relation id whole members ∷ seen) = after_sorted has_ways ways (found_with ways found id whole members) seen ∙ twice_first (from 2 seen) (is_sorted seen)

going_sorted : (ways : WaySets) (seen : List Seen) → (ends (sorted false (going ways) nothing_found) seen).first.in_order ≡ (from 1 seen && is_sorted seen)
going_sorted ways [] = refl
going_sorted ways (a_node id inside ∷ seen) = (lost true (node_step ways.box_ids (a_node id inside)) seen).0
going_sorted ways (a_way id refs ∷ seen) = going_sorted (way_step ways (a_way id refs)) seen ∙ twice_first (from 1 seen) (is_sorted seen)
going_sorted ways (a_relation id whole members ∷ seen) = after_sorted true ways (found_with ways nothing_found id whole members) seen ∙ implied_first (from 2 seen) (from 1 seen) (is_sorted seen) (later_too seen)

fresh_sorted : (ids : Ids) (seen : List Seen) → (ends (sorted false (fresh ids) nothing_found) seen).first.in_order ≡ is_sorted seen
fresh_sorted ids [] = refl
fresh_sorted ids (a_node id inside ∷ seen) = fresh_sorted (node_step ids (a_node id inside)) seen ∙ ap (λ b. b && is_sorted seen) (sym (from_none seen))
fresh_sorted ids (a_way id refs ∷ seen) = going_sorted (way_step (start_ways ids) (a_way id refs)) seen
fresh_sorted ids (a_relation id whole members ∷ seen) = after_sorted false (start_ways ids) (found_with (start_ways ids) nothing_found id whole members) seen

-- it holds just if the list is sorted by type
pub in_order_sorted : (seen : List Seen) → (sorted_pass seen).first.in_order ≡ is_sorted seen
in_order_sorted seen = fresh_sorted set.empty seen

-- ---- the whole list

pub sorted_takes_first : TakesFirst start_sorted sorted_step (λ s. s.first.in_order) (λ s. s.first.ways)
sorted_takes_first = record { all = λ seen e. (fresh_on set.empty seen e).0; nodes = λ seen e. (fresh_broken set.empty seen e).0 }

pub sorted_takes_all : TakesAll start_sorted sorted_step (λ s. s.first.in_order) (λ s. s.first.ways) (λ s. s.found)
sorted_takes_all = record {
  all = λ seen e. let is = fresh_on set.empty seen e in ap (λ (w : WaySets). relations_from w (sorted_pass seen).found) is.0 ∙ is.1;
  nothing = λ seen e. (fresh_broken set.empty seen e).1;
}

-- ---- what the phase does

pub dropped_before : (sets : FirstSets) → sets.has_ways ≡ true → without_ways sets ≡ before_node sets
dropped_before sets e = ap (λ b. record (without_ways sets) { in_order = b }) (none sets.in_order sets.has_ways e) where
  none : (o h : Bool) → h ≡ true → false ≡ (o && not h)
  none o h e = grind (arith, e)

-- a node that is outside comes, and then another: that is as one
pub sorted_step-passes_over : PassesOver sorted_step
sorted_step-passes_over = record {
  before = λ sets id other inside. before sets.has_relations sets.first sets.found id other inside;
  after = λ sets id other inside. next sets.has_relations sets.first sets.found id other inside;
} where
  before : (has_relations : Bool) (first : FirstSets) (found : Found) (id other : ℤ) (inside : Bool) → sorted_step (sorted_step (sorted has_relations first found) (a_node id false)) (a_node other inside) ≡ sorted_step (sorted has_relations first found) (a_node other inside)
  before true first found id other inside = ap (λ f. sorted false f nothing_found) (first_step-passes_over.before (without_ways first) id other inside)
  before false first found id other inside = ap (λ f. sorted false f found) (first_step-passes_over.before first id other inside)

  next : (has_relations : Bool) (first : FirstSets) (found : Found) (id other : ℤ) (inside : Bool) → sorted_step (sorted_step (sorted has_relations first found) (a_node id inside)) (a_node other false) ≡ sorted_step (sorted has_relations first found) (a_node id inside)
  next true first found id other inside = ap (λ f. sorted false f nothing_found) (first_step-passes_over.after (without_ways first) id other inside)
  next false first found id other inside = ap (λ f. sorted false f found) (first_step-passes_over.after first id other inside)
