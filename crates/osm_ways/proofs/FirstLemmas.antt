-- Nodes and ways in one pass: the sets are those of the two passes, if no node comes after a way.
use Rattle.std.proofs.Common.{arith, ◌≡◌, Bool, true, false, ◌&&◌, not, List, [], ◌∷◌, refl, ap}
use Rattle.std.specs.List.{fold}
use Rattle.std.specs.FinSet as set
use Rattle.osm_ways.specs.Selection.{Seen, a_node, a_way, a_relation}
use Rattle.osm_ways.specs.Phases.{Ids, WaySets, PassesOver, sets_of, start_ways, node_step, way_step, node_pass, way_pass}
use Rattle.osm_ways.specs.First.{FirstSets, IsWayless, start_first, before_node, first_step, first_pass}
use Rattle.osm_ways.specs.Sorted.{without_ways}
use Rattle.osm_ways.proofs.Shown.{shown_start}

-- ---- the nodes

-- ---- the ways

-- a node came after a way
abbrev pub broken : Bool → Ids → FirstSets
broken has_ways ids = record { has_ways = has_ways; in_order = false; ways = start_ways ids }

pub broken_stays : (has_ways : Bool) (ids : Ids) (seen : List Seen) → ((fold first_step (broken has_ways ids) seen).in_order ≡ false) × ((fold first_step (broken has_ways ids) seen).ways ≡ start_ways (fold node_step ids seen))
broken_stays has_ways ids [] = (refl, refl)
broken_stays has_ways ids (a_node id inside ∷ seen) = broken_stays has_ways (node_step ids (a_node id inside)) seen
broken_stays has_ways ids (a_way id refs ∷ seen) = broken_stays true ids seen
broken_stays has_ways ids (a_relation id whole members ∷ seen) = broken_stays has_ways ids seen

-- there were ways, and no node after one
abbrev pub going : WaySets → FirstSets
going ways = record { has_ways = true; in_order = true; ways = ways }

pub going_on : (ways : WaySets) (ids : Ids) (seen : List Seen) → (fold first_step (going ways) seen).in_order ≡ true → ((fold first_step (going ways) seen).ways ≡ fold way_step ways seen) × (fold node_step ids seen ≡ ids)
going_on ways ids [] e = (refl, refl)
going_on ways ids (a_node id inside ∷ seen) e = grind (arith, e, broken_stays true (node_step ways.box_ids (a_node id inside)) seen)
going_on ways ids (a_way id refs ∷ seen) e = going_on (way_step ways (a_way id refs)) ids seen e
going_on ways ids (a_relation id whole members ∷ seen) e = going_on ways ids seen e

-- there was no way
abbrev pub fresh : Ids → FirstSets
fresh ids = record { has_ways = false; in_order = true; ways = start_ways ids }

fresh_on : (ids : Ids) (seen : List Seen) → (fold first_step (fresh ids) seen).in_order ≡ true → (fold first_step (fresh ids) seen).ways ≡ fold way_step (start_ways (fold node_step ids seen)) seen
fresh_on ids [] e = refl
fresh_on ids (a_node id inside ∷ seen) e = fresh_on (node_step ids (a_node id inside)) seen e
fresh_on ids (a_way id refs ∷ seen) e = grind (arith, going_on (way_step (start_ways ids) (a_way id refs)) ids seen e)
fresh_on ids (a_relation id whole members ∷ seen) e = fresh_on ids seen e

-- ---- the whole list

pub first_in_order : (seen : List Seen) → (first_pass seen).in_order ≡ true → (first_pass seen).ways ≡ way_pass seen
first_in_order seen e = fresh_on set.empty seen e

going_broken : (ways : WaySets) (seen : List Seen) → (fold first_step (going ways) seen).in_order ≡ false → (fold first_step (going ways) seen).ways ≡ start_ways (fold node_step ways.box_ids seen)
going_broken ways [] e = absurd (cc)
going_broken ways (a_node id inside ∷ seen) e = (broken_stays true (node_step ways.box_ids (a_node id inside)) seen).1
going_broken ways (a_way id refs ∷ seen) e = grind (arith, going_broken (way_step ways (a_way id refs)) seen e)
going_broken ways (a_relation id whole members ∷ seen) e = going_broken ways seen e

fresh_broken : (ids : Ids) (seen : List Seen) → (fold first_step (fresh ids) seen).in_order ≡ false → (fold first_step (fresh ids) seen).ways ≡ start_ways (fold node_step ids seen)
fresh_broken ids [] e = absurd (cc)
fresh_broken ids (a_node id inside ∷ seen) e = fresh_broken (node_step ids (a_node id inside)) seen e
fresh_broken ids (a_way id refs ∷ seen) e = grind (arith, going_broken (way_step (start_ways ids) (a_way id refs)) seen e)
fresh_broken ids (a_relation id whole members ∷ seen) e = fresh_broken ids seen e

pub first_broken : (seen : List Seen) → (first_pass seen).in_order ≡ false → (first_pass seen).ways ≡ start_ways (node_pass seen)
first_broken seen e = fresh_broken set.empty seen e

-- ---- what the phase's fields show

abbrev first_of : Bool → Bool → WaySets → FirstSets
first_of h o ways = record { has_ways = h; in_order = o; ways = ways }

pub fresh_first : (box refs ways : Ids) → box ≡ set.empty → refs ≡ set.empty → ways ≡ set.empty → first_of false true (sets_of box refs ways) ≡ start_first
fresh_first box refs ways e f g = ap (λ (w : WaySets). first_of false true w) (shown_start set.empty box refs ways e f g)

-- there is nothing to forget
pub before_same : (h o : Bool) (box refs ways : Ids) → IsWayless h o refs ways → (h && o) ≡ false → first_of h o (sets_of box refs ways) ≡ before_node (first_of h o (sets_of box refs ways))
before_same h o box refs ways none e = grind (arith, none, e, shown_start box box refs ways refl)

-- the ways are forgotten
pub shown_dropped : (h o : Bool) (box refs ways new newer : Ids) → new ≡ set.empty → newer ≡ set.empty → first_of h false (sets_of box new newer) ≡ without_ways (first_of h o (sets_of box refs ways))
shown_dropped h o box refs ways new newer f g = ap (λ (w : WaySets). first_of h false w) (shown_start box box new newer refl f g)

-- a node comes, and then another: that is as one
once : (h o : Bool) → ((o && not h) && not h) ≡ (o && not h)
once h o = grind arith

pub first_step-passes_over : PassesOver first_step
first_step-passes_over = record {
  before = λ sets id other inside. ap (λ b. record (first_step sets (a_node other inside)) { in_order = b }) (once sets.has_ways sets.in_order);
  after = λ sets id other inside. ap (λ b. record (first_step sets (a_node id inside)) { in_order = b }) (once sets.has_ways sets.in_order);
}
