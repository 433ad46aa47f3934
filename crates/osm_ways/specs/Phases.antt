-- What the passes do with each entity of a list, and the sets that they gather.
use Rattle.std.specs.Prelude.{◌≡◌, ℤ, Bool, true, false, ◌&&◌, ◌||◌, if◌then◌else◌, List, refl, Option, Some, None, Result, OnOk, OnErr}
use Rattle.std.specs.Coded.{Coded, code_by, coded×, coded_ℤ}
use Rattle.std.specs.List.{fold}
use Rattle.std.specs.Ordering.{int_cmp}
use Rattle.std.specs.FinSet as set
use Rattle.osm_ids.specs.Links.{link_cmp, link_code}
use Rattle.osm_ways.specs.Added.{AddedSets, added_code, members_if, nothing_added, with_added_refs}
use Rattle.osm_ways.specs.Selection.{MemberSeen, relation_member, Seen, a_node, a_way, a_relation, no_ids, is_kept_way, is_kept_relation}

abbrev pub Ids : Type 0
Ids = set.FinSet int_cmp

abbrev pub ids_code : Coded Ids
ids_code = set.code coded_ℤ

abbrev pub LinkSet : Type 0
LinkSet = set.FinSet link_cmp

-- ---- what the passes have

-- of the nodes and the ways: the box's nodes, all nodes that are kept, the kept ways
pub record WaySets : Type 0 where
  pub box_ids : Ids
  pub node_ids : Ids
  pub way_ids : Ids

-- the same, with the refs that are no nodes of the box apart
abbrev pub sets_of : Ids → Ids → Ids → WaySets
sets_of in_box refs ways = record { box_ids = in_box; node_ids = set.union in_box refs; way_ids = ways }

-- of the relations besides: those that nodes and ways select, a link from each relation member to its relation, and what is added for
-- those that are wanted whole
pub record RelationSets : Type 0 where
  pub ways : WaySets
  pub start : Ids
  pub links : LinkSet
  pub added : AddedSets

-- what relations gave: those that nodes and ways select, their links, and what is added
pub record Found : Type 0 where
  pub start : Ids
  pub links : LinkSet
  pub added : AddedSets

-- all that selects: those of all parents besides, if they are kept; and what is added
pub record KeptSets : Type 0 where
  pub ways : WaySets
  pub relation_ids : Ids
  pub added : AddedSets

abbrev pub way_sets_code : Coded WaySets
way_sets_code = code_by (Ids × (Ids × Ids)) (coded× ids_code (coded× ids_code ids_code)) (λ s. (s.box_ids, (s.node_ids, s.way_ids))) (λ p. record { box_ids = p.0; node_ids = p.1.0; way_ids = p.1.1 }) (λ _. refl)

abbrev pub relation_sets_code : Coded RelationSets
relation_sets_code = code_by (WaySets × (Ids × (LinkSet × AddedSets))) (coded× way_sets_code (coded× ids_code (coded× (set.code link_code) added_code))) (λ s. (s.ways, (s.start, (s.links, s.added)))) (λ p. record { ways = p.0; start = p.1.0; links = p.1.1.0; added = p.1.1.1 }) (λ _. refl)

abbrev pub kept_sets_code : Coded KeptSets
kept_sets_code = code_by (WaySets × (Ids × AddedSets)) (coded× way_sets_code (coded× ids_code added_code)) (λ s. (s.ways, (s.relation_ids, s.added))) (λ p. record { ways = p.0; relation_ids = p.1.0; added = p.1.1 }) (λ _. refl)

abbrev pub found_code : Coded Found
found_code = code_by (Ids × (LinkSet × AddedSets)) (coded× ids_code (coded× (set.code link_code) added_code)) (λ f. (f.start, (f.links, f.added))) (λ p. record { start = p.0; links = p.1.0; added = p.1.1 }) (λ _. refl)

abbrev pub nothing_found : Found
nothing_found = record { start = set.empty; links = set.empty; added = nothing_added }

abbrev pub relations_from : WaySets → Found → RelationSets
relations_from sets found = record { ways = sets; start = found.start; links = found.links; added = found.added }

-- no parents besides, and nothing added
abbrev pub without_parents : WaySets → KeptSets
without_parents sets = record { ways = sets; relation_ids = set.empty; added = nothing_added }

abbrev pub ids_or_none : Option Ids → Ids
ids_or_none None = set.empty
ids_or_none (Some ids) = ids

-- ---- what one entity adds

abbrev pub ids_with_node : Ids → ℤ → Bool → Ids
ids_with_node ids id inside = if inside then set.insert ids id else ids

abbrev pub sets_with_way : WaySets → ℤ → List ℤ → WaySets
sets_with_way sets id refs =
    if is_kept_way (set.contains sets.box_ids) refs then record sets { node_ids = fold set.insert sets.node_ids refs; way_ids = set.insert sets.way_ids id } else sets

-- the refs of a kept way besides
abbrev pub refs_if : Bool → Ids → List ℤ → Ids
refs_if kept ids refs = if kept then fold set.insert ids refs else ids

-- the link of a member to its relation
abbrev pub with_link : ℤ → LinkSet → MemberSeen → LinkSet
with_link id links (relation_member own) = set.insert links (record { member = own; parent = id })
with_link _ links _ = links

-- whether a node or a way selects a relation
abbrev pub is_start : WaySets → List MemberSeen → Bool
is_start sets members = is_kept_relation (set.contains sets.node_ids) (set.contains sets.way_ids) no_ids members

-- by whether a node or a way selects it, and whether it is wanted whole
abbrev pub found_if : (starts whole : Bool) → Found → ℤ → List MemberSeen → Found
found_if starts whole found id members =
    record { start = if starts then set.insert found.start id else found.start; links = fold (with_link id) found.links members; added = members_if (whole && starts) found.added members }

abbrev pub found_with : WaySets → Found → ℤ → Bool → List MemberSeen → Found
found_with sets found id whole members = found_if (is_start sets members) whole found id members

abbrev pub sets_with_relation : RelationSets → ℤ → Bool → List MemberSeen → RelationSets
sets_with_relation sets id whole members = relations_from sets.ways (found_with sets.ways (record { start = sets.start; links = sets.links; added = sets.added }) id whole members)

-- ---- the passes

abbrev pub node_step : Ids → Seen → Ids
node_step ids (a_node id inside) = ids_with_node ids id inside
node_step ids _ = ids

-- a node was taken; if memory is refused, all is as it was
pub record TakesNode {S X E : Type 0} (step : S → Seen → S) (node : Seen) (before now : S) (result : Result X E) : Type 0 where
  pub ok : OnOk result (now ≡ step before node)
  pub err : OnErr result (now ≡ before)

-- next to another node, one that lies outside changes nothing
pub record PassesOver {S : Type 0} (step : S → Seen → S) : Type 0 where
  pub before : (s : S) (id other : ℤ) (inside : Bool) → step (step s (a_node id false)) (a_node other inside) ≡ step s (a_node other inside)
  pub after : (s : S) (id other : ℤ) (inside : Bool) → step (step s (a_node id inside)) (a_node other false) ≡ step s (a_node id inside)

-- after this, a way without a ref to a node in the area changes nothing
abbrev pub LeavesOutWays : {S : Type 0} → (S → Seen → S) → (inside : S → Ids) → S → Type 0
LeavesOutWays step inside s = (id : ℤ) (refs : List ℤ) → is_kept_way (set.contains (inside s)) refs ≡ false → step s (a_way id refs) ≡ s

-- ways change nothing unless they are taken
abbrev pub TakesWays : {S : Type 0} → Bool → (S → Seen → S) → Type 0
TakesWays {S} takes step = takes ≡ false → (s : S) (id : ℤ) (refs : List ℤ) → step s (a_way id refs) ≡ s

-- relations likewise
abbrev pub TakesRelations : {S : Type 0} → Bool → (S → Seen → S) → Type 0
TakesRelations {S} takes step = takes ≡ false → (s : S) (id : ℤ) (whole : Bool) (members : List MemberSeen) → step s (a_relation id whole members) ≡ s

abbrev pub way_step : WaySets → Seen → WaySets
way_step sets (a_way id refs) = sets_with_way sets id refs
way_step sets _ = sets

abbrev pub relation_step : RelationSets → Seen → RelationSets
relation_step sets (a_relation id whole members) = sets_with_relation sets id whole members
relation_step sets _ = sets

abbrev pub member_step : KeptSets → Seen → KeptSets
member_step sets (a_way id refs) = record sets { added = with_added_refs sets.added id refs }
member_step sets _ = sets

-- when the nodes end, all nodes of the box are kept, and no way yet
abbrev pub start_ways : Ids → WaySets
start_ways ids = record { box_ids = ids; node_ids = ids; way_ids = set.empty }

abbrev pub start_relations : WaySets → RelationSets
start_relations sets = record { ways = sets; start = set.empty; links = set.empty; added = nothing_added }

abbrev pub node_pass : List Seen → Ids
node_pass seen = fold node_step set.empty seen

abbrev pub way_pass : List Seen → WaySets
way_pass seen = fold way_step (start_ways (node_pass seen)) seen

abbrev pub relation_pass : List Seen → RelationSets
relation_pass seen = fold relation_step (start_relations (way_pass seen)) seen

-- what relations gave, the least set of the relations that are kept, and a pass more
abbrev pub begun_members : RelationSets → Ids → KeptSets
begun_members sets relations = record { ways = sets.ways; relation_ids = relations; added = sets.added }

abbrev pub member_pass : Ids → List Seen → KeptSets
member_pass relations seen =
    fold member_step (begun_members (relation_pass seen) relations) seen

-- a first phase, which takes nodes and maybe more: if it has all ways, it ends as the second pass does, and otherwise as the first
pub record TakesFirst {S : Type 0} (start : S) (step : S → Seen → S) (has_ways : S → Bool) (ended : S → WaySets) : Type 0 where
  pub all : (seen : List Seen) → has_ways (fold step start seen) ≡ true → ended (fold step start seen) ≡ way_pass seen
  pub nodes : (seen : List Seen) → has_ways (fold step start seen) ≡ false → ended (fold step start seen) ≡ start_ways (node_pass seen)

-- one that takes relations too: if it has all ways, it has what the third pass gathers, and otherwise nothing
pub record TakesAll {S : Type 0} (start : S) (step : S → Seen → S) (has_ways : S → Bool) (ended : S → WaySets) (found : S → Found) : Type 0 where
  pub all : (seen : List Seen) → has_ways (fold step start seen) ≡ true → relations_from (ended (fold step start seen)) (found (fold step start seen)) ≡ relation_pass seen
  pub nothing : (seen : List Seen) → has_ways (fold step start seen) ≡ false → found (fold step start seen) ≡ nothing_found

-- ---- what they keep

abbrev pub keeps_id : KeptSets → ℤ → Bool
keeps_id sets id = set.contains sets.added.nodes id || set.contains sets.ways.node_ids id

abbrev pub is_chosen : KeptSets → Seen → Bool
is_chosen sets (a_node id inside) = keeps_id sets id
is_chosen sets (a_way id refs) = set.contains sets.added.ways id || is_kept_way (set.contains sets.ways.box_ids) refs
is_chosen sets (a_relation id whole members) = is_kept_relation (set.contains sets.ways.node_ids) (set.contains sets.ways.way_ids) (set.contains sets.relation_ids) members

-- the same, but of ways by their refs only those whose id the sets have: in the list that they were gathered from these are all that they
-- choose
abbrev pub is_taken : KeptSets → Seen → Bool
is_taken sets (a_node id inside) = is_chosen sets (a_node id inside)
is_taken sets (a_way id refs) = set.contains sets.added.ways id || (set.contains sets.ways.way_ids id && is_kept_way (set.contains sets.ways.box_ids) refs)
is_taken sets (a_relation id whole members) = is_chosen sets (a_relation id whole members)
