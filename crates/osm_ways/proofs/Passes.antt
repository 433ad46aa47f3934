-- The passes gather the sets of the whole list.
use Rattle.std.proofs.Common.{arith, ◌≡◌, ℤ, Bool, true, false, ◌&&◌, ◌||◌, List, [], ◌∷◌, refl, ap, subst, ◌∙◌, Ordering}
use Rattle.std.specs.List.{list_any, fold}
use Rattle.std.specs.Ordering.{int_eq, int_cmp, ordering_then, is_eq}
use Rattle.std.specs.Cmp.{int_cmp_total}
use Rattle.std.specs.FinSet as set
use Rattle.osm_ids.specs.declared.links.Link.{Link}
use Rattle.osm_ids.specs.Links.{link_cmp, IsLeast}
use Rattle.osm_ids.proofs.LinkOrder.{link_cmp_total}
use Rattle.osm_ways.specs.Selection.{MemberSeen, node_member, way_member, relation_member, Seen, a_node, a_way, a_relation, complete_ways, all_parents, no_ids, box_ids, node_ids, way_ids, is_box_node, is_kept_way, is_kept_ref, is_kept_id, is_kept_relation, is_selected, all_levels, keeps}
use Rattle.osm_ways.specs.Parents.{is_relation_member, links_in, start_in}
use Rattle.osm_ways.specs.Added.{nothing_added}
use Rattle.osm_ways.specs.Phases.{Ids, LinkSet, WaySets, RelationSets, sets_with_way, with_link, sets_with_relation, node_step, way_step, relation_step, start_ways, start_relations, node_pass, way_pass, relation_pass, without_parents, is_chosen}
use Rattle.osm_ways.proofs.ParentLaws.{links_are_parents}

pub contains-insert_all : (s : Ids) (ids : List ℤ) (id : ℤ) → set.contains (fold set.insert s ids) id ≡ (set.contains s id || list_any (int_eq id) ids)
contains-insert_all s [] id = grind arith
contains-insert_all s (x ∷ ids) id = grind (arith, set.members, contains-insert_all (set.insert s x) ids id)

-- ---- nodes

contains-node_pass : (ids : Ids) (seen : List Seen) (id : ℤ) → set.contains (fold node_step ids seen) id ≡ (set.contains ids id || list_any (is_box_node id) seen)
contains-node_pass ids [] id = grind arith
contains-node_pass ids (a_node own true ∷ seen) id = grind (arith, set.members, contains-node_pass (set.insert ids own) seen id)
contains-node_pass ids (a_node own false ∷ seen) id = contains-node_pass ids seen id
contains-node_pass ids (a_way own refs ∷ seen) id = contains-node_pass ids seen id
contains-node_pass ids (a_relation own whole members ∷ seen) id = contains-node_pass ids seen id

-- ---- ways

box_ids-way_pass : (sets : WaySets) (seen : List Seen) → (fold way_step sets seen).box_ids ≡ sets.box_ids
box_ids-way_pass sets [] = refl
box_ids-way_pass sets (a_node own inside ∷ seen) = box_ids-way_pass sets seen
box_ids-way_pass sets (a_way own refs ∷ seen) = grind (arith, box_ids-way_pass (sets_with_way sets own refs) seen)
box_ids-way_pass sets (a_relation own whole members ∷ seen) = box_ids-way_pass sets seen

node_ids-way_pass : (sets : WaySets) (seen : List Seen) (id : ℤ) → set.contains (fold way_step sets seen).node_ids id ≡ (set.contains sets.node_ids id || list_any (is_kept_ref (set.contains sets.box_ids) id) seen)
node_ids-way_pass sets [] id = grind arith
node_ids-way_pass sets (a_node own inside ∷ seen) id = node_ids-way_pass sets seen id
node_ids-way_pass sets (a_way own refs ∷ seen) id = grind (arith, node_ids-way_pass (sets_with_way sets own refs) seen id, contains-insert_all sets.node_ids refs id)
node_ids-way_pass sets (a_relation own whole members ∷ seen) id = node_ids-way_pass sets seen id

way_ids-way_pass : (sets : WaySets) (seen : List Seen) (id : ℤ) → set.contains (fold way_step sets seen).way_ids id ≡ (set.contains sets.way_ids id || list_any (is_kept_id (set.contains sets.box_ids) id) seen)
way_ids-way_pass sets [] id = grind arith
way_ids-way_pass sets (a_node own inside ∷ seen) id = way_ids-way_pass sets seen id
way_ids-way_pass sets (a_way own refs ∷ seen) id = grind (arith, set.contains-insert int_cmp_total sets.way_ids own id, way_ids-way_pass (sets_with_way sets own refs) seen id)
way_ids-way_pass sets (a_relation own whole members ∷ seen) id = way_ids-way_pass sets seen id

-- ---- relations

ways-relation_pass : (sets : RelationSets) (seen : List Seen) → (fold relation_step sets seen).ways ≡ sets.ways
ways-relation_pass sets [] = refl
ways-relation_pass sets (a_node own inside ∷ seen) = ways-relation_pass sets seen
ways-relation_pass sets (a_way own refs ∷ seen) = ways-relation_pass sets seen
ways-relation_pass sets (a_relation own whole members ∷ seen) = ways-relation_pass (sets_with_relation sets own whole members) seen

abbrev is_started : WaySets → ℤ → Seen → Bool
is_started sets = is_selected (set.contains sets.node_ids) (set.contains sets.way_ids) no_ids

start-relation_pass : (sets : RelationSets) (seen : List Seen) (id : ℤ) → set.contains (fold relation_step sets seen).start id ≡ (set.contains sets.start id || list_any (is_started sets.ways id) seen)
start-relation_pass sets [] id = grind arith
start-relation_pass sets (a_node own inside ∷ seen) id = start-relation_pass sets seen id
start-relation_pass sets (a_way own refs ∷ seen) id = start-relation_pass sets seen id
start-relation_pass sets (a_relation own whole members ∷ seen) id = grind (arith, set.contains-insert int_cmp_total sets.start own id, start-relation_pass (sets_with_relation sets own whole members) seen id)

both_alike : (r s : Ordering) → is_eq (ordering_then r s) ≡ (is_eq s && is_eq r)
both_alike r s = grind arith

contains-links : (id : ℤ) (links : LinkSet) (members : List MemberSeen) (l : Link) → set.contains (fold (with_link id) links members) l ≡ (set.contains links l || (int_eq l.parent id && list_any (is_relation_member l.member) members))
contains-links id links [] l = grind arith
contains-links id links (node_member own ∷ members) l = contains-links id links members l
contains-links id links (way_member own ∷ members) l = contains-links id links members l
contains-links id links (relation_member own ∷ members) l = grind (arith, contains-links id (set.insert links (record { member = own; parent = id })) members l, set.contains-insert link_cmp_total links (record { member = own; parent = id }) l, both_alike (int_cmp l.member own) (int_cmp l.parent id))

links-relation_pass : (sets : RelationSets) (seen : List Seen) (l : Link) → set.contains (fold relation_step sets seen).links l ≡ (set.contains sets.links l || links_in seen l)
links-relation_pass sets [] l = grind arith
links-relation_pass sets (a_node own inside ∷ seen) l = links-relation_pass sets seen l
links-relation_pass sets (a_way own refs ∷ seen) l = links-relation_pass sets seen l
links-relation_pass sets (a_relation own whole members ∷ seen) l = grind (arith, links-relation_pass (sets_with_relation sets own whole members) seen l, contains-links own sets.links members l)

pub none_kept : ◌≡◌ {A = ℤ → Bool} (set.contains {R = int_cmp} set.empty) no_ids
none_kept = λ i x. set.contains-empty int_cmp x i

-- ---- the passes, each over the whole list

module _ (seen : List Seen) where
  after_nodes : set.contains (node_pass seen) ≡ box_ids seen
  after_nodes = λ i id. (contains-node_pass set.empty seen id ∙ ap (λ b. b || box_ids seen id) (set.contains-empty int_cmp id)) i

  pub box_ids-after : set.contains (way_pass seen).box_ids ≡ box_ids seen
  box_ids-after = ap set.contains (box_ids-way_pass (start_ways (node_pass seen)) seen) ∙ after_nodes

  pub node_ids-after : set.contains (way_pass seen).node_ids ≡ node_ids all_parents seen
  node_ids-after = grind (arith, node_ids-way_pass (start_ways (node_pass seen)) seen, after_nodes)

  pub way_ids-after : set.contains (way_pass seen).way_ids ≡ way_ids seen
  way_ids-after = grind (arith, way_ids-way_pass (start_ways (node_pass seen)) seen, set.contains-empty int_cmp, after_nodes)

  by_sets : (e : Seen) → is_chosen (without_parents (way_pass seen)) e ≡ keeps complete_ways seen e
  by_sets (a_node id inside) = λ i. (none_kept i id || node_ids-after i id)
  by_sets (a_way id refs) = λ i. (none_kept i id || is_kept_way (box_ids-after i) refs)
  by_sets (a_relation id whole members) = λ i. is_kept_relation (node_ids-after i) (way_ids-after i) (none_kept i) members

  pub chosen_is_kept : is_chosen (without_parents (way_pass seen)) ≡ keeps complete_ways seen
  chosen_is_kept = λ i e. by_sets e i

  pub ways_stay : (relation_pass seen).ways ≡ way_pass seen
  ways_stay = ways-relation_pass (start_relations (way_pass seen)) seen

  pub inside-after : set.contains (relation_pass seen).ways.box_ids ≡ box_ids seen
  inside-after = ap (λ (sets : WaySets). set.contains sets.box_ids) ways_stay ∙ box_ids-after

  pub all_nodes-after : set.contains (relation_pass seen).ways.node_ids ≡ node_ids all_parents seen
  all_nodes-after = ap (λ (sets : WaySets). set.contains sets.node_ids) ways_stay ∙ node_ids-after

  pub all_ways-after : set.contains (relation_pass seen).ways.way_ids ≡ way_ids seen
  all_ways-after = ap (λ (sets : WaySets). set.contains sets.way_ids) ways_stay ∙ way_ids-after

  start-after : set.contains (relation_pass seen).start ≡ start_in all_parents seen
  start-after = grind (arith, start-relation_pass (start_relations (way_pass seen)) seen, set.contains-empty int_cmp, node_ids-after, way_ids-after)

  links-after : set.contains (relation_pass seen).links ≡ links_in seen
  links-after = λ i l. (links-relation_pass (start_relations (way_pass seen)) seen l ∙ ap (λ b. b || links_in seen l) (set.contains-empty link_cmp l)) i

  pub levels-after : (ids : Ids) → IsLeast (set.contains (relation_pass seen).links) (relation_pass seen).start ids → set.contains ids ≡ all_levels all_parents seen
  levels-after ids h = links_are_parents all_parents seen (relation_pass seen).start ids start-after (subst (λ (test : Link → Bool). IsLeast test (relation_pass seen).start ids) links-after h)

  by_all_sets : (ids : Ids) → set.contains ids ≡ all_levels all_parents seen → (e : Seen) → is_chosen (record { ways = (relation_pass seen).ways; relation_ids = ids; added = nothing_added }) e ≡ keeps all_parents seen e
  by_all_sets ids h (a_node id inside) = λ i. (none_kept i id || all_nodes-after i id)
  by_all_sets ids h (a_way id refs) = λ i. (none_kept i id || is_kept_way (inside-after i) refs)
  by_all_sets ids h (a_relation id whole members) = λ i. is_kept_relation (all_nodes-after i) (all_ways-after i) (h i) members

  pub chosen_with_parents : (ids : Ids) → IsLeast (set.contains (relation_pass seen).links) (relation_pass seen).start ids → is_chosen (record { ways = (relation_pass seen).ways; relation_ids = ids; added = nothing_added }) ≡ keeps all_parents seen
  chosen_with_parents ids h = λ i e. by_all_sets ids (levels-after ids h) e i
