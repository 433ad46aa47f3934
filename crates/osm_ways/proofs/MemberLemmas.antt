-- The passes gather what is added for relations that are wanted whole.
use Rattle.std.proofs.Common.{arith, ◌≡◌, ℤ, Bool, true, false, ◌||◌, List, [], ◌∷◌, length, refl, sym, ap, ◌∙◌}
use Rattle.std.specs.List.{list_any, fold}
use Rattle.std.specs.Ordering.{int_cmp}
use Rattle.std.specs.FinSet as set
use Rattle.osm_entity.specs.Entity.{TagSpec}
use Rattle.osm_ids.specs.Links.{IsLeast}
use Rattle.osm_ids.specs.Pages.{rising}
use Rattle.osm_ids.proofs.Rising.{ids_of-rising}
use Rattle.osm_ids.proofs.Sets.{ids_of}
use Rattle.osm_ids.proofs.Walking.{len_is}
use Rattle.osm_ways.specs.Added.{AddedSets, with_member}
use Rattle.osm_ways.specs.Phases.{Ids, KeptSets, RelationSets, WaySets, begun_members, is_chosen, member_pass, member_step, relation_pass, relation_step, sets_with_relation, start_relations, way_pass}
use Rattle.osm_ways.specs.Selection.{MemberSeen, node_member, way_member, relation_member, Seen, a_node, a_way, a_relation, box_ids, has_member, is_added, is_kept_relation, is_kept_way, is_member, is_ref, keeps, keeps_way, node_ids, smart, way_ids}
use Rattle.osm_ways.proofs.Passes.{contains-insert_all, node_ids-after, way_ids-after, all_nodes-after, all_ways-after, inside-after, levels-after}

-- ---- the members of a relation

nodes-with : (added : AddedSets) (members : List MemberSeen) (id : ℤ) → set.contains (fold with_member added members).nodes id ≡ (set.contains added.nodes id || list_any (is_member (node_member id)) members)
nodes-with added [] id = grind arith
nodes-with added (node_member own ∷ members) id = grind (arith, set.members, nodes-with (with_member added (node_member own)) members id)
nodes-with added (way_member own ∷ members) id = nodes-with (with_member added (way_member own)) members id
nodes-with added (relation_member own ∷ members) id = nodes-with added members id

ways-with : (added : AddedSets) (members : List MemberSeen) (id : ℤ) → set.contains (fold with_member added members).ways id ≡ (set.contains added.ways id || list_any (is_member (way_member id)) members)
ways-with added [] id = grind arith
ways-with added (node_member own ∷ members) id = ways-with (with_member added (node_member own)) members id
ways-with added (way_member own ∷ members) id = grind (arith, set.members, ways-with (with_member added (way_member own)) members id)
ways-with added (relation_member own ∷ members) id = ways-with added members id

-- ---- the pass over relations

abbrev adds : WaySets → MemberSeen → Seen → Bool
adds sets = has_member (set.contains sets.node_ids) (set.contains sets.way_ids)

nodes-relation_pass : (sets : RelationSets) (seen : List Seen) (id : ℤ) → set.contains (fold relation_step sets seen).added.nodes id ≡ (set.contains sets.added.nodes id || list_any (adds sets.ways (node_member id)) seen)
nodes-relation_pass sets [] id = grind arith
nodes-relation_pass sets (a_node own inside ∷ seen) id = nodes-relation_pass sets seen id
nodes-relation_pass sets (a_way own refs ∷ seen) id = nodes-relation_pass sets seen id
nodes-relation_pass sets (a_relation own whole members ∷ seen) id = grind (arith, nodes-relation_pass (sets_with_relation sets own whole members) seen id, nodes-with sets.added members id)

ways-relation_pass : (sets : RelationSets) (seen : List Seen) (id : ℤ) → set.contains (fold relation_step sets seen).added.ways id ≡ (set.contains sets.added.ways id || list_any (adds sets.ways (way_member id)) seen)
ways-relation_pass sets [] id = grind arith
ways-relation_pass sets (a_node own inside ∷ seen) id = ways-relation_pass sets seen id
ways-relation_pass sets (a_way own refs ∷ seen) id = ways-relation_pass sets seen id
ways-relation_pass sets (a_relation own whole members ∷ seen) id = grind (arith, ways-relation_pass (sets_with_relation sets own whole members) seen id, ways-with sets.added members id)

-- ---- the pass over ways that were added

-- only the nodes that are added change
stays-member_pass : (sets : KeptSets) (seen : List Seen) → ((fold member_step sets seen).ways ≡ sets.ways) × ((fold member_step sets seen).relation_ids ≡ sets.relation_ids) × ((fold member_step sets seen).added.ways ≡ sets.added.ways)
stays-member_pass sets [] = (refl, refl, refl)
stays-member_pass sets (a_node own inside ∷ seen) = stays-member_pass sets seen
stays-member_pass sets (a_way own refs ∷ seen) = grind (arith, stays-member_pass (member_step sets (a_way own refs)) seen)
stays-member_pass sets (a_relation own whole members ∷ seen) = stays-member_pass sets seen

pub members_keep_ways : (ids : Ids) (seen : List Seen) → (member_pass ids seen).ways ≡ (relation_pass seen).ways
members_keep_ways ids seen = (stays-member_pass (begun_members (relation_pass seen) ids) seen).0

-- a way that was added
abbrev by_added : KeptSets → ℤ → List ℤ → Bool
by_added sets own refs = set.contains sets.added.ways own

nodes-member_pass : (sets : KeptSets) (seen : List Seen) (id : ℤ) → set.contains (fold member_step sets seen).added.nodes id ≡ (set.contains sets.added.nodes id || list_any (is_ref (by_added sets) id) seen)
nodes-member_pass sets [] id = grind arith
nodes-member_pass sets (a_node own inside ∷ seen) id = nodes-member_pass sets seen id
nodes-member_pass sets (a_way own refs ∷ seen) id = grind (arith, nodes-member_pass (member_step sets (a_way own refs)) seen id, contains-insert_all sets.added.nodes refs id)
nodes-member_pass sets (a_relation own whole members ∷ seen) id = nodes-member_pass sets seen id

-- if no way was added, it changes nothing
pub none_to_add : (sets : KeptSets) → sets.added.ways ≡ set.empty → (seen : List Seen) → fold member_step sets seen ≡ sets
none_to_add sets none [] = refl
none_to_add sets none (a_node own inside ∷ seen) = none_to_add sets none seen
none_to_add sets none (a_way own refs ∷ seen) = grind (arith, set.members, none, none_to_add sets none seen)
none_to_add sets none (a_relation own whole members ∷ seen) = none_to_add sets none seen

-- a set that counts none has none
pub none_counted : (ids : Ids) → set.len ids ≡ 0 → ids ≡ set.empty
none_counted ids h = none (rising ids) (len_is ids ∙ h) (ids_of-rising ids) where
  none : (some : List ℤ) → length some ≡ 0 → ids_of some ≡ ids → ids ≡ set.empty
  none [] e same = sym same
  none (id ∷ some) e same = absurd (cc)

-- ---- the passes, each over the whole list

regroup : (a b c d : Bool) → ((a || b) || (c || d)) ≡ (a || (c || (b || d)))
regroup true b c d = refl
regroup false true true d = refl
regroup false true false d = refl
regroup false false c d = refl

-- refs of ways that are kept for either reason
either_way : (some more : ℤ → List ℤ → Bool) (id : ℤ) (e : Seen) → is_ref (λ own refs. some own refs || more own refs) id e ≡ (is_ref some id e || is_ref more id e)
either_way some more id (a_node own inside) = refl
either_way some more id (a_way own refs) = grind (arith, some own refs, more own refs)
either_way some more id (a_relation own whole members) = refl

any_either : (p q : Seen → Bool) (seen : List Seen) → list_any (λ e. p e || q e) seen ≡ (list_any p seen || list_any q seen)
any_either p q [] = refl
any_either p q (e ∷ seen) = grind (arith, any_either p q seen)

module _ (whole : List TagSpec → Bool) (seen : List Seen) where
  added_nodes-after : (id : ℤ) → set.contains (relation_pass seen).added.nodes id ≡ is_added (smart whole) seen (node_member id)
  added_nodes-after id =
      nodes-relation_pass (start_relations (way_pass seen)) seen id ∙ ap (λ b. b || list_any (adds (way_pass seen) (node_member id)) seen) (set.contains-empty int_cmp id)
      ∙ (λ i. list_any (has_member (node_ids-after seen i) (way_ids-after seen i) (node_member id)) seen)

  added_ways-after : (id : ℤ) → set.contains (relation_pass seen).added.ways id ≡ is_added (smart whole) seen (way_member id)
  added_ways-after id =
      ways-relation_pass (start_relations (way_pass seen)) seen id ∙ ap (λ b. b || list_any (adds (way_pass seen) (way_member id)) seen) (set.contains-empty int_cmp id)
      ∙ (λ i. list_any (has_member (node_ids-after seen i) (way_ids-after seen i) (way_member id)) seen)

  refs_of_kept : (id : ℤ) → list_any (is_ref (keeps_way (smart whole) seen) id) seen ≡ (list_any (is_ref (λ own refs. is_added (smart whole) seen (way_member own)) id) seen || list_any (is_ref (λ own refs. is_kept_way (box_ids seen) refs) id) seen)
  refs_of_kept id =
      (λ i. list_any (λ e. either_way (λ own refs. is_added (smart whole) seen (way_member own)) (λ own refs. is_kept_way (box_ids seen) refs) id e i) seen)
      ∙ any_either (is_ref (λ own refs. is_added (smart whole) seen (way_member own)) id) (is_ref (λ own refs. is_kept_way (box_ids seen) refs) id) seen

  module _ (ids : Ids) (h : IsLeast (set.contains (relation_pass seen).links) (relation_pass seen).start ids) where
    abbrev before : KeptSets
    before = record { ways = (relation_pass seen).ways; relation_ids = ids; added = (relation_pass seen).added }

    abbrev end : KeptSets
    end = fold member_step before seen

    nodes-end : (id : ℤ) → set.contains end.added.nodes id ≡ (is_added (smart whole) seen (node_member id) || list_any (is_ref (λ own refs. is_added (smart whole) seen (way_member own)) id) seen)
    nodes-end id = nodes-member_pass before seen id ∙ (λ i. added_nodes-after id i || list_any (is_ref (λ own refs. added_ways-after own i) id) seen)

    node_ids-end : (id : ℤ) → set.contains end.ways.node_ids id ≡ (box_ids seen id || list_any (is_ref (λ own refs. is_kept_way (box_ids seen) refs) id) seen)
    node_ids-end id = ap (λ (w : WaySets). set.contains w.node_ids id) (stays-member_pass before seen).0 ∙ ap (λ (f : ℤ → Bool). f id) (all_nodes-after seen)

    by_end : (e : Seen) → is_chosen end e ≡ keeps (smart whole) seen e
    by_end (a_node id inside) =
        (λ i. nodes-end id i || node_ids-end id i)
        ∙ regroup (is_added (smart whole) seen (node_member id)) (list_any (is_ref (λ own refs. is_added (smart whole) seen (way_member own)) id) seen) (box_ids seen id) (list_any (is_ref (λ own refs. is_kept_way (box_ids seen) refs) id) seen)
        ∙ (λ i. is_added (smart whole) seen (node_member id) || (box_ids seen id || sym (refs_of_kept id) i))
    by_end (a_way id refs) =
        (λ i. set.contains ((stays-member_pass before seen).2 i) id || is_kept_way (set.contains ((stays-member_pass before seen).0 i).box_ids) refs)
        ∙ (λ i. added_ways-after id i || is_kept_way (inside-after seen i) refs)
    by_end (a_relation id is_whole members) =
        (λ i. is_kept_relation (set.contains ((stays-member_pass before seen).0 i).node_ids) (set.contains ((stays-member_pass before seen).0 i).way_ids) (set.contains ((stays-member_pass before seen).1 i)) members)
        ∙ (λ i. is_kept_relation (all_nodes-after seen i) (all_ways-after seen i) (levels-after seen ids h i) members)

    pub chosen_with_members : is_chosen (member_pass ids seen) ≡ keeps (smart whole) seen
    chosen_with_members = λ i e. by_end e i
