-- What strips of choices name.
use Rattle.std.proofs.Common.{◌≡◌, true, false, Bool, ◌&&◌, ◌||◌, ℕ, ℤ, List, [], ◌∷◌, Option, None, refl, sym, ◌∙◌, inl, inr, true≢false}
use Rattle.std.specs.List.{list_any}
use Rattle.std.specs.Ordering.{int_cmp}
use Rattle.std.specs.Cmp.{int_cmp_total}
use Rattle.std.specs.FinSet as set
use Rattle.std.proofs.lemmas.Bool.{or_cases, and_parts, or_from, or_left, or_right}
use Rattle.osm_ids.specs.declared.strips.IdStrips.{IdStrips}
use Rattle.osm_ids.specs.Strips.{IsNamed, MarksNamed, NamesAll}
use Rattle.osm_ids.proofs.StripLemmas.{marks_fewer}
use Rattle.osm_ways.specs.declared.choice_strips.ChoiceStrips.{ChoiceStrips}
use Rattle.osm_ways.specs.Added.{AddedSets, added_or_none}
use Rattle.osm_ways.specs.ChoiceStrips.{IsNamedBy, MarksKeepers, NamesChoice, names_member}
use Rattle.osm_ways.specs.Phases.{Ids, KeptSets, ids_or_none, is_taken, keeps_id}
use Rattle.osm_ways.proofs.MarkingLemmas.{IsPassed, passed_more}
use Rattle.osm_ways.specs.Selection.{MemberSeen, node_member, way_member, relation_member, a_way, a_relation, is_kept_relation, is_kept_way, is_selecting}

-- ---- what is kept is named

-- a choice is named for each node that it keeps
pub named_node : (strips : ChoiceStrips) (number : ℕ) (sets : KeptSets) (id : ℤ) → NamesChoice strips number sets → keeps_id sets id ≡ true → IsNamed strips.nodes id number
named_node strips number sets id names keeps =
    elim (or_cases (set.contains sets.added.nodes id) (set.contains sets.ways.node_ids id) keeps) [
      | inl added ↦ names.added_nodes id added
      | inr kept ↦ names.node_ids id kept
    ]

-- and for each way
pub named_way : (strips : ChoiceStrips) (number : ℕ) (sets : KeptSets) (id : ℤ) (refs : List ℤ) → NamesChoice strips number sets → is_taken sets (a_way id refs) ≡ true → IsNamed strips.ways id number
named_way strips number sets id refs names taken =
    elim (or_cases (set.contains sets.added.ways id) (set.contains sets.ways.way_ids id && is_kept_way (set.contains sets.ways.box_ids) refs) taken) [
      | inl added ↦ names.added_ways id added
      | inr kept ↦ names.way_ids id (and_parts _ _ kept).0
    ]

-- and for each member that selects its relation
named_member : (strips : ChoiceStrips) (number : ℕ) (sets : KeptSets) (member : MemberSeen) → NamesChoice strips number sets → is_selecting (set.contains sets.ways.node_ids) (set.contains sets.ways.way_ids) (set.contains sets.relation_ids) member ≡ true → names_member strips number member ≡ true
named_member strips number sets (node_member id) names selects = names.node_ids id selects
named_member strips number sets (way_member id) names selects = names.way_ids id selects
named_member strips number sets (relation_member id) names selects = names.relation_ids id selects

-- for a member of each relation that it keeps
pub named_relation : (strips : ChoiceStrips) (number : ℕ) (sets : KeptSets) (members : List MemberSeen) → NamesChoice strips number sets → is_kept_relation (set.contains sets.ways.node_ids) (set.contains sets.ways.way_ids) (set.contains sets.relation_ids) members ≡ true → list_any (names_member strips number) members ≡ true
named_relation strips number sets [] names kept = absurd (true≢false (sym kept))
named_relation strips number sets (member ∷ members) names kept =
    elim (or_cases (is_selecting (set.contains sets.ways.node_ids) (set.contains sets.ways.way_ids) (set.contains sets.relation_ids) member) (is_kept_relation (set.contains sets.ways.node_ids) (set.contains sets.ways.way_ids) (set.contains sets.relation_ids) members) kept) [
      | inl first ↦ or_left (names_member strips number member) (list_any (names_member strips number) members) (named_member strips number sets member names first)
      | inr more ↦ or_right (names_member strips number member) (list_any (names_member strips number) members) (named_relation strips number sets members names more)
    ]

-- ---- sets that are named together

pub union_named : (strips : IdStrips) (number : ℕ) (some more : Ids) → NamesAll strips number some → NamesAll strips number more → NamesAll strips number (set.union some more)
union_named strips number some more first second id there =
    elim (or_cases (set.contains some id) (set.contains more id) (sym (set.contains-union int_cmp_total some more id) ∙ there)) [
      | inl e ↦ first id e
      | inr e ↦ second id e
    ]

none_named : (strips : IdStrips) (number : ℕ) → NamesAll strips number set.empty
none_named strips number id there = absurd (true≢false (sym there ∙ set.contains-empty int_cmp id))

pub no_nodes : (strips : IdStrips) (number : ℕ) (added : Option AddedSets) → added ≡ None → NamesAll strips number (added_or_none added).nodes
no_nodes strips number added none = rw none (none_named strips number)

pub no_ways : (strips : IdStrips) (number : ℕ) (added : Option AddedSets) → added ≡ None → NamesAll strips number (added_or_none added).ways
no_ways strips number added none = rw none (none_named strips number)

pub no_relations : (strips : IdStrips) (number : ℕ) (ids : Option Ids) → ids ≡ None → NamesAll strips number (ids_or_none ids)
no_relations strips number ids none = rw none (none_named strips number)

-- ---- marking for one member after another

pub member_more : (strips : ChoiceStrips) (all left : List MemberSeen) (member : MemberSeen) (old now new : List Bool) (some more : Bool) → MarksNamed (IsPassed (names_member strips) all (member ∷ left)) old now some → MarksNamed (IsNamedBy strips member) now new more → MarksNamed (IsPassed (names_member strips) all left) old new (some || more)
member_more strips all left member old now new some more so_far next = passed_more (names_member strips) all (member ∷ left) left member old now new some more (λ number first later. or_from _ _ first later) so_far next

-- no member is left
pub members_all : (strips : ChoiceStrips) (all : List MemberSeen) (id : ℤ) (whole : Bool) (old new : List Bool) (some : Bool) → MarksNamed (IsPassed (names_member strips) all []) old new some → MarksKeepers strips (λ sets. is_taken sets (a_relation id whole all)) old new some
members_all strips all id whole old new some so_far = marks_fewer _ (IsPassed (names_member strips) all []) old new some (λ number keeps. (named_relation strips number keeps.0 all keeps.1 keeps.2, refl)) so_far
