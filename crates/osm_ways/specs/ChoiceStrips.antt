-- Which of several choices may keep an entity, by strips of ids.
use Rattle.std.specs.Prelude.{◌≡◌, ℕ, Bool, true, false, List, nat_eq}
use Rattle.std.specs.List.{list_any}
use Rattle.osm_ids.specs.Strips.{MarksNamed, NamesAll, named_at}
use Rattle.osm_ways.specs.declared.choice_strips.ChoiceStrips.{ChoiceStrips}
use Rattle.osm_ways.specs.Phases.{KeptSets}
use Rattle.osm_ways.specs.Selection.{MemberSeen, node_member, way_member, relation_member}

-- the choice with this number is named for each id that it has
pub record NamesChoice (strips : ChoiceStrips) (number : ℕ) (sets : KeptSets) : Type 0 where
  pub node_ids : NamesAll strips.nodes number sets.ways.node_ids
  pub added_nodes : NamesAll strips.nodes number sets.added.nodes
  pub way_ids : NamesAll strips.ways number sets.ways.way_ids
  pub added_ways : NamesAll strips.ways number sets.added.ways
  pub relation_ids : NamesAll strips.relations number sets.relation_ids

-- what was named still is
abbrev pub StillNamesChoices : ChoiceStrips → ChoiceStrips → Type 0
StillNamesChoices old new = (number : ℕ) (sets : KeptSets) → NamesChoice old number sets → NamesChoice new number sets

-- a choice with this number is named that keeps what is tested
abbrev pub MayKeep : ChoiceStrips → (KeptSets → Bool) → ℕ → Type 0
MayKeep strips test number = (sets : KeptSets) × NamesChoice strips number sets × (test sets ≡ true)

-- those that may keep it were marked; if this is false, there are none
abbrev pub MarksKeepers : ChoiceStrips → (KeptSets → Bool) → (old new : List Bool) → Bool → Type 0
MarksKeepers strips test = MarksNamed (MayKeep strips test)

-- whether the choice of this number is named for a member
abbrev pub names_member : ChoiceStrips → ℕ → MemberSeen → Bool
names_member strips number (node_member id) = list_any (nat_eq number) (named_at strips.nodes id)
names_member strips number (way_member id) = list_any (nat_eq number) (named_at strips.ways id)
names_member strips number (relation_member id) = list_any (nat_eq number) (named_at strips.relations id)

abbrev pub IsNamedBy : ChoiceStrips → MemberSeen → ℕ → Type 0
IsNamedBy strips member number = names_member strips number member ≡ true
