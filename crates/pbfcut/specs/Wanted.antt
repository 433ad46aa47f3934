-- What several areas want of a block, which is read once for all of them.
use Rattle.std.specs.Prelude.{◌≡◌, ◌+◌, ℕ, Bool, if◌then◌else◌, List, [], ◌∷◌, ◌++◌, length}
use Rattle.std.specs.List.{AllByRecursion, AllZip, filter, flat_map, list_any}
use Rattle.std.specs.Global.{Vec}
use Rattle.osm_entity.specs.Entity.{EntitySpec}
use Rattle.osm_entity.specs.Ranges.{EntityFits}
use Rattle.osm_ways.specs.declared.choice_strips.ChoiceStrips.{ChoiceStrips}
use Rattle.osm_ways.specs.ChoiceStrips.{MarksKeepers, NamesChoice}
use Rattle.osm_ways.specs.Phases.{KeptSets}
use Rattle.pbf_block.specs.declared.runs.Run.{Run}
use Rattle.pbf_block.specs.Runs.{run_entities}
use Rattle.pbfcut.specs.Pick.{Pick, taken_by}

-- ---- which choices are marked

-- those that keep one of these, in the file that they were made from, were marked; if this is false, there are none
abbrev pub MarksTakers : ChoiceStrips → List EntitySpec → (old new : List Bool) → Bool → Type 0
MarksTakers strips es = MarksKeepers strips (λ sets. list_any (taken_by sets) es)

-- this holds of each element with its number, counted from this one
abbrev pub AllFrom : {X : Type 0} → (ℕ → X → Type 0) → ℕ → List X → Type 0
AllFrom R number [] = Unit {0}
AllFrom R number (x ∷ xs) = R number x × AllFrom R (number + 1) xs

-- ---- runs

-- the entities of runs one after another
abbrev pub listed_entities : List Run → List EntitySpec
listed_entities runs = flat_map run_entities runs

-- of these entities those have all that is picked, and can be written if these can
pub record AreWanted (pick : Pick) (es wanted : List EntitySpec) : Type 0 where
  pub same : filter pick wanted ≡ filter pick es
  pub fit : AllByRecursion EntityFits es → AllByRecursion EntityFits wanted

-- so each list has what is wanted for a choice
abbrev pub AreWantedEach : List EntitySpec → List KeptSets → List (Vec Run) → Type 0
AreWantedEach es choices lists = AllZip (λ sets list. AreWanted (taken_by sets) es (listed_entities list.items)) choices lists

-- a run was added to the lists that are marked
abbrev pub IsShared : {T : Type 0} → T → Bool → Vec T → Vec T → Type 0
IsShared run mark old new = new.items ≡ (if mark then old.items ++ run ∷ [] else old.items)

-- whatever the choices are that strips name, each list has what is wanted for one
abbrev pub WantedLists : ChoiceStrips → List EntitySpec → List (Vec Run) → Type 0
WantedLists strips es lists = (choices : List KeptSets) → length choices ≡ length lists → AllFrom (NamesChoice strips) 0 choices → AreWantedEach es choices lists
