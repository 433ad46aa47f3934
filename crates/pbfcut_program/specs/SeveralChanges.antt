-- What the events of a run are to the file system that writes several OUTs: each is kept, or dropped, among events that change nothing.
use Rattle.std.specs.Prelude.{◌≡◌, ◌⊎◌, ℕ, List, [], ◌∷◌, ◌++◌, map, Bool, true, false, Option, Some, None}
use Rattle.std.specs.List.{AllByRecursion, flat_map}
use Rattle.pbfcut_cli.specs.declared.programs.Program.{Program}
use Rattle.pbfcut_program.specs.Events.{Event, Writing, wrote, then_all}
use Rattle.pbfcut_program.specs.Fails.{Each}
use Rattle.pbfcut_program.specs.Files.{IsDropped, IsKept, IsMade, Still}

-- one of the OUTs: what happened as it was made and as it ended, and what it took
pub record OneFile : Type 0 where
  pub output : List ℕ
  pub out : Writing
  pub makes : List Event
  pub ends : List Event

-- all that it took went out, and it is kept
abbrev pub IsKeptWhole : Program → (overwrite : Bool) → OneFile → Type 0
IsKeptWhole program overwrite one = (one.out.kept ≡ true) × (one.out.fault ≡ None) × IsKept program overwrite one.output one.out.name one.ends

abbrev pub IsDroppedFile : Program → OneFile → Type 0
IsDroppedFile program one = IsDropped program one.out.name one.ends

-- it is made, and kept or dropped
abbrev pub IsHandled : Program → (overwrite : Bool) → OneFile → Type 0
IsHandled program overwrite one = IsMade program false one.output one.out.name one.makes × (IsKeptWhole program overwrite one ⊎ IsDroppedFile program one)

-- two OUTs have two paths, and no file's other name is the path of another OUT. This is a premise: that name is chosen as the file is made, by what files there are
-- then, and the path of an OUT that isn't made yet is no file's
abbrev pub IsApart : OneFile → OneFile → Type 0
IsApart one other = (one.output ≡ other.output → ⊥) × (one.out.name ≡ Some other.output → ⊥) × (other.out.name ≡ Some one.output → ⊥)

abbrev pub Pairwise : {X : Type 0} → (X → X → Type 0) → List X → Type 0
Pairwise R [] = Unit {0}
Pairwise R (x ∷ xs) = AllByRecursion (R x) xs × Pairwise R xs

-- all are made, then all are closed, and then each ends, in order
pub record HandlesFiles (program : Program) (overwrite : Bool) (files : List OneFile) (events : List Event) : Type 0 where
  pub before : List Event
  pub between : List Event
  pub last : List Event
  pub happened : events ≡ before ++ (flat_map (λ one. one.makes) files ++ (between ++ (map (λ one. wrote one.out) files ++ (flat_map (λ one. one.ends) files ++ last))))
  pub each : AllByRecursion (IsHandled program overwrite) files
  pub still : Each Still before × Each Still between × Each Still last

-- so are the OUTs of all these paths; or of the first of them, if one of them can't be made, and then those before it are dropped
abbrev pub HandlesEach : Program → (overwrite : Bool) → (outputs : List (List ℕ)) → List Event → Type 0
HandlesEach program overwrite outputs events = (files : List OneFile) × (later : List (List ℕ))
    × (outputs ≡ map (λ one. one.output) files ++ later) × HandlesFiles program overwrite files events
    × ((later ≡ []) ⊎ AllByRecursion (IsDroppedFile program) files)

-- that was done, or nothing
abbrev pub SettlesOuts : Program → (overwrite : Bool) → (outputs : List (List ℕ)) → (before after : Option (List Event)) → Type 0
SettlesOuts program overwrite outputs before after = (events : List Event) × (after ≡ then_all before events) × (Each Still events ⊎ HandlesEach program overwrite outputs events)
