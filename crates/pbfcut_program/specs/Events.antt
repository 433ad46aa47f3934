-- What a program does with its host, and what came of it, in order.
use Rattle.std.specs.Prelude.{◌≡◌, ℕ, ◌+◌, List, [], ◌∷◌, ◌++◌, Bool, Option}
use Rattle.std.specs.Option.{option_map}
use Rattle.pbfcut_program.specs.declared.host.CreateFault.{CreateFault}
use Rattle.pbfcut_program.specs.declared.host.FinishFault.{FinishFault}
use Rattle.pbfcut_program.specs.declared.host.NameFault.{NameFault}
use Rattle.pbfcut_program.specs.declared.host.OpenFault.{OpenFault}
use Rattle.pbfcut_program.specs.declared.host.PrintFault.{PrintFault}
use Rattle.pbfcut_program.specs.declared.host.Screen.{Screen}

-- a pass is over: these bytes were read of IN; what was left of it, if the host reports it; and how many reads failed
pub record Reading : Type 0 where
  pub bytes : List ℕ
  pub left : Option (List ℕ)
  pub failures : ℕ

-- OUT is closed: the name that it has, if it is a file; it took these bytes; whether it reports of itself that it took them; how many writes failed; whether it was to be kept, as whole; and why not all
-- that it took went out, if it didn't
pub record Writing : Type 0 where
  pub name : Option (List ℕ)
  pub bytes : List ℕ
  pub reports : Bool
  pub failures : ℕ
  pub kept : Bool
  pub fault : Option FinishFault

pub data Event : Type 0 where
  -- a whole text is read, or isn't
  text_read : (path text : List ℕ) → Event
  text_not_read : (path : List ℕ) → Event
  -- whether there is a file that isn't to be replaced: with `overwrite` a plain one is
  looked : (path : List ℕ) → (overwrite there : Bool) → Event
  -- IN is opened for this pass, and has these bytes, if the host reports them; or it isn't
  opened : (path : List ℕ) → (pass : ℕ) → (has : Option (List ℕ)) → Event
  not_opened : (path : List ℕ) → OpenFault → Event
  -- a seed is drawn, with this key; or it isn't
  seeded : (key : Option ℕ) → Event
  -- a new file has this name, and no bytes: none had the name; or OUT can't be made by it
  made : (name : List ℕ) → Event
  not_made : (name : List ℕ) → CreateFault → Event
  -- standard output is taken to be written to, if there is memory
  screened : (there : Bool) → Event
  read : Reading → Event
  wrote : Writing → Event
  -- the file of the first name has the second, too, which none had
  linked : (from to : List ℕ) → Event
  -- it has the second instead, which none had
  moved : (from to : List ℕ) → Event
  -- the same, in place of a file that may have had it
  renamed : (from to : List ℕ) → Event
  -- it couldn't be given the second
  not_named : (from to : List ℕ) → NameFault → Event
  -- the file of this name has it no more; or it couldn't be taken from it
  removed : (name : List ℕ) → Event
  stays : (name : List ℕ) → Event
  -- that a file has this name may not be on the disk
  not_synced : (name : List ℕ) → Event
  -- this went to a screen, or only a part of it, for this
  printed : Screen → (text : List ℕ) → Option PrintFault → Event
  -- this was to go to standard error
  told : (text : List ℕ) → Event
  -- on a terminal a line may say what to do next
  advised : Event

-- what happened, if the host reports it: what had happened before, and then these
abbrev pub then_all : Option (List Event) → List Event → Option (List Event)
then_all before events = option_map (λ past. past ++ events) before

abbrev pub then_one : Option (List Event) → Event → Option (List Event)
then_one before event = then_all before (event ∷ [])

-- between these two reports something happened of which this holds
abbrev pub Logs : (before after : Option (List Event)) → (List Event → Type 0) → Type 0
Logs before after happens = (events : List Event) × (after ≡ then_all before events) × happens events

-- IN is opened for each pass, from this one on
abbrev pub openings : (input : List ℕ) → ℕ → List (Option (List ℕ)) → List Event
openings input pass [] = []
openings input pass (has ∷ more) = opened input pass has ∷ openings input (pass + 1) more
