-- What is done to the files of several OUTs: they are looked for, made, taken back, and then they get their names, or all of them go.
use Rattle.std.specs.Prelude.{◌≡◌, ◌⊎◌, ◌≤◌, ℕ, List, [], ◌∷◌, ◌++◌, length, map, Bool, true, false, Option, Some, None, Result, Ok, Err}
use Rattle.std.specs.List.{AllZip, flat_map, zip}
use Rattle.std.specs.String.{string_bytes}
use Rattle.std.specs.Vec.{vec_capacity}
use Rattle.pbf_frame.specs.declared.device.Drain as drain
use Rattle.pbfcut.specs.declared.carrying.AreaOutput.{AreaOutput}
use Rattle.pbfcut_cli.specs.declared.endings.Ending.{Ending}
use Rattle.pbfcut_cli.specs.declared.programs.Program.{Program}
use Rattle.pbfcut_program.specs.declared.configured.OutputCut.{OutputCut}
use Rattle.pbfcut_program.specs.declared.host.FinishFault.{FinishFault}
use Rattle.pbfcut_program.specs.declared.jobs.Cut.{Cut}
use Rattle.pbfcut_program.specs.declared.several.OutputArea.{OutputArea}
use Rattle.pbfcut_program.specs.declared.several_files.MadeFile.{MadeFile}
use Rattle.pbfcut_program.specs.declared.several_files.MadeOuts.{MadeOuts}
use Rattle.pbfcut_program.specs.declared.several_files.NotKept.{NotKept}
use Rattle.pbfcut_program.specs.declared.several_files.OutPart.{OutPart}
use Rattle.pbfcut_program.specs.Devices.{Finishes, IsFreshOut}
use Rattle.pbfcut_program.specs.Events.{Event, Writing, looked, wrote, then_all}
use Rattle.pbfcut_program.specs.Fails.{FailsOpening}
use Rattle.pbfcut_program.specs.Files.{EndsOut, IsDropped, IsKept, IsMade}

-- ---- one after the other

abbrev pub flatten : List (List Event) → List Event
flatten parts = flat_map (λ part. part) parts

-- of each of a list, in order, this was done
abbrev pub DoesEach : {X : Type 0} → (X → List Event → Type 0) → List X → (before after : Option (List Event)) → Type 0
DoesEach does xs before after = (events : List (List Event)) × (after ≡ then_all before (flatten events)) × AllZip does xs events

-- each of a list leads from what had happened to what has
abbrev pub OneByOne : {X : Type 0} → (X → Option (List Event) → Option (List Event) → Type 0) → List X → (before after : Option (List Event)) → Type 0
OneByOne leads [] before after = after ≡ before
OneByOne leads (x ∷ xs) before after = (between : Option (List Event)) × leads x before between × OneByOne leads xs between after

-- ---- they are looked for

-- none is there, unless it may be replaced
abbrev pub looks_each : (overwrite : Bool) → (outputs : List (List ℕ)) → List Event
looks_each overwrite outputs = map (λ output. looked output overwrite false) outputs

-- the first that is there ends it
abbrev pub FindsOne : (overwrite : Bool) → (outputs : List (List ℕ)) → List Event → Type 0
FindsOne overwrite outputs events = (before : List (List ℕ)) × (output : List ℕ) × (later : List (List ℕ))
    × (outputs ≡ before ++ output ∷ later) × (events ≡ looks_each overwrite before ++ looked output overwrite true ∷ [])

-- ---- the file of one OUT, as if there were no others

abbrev pub MakesPart : Program → OutPart → List Event → Type 0
MakesPart program part events = IsMade program false (string_bytes part.path) (Some (string_bytes part.name)) events

abbrev pub KeepsPart : Program → (overwrite : Bool) → OutPart → List Event → Type 0
KeepsPart program overwrite part events = IsKept program overwrite (string_bytes part.path) (Some (string_bytes part.name)) events

abbrev pub DropsPart : Program → OutPart → List Event → Type 0
DropsPart program part events = IsDropped program (Some (string_bytes part.name)) events

-- it is taken back, to be kept or not, and all that it took went out, or not
abbrev pub FinishesPart : {A D : Type 0} → drain.Ghosts D → (kept : Bool) → Option FinishFault → OutPart × AreaOutput A D → (before after : Option (List Event)) → Type 0
FinishesPart d kept fault out before after = Finishes d out.1.drain (Some (string_bytes out.0.name)) kept fault before after

abbrev pub FinishesWhole : {A D : Type 0} → drain.Ghosts D → OutPart × AreaOutput A D → (before after : Option (List Event)) → Type 0
FinishesWhole d out before after = FinishesPart d true None out before after

abbrev pub FinishesUnkept : {A D : Type 0} → drain.Ghosts D → OutPart × AreaOutput A D → (before after : Option (List Event)) → Type 0
FinishesUnkept d out before after = (fault : Option FinishFault) × FinishesPart d false fault out before after

-- it is taken back unkept, and it took nothing
abbrev pub ClosesEmpty : OutPart → List Event → Type 0
ClosesEmpty part events = (w : Writing) × (events ≡ wrote w ∷ []) × (w.name ≡ Some (string_bytes part.name)) × (w.kept ≡ false) × (w.bytes ≡ [])

-- ---- they are taken back

-- not all of the one at this place went out, for this: those before it are whole, and those after it aren't kept
pub record FinishesUpTo {A D : Type 0} (d : drain.Ghosts D) (at : ℕ) (why : FinishFault) (outs : List (OutPart × AreaOutput A D)) (before after : Option (List Event)) : Type 0 where
  pub whole : List (OutPart × AreaOutput A D)
  pub failed : OutPart × AreaOutput A D
  pub later : List (OutPart × AreaOutput A D)
  pub are : outs ≡ whole ++ failed ∷ later
  pub place : at ≡ length whole
  pub first : Option (List Event)
  pub second : Option (List Event)
  pub wholes : OneByOne (FinishesWhole d) whole before first
  pub fails : FinishesPart d true (Some why) failed first second
  pub unkept : OneByOne (FinishesUnkept d) later second after

abbrev pub FinishesEach : {A D X : Type 0} → drain.Ghosts D → Result X NotKept → List (OutPart × AreaOutput A D) → (before after : Option (List Event)) → Type 0
FinishesEach d (Ok _) outs before after = OneByOne (FinishesWhole d) outs before after
FinishesEach d (Err told) outs before after = FinishesUpTo d told.at told.fault outs before after

-- the next, at this place: it is kept if those before it are whole
abbrev pub FinishesNext : {A D X Y : Type 0} → drain.Ghosts D → (first : Result X NotKept) → (at : ℕ) → OutPart × AreaOutput A D → (next : Result Y NotKept) → (before after : Option (List Event)) → Type 0
FinishesNext d (Ok _) at out (Ok _) before after = FinishesWhole d out before after
FinishesNext d (Ok _) at out (Err told) before after = (told.at ≡ at) × FinishesPart d true (Some told.fault) out before after
FinishesNext d (Err told) at out (Ok _) before after = ⊥
FinishesNext d (Err told) at out (Err same) before after = (same ≡ told) × FinishesUnkept d out before after

-- ---- they get their names, or go

-- all are taken back unkept, and then they are dropped
abbrev pub DropsEach : {A D : Type 0} → drain.Ghosts D → Program → List OutPart → List (AreaOutput A D) → (before after : Option (List Event)) → Type 0
DropsEach d program parts outputs before after = (closed : Option (List Event))
    × OneByOne (FinishesUnkept d) (zip parts outputs) before closed × DoesEach (DropsPart program) parts closed after

-- the one at this place doesn't get its name, or that isn't written to the disk, for this: those before it have theirs, and those after it are dropped
pub record NamesUpTo (program : Program) (overwrite : Bool) (at : ℕ) (why : FinishFault) (parts : List OutPart) (before after : Option (List Event)) : Type 0 where
  pub named : List OutPart
  pub failed : OutPart
  pub later : List OutPart
  pub are : parts ≡ named ++ failed ∷ later
  pub place : at ≡ length named
  pub first : Option (List Event)
  pub second : Option (List Event)
  pub ends : List Event
  pub keeps : DoesEach (KeepsPart program overwrite) named before first
  pub log : second ≡ then_all first ends
  pub ended : EndsOut {A = Unit {0}} program overwrite (string_bytes failed.path) (Some (string_bytes failed.name)) None (Err why) ends
  pub drops : DoesEach (DropsPart program) later second after

abbrev pub NamesEach : {X : Type 0} → Program → (overwrite : Bool) → Result X NotKept → List OutPart → (before after : Option (List Event)) → Type 0
NamesEach program overwrite (Ok _) parts before after = DoesEach (KeepsPart program overwrite) parts before after
NamesEach program overwrite (Err told) parts before after = NamesUpTo program overwrite told.at told.fault parts before after

-- all are taken back whole before the first gets its name; if one of them isn't whole, all are dropped
abbrev pub KeepsEach : {A D X : Type 0} → drain.Ghosts D → Program → (overwrite : Bool) → Result X NotKept → List OutPart → List (AreaOutput A D) → (before after : Option (List Event)) → Type 0
KeepsEach d program overwrite (Ok _) parts outputs before after = (closed : Option (List Event))
    × OneByOne (FinishesWhole d) (zip parts outputs) before closed × DoesEach (KeepsPart program overwrite) parts closed after
KeepsEach d program overwrite (Err told) parts outputs before after = (closed : Option (List Event))
    × ((FinishesUpTo d told.at told.fault (zip parts outputs) before closed × DoesEach (DropsPart program) parts closed after)
    ⊎ (OneByOne (FinishesWhole d) (zip parts outputs) before closed × NamesUpTo program overwrite told.at told.fault parts closed after))

-- ---- they are made

abbrev pub IsPartOf : OutputCut → OutPart → Type 0
IsPartOf out part = string_bytes part.path ≡ string_bytes out.output

-- the area is cut out into it, and it took nothing yet
pub record IsBegun {D : Type 0} (d : drain.Ghosts D) (out : OutputCut) (output : AreaOutput OutputArea D) : Type 0 where
  pub cut : output.area.cut.now ≡ out.cut
  pub unhashed : output.area.output ≡ None
  pub unmeant : output.area.meaning ≡ None
  pub fresh : IsFreshOut d output.drain

-- one more is made, and a list has no less room than it had
pub record HasFile {D : Type 0} (old : MadeOuts D) (cut : Cut) (file : MadeFile D) (new : MadeOuts D) : Type 0 where
  pub output : AreaOutput OutputArea D
  pub outputs : new.outputs.items ≡ old.outputs.items ++ output ∷ []
  pub parts : new.parts.items ≡ old.parts.items ++ file.part ∷ []
  pub cut_is : output.area.cut.now ≡ cut
  pub none : (output.area.output ≡ None) × (output.area.meaning ≡ None)
  pub drain : output.drain ≡ file.drain
  pub room : (vec_capacity old.outputs ≤ vec_capacity new.outputs) × (vec_capacity old.parts ≤ vec_capacity new.parts)

-- each of them, in order
pub record MakesEach {D : Type 0} (d : drain.Ghosts D) (program : Program) (outs : List OutputCut) (parts : List OutPart) (outputs : List (AreaOutput OutputArea D)) (before after : Option (List Event)) : Type 0 where
  pub makes : DoesEach (MakesPart program) parts before after
  pub paths : AllZip IsPartOf outs parts
  pub begun : AllZip (IsBegun d) outs outputs

-- one of them can't be made, or there is no memory for it: those before it were made, took nothing, and are dropped
pub record UnmakesEach (program : Program) (outs : List OutputCut) (how : Ending) (before after : Option (List Event)) : Type 0 where
  pub done : List OutputCut
  pub later : List OutputCut
  pub are : outs ≡ done ++ later
  pub parts : List OutPart
  pub paths : AllZip IsPartOf done parts
  pub first : Option (List Event)
  pub second : Option (List Event)
  pub third : Option (List Event)
  pub tries : List Event
  pub makes : DoesEach (MakesPart program) parts before first
  pub log : second ≡ then_all first tries
  pub fails : FailsOpening how tries
  pub closes : DoesEach ClosesEmpty parts second third
  pub drops : DoesEach (DropsPart program) parts third after
