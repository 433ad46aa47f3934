-- What a run did to files, however it ended.
use Rattle.std.specs.Prelude.{◌≡◌, ◌⊎◌, ℕ, List, ◌∷◌, ◌++◌, map, true, Option, None}
use Rattle.clap.specs.Words.{Text}
use Rattle.pbfcut_cli.specs.declared.programs.Program.{Program}
use Rattle.pbfcut_cli.specs.declared.words.Command.{Command}
use Rattle.pbfcut_cli.specs.declared.words.Command.TheVariants.{Convert, Extract, ExtractEach, Pack, Unpack}
use Rattle.pbfcut_cli.specs.declared.words.ConfigFiles.{ConfigFiles}
use Rattle.pbfcut_cli.specs.declared.words.Files.{Files}
use Rattle.pbfcut_program.specs.Changes.{DropsFile, KeepsFile}
use Rattle.pbfcut_program.specs.Configured.{MeansConfig, OutputArea}
use Rattle.pbfcut_program.specs.Events.{Event, Reading, Writing, read, wrote, then_all}
use Rattle.pbfcut_program.specs.Fails.{Each}
use Rattle.pbfcut_program.specs.Files.{IsDropped, IsKept, Still}
use Rattle.pbfcut_program.specs.Program.{IsMeant}
use Rattle.pbfcut_program.specs.SeveralChanges.{HandlesEach}
use Rattle.pbfcut_program.specs.SeveralWrites.{folder_of, paths_of}

-- nothing was done to any
abbrev pub IsStill : (before after : Option (List Event)) → Type 0
IsStill before after = (events : List Event) × (after ≡ then_all before events) × Each Still events

-- OUT is a file that is kept, or dropped
abbrev pub HandlesOut : Program → Files → List Event → Type 0
HandlesOut program files events = (w : Writing) × (KeepsFile program files.overwrite files.output.now w events ⊎ DropsFile program files.output.now w events)

-- that was done, or nothing
abbrev pub Settles : Program → Files → (before after : Option (List Event)) → Type 0
Settles program files before after = (events : List Event) × (after ≡ then_all before events) × (Each Still events ⊎ HandlesOut program files events)

-- OUT is kept, if it took all that it was to take, and all of that went out; or it is dropped
abbrev pub IsEnded : Program → Files → Writing → List Event → Type 0
IsEnded program files out ends = ((out.kept ≡ true) × (out.fault ≡ None) × IsKept program files.overwrite files.output.now out.name ends) ⊎ IsDropped program out.name ends

-- IN was returned, and then OUT, which has this name
abbrev pub Returns : Program → Files → (name : Option (List ℕ)) → (before after : Option (List Event)) → Type 0
Returns program files name before after = (rs : List Reading) × (out : Writing) × (ends : List Event) × (last : List Event)
    × (after ≡ then_all before (map read rs ++ wrote out ∷ ends ++ last)) × Each Still last × (out.name ≡ name) × IsEnded program files out ends

-- the configuration was read, and then each OUT that it names was kept or dropped, or the first of them were made and dropped
abbrev pub HandlesConfigured : Program → ConfigFiles → List Event → Type 0
HandlesConfigured program files events = (outs : List OutputArea) × (first : List Event) × (later : List Event) × (events ≡ first ++ later)
    × MeansConfig files.config.now (folder_of files) first outs × HandlesEach program files.overwrite (paths_of outs) later

-- that was done, or nothing
abbrev pub SettlesEach : Program → ConfigFiles → (before after : Option (List Event)) → Type 0
SettlesEach program files before after = (events : List Event) × (after ≡ then_all before events) × (Each Still events ⊎ HandlesConfigured program files events)

-- a command that only reads does nothing to files
abbrev pub SettlesIn : Program → Command → (before after : Option (List Event)) → Type 0
SettlesIn program (Convert files) before after = Settles program files before after
SettlesIn program (Pack files) before after = Settles program files before after
SettlesIn program (Unpack files) before after = Settles program files before after
SettlesIn program (Extract region by files) before after = Settles program files before after
SettlesIn program (ExtractEach parents files) before after = SettlesEach program files before after
SettlesIn program _ before after = IsStill before after

abbrev pub HandlesIn : Program → Command → List Event → Type 0
HandlesIn program (Convert files) events = HandlesOut program files events
HandlesIn program (Pack files) events = HandlesOut program files events
HandlesIn program (Unpack files) events = HandlesOut program files events
HandlesIn program (Extract region by files) events = HandlesOut program files events
HandlesIn program (ExtractEach parents files) events = HandlesConfigured program files events
HandlesIn program _ events = ⊥

-- nor do words that mean none
abbrev pub RunSettles : Program → List Text → (before after : Option (List Event)) → Type 0
RunSettles program words before after = IsStill before after ⊎ ((command : Command) × IsMeant program words command × SettlesIn program command before after)
