-- Command lines of `pbfcutz` that are no command, each of them nearly
--
--     pbfcutz extract --box=0,0,1,1 in.osm.pbf out.osm.pbf
--
-- None is done as if it were that: no run of it ends with status 0, and none changes a file. Last
-- comes one that requests help, of which a run that ends with 0 does nothing but print.
use Rattle.std.specs.Prelude.{◌≡◌, List, [], ◌∷◌, Some, None, codes}
use Rattle.clap.specs.Words.{Text, fault_of}
use Rattle.clap.specs.declared.error.kind.ErrorKind.{ErrorKind}
use Rattle.clap.specs.declared.error.kind.ErrorKind.TheVariants.{ArgumentConflict, DisplayHelp, UnknownArgument}
use Rattle.pbfcut_cli.specs.Joined.{normalized}
use Rattle.pbfcut_cli.specs.Words.{program_app}
use Rattle.pbfcut_cli.specs.declared.programs.Program.TheVariants.{Pbfcutz}
use Rattle.pbfcut_program.specs.Events.{Event, printed}
use Rattle.pbfcut_program.specs.Program.{IsRun}
use Rattle.pbfcut_program.specs.Settling.{IsStill, RunSettles}
use Rattle.pbfcut_program.specs.declared.host.Screen.TheVariants.{Output}
use Rattle.run_examples.specs.Extract.{input, output}

-- ---- what is typed

-- `--overwrite`, but for one letter
abbrev pub misspelt : List Text
misspelt = codes "extract" ∷ codes "--box=0,0,1,1" ∷ codes "--overwite" ∷ input ∷ output ∷ []

-- the same where it would be taken for IN, and IN for OUT
abbrev pub misplaced : List Text
misplaced = codes "extract" ∷ codes "--box=0,0,1,1" ∷ codes "-O" ∷ codes "--typo" ∷ input ∷ []

abbrev pub two_boxes : List Text
two_boxes = codes "extract" ∷ codes "--box=0,0,1,1" ∷ codes "--box=0,0,9,9" ∷ input ∷ output ∷ []

-- a file too many
abbrev pub three_files : List Text
three_files = codes "extract" ∷ codes "--box=0,0,1,1" ∷ input ∷ output ∷ codes "more.osm.pbf" ∷ []

abbrev pub asking : List Text
asking = codes "extract" ∷ codes "--help" ∷ input ∷ output ∷ []

-- ---- what happens

pub record IsRefused (words : List Text) (kind : ErrorKind) : Type 0 where
  -- `clap` finds an error of this kind
  pub found : fault_of (program_app Pbfcutz) (normalized words) ≡ kind ∷ []
  -- so no run ends with 0
  pub fails : (events : List Event) → IsRun Pbfcutz words events 0 → ⊥
  -- and none changes a file
  pub still :
      (events : List Event)
      → RunSettles Pbfcutz words (Some []) (Some events) → IsStill (Some []) (Some events)

pub record Mistyped : Type 0 where
  pub no_option : IsRefused misspelt UnknownArgument
  pub no_file : IsRefused misplaced UnknownArgument
  pub one_box : IsRefused two_boxes ArgumentConflict
  pub two_files : IsRefused three_files UnknownArgument

pub record Asked : Type 0 where
  -- it requests help
  pub found : fault_of (program_app Pbfcutz) (normalized asking) ≡ DisplayHelp ∷ []
  -- a run that ends with 0 prints a text, and does nothing else
  pub prints :
      (events : List Event) → IsRun Pbfcutz asking events 0
      → (text : Text) × (events ≡ printed Output text None ∷ [])
