-- What a failed run of a command that writes one OUT did to files.
use Rattle.std.specs.Prelude.{◌≡◌, ◌⊎◌, ℕ, List, [], Some, None, codes}
use Rattle.clap.specs.Words.{Row, Text, subcommand_of}
use Rattle.pbfcut_cli.specs.Joined.{normalized}
use Rattle.pbfcut_cli.specs.Words.{AreTaken, argument_value, program_app}
use Rattle.pbfcut_cli.specs.declared.programs.Program.{Program}
use Rattle.pbfcut_cli.specs.declared.words.Files.{Files}
use Rattle.pbfcut_cli.specs.declared.words.Region.{Region}
use Rattle.pbfcut_cli.specs.declared.words.Strategy.{Strategy}
use Rattle.pbfcut_program.specs.Events.{Event, stays}
use Rattle.pbfcut_program.specs.Files.{AllowsAll, Disk, after}
use Rattle.pbfcut_program.specs.Manner.{Manner}
use Rattle.pbfcut_program.specs.OnDisk.{IsAreaOn}
use Rattle.pbfcut_program.specs.Program.{IsRun}
use Rattle.pbfcut_program.specs.Settling.{RunSettles}
use Rattle.pbfcut_program.specs.Taking.{Happened, TookConversion, TookCopy, TookExtract}

-- of words that `clap` takes as the command of this name, with another status than 0, over a disk of which all that is said is so, and on which IN has these bytes
pub record EndsBadly (program : Program) (words : List Text) (name : List ℕ) (rows : List Row) (events : List Event) (disk : Disk) (file : List ℕ) : Type 0 where
  pub taken : AreTaken program (normalized words)
  pub command : subcommand_of (program_app program) (normalized words) ≡ Some (name, rows)
  pub status : ℕ
  pub failed : status ≡ 0 → ⊥
  pub run : IsRun program words events status
  pub settles : RunSettles program words (Some []) (Some events)
  pub allowed : AllowsAll disk events
  pub there : disk (argument_value (codes "IN") rows) ≡ Some file

-- ---- what a kept OUT has

-- these bytes are what OUT took, of which all went out: the extract of this file, by the area that the words name on this disk
pub record AreExtract (m : Manner) (cut : Region) (by : Strategy) (file : List ℕ) (events : List Event) (old : Disk) (bytes : List ℕ) : Type 0 where
  pub took : TookExtract m cut by file events
  pub are : took.bytes ≡ bytes
  pub area_on : IsAreaOn old cut took.area

-- a conversion of it
pub record AreConversion (m : Manner) (file : List ℕ) (events : List Event) (bytes : List ℕ) : Type 0 where
  pub took : TookConversion m file events
  pub are : took.bytes ≡ bytes

-- the same in other blobs
pub record AreCopy (m : Manner) (file : List ℕ) (events : List Event) (bytes : List ℕ) : Type 0 where
  pub took : TookCopy m file events
  pub are : took.bytes ≡ bytes

-- ---- what is left

-- OUT was kept, and has bytes of which this holds
pub record KeepsOut (holds : List ℕ → Type 0) (output : List ℕ) (events : List Event) (old : Disk) : Type 0 where
  pub bytes : List ℕ
  pub there : after events old output ≡ Some bytes
  pub has : holds bytes

-- OUT has what it had; or that, unless its path is that of IN. Each other file has what it had, but a part that stays, which is new
pub record LeavesOut (holds : List ℕ → Type 0) (files : Files) (events : List Event) (old : Disk) : Type 0 where
  pub out : (files.input.now ≡ files.output.now → ⊥) → (after events old files.output.now ≡ old files.output.now) ⊎ KeepsOut holds files.output.now events old
  pub others : (path : List ℕ) → (path ≡ files.output.now → ⊥) → (Happened (stays path) events → ⊥) → after events old path ≡ old path
  pub parts : (path : List ℕ) → Happened (stays path) events → (path ≡ files.output.now → ⊥) × (old path ≡ None)
