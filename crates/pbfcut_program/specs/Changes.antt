-- What the events of a run are to the file system: those of one file, which is kept or dropped, among others that change nothing.
use Rattle.std.specs.Prelude.{◌≡◌, List, ℕ, ◌∷◌, ◌++◌, Bool, true, false, Some, None, codes}
use Rattle.clap.specs.Words.{Row, Text, subcommand_of}
use Rattle.pbfcut_cli.specs.Joined.{normalized}
use Rattle.pbfcut_cli.specs.Words.{AreTaken, argument_value, program_app}
use Rattle.pbfcut_cli.specs.declared.programs.Program.{Program}
use Rattle.pbfcut_cli.specs.declared.words.Files.{Files}
use Rattle.pbfcut_cli.specs.declared.words.Region.{Region}
use Rattle.pbfcut_cli.specs.declared.words.Strategy.{Strategy}
use Rattle.pbfcut_program.specs.Events.{Event, Writing, stays, wrote}
use Rattle.pbfcut_program.specs.Fails.{Each}
use Rattle.pbfcut_program.specs.Files.{AllowsAll, Disk, IsDropped, IsKept, IsMade, Still, after}
use Rattle.pbfcut_program.specs.Manner.{Manner}
use Rattle.pbfcut_program.specs.OnDisk.{IsAreaOn}
use Rattle.pbfcut_program.specs.Program.{IsRun, is_screen}
use Rattle.pbfcut_program.specs.Taking.{Happened, TookConversion, TookCopy, TookExtract}

-- ---- the events of one file

-- OUT is a file that is made and filled, and these are its last events; all others change nothing
pub record HasOneFile (program : Program) (output : List ℕ) (w : Writing) (part events : List Event) : Type 0 where
  pub before : List Event
  pub makes : List Event
  pub between : List Event
  pub last : List Event
  pub happened : events ≡ before ++ (makes ++ (between ++ (wrote w ∷ (part ++ last))))
  pub is_made : IsMade program false output w.name makes
  pub still : Each Still before × Each Still between × Each Still last

-- all that it took went out, and it is kept
pub record KeepsFile (program : Program) (overwrite : Bool) (output : List ℕ) (w : Writing) (events : List Event) : Type 0 where
  pub keeps : List Event
  pub file : HasOneFile program output w keeps events
  pub is_kept : IsKept program overwrite output w.name keeps
  pub kept : w.kept ≡ true
  pub whole : w.fault ≡ None

-- it is dropped
pub record DropsFile (program : Program) (output : List ℕ) (w : Writing) (events : List Event) : Type 0 where
  pub drops : List Event
  pub file : HasOneFile program output w drops events
  pub is_dropped : IsDropped program w.name drops

-- ---- a run that ended well

-- of words that `clap` takes as the command of this name, over a disk of which all that is said is so, and on which IN has these bytes
pub record EndsWell (program : Program) (words : List Text) (name : List ℕ) (rows : List Row) (events : List Event) (disk : Disk) (file : List ℕ) : Type 0 where
  pub taken : AreTaken program (normalized words)
  pub command : subcommand_of (program_app program) (normalized words) ≡ Some (name, rows)
  pub run : IsRun program words events 0
  pub allowed : AllowsAll disk events
  pub there : disk (argument_value (codes "IN") rows) ≡ Some file

-- if OUT is a file, it has these bytes, and was there before only if it may be replaced. Each other file has what it had, but a part that stays,
-- which is new
pub record GivesFile (m : Manner) (files : Files) (bytes : List ℕ) (events : List Event) (old : Disk) : Type 0 where
  pub there : is_screen m.program files.output.now ≡ false → after events old files.output.now ≡ Some bytes
  pub fresh : is_screen m.program files.output.now ≡ false → files.overwrite ≡ false → old files.output.now ≡ None
  pub others : (path : List ℕ) → (is_screen m.program files.output.now ≡ false → path ≡ files.output.now → ⊥) → (Happened (stays path) events → ⊥) → after events old path ≡ old path
  pub parts : (path : List ℕ) → Happened (stays path) events → old path ≡ None

-- OUT took the extract of this file, by the area that the words name on this disk
pub record GivesExtract (m : Manner) (cut : Region) (by : Strategy) (files : Files) (file : List ℕ) (events : List Event) (old : Disk) : Type 0 where
  pub took : TookExtract m cut by file events
  pub area_on : IsAreaOn old cut took.area
  pub gives : GivesFile m files took.bytes events old

-- a conversion of it
pub record GivesConversion (m : Manner) (files : Files) (file : List ℕ) (events : List Event) (old : Disk) : Type 0 where
  pub took : TookConversion m file events
  pub gives : GivesFile m files took.bytes events old

-- the same in other blobs
pub record GivesCopy (m : Manner) (files : Files) (file : List ℕ) (events : List Event) (old : Disk) : Type 0 where
  pub took : TookCopy m file events
  pub gives : GivesFile m files took.bytes events old
