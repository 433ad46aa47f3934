-- What is on the disk after a run of pbfcutz that cut out the areas of a configuration and ended with status 0.
use Rattle.std.specs.Prelude.{◌≡◌, ℕ, List, ◌++◌, Bool, false, Some, None, map}
use Rattle.std.specs.List.{AllByRecursion, AllZip}
use Rattle.osm_ways.specs.Selection.{Strategy}
use Rattle.pbf_block.specs.declared.counts.Counts.{Counts}
use Rattle.pbfcut.specs.Theorem.{IsExtraction}
use Rattle.pbfcut_cli.specs.declared.words.ConfigFiles.{ConfigFiles}
use Rattle.pbfcut_program.specs.Configured.{MeansConfig, OutputArea}
use Rattle.pbfcut_program.specs.Events.{Event, stays}
use Rattle.pbfcut_program.specs.Files.{Disk, after}
use Rattle.pbfcut_program.specs.Manner.{Manner, of_input, of_output}
use Rattle.pbfcut_program.specs.OnDisk.{AreOutsOn}
use Rattle.pbfcut_program.specs.SeveralChanges.{IsApart, OneFile, Pairwise}
use Rattle.pbfcut_program.specs.SeveralWrites.{folder_of, paths_of}
use Rattle.pbfcut_program.specs.Taking.{Happened}

-- an OUT has bytes that mean exactly the extract of what IN means, by its area; without `-O` it wasn't there before
pub record GivesOne (m : Manner) (s : Strategy) (overwrite : Bool) (file : List ℕ) (events : List Event) (old : Disk) (out : OutputArea) (one : OneFile) : Type 0 where
  pub there : after events old out.output ≡ Some one.out.bytes
  pub counts : Counts
  pub extract : IsExtraction s out.area (of_input m file) counts (of_output m one.out.bytes)
  pub fresh : overwrite ≡ false → old out.output ≡ None

-- so do all OUTs that the configuration on this disk names, if no two of them have one path, and none has the path that another one has until it is whole. Each other
-- file has what it had, but a part that stays, which is new
pub record GivesEach (m : Manner) (s : Strategy) (files : ConfigFiles) (file : List ℕ) (events : List Event) (old : Disk) : Type 0 where
  pub outs : List OutputArea
  pub first : List Event
  pub later : List Event
  pub happened : events ≡ first ++ later
  pub means : MeansConfig files.config.now (folder_of files) first outs
  pub outs_on : AreOutsOn old files.config.now (folder_of files) outs
  pub ones : List OneFile
  pub paths : map (λ one. one.output) ones ≡ paths_of outs
  pub each : Pairwise IsApart ones → AllZip (GivesOne m s files.overwrite file events old) outs ones
  pub others : Pairwise IsApart ones → (path : List ℕ) → AllByRecursion (λ one. path ≡ one.output → ⊥) ones → (Happened (stays path) events → ⊥) → after events old path ≡ old path
  pub parts : Pairwise IsApart ones → (path : List ℕ) → Happened (stays path) events → old path ≡ None
