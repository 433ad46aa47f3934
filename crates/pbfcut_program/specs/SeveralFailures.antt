-- What a failed run of pbfcutz that cuts out the areas of a configuration did to files.
use Rattle.std.specs.Prelude.{◌≡◌, ◌⊎◌, ℕ, List, ◌++◌, map, None}
use Rattle.std.specs.List.{AllByRecursion}
use Rattle.osm_ways.specs.Selection.{Strategy}
use Rattle.pbf_block.specs.declared.counts.Counts.{Counts}
use Rattle.pbfcut.specs.Theorem.{IsExtraction}
use Rattle.pbfcut_cli.specs.declared.words.ConfigFiles.{ConfigFiles}
use Rattle.pbfcut_program.specs.Configured.{OutputArea}
use Rattle.pbfcut_program.specs.Events.{Event, stays}
use Rattle.pbfcut_program.specs.Failures.{KeepsOut}
use Rattle.pbfcut_program.specs.Files.{Disk, after}
use Rattle.pbfcut_program.specs.Manner.{Manner, of_input, of_output}
use Rattle.pbfcut_program.specs.OnDisk.{AreOutsOn}
use Rattle.pbfcut_program.specs.SeveralChanges.{IsApart, OneFile, Pairwise}
use Rattle.pbfcut_program.specs.SeveralWrites.{folder_of, paths_of}
use Rattle.pbfcut_program.specs.Taking.{Happened}

-- these bytes mean exactly the extract of what this file means, by the area of this OUT
abbrev pub MeansExtract : Manner → Strategy → (file : List ℕ) → OutputArea → (bytes : List ℕ) → Type 0
MeansExtract m s file out bytes = (counts : Counts) × IsExtraction s out.area (of_input m file) counts (of_output m bytes)

-- an OUT has what it had; or it was kept, and has that
abbrev pub LeavesItsOut : Manner → Strategy → (file : List ℕ) → List Event → (old : Disk) → OutputArea → Type 0
LeavesItsOut m s file events old out = (after events old out.output ≡ old out.output) ⊎ KeepsOut (MeansExtract m s file out) out.output events old

-- of the OUTs that the configuration on this disk names these were made, which are all or the first ones; and they have that, unless the path of one is that of IN. This is said, as
-- of a run that ends well, if no two of them have one path, and none has the path that another one has until it is whole. Each other file has what it had, but a part that
-- stays, which is new
pub record LeavesSeveral (m : Manner) (s : Strategy) (files : ConfigFiles) (file : List ℕ) (events : List Event) (old : Disk) : Type 0 where
  pub made : List OutputArea
  pub unmade : List OutputArea
  pub outs_on : AreOutsOn old files.config.now (folder_of files) (made ++ unmade)
  pub ones : List OneFile
  pub paths : map (λ one. one.output) ones ≡ paths_of made
  pub each : Pairwise IsApart ones → AllByRecursion (λ one. files.input.now ≡ one.output → ⊥) ones → AllByRecursion (LeavesItsOut m s file events old) made
  pub others : Pairwise IsApart ones → (path : List ℕ) → AllByRecursion (λ one. path ≡ one.output → ⊥) ones → (Happened (stays path) events → ⊥) → after events old path ≡ old path
  pub parts : Pairwise IsApart ones → (path : List ℕ) → Happened (stays path) events → AllByRecursion (λ one. path ≡ one.output → ⊥) ones × (old path ≡ None)
