-- What a run does that cuts out the areas of a configuration: of each OUT what is said of the OUT of a run for only its area.
use Rattle.std.specs.Prelude.{◌≡◌, ◌⊎◌, ℕ, ◌+◌, List, [], ◌∷◌, ◌++◌, length, map, Bool, true, false, Option, Some, None}
use Rattle.std.specs.List.{AllByRecursion, AllZip, flat_map}
use Rattle.std.specs.Option.{option_map}
use Rattle.osm_area.specs.Area.{AreaSpec}
use Rattle.osm_ways.specs.Selection.{Strategy, all_parents, complete_ways}
use Rattle.pbf_block.specs.declared.counts.Counts.{Counts}
use Rattle.pbf_pass.specs.declared.hashing.PassCheck.{PassCheck}
use Rattle.pbfcut.specs.Calls.{AllSupply}
use Rattle.pbfcut.specs.Receipts.{judge_by}
use Rattle.pbfcut.specs.Tasks.{Task, answer_of, extracting, spares_by}
use Rattle.pbfcut_cli.specs.declared.words.ConfigFiles.{ConfigFiles}
use Rattle.pbfcut_program.specs.declared.host.Screen.TheVariants.{Output}
use Rattle.pbfcut_program.specs.Configured.{MeansConfig, OutputArea}
use Rattle.pbfcut_program.specs.Events.{Event, Reading, Writing, openings, read, seeded, wrote}
use Rattle.pbfcut_program.specs.Fails.{Each, Judging, Opens, Quiet, WroteNothing, judging}
use Rattle.pbfcut_program.specs.Files.{IsKept, IsMade}
use Rattle.pbfcut_program.specs.Leaving.{IsUnkept, TookFront}
use Rattle.pbfcut_program.specs.Lines.{check_lines, digest_if_asked, out_lines, prints}
use Rattle.pbfcut_program.specs.Manner.{Manner, check_of, hashes_meaning, of_input, of_output, output_form}
use Rattle.pbfcut_program.specs.Readings.{IsWork}
use Rattle.pbfcut_program.specs.SeveralChanges.{OneFile}
use Rattle.pbfcut_program.specs.SeveralFiles.{looks_each}
use Rattle.pbfcut_program.specs.Tasks.{GivesRaw}

-- ---- the command

-- the folder of relative outputs, if the words name one
abbrev pub folder_of : ConfigFiles → Option (List ℕ)
folder_of files = option_map (λ s. s.now) files.directory

-- what is kept besides what lies in an area
abbrev pub strategy_with : (parents : Bool) → Strategy
strategy_with true = all_parents
strategy_with false = complete_ways

abbrev pub paths_of : List OutputArea → List (List ℕ)
paths_of outs = map (λ out. out.output) outs

-- what happens before the OUTs are made: none of them was there, IN was opened for each pass, and a key was drawn
abbrev pub begun_each : ConfigFiles → (outputs : List (List ℕ)) → (has : List (Option (List ℕ))) → (key : ℕ) → List Event
begun_each files outputs has key = looks_each files.overwrite outputs ++ (openings files.input.now 1 has ++ seeded (Some key) ∷ [])

-- ---- a run that ends well

-- an OUT: its file, what the passes read for it, the numbers of its entities, and if digests are printed, that of what it took, and that of the raw file
-- which this means
pub record OneOut : Type 0 where
  pub file : OneFile
  pub readings : List Reading
  pub counts : Counts
  pub known : Option (List ℕ)
  pub meaning : Option (List ℕ)

-- it took the extract of its area, and it is kept
pub record WritesOne (m : Manner) (s : Strategy) (overwrite : Bool) (key : ℕ) (has : List (Option (List ℕ))) (digest : List ℕ) (raw : Option (List ℕ)) (out : OutputArea) (one : OneOut) : Type 0 where
  pub path : one.file.output ≡ out.output
  pub made : IsMade m.program false out.output one.file.out.name one.file.makes
  pub named : IsKept m.program overwrite out.output one.file.out.name one.file.ends
  pub kept : one.file.out.kept ≡ true
  pub whole : one.file.out.fault ≡ None
  pub hashed : one.known ≡ digest_if_asked m.digests one.file.out.bytes
  pub meaning_hashed : one.meaning ≡ digest_if_asked (hashes_meaning (output_form m.packs m.program) m.digests) (of_output m one.file.out.bytes)
  pub work : IsWork m (check_of m key) (extracting s out.area) has one.readings one.file.out.bytes one.counts digest raw

-- with `--digests` those of IN, and then the lines of each OUT
abbrev pub each_lines : (digests : Bool) → (digest : List ℕ) → Option (List ℕ) → (input : List ℕ) → List OneOut → List (List ℕ)
each_lines digests digest raw input ones = check_lines digests digest raw input ++ flat_map (λ one. out_lines one.counts one.known one.meaning one.file.output) ones

-- all OUTs were made, IN was read, all OUTs were closed whole, each got its name, and then the lines were printed. What is read for an OUT has the digests
-- of IN; it is IN itself, if the host reports what it has
pub record WritesOuts (m : Manner) (s : Strategy) (files : ConfigFiles) (outs : List OutputArea) (events : List Event) : Type 0 where
  pub has : List (Option (List ℕ))
  pub rs : List Reading
  pub key : ℕ
  pub digest : List ℕ
  pub raw : Option (List ℕ)
  pub ones : List OneOut
  pub happened : events ≡ begun_each files (paths_of outs) has key ++ (flat_map (λ one. one.file.makes) ones ++ (map (λ r. read r) rs
      ++ (map (λ one. wrote one.file.out) ones ++ (flat_map (λ one. one.file.ends) ones ++ prints Output (each_lines m.digests digest raw files.input.now ones)))))
  pub passes : length has ≡ spares_by s + 2
  pub each : AllZip (WritesOne m s files.overwrite key has digest raw) outs ones

-- the same, once the configuration was read
pub record RunsExtractEach (m : Manner) (s : Strategy) (files : ConfigFiles) (events : List Event) : Type 0 where
  pub outs : List OutputArea
  pub before : List Event
  pub after : List Event
  pub happened : events ≡ before ++ after
  pub means : MeansConfig files.config.now (folder_of files) before outs
  pub writes : WritesOuts m s files outs after

-- ---- a run that fails

-- each of the extracts that are to be written is a raw file
abbrev pub AllGiveRaw : Strategy → List AreaSpec → (file : List ℕ) → Type 0
AllGiveRaw s areas file = AllByRecursion (λ area. GivesRaw (extracting s area) file) areas

abbrev pub areas_of : List OutputArea → List AreaSpec
areas_of outs = map (λ out. out.area) outs

-- those of the configuration that was read
abbrev pub CutsRawEach : Strategy → ConfigFiles → List Event → (file : List ℕ) → Type 0
CutsRawEach s files events file = (outs : List OutputArea) (before after : List Event)
    → events ≡ before ++ after → MeansConfig files.config.now (folder_of files) before outs → AllGiveRaw s (areas_of outs) file

-- how IN is judged
abbrev pub judging_each : Strategy → ConfigFiles → List Event → Judging
judging_each s files events = judging (judge_by s) (CutsRawEach s files events)

-- an OUT isn't to be kept, and took a prefix of its extract, if IN has the same bytes for each pass; or it took all of it
abbrev pub LeavesOne : Manner → Task → (has : List (Option (List ℕ))) → Writing → Type 0
LeavesOne m task has w =
    ((w.kept ≡ false) × ((bytes : List ℕ) → AllSupply bytes has → TookFront (output_form m.packs m.program, answer_of task (of_input m bytes)) (wrote w)))
    ⊎ ((by : PassCheck) × (rs : List Reading) × (counts : Counts) × (digest : List ℕ) × (raw : Option (List ℕ)) × IsWork m by task has rs w.bytes counts digest raw)

-- IN was returned, and then the OUTs of these areas, in order
pub record LeavesOuts (m : Manner) (s : Strategy) (has : List (Option (List ℕ))) (areas : List AreaSpec) (events : List Event) : Type 0 where
  pub before : List Event
  pub rs : List Reading
  pub ws : List Writing
  pub after : List Event
  pub happened : events ≡ before ++ (map (λ r. read r) rs ++ (map (λ w. wrote w) ws ++ after))
  pub quiet : Each Quiet before × Each Quiet after
  pub each : AllZip (λ area w. LeavesOne m (extracting s area) has w) areas ws

-- those, or none of the OUTs took anything
abbrev pub AreLeft : Manner → Strategy → (has : List (Option (List ℕ))) → List AreaSpec → List Event → Type 0
AreLeft m s has areas events = (Each WroteNothing events × Each IsUnkept events) ⊎ LeavesOuts m s has areas events

-- what is left once it is known what is cut out: IN has this for the passes, and by that the OUTs have what they have
pub record AreLeftFor (input : List ℕ) (m : Manner) (s : Strategy) (areas : List AreaSpec) (events : List Event) : Type 0 where
  pub has : List (Option (List ℕ))
  pub opens : Opens input 1 has events
  pub left : AreLeft m s has areas events

-- nothing was written before the configuration was read
pub record LeavesEach (m : Manner) (s : Strategy) (files : ConfigFiles) (events : List Event) : Type 0 where
  pub outs : List OutputArea
  pub before : List Event
  pub after : List Event
  pub happened : events ≡ before ++ after
  pub means : MeansConfig files.config.now (folder_of files) before outs
  pub left : AreLeftFor files.input.now m s (areas_of outs) after
