-- What OUT took of a command that ended well, if each pass read the same file.
use Rattle.std.specs.Prelude.{◌≡◌, ◌⊎◌, ℕ, List, [], ◌∷◌, ◌++◌, true, Some, None}
use Rattle.osm_area.specs.Area.{AreaSpec}
use Rattle.pbf_block.specs.declared.counts.Counts.{Counts}
use Rattle.pbf_frame.specs.Devices.{prepend}
use Rattle.pbfcut.specs.Theorem.{IsConverted, IsExtraction}
use Rattle.pbfcut_cli.specs.declared.words.Region.{Region}
use Rattle.pbfcut_cli.specs.declared.words.Strategy.{Strategy}
use Rattle.pbfcut_program.specs.Events.{Event, Writing, read, wrote}
use Rattle.pbfcut_program.specs.Fails.{Each}
use Rattle.pbfcut_program.specs.Manner.{Manner, of_input, of_output}
use Rattle.pbfcut_program.specs.Program.{MeansArea, strategy_of}

-- if it is a pass, it was of this file: what it read, and then what was left, is the file
abbrev pub ReadOf : (file : List ℕ) → Event → Type 0
ReadOf file (read r) = prepend r.bytes r.left ≡ Some file
ReadOf file _ = Unit {0}

abbrev pub ReadsOnly : (file : List ℕ) → List Event → Type 0
ReadsOnly file events = Each (ReadOf file) events

-- this is one of the events
abbrev pub Happened : Event → List Event → Type 0
Happened e [] = ⊥
Happened e (first ∷ more) = (first ≡ e) ⊎ Happened e more

-- OUT took these bytes, all of them went out, and it was kept
pub record TookWhole (bytes : List ℕ) (events : List Event) : Type 0 where
  pub out : Writing
  pub happened : Happened (wrote out) events
  pub are : out.bytes ≡ bytes
  pub whole : out.fault ≡ None
  pub kept : out.kept ≡ true

-- they mean the extract, by this strategy, of what the file means, of the area that is cut out. If that is one of polygons, the first event read their text
pub record TookExtract (m : Manner) (cut : Region) (by : Strategy) (file : List ℕ) (events : List Event) : Type 0 where
  pub area : AreaSpec
  pub before : List Event
  pub later : List Event
  pub happened : events ≡ before ++ later
  pub means : MeansArea cut before area
  pub counts : Counts
  pub bytes : List ℕ
  pub took : TookWhole bytes events
  pub extract : IsExtraction (strategy_of by) area (of_input m file) counts (of_output m bytes)

-- they mean a conversion of what it means
pub record TookConversion (m : Manner) (file : List ℕ) (events : List Event) : Type 0 where
  pub counts : Counts
  pub bytes : List ℕ
  pub took : TookWhole bytes events
  pub converted : IsConverted (of_input m file) counts (of_output m bytes)

-- they mean what it means
pub record TookCopy (m : Manner) (file : List ℕ) (events : List Event) : Type 0 where
  pub bytes : List ℕ
  pub took : TookWhole bytes events
  pub same : of_output m bytes ≡ of_input m file
