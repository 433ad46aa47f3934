-- What the passes before the one that writes say of several areas.
use Rattle.std.specs.Prelude.{◌≡◌, ℕ, List, Bool, Some, None}
use Rattle.osm_area.specs.Area.{AreaSpec}
use Rattle.osm_ways.specs.Phases.{Found, KeptSets, RelationSets, TakesAll, TakesFirst, WaySets, relations_from, without_parents}
use Rattle.osm_ways.specs.Added.{nothing_added}
use Rattle.osm_ids.specs.Links.{IsLeast}
use Rattle.std.specs.FinSet as set
use Rattle.osm_ways.specs.Selection.{Seen, none_whole}
use Rattle.osm_ways.specs.Whole.{is_wanted}
use Rattle.osm_ways.specs.declared.in_area.InArea.{InArea}
use Rattle.pbf_frame.specs.Frames.{FrameSpec}
use Rattle.pbf_frame.specs.Verdict.{Says}
use Rattle.pbf_header.specs.Header.{HeaderSpec, header_of}
use Rattle.pbf_header.specs.WrittenHeader.{EdgesTyped, edges_of, header_out_for_box}
use Rattle.pbf_pass.specs.HeaderLimit.{HasShortTexts, header_limit}
use Rattle.pbf_pass.specs.Judged.{judged_file}
use Rattle.pbf_pass.specs.Pass.{file_header}
use Rattle.pbfcut.specs.declared.area_phase.AreaPhase.{AreaPhase}
use Rattle.pbfcut.specs.declared.carrying.AreaChoice.{AreaChoice}
use Rattle.pbfcut.specs.declared.carrying.AreaOutput.{AreaOutput}
use Rattle.pbfcut.specs.Extracting.{Begins, IsChoice, IsChoiceWithParents}

-- the file has no fault, and its header can be written
pub record IsSoundFile (file : List ℕ) : Type 0 where
  pub frames : List FrameSpec
  pub judged : Says (judged_file (Some file)) (frames, None)
  pub within : header_limit (file_header frames) ≡ None

-- ---- one area

-- a first phase of the area of an output, with no entities yet
pub record IsFreshTaking {A D S : Type 0} (start : S) (step : S → Seen → S) (has_ways : S → Bool) (ended : S → WaySets) (output : AreaOutput A D) (taking : InArea A S) : Type 0 where
  pub area : taking.area ≡ output.area
  pub types : is_wanted taking.types ≡ none_whole
  pub start_is : taking.phase ≡ start
  pub takes : TakesFirst start step has_ways ended

-- what follows a first phase: its ways, whether they are all, and the header with the area's box
pub record EndsTaking {A S R : Type 0} (area : A → AreaSpec) (has_ways : S → Bool) (ended : S → WaySets) (header : HeaderSpec) (taking : InArea A S) (phase : AreaPhase WaySets R) : Type 0 where
  pub ways : phase.gathering ≡ ended taking.phase
  pub done : phase.is_done ≡ has_ways taking.phase
  pub header_is : header_of phase.header ≡ header_out_for_box (area taking.area).bounds header
  pub typed : EdgesTyped (edges_of (area taking.area).bounds)

-- the first pass over a file began with an area: what it took, and what follows
pub record BeginsArea {A D S R : Type 0} (area : A → AreaSpec) (start : S) (step : S → Seen → S) (has_ways : S → Bool) (ended : S → WaySets) (file : List ℕ) (output : AreaOutput A D) (phase : AreaPhase WaySets R) : Type 0 where
  pub taken : S
  pub begins : Begins none_whole (area output.area) step file start taken (header_of phase.header)
  pub ways : phase.gathering ≡ ended taken
  pub done : phase.is_done ≡ has_ways taken
  pub takes : TakesFirst start step has_ways ended

-- what was chosen in a phase of ways
pub record IsWaysChoice {R : Type 0} (phase : AreaPhase WaySets R) (choice : AreaChoice) : Type 0 where
  pub chosen : choice.chosen ≡ without_parents phase.gathering
  pub header : header_of choice.header ≡ header_of phase.header

-- ---- what was chosen of a file

-- the first file has no fault, and its header can be written; and if the second is the same, this was chosen
pub record Chose (Chooses : List ℕ → List ℕ → HeaderSpec → Type 0) (first second : List ℕ) (h : HeaderSpec) : Type 0 where
  pub sound : IsSoundFile first
  pub short : HasShortTexts h
  pub chosen : second ≡ first → Chooses first second h

-- of one of several areas
abbrev pub ChoseWays : {A D : Type 0} → (A → AreaSpec) → (first second : List ℕ) → AreaOutput A D → AreaChoice → Type 0
ChoseWays area first second output choice = Chose (λ b c h. IsChoice (area output.area) b c choice.chosen h) first second (header_of choice.header)

-- ---- with all parents

-- what follows a first phase that has the relations if it has all ways
pub record EndsTakingAll {A S : Type 0} (area : A → AreaSpec) (start : S) (step : S → Seen → S) (has_ways : S → Bool) (ended : S → WaySets) (found : S → Found) (header : HeaderSpec) (taking : InArea A S) (phase : AreaPhase WaySets Found) : Type 0 where
  pub ends : EndsTaking area has_ways ended header taking phase
  pub found_is : phase.found ≡ found taking.phase
  pub takes_all : TakesAll start step has_ways ended found

pub record BeginsParents {A D S : Type 0} (area : A → AreaSpec) (start : S) (step : S → Seen → S) (has_ways : S → Bool) (ended : S → WaySets) (found : S → Found) (file : List ℕ) (output : AreaOutput A D) (phase : AreaPhase WaySets Found) : Type 0 where
  pub begins : BeginsArea area start step has_ways ended file output phase
  pub found_is : phase.found ≡ found begins.taken
  pub takes_all : TakesAll start step has_ways ended found

-- the phase of relations that follows one of ways
pub record IsRelationsOf (phase : AreaPhase WaySets Found) (next : AreaPhase RelationSets (Unit {0})) : Type 0 where
  pub relations : next.gathering ≡ relations_from phase.gathering phase.found
  pub done : next.is_done ≡ phase.is_done
  pub header : next.header ≡ phase.header

-- what was chosen in a phase of relations
pub record IsParentsChoice (phase : AreaPhase RelationSets (Unit {0})) (choice : AreaChoice) : Type 0 where
  pub ways : choice.chosen.ways ≡ phase.gathering.ways
  pub least : IsLeast (set.contains phase.gathering.links) phase.gathering.start choice.chosen.relation_ids
  pub added : choice.chosen.added ≡ nothing_added
  pub header : header_of choice.header ≡ header_of phase.header

-- the same of three files
pub record ChoseAll (area : AreaSpec) (first second third : List ℕ) (sets : KeptSets) (h : HeaderSpec) : Type 0 where
  pub sound : IsSoundFile first
  pub short : HasShortTexts h
  pub chosen : second ≡ first → third ≡ first → IsChoiceWithParents area first second third sets h

abbrev pub ChoseParents : {A D : Type 0} → (A → AreaSpec) → (first second third : List ℕ) → AreaOutput A D → AreaChoice → Type 0
ChoseParents area first second third output choice = ChoseAll (area output.area) first second third choice.chosen (header_of choice.header)
