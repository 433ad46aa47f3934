-- What was chosen for each of several areas.
use Rattle.std.proofs.Common.{◌≡◌, ℕ, List, [], ◌∷◌, Bool, true, false, true≢false, Option, Some, None, refl, sym, ap, subst, ◌∙◌}
use Rattle.std.specs.Prelude.{IsTrue}
use Rattle.std.specs.List.{AllByRecursion, AllZip, fold}
use Rattle.std.specs.Option.{option_map}
use Rattle.osm_area.specs.Area.{AreaSpec}
use Rattle.osm_entity.specs.Entity.{EntitySpec}
use Rattle.osm_ways.specs.Phases.{WaySets}
use Rattle.osm_ways.specs.Selection.{Seen, none_whole}
use Rattle.osm_ways.specs.Whole.{is_wanted}
use Rattle.osm_ways.specs.declared.in_area.InArea.{InArea}
use Rattle.pbf_frame.specs.declared.stop.Stop.{Stop}
use Rattle.pbf_frame.specs.Frames.{FrameSpec}
use Rattle.pbf_frame.specs.Verdict.{Verdict}
use Rattle.pbf_header.specs.Header.{HeaderSpec, header_of}
use Rattle.pbf_header.specs.WrittenHeader.{EdgesTyped, edges_of, header_out_for_box}
use Rattle.pbf_pass.specs.Counting.{stored_entities}
use Rattle.pbf_pass.specs.declared.pass.Pass.{Pass}
use Rattle.pbf_pass.specs.Each.{each_gathered}
use Rattle.pbf_pass.specs.Hashing.{Mark}
use Rattle.pbf_pass.specs.HeaderLimit.{HasShortTexts, header_limit, held_header, limited}
use Rattle.pbf_pass.specs.Judged.{judged_file}
use Rattle.pbf_pass.specs.Pass.{TakesFile, file_header, with_seen_in, with_way}
use Rattle.pbf_pass.specs.Stops.{Caused, FaultOf, unchanged}
use Rattle.pbf_pass.specs.Unjudged.{GathersFile, GathersSome}
use Rattle.pbf_pass.proofs.EachLemmas.{all_mapped, each_takes_file, fold_each}
use Rattle.pbf_pass.proofs.GivenLemmas.{gave_file_less}
use Rattle.pbf_pass.proofs.LimitLemmas.{held_is, limited_fault}
use Rattle.pbfcut.specs.declared.area_phase.AreaPhase.{AreaPhase}
use Rattle.pbfcut.specs.declared.carrying.AreaChoice.{AreaChoice}
use Rattle.pbfcut.specs.declared.carrying.AreaOutput.{AreaOutput}
use Rattle.pbfcut.specs.Calls.{FeedUse, GaveOrNot}
use Rattle.pbfcut.specs.ChoosingEach.{BeginsArea, ChoseWays, EndsTaking, IsFreshTaking, IsSoundFile, IsWaysChoice}
use Rattle.pbfcut.specs.Extracting.{Begins, IsChoice}
use Rattle.pbfcut.specs.Repeat.{GathersRest}
use Rattle.pbfcut.proofs.AreaPhaseLemmas.{gathered_all, gathered_none, with_more}
use Rattle.pbfcut.proofs.ExtractingLemmas.{begins, begun_by, chooses_of}
use Rattle.pbfcut.proofs.LaterLemmas.{stops_earlier}
use Rattle.pbfcut.proofs.SeveralLemmas.{zip_both, zip_same, zip_then, zip_weaker, zip_when, zip_with}

-- ---- the first pass

pub area_stays : {A S : Type 0} (area : A → AreaSpec) (step : S → Seen → S) (of : InArea A S) (es : List EntitySpec) → (fold (with_seen_in area step) of es).area ≡ of.area
area_stays area step of [] = refl
area_stays area step of (e ∷ es) = area_stays area step (with_seen_in area step of e) es

-- the file that was judged is sound
pub sound_file : {S : Type 0} (gathered : S → EntitySpec → S) (file : List ℕ) (before now : S) (pass : Pass) → TakesFile gathered (judged_file (Some file)) before now pass → header_limit (held_header pass) ≡ None → IsSoundFile file
sound_file gathered file before now pass p within = record { frames = p.frames; judged = p.says; within = ap header_limit (sym (held_is (file_header p.frames) pass p.header)) ∙ within }

-- why the pass stopped that judges the file: the headers of the extracts don't matter yet
pub stops_judging : (known : Option Verdict) (read more : Type 0) (s : Stop) → (read → more) → Caused (FaultOf known) read ⊥ unchanged s → Caused (FaultOf (option_map limited known)) more ⊥ unchanged s
stops_judging known read more s failed = stops_earlier (FaultOf known) (FaultOf (option_map limited known)) read more ⊥ unchanged unchanged s (λ e fault. (fault.0, limited_fault known fault.0 e fault.1)) failed (λ pass h. absurd h)

module _ {A D S : Type 0} (area : A → AreaSpec) (start : S) (step : S → Seen → S) (has_ways : S → Bool) (ended : S → WaySets) (file : List ℕ) (pass : Pass) (header : HeaderSpec) (held : held_header pass ≡ Some (pass.header_at, header)) (within : header_limit (held_header pass) ≡ None) (short : HasShortTexts header) where
  -- a phase that took the file, before which it was fresh
  pub record TookFresh (output : AreaOutput A D) (now : InArea A S) : Type 0 where
    pub before : InArea A S
    pub fresh : IsFreshTaking start step has_ways ended output before
    pub took : TakesFile (with_seen_in area step) (judged_file (Some file)) before now pass

  unfoldable pub begins_area : {R : Type 0} (output : AreaOutput A D) (now : InArea A S) (phase : AreaPhase WaySets R) → TookFresh output now → EndsTaking area has_ways ended header now phase → BeginsArea area start step has_ways ended file output phase
  begins_area output now phase t ends =
      let before = t.before in
      let stays : now.area ≡ before.area = ap (λ (of : InArea A S). of.area) t.took.gathered_all ∙ area_stays area step before (stored_entities t.took.frames) in
      let is : header_of phase.header ≡ header_out_for_box (area before.area).bounds header = ends.header_is ∙ ap (λ (a : A). header_out_for_box (area a).bounds header) stays in
      let typed : EdgesTyped (edges_of (area before.area).bounds) = subst (λ (a : A). EdgesTyped (edges_of (area a).bounds)) stays ends.typed in
      let fits : HasShortTexts (header_of phase.header) = subst HasShortTexts (sym is) short in
      let one = begins area step file pass header (header_of phase.header) before now t.took held within is fits typed in
      let begun = begun_by (is_wanted before.types) none_whole t.fresh.types (area before.area) (area output.area) (ap area t.fresh.area) one in
      record {
        taken = now.phase;
        begins = subst (λ (s : S). Begins none_whole (area output.area) step file s now.phase (header_of phase.header)) t.fresh.start_is begun;
        ways = ends.ways;
        done = ends.done;
        takes = t.fresh.takes;
      }

  pub all_begin : {R : Type 0} (outputs : List (AreaOutput A D)) (takings nows : List (InArea A S)) (phases : List (AreaPhase WaySets R)) → AllZip (IsFreshTaking start step has_ways ended) outputs takings → TakesFile (each_gathered (with_seen_in area step)) (judged_file (Some file)) takings nows pass
      → AllZip (EndsTaking area has_ways ended header) nows phases → AllZip (BeginsArea area start step has_ways ended file) outputs phases
  all_begin outputs takings nows phases fresh took ends = zip_then TookFresh (EndsTaking area has_ways ended header) _ begins_area outputs nows phases
      (zip_then (IsFreshTaking start step has_ways ended) (λ before now. TakesFile (with_seen_in area step) (judged_file (Some file)) before now pass) TookFresh (λ output before now f t. record { before = before; fresh = f; took = t }) outputs takings nows fresh (each_takes_file (with_seen_in area step) (judged_file (Some file)) takings nows pass took)) ends

-- ---- a later pass

-- each gathered some entities, those of the file if it has no fault
pub record GathersOne {S : Type 0} (gathered : S → EntitySpec → S) (known : Option Verdict) (before now : S) : Type 0 where
  pub some : GathersSome gathered before now
  pub all : GathersFile gathered known before now

pub each_gathers : {S : Type 0} (gathered : S → EntitySpec → S) (known : Option Verdict) (befores nows : List S) → GathersSome (each_gathered gathered) befores nows → GathersFile (each_gathered gathered) known befores nows → AllZip (GathersOne gathered known) befores nows
each_gathers {S} gathered known befores nows some all = zip_both (λ before now. GathersSome gathered before now) (GathersFile gathered known) (GathersOne gathered known) (λ before now s a. record { some = s; all = a }) befores nows somes alls where
  folded : (es : List EntitySpec) → nows ≡ fold (each_gathered gathered) befores es → AllZip (λ before now. now ≡ fold gathered before es) befores nows
  folded es is = subst (λ l. AllZip (λ before now. now ≡ fold gathered before es) befores l) (sym (is ∙ fold_each gathered befores es)) (all_mapped (λ s. fold gathered s es) befores)

  somes : AllZip (λ before now. GathersSome gathered before now) befores nows
  somes = zip_weaker (λ before now. now ≡ fold gathered before some.0) _ (λ before now is. (some.0, is)) befores nows (folded some.0 some.1)

  alls : AllZip (GathersFile gathered known) befores nows
  alls = zip_when (λ (frames : List FrameSpec). known ≡ Some (frames, None)) (λ before now. GathersSome gathered before now) (λ frames before now. now ≡ fold gathered before (stored_entities frames)) befores nows somes (λ frames is. folded (stored_entities frames) (all frames is))

-- what a phase gathers that isn't done, or is
pub phase_more : {S R : Type 0} (with_one : S → EntitySpec → S) (known : Option Verdict) (before now : AreaPhase S R) → GathersOne (with_more with_one) known before now → before.is_done ≡ false → GathersFile with_one known before.gathering now.gathering
phase_more with_one known before now g left frames is = ap (λ a. a.gathering) (g.all frames is ∙ gathered_all with_one before (stored_entities frames) left)

pub phase_same : {S R : Type 0} (with_one : S → EntitySpec → S) (known : Option Verdict) (before now : AreaPhase S R) → GathersOne (with_more with_one) known before now → before.is_done ≡ true → now ≡ before
phase_same with_one known before now g done = g.some.1 ∙ gathered_none with_one before g.some.0 done

pub phase_header : {S R : Type 0} (with_one : S → EntitySpec → S) (before now : AreaPhase S R) → GathersSome (with_more with_one) before now → now.header ≡ before.header
phase_header {S} {R} with_one before now some = ap (λ a. a.header) some.1 ∙ stays before some.0 where
  stays : (a : AreaPhase S R) (es : List EntitySpec) → (fold (with_more with_one) a es).header ≡ a.header
  stays a [] = refl
  stays a (e ∷ es) = stays (with_more with_one a e) es

pub phase_rest : {S R : Type 0} (with_one : S → EntitySpec → S) (before now : AreaPhase S R) → GathersSome (with_more with_one) before now → (now.is_done ≡ before.is_done) × (now.found ≡ before.found)
phase_rest {S} {R} with_one before now some = (ap (λ a. a.is_done) some.1 ∙ (stays before some.0).0, ap (λ a. a.found) some.1 ∙ (stays before some.0).1) where
  stays : (a : AreaPhase S R) (es : List EntitySpec) → ((fold (with_more with_one) a es).is_done ≡ a.is_done) × ((fold (with_more with_one) a es).found ≡ a.found)
  stays a [] = (refl, refl)
  stays a (e ∷ es) = stays (with_more with_one a e) es

-- ---- what was chosen

module _ {A D S : Type 0} (area : A → AreaSpec) (start : S) (step : S → Seen → S) (has_ways : S → Bool) (ended : S → WaySets) (second : FeedUse) (digest : Mark) (b : List ℕ) where
  abbrev BeginsWays : AreaOutput A D → AreaPhase WaySets (Unit {0}) → Type 0
  BeginsWays output phase = BeginsArea area start step has_ways ended b output phase

  -- from what a later pass gathered, if the first file is the second's
  chose_area : (c : List ℕ) (output : AreaOutput A D) (before now : AreaPhase WaySets (Unit {0})) (choice : AreaChoice) → BeginsWays output before → now.header ≡ before.header → (before.is_done ≡ true → now.gathering ≡ before.gathering) → (before.is_done ≡ false → GathersFile with_way (judged_file (Some c)) before.gathering now.gathering) → IsWaysChoice now choice → ChoseWays area b c output choice
  chose_area c output before now choice begun same done more is =
      let h : header_of before.header ≡ header_of choice.header = sym (is.header ∙ ap header_of same) in
      record {
        sound = record { frames = begun.begins.frames; judged = begun.begins.judged; within = begun.begins.within };
        short = subst HasShortTexts h begun.begins.short;
        chosen = λ same_file. subst (λ (x : HeaderSpec). IsChoice (area output.area) b c choice.chosen x) h
            (chooses_of start step has_ways ended begun.takes second digest (area output.area) b (header_of before.header) start begun.taken before.gathering now.gathering choice.chosen none_whole refl (area output.area) refl begun.begins refl begun.ways is.chosen before.is_done begun.done c same_file done more);
      }

  pub each_chose : (outputs : List (AreaOutput A D)) (befores nows : List (AreaPhase WaySets (Unit {0}))) (choices : List AreaChoice) (spared : Bool) → AllZip BeginsWays outputs befores → GathersRest second.ghosts (each_gathered (with_more with_way)) spared second.old second.new digest befores nows → GathersSome (each_gathered (with_more with_way)) befores nows
      → (IsTrue spared → AllByRecursion (λ phase. phase.is_done ≡ true) befores) → AllZip IsWaysChoice nows choices → GaveOrNot second spared digest b (λ c. AllZip (ChoseWays area b c) outputs choices)
  each_chose outputs befores nows choices true begun rest some done chose = (
    rest.0,
    zip_then (λ output now. (before : AreaPhase WaySets (Unit {0})) × BeginsWays output before × (before.is_done ≡ true) × (now ≡ before)) IsWaysChoice (ChoseWays area b b)
        (λ output now choice p is. chose_area b output p.0 now choice p.1 (ap (λ a. a.header) p.3) (λ _. ap (λ a. a.gathering) p.3) (λ left. absurd (true≢false (sym p.2 ∙ left))) is) outputs nows choices
        (zip_then BeginsWays (λ before now. (before.is_done ≡ true) × (now ≡ before)) _ (λ output before now begins p. (before, begins, p.0, p.1)) outputs befores nows begun
        (zip_with (λ before. before.is_done ≡ true) (λ before now. now ≡ before) (λ before now. (before.is_done ≡ true) × (now ≡ before)) (λ before now d is. (d, is)) befores nows (done refl) (subst (λ l. AllZip (λ before now. now ≡ before) befores l) (sym rest.1) (zip_same (λ before now. now ≡ before) (λ a. refl) befores)))) chose,
  )
  each_chose outputs befores nows choices false begun rest some done chose = gave_file_less second.ghosts second.old second.new digest (λ file. GathersFile (each_gathered (with_more with_way)) (judged_file (Some file)) befores nows) _ (λ c all.
      zip_then (λ output now. (before : AreaPhase WaySets (Unit {0})) × BeginsWays output before × GathersOne (with_more with_way) (judged_file (Some c)) before now) IsWaysChoice (ChoseWays area b c)
      (λ output now choice p is. chose_area c output p.0 now choice p.1 (phase_header with_way p.0 now p.2.some) (λ d. ap (λ a. a.gathering) (phase_same with_way (judged_file (Some c)) p.0 now p.2 d)) (phase_more with_way (judged_file (Some c)) p.0 now p.2) is) outputs nows choices
      (zip_then BeginsWays (GathersOne (with_more with_way) (judged_file (Some c))) _ (λ output before now begins g. (before, begins, g)) outputs befores nows begun (each_gathers (with_more with_way) (judged_file (Some c)) befores nows some all)) chose) rest
