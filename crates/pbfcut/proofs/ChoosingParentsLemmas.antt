-- What was chosen for each of several areas, with all parents.
use Rattle.std.proofs.Common.{◌≡◌, ℕ, List, [], ◌∷◌, Bool, true, false, true≢false, Option, Some, None, refl, sym, ap, subst, ◌∙◌}
use Rattle.std.specs.Prelude.{IsTrue}
use Rattle.std.specs.List.{AllByRecursion, AllZip}
use Rattle.osm_area.specs.Area.{AreaSpec}
use Rattle.osm_entity.specs.Entity.{EntitySpec}
use Rattle.osm_ways.specs.Phases.{Found, RelationSets, WaySets, without_parents}
use Rattle.osm_ways.specs.Selection.{Seen, none_whole}
use Rattle.osm_ways.specs.declared.in_area.InArea.{InArea}
use Rattle.pbf_frame.specs.Verdict.{Verdict}
use Rattle.pbf_header.specs.Header.{HeaderSpec, header_of}
use Rattle.pbf_pass.specs.declared.pass.Pass.{Pass}
use Rattle.pbf_pass.specs.Each.{each_gathered}
use Rattle.pbf_pass.specs.Hashing.{Mark}
use Rattle.pbf_pass.specs.HeaderLimit.{HasShortTexts, header_limit, held_header}
use Rattle.pbf_pass.specs.Judged.{judged_file}
use Rattle.pbf_pass.specs.Pass.{TakesFile, with_relation, with_seen_in, with_way}
use Rattle.pbf_pass.specs.Unjudged.{GathersFile, GathersSome}
use Rattle.pbf_pass.proofs.EachLemmas.{each_takes_file}
use Rattle.pbf_pass.proofs.GivenLemmas.{gave_file_less}
use Rattle.pbfcut.specs.declared.area_phase.AreaPhase.{AreaPhase}
use Rattle.pbfcut.specs.declared.carrying.AreaChoice.{AreaChoice}
use Rattle.pbfcut.specs.declared.carrying.AreaOutput.{AreaOutput}
use Rattle.pbfcut.specs.Calls.{FeedUse, GaveOrNot}
use Rattle.pbfcut.specs.ChoosingEach.{BeginsParents, ChoseParents, EndsTakingAll, IsFreshTaking, IsParentsChoice, IsRelationsOf}
use Rattle.pbfcut.specs.Extracting.{IsChoiceWithParents}
use Rattle.pbfcut.specs.Repeat.{GathersRest}
use Rattle.pbfcut.proofs.AreaPhaseLemmas.{with_more}
use Rattle.pbfcut.proofs.ChoosingEachLemmas.{GathersOne, TookFresh, begins_area, each_gathers, phase_header, phase_more, phase_rest, phase_same}
use Rattle.pbfcut.proofs.ExtractingLemmas.{chooses_parents_of}
use Rattle.pbfcut.proofs.SeveralLemmas.{zip_right, zip_same, zip_then, zip_weaker, zip_with}

-- ---- the first pass

module _ {A D S : Type 0} (area : A → AreaSpec) (start : S) (step : S → Seen → S) (has_ways : S → Bool) (ended : S → WaySets) (found : S → Found) (file : List ℕ) (pass : Pass) (header : HeaderSpec) (held : held_header pass ≡ Some (pass.header_at, header)) (within : header_limit (held_header pass) ≡ None) (short : HasShortTexts header) where
  begins_parents : (output : AreaOutput A D) (now : InArea A S) (phase : AreaPhase WaySets Found) → TookFresh area start step has_ways ended file pass header held within short output now → EndsTakingAll area start step has_ways ended found header now phase → BeginsParents area start step has_ways ended found file output phase
  unfolding begins_area
  begins_parents output now phase t all = record { begins = begins_area area start step has_ways ended file pass header held within short output now phase t all.ends; found_is = all.found_is; takes_all = all.takes_all }

  pub all_begin_parents : (outputs : List (AreaOutput A D)) (takings nows : List (InArea A S)) (phases : List (AreaPhase WaySets Found)) → AllZip (IsFreshTaking start step has_ways ended) outputs takings → TakesFile (each_gathered (with_seen_in area step)) (judged_file (Some file)) takings nows pass
      → AllZip (EndsTakingAll area start step has_ways ended found header) nows phases → AllZip (BeginsParents area start step has_ways ended found file) outputs phases
  all_begin_parents outputs takings nows phases fresh took ends = zip_then (TookFresh area start step has_ways ended file pass header held within short) (EndsTakingAll area start step has_ways ended found header) _ begins_parents outputs nows phases
      (zip_then (IsFreshTaking start step has_ways ended) (λ before now. TakesFile (with_seen_in area step) (judged_file (Some file)) before now pass) (TookFresh area start step has_ways ended file pass header held within short) (λ output before now f t. record { before = before; fresh = f; took = t }) outputs takings nows fresh (each_takes_file (with_seen_in area step) (judged_file (Some file)) takings nows pass took)) ends

-- ---- a later pass

-- what it did to a phase, whether that was done or not
record Later {S R : Type 0} (with_one : S → EntitySpec → S) (known : Option Verdict) (before now : AreaPhase S R) : Type 0 where
  header : now.header ≡ before.header
  still : now.is_done ≡ before.is_done
  found : now.found ≡ before.found
  same : before.is_done ≡ true → now.gathering ≡ before.gathering
  more : before.is_done ≡ false → GathersFile with_one known before.gathering now.gathering

later_one : {S R : Type 0} (with_one : S → EntitySpec → S) (known : Option Verdict) (before now : AreaPhase S R) → GathersOne (with_more with_one) known before now → Later with_one known before now
later_one with_one known before now g = record {
  header = phase_header with_one before now g.some;
  still = (phase_rest with_one before now g.some).0;
  found = (phase_rest with_one before now g.some).1;
  same = λ d. ap (λ a. a.gathering) (phase_same with_one known before now g d);
  more = phase_more with_one known before now g;
}

later_same : {S R : Type 0} (with_one : S → EntitySpec → S) (known : Option Verdict) (before now : AreaPhase S R) → before.is_done ≡ true → now ≡ before → Later with_one known before now
later_same with_one known before now d is = record {
  header = ap (λ a. a.header) is;
  still = ap (λ a. a.is_done) is;
  found = ap (λ a. a.found) is;
  same = λ _. ap (λ a. a.gathering) is;
  more = λ left. absurd (true≢false (sym d ∙ left));
}

all_later_same : {S R : Type 0} (with_one : S → EntitySpec → S) (known : Option Verdict) (befores nows : List (AreaPhase S R)) → AllByRecursion (λ phase. phase.is_done ≡ true) befores → nows ≡ befores → AllZip (Later with_one known) befores nows
all_later_same with_one known befores nows done is = subst (λ l. AllZip (Later with_one known) befores l) (sym is) (zip_with (λ phase. phase.is_done ≡ true) (λ before now. now ≡ before) (Later with_one known) (λ before now d e. later_same with_one known before now d e) befores befores done (zip_same (λ before now. now ≡ before) (λ a. refl) befores))

all_later : {S R : Type 0} (with_one : S → EntitySpec → S) (known : Option Verdict) (befores nows : List (AreaPhase S R)) → GathersSome (each_gathered (with_more with_one)) befores nows → GathersFile (each_gathered (with_more with_one)) known befores nows → AllZip (Later with_one known) befores nows
all_later with_one known befores nows some all = zip_weaker (GathersOne (with_more with_one) known) (Later with_one known) (later_one with_one known) befores nows (each_gathers (with_more with_one) known befores nows some all)

-- ---- what was chosen

module _ {A D S : Type 0} (area : A → AreaSpec) (start : S) (step : S → Seen → S) (has_ways : S → Bool) (ended : S → WaySets) (found_of : S → Found) (second third : FeedUse) (digest : Mark) (b : List ℕ) where
  abbrev Begun : AreaOutput A D → AreaPhase WaySets Found → Type 0
  Begun output phase = BeginsParents area start step has_ways ended found_of b output phase

  -- the phases of one area, up to that of relations as it began, and as it ended
  record Ways (c : List ℕ) (output : AreaOutput A D) (after : AreaPhase WaySets Found) : Type 0 where
    before : AreaPhase WaySets Found
    begun : Begun output before
    ways : Later with_way (judged_file (Some c)) before after

  record Relations (c : List ℕ) (output : AreaOutput A D) (next : AreaPhase RelationSets (Unit {0})) : Type 0 where
    after : AreaPhase WaySets Found
    so_far : Ways c output after
    follows : IsRelationsOf after next

  record Ended (c e : List ℕ) (output : AreaOutput A D) (last : AreaPhase RelationSets (Unit {0})) : Type 0 where
    next : AreaPhase RelationSets (Unit {0})
    so_far : Relations c output next
    relations : Later with_relation (judged_file (Some e)) next last

  chose_parents : (c e : List ℕ) (output : AreaOutput A D) (last : AreaPhase RelationSets (Unit {0})) (choice : AreaChoice) → Ended c e output last → IsParentsChoice last choice → ChoseParents area b c e output choice
  chose_parents c e output last choice p is =
      let next = p.next in
      let after = p.so_far.after in
      let follows = p.so_far.follows in
      let before = p.so_far.so_far.before in
      let begun = p.so_far.so_far.begun in
      let ways = p.so_far.so_far.ways in
      let h : header_of before.header ≡ header_of choice.header = sym (is.header ∙ ap header_of (p.relations.header ∙ follows.header ∙ ways.header)) in
      let done : next.is_done ≡ before.is_done = follows.done ∙ ways.still in
      record {
        sound = record { frames = begun.begins.begins.frames; judged = begun.begins.begins.judged; within = begun.begins.begins.within };
        short = subst HasShortTexts h begun.begins.begins.short;
        chosen = λ same too. subst (λ (x : HeaderSpec). IsChoiceWithParents (area output.area) b c e choice.chosen x) h
            (chooses_parents_of start step has_ways ended begun.begins.takes second digest (area output.area) b (header_of before.header) start begun.begins.taken before.gathering after.gathering (without_parents after.gathering) none_whole refl (area output.area) refl begun.begins.begins refl begun.begins.ways refl
            found_of begun.takes_all third after.found (ways.found ∙ begun.found_is) next.gathering last.gathering follows.relations choice.chosen choice.chosen is.ways is.least is.added refl
            before.is_done begun.begins.done c e same too ways.same ways.more (λ d. p.relations.same (done ∙ d)) (λ d. p.relations.more (done ∙ d)));
      }

  chain : (c e : List ℕ) (outputs : List (AreaOutput A D)) (befores afters : List (AreaPhase WaySets Found)) (nexts lasts : List (AreaPhase RelationSets (Unit {0}))) (choices : List AreaChoice) → AllZip Begun outputs befores → AllZip (Later with_way (judged_file (Some c))) befores afters → AllZip IsRelationsOf afters nexts
      → AllZip (Later with_relation (judged_file (Some e))) nexts lasts → AllZip IsParentsChoice lasts choices → AllZip (ChoseParents area b c e) outputs choices
  chain c e outputs befores afters nexts lasts choices begun ways follows relations chose =
      zip_then (Ended c e) IsParentsChoice (ChoseParents area b c e) (λ output last choice p is. chose_parents c e output last choice p is) outputs lasts choices
      (zip_then (Relations c) (Later with_relation (judged_file (Some e))) (Ended c e) (λ output next last p l. record { next = next; so_far = p; relations = l }) outputs nexts lasts
      (zip_then (Ways c) IsRelationsOf (Relations c) (λ output after next p f. record { after = after; so_far = p; follows = f }) outputs afters nexts
      (zip_then Begun (Later with_way (judged_file (Some c))) (Ways c) (λ output before after p l. record { before = before; begun = p; ways = l }) outputs befores afters begun ways) follows) relations) chose

  pub each_chose_parents : (outputs : List (AreaOutput A D)) (befores afters : List (AreaPhase WaySets Found)) (nexts lasts : List (AreaPhase RelationSets (Unit {0}))) (choices : List AreaChoice) (spared : Bool) → AllZip Begun outputs befores
      → GathersRest second.ghosts (each_gathered (with_more with_way)) spared second.old second.new digest befores afters → GathersSome (each_gathered (with_more with_way)) befores afters → AllZip IsRelationsOf afters nexts
      → GathersRest third.ghosts (each_gathered (with_more with_relation)) spared third.old third.new digest nexts lasts → GathersSome (each_gathered (with_more with_relation)) nexts lasts
      → (IsTrue spared → AllByRecursion (λ phase. phase.is_done ≡ true) befores) → AllZip IsParentsChoice lasts choices → GaveOrNot second spared digest b (λ c. GaveOrNot third spared digest b (λ e. AllZip (ChoseParents area b c e) outputs choices))
  each_chose_parents outputs befores afters nexts lasts choices true begun two some follows three more done chose =
      let here = all_later_same with_way (judged_file (Some b)) befores afters (done refl) two.1 in
      let done_after = zip_right (Later with_way (judged_file (Some b))) (λ phase. phase.is_done ≡ true) (λ phase. phase.is_done ≡ true) (λ before after l d. l.still ∙ d) befores afters here (done refl) in
      let done_next = zip_right IsRelationsOf (λ phase. phase.is_done ≡ true) (λ phase. phase.is_done ≡ true) (λ after next f d. f.done ∙ d) afters nexts follows done_after in
      (two.0, (three.0, chain b b outputs befores afters nexts lasts choices begun here follows (all_later_same with_relation (judged_file (Some b)) nexts lasts done_next three.1) chose))
  each_chose_parents outputs befores afters nexts lasts choices false begun two some follows three more done chose =
      gave_file_less second.ghosts second.old second.new digest (λ file. GathersFile (each_gathered (with_more with_way)) (judged_file (Some file)) befores afters) _ (λ c ways.
      gave_file_less third.ghosts third.old third.new digest (λ file. GathersFile (each_gathered (with_more with_relation)) (judged_file (Some file)) nexts lasts) _ (λ e relations.
      chain c e outputs befores afters nexts lasts choices begun (all_later with_way (judged_file (Some c)) befores afters some ways) follows (all_later with_relation (judged_file (Some e)) nexts lasts more relations) chose) three) two
