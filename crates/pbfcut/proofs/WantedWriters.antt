-- What several writers do with a block that is read once for all of them.
use Rattle.std.proofs.Common.{◌≡◌, ◌⊎◌, inl, inr, ℕ, ◌+◌, Option, ap, ap₂, List, [], ◌∷◌, ◌++◌, None, Some, IfSome, map, Ok, Err, Result, OnOk, IfErr, length, suc, refl, sym, subst, ◌∙◌}
use Rattle.std.specs.List.{AllByRecursion, AllZip, filter}
use Rattle.std.specs.Global.{Vec}
use Rattle.osm_entity.specs.Entity.{EntitySpec}
use Rattle.osm_entity.specs.Ranges.{EntityFits}
use Rattle.osm_ways.specs.declared.choice_strips.ChoiceStrips.{ChoiceStrips}
use Rattle.osm_ways.specs.ChoiceStrips.{NamesChoice}
use Rattle.osm_ways.specs.Phases.{KeptSets}
use Rattle.pbf_block.specs.declared.runs.Run.{Run}
use Rattle.pbf_frame.specs.declared.device.Drain as drain
use Rattle.pbf_frame.specs.declared.stop.Stop.{Stop}
use Rattle.pbf_frame.specs.declared.device.Feed as feed
use Rattle.pbf_frame.specs.declared.frame.Frame.{Frame}
use Rattle.pbf_frame.specs.Frames.{FrameSpec, frame_payload, frame_payload_at}
use Rattle.pbf_frame.specs.Keeps.{KeepsFeed}
use Rattle.pbf_frame.specs.Devices.{IsAtEnd}
use Rattle.pbf_frame.specs.Next.{Shows}
use Rattle.pbf_frame.specs.Refusals.{Refuses}
use Rattle.pbf_frame.specs.Verdict.{Verdict}
use Rattle.pbf_pass.specs.Each.{EachTook, OneFailed}
use Rattle.pbf_pass.specs.Judged.{fault_in}
use Rattle.pbf_pass.specs.Payload.{Payload, lent_by, payload_as, payload_of}
use Rattle.pbf_pass.specs.Refused.{RefusesRest}
use Rattle.pbf_pass.specs.Visit.{RefusesVisit, StopsVisit, Visited, VisitsAll}
use Rattle.pbf_pass.proofs.HaltingLemmas.{rest_of}
use Rattle.pbfcut.specs.declared.writing_each.AreaWriter.{AreaWriter}
use Rattle.pbfcut.specs.declared.writing_each.EachWriter.{EachWriter}
use Rattle.pbfcut.specs.Pick.{Pick, picked_in, picks_of, taken_by}
use Rattle.pbfcut.specs.declared.carrying.AreaChoice.{AreaChoice}
use Rattle.pbfcut.specs.declared.carrying.AreaOutput.{AreaOutput}
use Rattle.pbfcut.specs.declared.pick.EntityPacker.{EntityPacker}
use Rattle.pbfcut.specs.Several.{AllThree, AreNamed, CanPackEach, IsNamedWriter, IsReadyWriter, IsWriterOf, OneStopped, OneStoppedWith, PutsHeader, WriterFails, WriterFailsAtPayload, WriterPacks, WriterStops, WriterTakes, WriterTakesPayload, WritersFail, WritersTake}
use Rattle.pbfcut.specs.Wanted.{AllFrom, AreWanted, AreWantedEach, listed_entities}
use Rattle.pbfcut.specs.Write.{FailsAtUnjudgedPayload, PacksUnjudgedPayload}
use Rattle.pbfcut.proofs.SeveralLemmas.{all_units, zip_right}
use Rattle.pbfcut.proofs.WritingLemmas.{fails_at_unjudged_payload}

-- what a frame shows
shown : (frame : Frame) (f : FrameSpec) → Shows frame f → payload_of f ≡ lent_by frame
shown frame f s = ap (λ k. payload_as k (frame_payload_at f) (frame_payload f)) (sym s.kind) ∙ ap₂ (λ (at : ℕ) (m : List ℕ). payload_as frame.kind at m) (sym s.payload_at) (sym s.payload)

-- what refuses bytes, if it says less of them
refuses_more : (first then : List ℕ → Type 0) (before now : ℕ → List ℕ → Type 0) (old new : Option (List ℕ)) → ((bytes : List ℕ) → first bytes → then bytes) → Refuses first before now old new → Refuses then before now old new
refuses_more first then before now old new h r = record { read = r.read; told = r.told; logged = r.logged; faulty = of r.faulty } where
  of : ((rest : List ℕ) → first (r.read ++ rest)) ⊎ (IsAtEnd new × first r.read) → ((rest : List ℕ) → then (r.read ++ rest)) ⊎ (IsAtEnd new × then r.read)
  of (inl all) = inl (λ rest. h (r.read ++ rest) (all rest))
  of (inr end) = inr (end.0, h r.read end.1)

-- a list has what a writer wants of these entities
abbrev pub Wants : {A D S H : Type 0} → List EntitySpec → AreaWriter A D S H → Vec Run → Type 0
Wants es writer list = AreWanted (picks_of writer.entities.picker) es (listed_entities list.items)

-- the choices of writers
abbrev pub chosen_by : {A D S H : Type 0} → List (AreaWriter A D S H) → List KeptSets
chosen_by writers = map (λ writer. writer.choice.now.chosen) writers

pub chosen_length : {A D S H : Type 0} (writers : List (AreaWriter A D S H)) → length (chosen_by writers) ≡ length writers
chosen_length [] = refl
chosen_length (w ∷ ws) = ap suc (chosen_length ws)

pub chosen_named : {A D S H : Type 0} (strips : ChoiceStrips) (k : ℕ) (writers : List (AreaWriter A D S H)) → AllFrom (IsNamedWriter strips) k writers → AllFrom (NamesChoice strips) k (chosen_by writers)
chosen_named strips k [] named = tt
chosen_named strips k (w ∷ ws) named = (named.0.named, chosen_named strips (k + 1) ws named.1)

pub wanted_by : {A D S H : Type 0} (strips : ChoiceStrips) (k : ℕ) (es : List EntitySpec) (writers : List (AreaWriter A D S H)) (lists : List (Vec Run)) → AllFrom (IsNamedWriter strips) k writers → AreWantedEach es (chosen_by writers) lists → AllZip (Wants es) writers lists
wanted_by strips k es [] [] named are = tt
wanted_by strips k es (w ∷ ws) (l ∷ ls) named are = (subst (λ (pick : Pick). AreWanted pick es (listed_entities l.items)) (sym named.0.picks) are.0, wanted_by strips (k + 1) es ws ls named.1 are.1)
wanted_by strips k es [] (l ∷ ls) named are = absurd are
wanted_by strips k es (w ∷ ws) [] named are = absurd are

-- a writer of the same choice that picks the same
same_named : {A D S H : Type 0} (strips : ChoiceStrips) (k : ℕ) (old new : AreaWriter A D S H) → new.entities.picker ≡ old.entities.picker → new.choice.now ≡ old.choice.now → IsNamedWriter strips k old → IsNamedWriter strips k new
same_named strips k old new picker choice is = record {
  named = subst (λ (c : AreaChoice). NamesChoice strips k c.chosen) (sym choice) is.named;
  picks = ap picks_of picker ∙ (is.picks ∙ ap (λ (c : AreaChoice). taken_by c.chosen) (sym choice));
}

-- writers for choices that are named
pub writers_named : {A D S H : Type 0} (strips : ChoiceStrips) (number k : ℕ) (choices : List AreaChoice) (outputs : List (AreaOutput A D)) (writers : List (AreaWriter A D S H)) → AllFrom (λ n choice. NamesChoice strips n choice.chosen) k choices → AllThree (IsWriterOf number) choices outputs writers → AllFrom (IsNamedWriter strips) k writers
writers_named strips number k [] [] [] named are = tt
writers_named strips number k (c ∷ cs) (o ∷ os) (w ∷ ws) named are = (
  record {
    named = subst (λ (x : AreaChoice). NamesChoice strips k x.chosen) (sym are.0.chosen) named.0;
    picks = are.0.picks ∙ ap (λ (x : AreaChoice). taken_by x.chosen) (sym are.0.chosen);
  },
  writers_named strips number (k + 1) cs os ws named.1 are.1,
)
writers_named strips number k [] [] (w ∷ ws) named are = absurd are
writers_named strips number k [] (o ∷ os) writers named are = absurd are
writers_named strips number k (c ∷ cs) [] writers named are = absurd are
writers_named strips number k (c ∷ cs) (o ∷ os) [] named are = absurd are

-- if there are strips
pub found_named : {A D S H : Type 0} (number : ℕ) (found : Option ChoiceStrips) (choices : List AreaChoice) (outputs : List (AreaOutput A D)) (writers : List (AreaWriter A D S H)) → IfSome found (λ strips. AllFrom (λ n choice. NamesChoice strips n choice.chosen) 0 choices) → AllThree (IsWriterOf number) choices outputs writers → AreNamed found writers
found_named number None choices outputs writers named are = tt
found_named number (Some strips) choices outputs writers named are = writers_named strips number 0 choices outputs writers named are

module _ {A D S H : Type 0} (d : drain.Ghosts D) where
  -- ---- of a payload, from what is wanted of it

  module _ (p : Payload) (es : List EntitySpec) (fits : fault_in p ≡ None → AllByRecursion EntityFits es) (same : (pick : Pick) → fault_in p ≡ None → filter pick es ≡ picked_in pick p) where
    packs_payload : (list : Vec Run) (old new : AreaWriter A D S H) → Wants es old list → WriterPacks d (listed_entities list.items) old new → WriterTakesPayload d p old new
    packs_payload list old new are did =
        let pick = picks_of old.entities.picker in (
          record {
            packed = record {
              es = filter pick (listed_entities list.items);
              are = λ sound. are.same ∙ same pick sound;
              packs = did.0.packed.packs;
              going = did.0.packed.going;
              counted = did.0.packed.counted;
            };
            stopped = tt;
            keeps = did.0.keeps;
            same = did.0.same;
          },
          did.1,
        )

    stops_payload : (stop : Stop) (list : Vec Run) (old new : AreaWriter A D S H) → Wants es old list → WriterStops d (listed_entities list.items) stop old new → WriterFailsAtPayload d p stop old new
    stops_payload stop list old new are did =
        let pick = picks_of old.entities.picker in (
          record {
            packed = tt;
            stopped = fails_at_unjudged_payload d old.entities.number pick p (listed_entities list.items) old.packer new.packer stop (λ sound. are.fit (fits sound)) (λ sound. are.same ∙ same pick sound) did.0.stopped;
            keeps = did.0.keeps;
            same = did.0.same;
          },
          did.1,
        )

    pub each_payload : (lists : List (Vec Run)) (olds news : List (AreaWriter A D S H)) → AllZip (Wants es) olds lists → AllThree (λ list. WriterPacks d (listed_entities list.items)) lists olds news → AllZip (WriterTakesPayload d p) olds news
    each_payload [] [] [] are did = tt
    each_payload (l ∷ ls) (old ∷ olds) (new ∷ news) are did = (packs_payload l old new are.0 did.0, each_payload ls olds news are.1 did.1)
    each_payload [] [] (new ∷ news) are did = absurd did
    each_payload [] (old ∷ olds) news are did = absurd did
    each_payload (l ∷ ls) [] news are did = absurd did
    each_payload (l ∷ ls) (old ∷ olds) [] are did = absurd did

    pub one_payload : (stop : Stop) (lists : List (Vec Run)) (olds news : List (AreaWriter A D S H)) → AllZip (Wants es) olds lists → OneStoppedWith (λ list. WriterPacks d (listed_entities list.items)) (λ list. WriterStops d (listed_entities list.items) stop) lists olds news → OneStopped (WriterTakesPayload d p) (WriterFailsAtPayload d p stop) olds news
    one_payload stop (l ∷ ls) (old ∷ olds) (new ∷ news) are (inl here) = inl (stops_payload stop l old new are.0 here.0, here.1)
    one_payload stop (l ∷ ls) (old ∷ olds) (new ∷ news) are (inr later) = inr (packs_payload l old new are.0 later.0, one_payload stop ls olds news are.1 later.1)
    one_payload stop [] olds news are did = absurd did
    one_payload stop (l ∷ ls) [] news are did = absurd did
    one_payload stop (l ∷ ls) (old ∷ olds) [] are did = absurd did

  -- ---- of a frame, from its payload

  module _ (f : FrameSpec) (p : Payload) (is : payload_of f ≡ p) where
    takes_frame : (old new : AreaWriter A D S H) → WriterTakesPayload d p old new → WriterTakes d old f new
    takes_frame old new did = (
      record {
        packs = subst (λ q. PacksUnjudgedPayload d (picks_of old.entities.picker) q old.packer new.packer old.entities.counts new.entities.counts) (sym is) did.0.packed;
        keeps = did.0.keeps;
      },
      did.0.same.0,
      did.0.same.1,
      did.1.0,
      did.1.1,
    )

    fails_frame : (stop : Stop) (old new : AreaWriter A D S H) → WriterFailsAtPayload d p stop old new → WriterFails d old f new stop
    fails_frame stop old new did = (
      record {
        fails = subst (λ q. FailsAtUnjudgedPayload d old.entities.number (picks_of old.entities.picker) q old.packer new.packer stop) (sym is) did.0.stopped;
        keeps = did.0.keeps;
      },
      did.1.0,
      did.1.1,
    )

    pub each_frame : (olds news : List (AreaWriter A D S H)) → AllZip (WriterTakesPayload d p) olds news → EachTook (WriterTakes d) olds f news
    each_frame [] [] did = tt
    each_frame (old ∷ olds) (new ∷ news) did = (takes_frame old new did.0, each_frame olds news did.1)
    each_frame [] (new ∷ news) did = absurd did
    each_frame (old ∷ olds) [] did = absurd did

    pub one_frame : (stop : Stop) (olds news : List (AreaWriter A D S H)) → OneStopped (WriterTakesPayload d p) (WriterFailsAtPayload d p stop) olds news → OneFailed (WriterTakes d) (WriterFails d) olds f news stop
    one_frame stop (old ∷ olds) (new ∷ news) (inl here) = inl (fails_frame stop old new here.0, here.1)
    one_frame stop (old ∷ olds) (new ∷ news) (inr later) = inr (takes_frame old new later.0, one_frame stop olds news later.1)
    one_frame stop [] news did = absurd did
    one_frame stop (old ∷ olds) [] did = absurd did

  pub each_shown : (frame : Frame) (f : FrameSpec) → Shows frame f → (olds news : List (AreaWriter A D S H)) → AllZip (WriterTakesPayload d (lent_by frame)) olds news → EachTook (WriterTakes d) olds f news
  each_shown frame f s olds news did = each_frame f (lent_by frame) (shown frame f s) olds news did

  pub one_shown : (frame : Frame) (f : FrameSpec) → Shows frame f → (stop : Stop) (olds news : List (AreaWriter A D S H)) → OneStopped (WriterTakesPayload d (lent_by frame)) (WriterFailsAtPayload d (lent_by frame) stop) olds news → OneFailed (WriterTakes d) (WriterFails d) olds f news stop
  one_shown frame f s stop olds news did = one_frame f (lent_by frame) (shown frame f s) stop olds news did

  -- ---- what they can do then

  still_named : (p : Payload) (strips : ChoiceStrips) (k : ℕ) (olds news : List (AreaWriter A D S H)) → AllZip (WriterTakesPayload d p) olds news → AllFrom (IsNamedWriter strips) k olds → AllFrom (IsNamedWriter strips) k news
  still_named p strips k [] [] did named = tt
  still_named p strips k (old ∷ olds) (new ∷ news) did named = (same_named strips k old new did.0.0.same.0 did.0.1.1 named.0, still_named p strips (k + 1) olds news did.1 named.1)
  still_named p strips k [] (new ∷ news) did named = absurd did
  still_named p strips k (old ∷ olds) [] did named = absurd did

  still_ready : (p : Payload) (old new : AreaWriter A D S H) → WriterTakesPayload d p old new → IsReadyWriter old → IsReadyWriter new
  still_ready p old new did ready = (did.0.keeps.header, did.0.packed.going)

  each_named : (p : Payload) (strips : Option ChoiceStrips) (olds news : List (AreaWriter A D S H)) → AllZip (WriterTakesPayload d p) olds news → AreNamed strips olds → AreNamed strips news
  each_named p None olds news did named = tt
  each_named p (Some strips) olds news did named = still_named p strips 0 olds news did named

  pub each_ready : (p : Payload) (strips : Option ChoiceStrips) (olds news : List (AreaWriter A D S H)) → AllZip (WriterTakesPayload d p) olds news → CanPackEach strips olds → CanPackEach strips news
  each_ready p strips olds news did ready = record { each = zip_right (WriterTakesPayload d p) IsReadyWriter IsReadyWriter (still_ready p) olds news did ready.each; named = each_named p strips olds news did ready.named }

  -- after the header, which leaves what it picks
  begun_named : (strips : ChoiceStrips) (k : ℕ) (firsts starts : List (AreaWriter A D S H)) → AllZip (PutsHeader d) firsts starts → AllFrom (IsNamedWriter strips) k firsts → AllFrom (IsNamedWriter strips) k starts
  begun_named strips k [] [] put named = tt
  begun_named strips k (first ∷ firsts) (start ∷ starts) put named = (same_named strips k first start (ap (λ (n : EntityPacker). n.picker) put.0.entities) put.0.keeps.choice named.0, begun_named strips (k + 1) firsts starts put.1 named.1)
  begun_named strips k [] (start ∷ starts) put named = absurd put
  begun_named strips k (first ∷ firsts) [] put named = absurd put

  all_named : (strips : Option ChoiceStrips) (firsts starts : List (AreaWriter A D S H)) → AllZip (PutsHeader d) firsts starts → AreNamed strips firsts → AreNamed strips starts
  all_named None firsts starts put named = tt
  all_named (Some strips) firsts starts put named = begun_named strips 0 firsts starts put named

  begun_ready : (first start : AreaWriter A D S H) → PutsHeader d first start → Unit {0} → IsReadyWriter start
  begun_ready first start put any = put.ready

  pub ready_begun : (strips : Option ChoiceStrips) (firsts starts : List (AreaWriter A D S H)) → AllZip (PutsHeader d) firsts starts → AreNamed strips firsts → CanPackEach strips starts
  ready_begun strips firsts starts put named = record { each = zip_right (PutsHeader d) (λ w. Unit {0}) IsReadyWriter begun_ready firsts starts put (all_units firsts); named = all_named strips firsts starts put named }

  -- ---- the frames of a pass

  seen_visited : (fs : List FrameSpec) (a b : EachWriter A D S H) → Visited (WritersTake d) a fs b → Visited (EachTook (WriterTakes d)) a.writers.items fs b.writers.items
  seen_visited [] a b same = ap (λ (v : EachWriter A D S H). v.writers.items) same
  seen_visited (f ∷ fs) a b v = (v.0.writers.items, v.1.0, seen_visited fs v.0 b v.2)

  pub seen_visits : (known : Option Verdict) (count : ℕ) (a b : EachWriter A D S H) → VisitsAll (WritersTake d) known count a b → VisitsAll (EachTook (WriterTakes d)) known count a.writers.items b.writers.items
  seen_visits known count a b v = record { frames = v.frames; says = v.says; counted = v.counted; visited = seen_visited v.frames a b v.visited }

  pub seen_stops : (known : Option Verdict) (read : Type 0) (a b : EachWriter A D S H) (stop : Stop) → StopsVisit (WritersTake d) (WritersFail d) known read a b stop → StopsVisit (EachTook (WriterTakes d)) (OneFailed (WriterTakes d) (WriterFails d)) known read a.writers.items b.writers.items stop
  seen_stops known read a b stop (inl s) = inl (record { frames = s.frames; rest = s.rest; gone = s.gone; visited = seen_visited s.frames a b s.visited; caused = s.caused })
  seen_stops known read a b stop (inr s) = inr (record { frames = s.frames; frame = s.frame; rest = s.rest; gone = s.gone; mid = s.mid.writers.items; visited = seen_visited s.frames a s.mid s.visited; failing = s.failing })

  pub seen_rest : {F : Type 0} (g : feed.Ghosts F) (old new : F) (judge : List ℕ → Option Verdict) (a b : EachWriter A D S H) (stop : Stop) → KeepsFeed g old new → RefusesRest g old new (RefusesVisit (WritersTake d) (WritersFail d) judge a b) stop
      → RefusesRest g old new (RefusesVisit (EachTook (WriterTakes d)) (OneFailed (WriterTakes d) (WriterFails d)) judge a.writers.items b.writers.items) stop
  seen_rest g old new judge a b stop kept rest = rest_of g old new old new _ _ stop kept rest (λ t refuses. refuses_more _ _ _ _ _ _ (λ bytes is. seen_stops (judge bytes) ⊥ a b t is) refuses)

-- ---- what is said of a result

pub on_ok_more : {X E : Type 0} (r : Result X E) (P Q : Type 0) → (P → Q) → OnOk r P → OnOk r Q
on_ok_more (Ok x) P Q h p = h p
on_ok_more (Err e) P Q h p = tt

pub if_err_more : {X E : Type 0} (r : Result X E) (P Q : E → Type 0) → ((e : E) → P e → Q e) → IfErr r P → IfErr r Q
if_err_more (Ok x) P Q h p = tt
if_err_more (Err e) P Q h p = h e p

pub one_length : {V : Type 0} (did stopped : V → V → Type 0) (olds news : List V) → OneStopped did stopped olds news → length news ≡ length olds
one_length did stopped (old ∷ olds) (new ∷ news) (inl here) = ap (λ l. suc (length l)) here.1
one_length did stopped (old ∷ olds) (new ∷ news) (inr later) = ap suc (one_length did stopped olds news later.1)
one_length did stopped [] news one = absurd one
one_length did stopped (old ∷ olds) [] one = absurd one
