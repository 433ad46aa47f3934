-- The text of frames, and why its writing stops.
use Rattle.std.proofs.Common.{◌≡◌, ◌≤◌, ◌⊎◌, arith, ℕ, List, [], ◌∷◌, ◌++◌, append_assoc, Bool, false, Option, Some, None, Result, subst, inl, inr, refl, sym, ap, ◌∙◌}
use Rattle.std.specs.List.{flat_map}
use Rattle.std.proofs.lemmas.Grind.{flat_map-append}
use Rattle.osm_entity.specs.Entity.{EntitySpec}
use Rattle.pbf_wire.specs.declared.fault.Fault.{Fault}
use Rattle.pbf_wire.specs.declared.fault.ReadFault.{ReadFault}
use Rattle.pbf_wire.specs.declared.fault.ReadFault.TheVariants as read
use Rattle.pbf_frame.specs.Devices.{append, HasRisen, IsFront}
use Rattle.pbf_frame.specs.Frames.{FrameSpec}
use Rattle.pbf_frame.specs.Stops.{stop_of_fault}
use Rattle.pbf_frame.specs.Verdict.{Verdict, judged_known, with_first_known}
use Rattle.pbf_frame.specs.declared.device.Drain as drain
use Rattle.pbf_frame.specs.declared.device.Feed as feed
use Rattle.pbf_frame.specs.declared.stop.Stop.{Stop}
use Rattle.pbf_frame.specs.declared.stop.Stop.TheVariants as why
use Rattle.pbf_frame.proofs.KnownBytes.{append_none}
use Rattle.pbf_frame.proofs.Parting.{none_some, some_same}
use Rattle.pbf_frame.specs.Transfers.{Added}
use Rattle.pbf_frame.proofs.Passed.{added_none}
use Rattle.pbf_pass.specs.Judged.{payload_fault, fully_known, judged_file}
use Rattle.pbf_pass.specs.Unjudged.{IsFaulty, ReadsFaulty}
use Rattle.pbf_pass.specs.Given.{Took}
use Rattle.pbf_pass.specs.Refused.{RefusesRest}
use Rattle.pbf_pass.proofs.UnjudgedLemmas.{refuses_less}
use Rattle.pbf_pass.specs.Visit.{Takes, StopRule, Visited, VisitsAll, StopsVisit, RefusesVisit}
use Rattle.pbfcut.specs.declared.showing.LineWriter.{LineWriter}
use Rattle.pbfcut.specs.Showing.{frame_text, file_text, Shown, ShowsFront, WritesFront, WritesLines, ShowsNext, FailsToShowNext}
use Rattle.pbf_pass.specs.Stops.{Caused, FaultOf, Only, unchanged, WriteFailed}
use Rattle.pbf_frame.specs.Keeps.{KeepsDrain}
use Rattle.pbf_frame.proofs.Beginnings.{front_whole, front_longer, front_then}
use Rattle.osm_text.specs.EntityText.{entity_line}
use Rattle.pbfcut.proofs.ListingLemmas.{StoppedWithin, text_one, texts_added, texts_front}
use Rattle.pbfcut.proofs.PickingLemmas.{fails_since}
use Rattle.pbf_pass.proofs.GivenLemmas.{Tells, says_told}
use Rattle.pbf_pass.proofs.StepLemmas.{fully_first}
use Rattle.pbf_pass.proofs.SoundLemmas.{fully_gone}
use Rattle.pbf_pass.proofs.JudgingLemmas.{sound_visited, says_visited, stops_judging}
use Rattle.pbf_pass.proofs.VisitLemmas.{visited_to}

-- why the reading of a payload stops
pub read_stops : (fault : Option Fault) (e : ReadFault) (before now : ℕ) → ((x : Fault) → e ≡ read.Refused x → fault ≡ Some x) → Caused (Only fault) ⊥ (HasRisen before now) unchanged (stop_of_fault e)
read_stops fault e before now h4 = grind arith

-- a file that has a fault isn't one that has none
fault_is_faulty : (known : Option Verdict) (e : Fault) → FaultOf known e → IsFaulty known
fault_is_faulty known e h2 z0 z1 = grind (arith, none_some, some_same)

-- ---- of a visitor that shows

module _ {V D : Type 0} (d : drain.Ghosts D) (to : V → D) (dates : V → Bool) (took : Takes V) (is : (old new : V) (f : FrameSpec) → took old f new → ShowsNext d (dates old) (to old) (to new) f × (dates new ≡ dates old)) where
  -- the text of these frames went out
  record HasShown (before : V) (fs : List FrameSpec) (now : V) : Type 0 where
    pub added : Added d (to before) (file_text (dates before) fs) (to now)
    pub same : dates now ≡ dates before
    pub counts : d.failures (to before) ≤ d.failures (to now)

  has_shown : (before : V) (fs : List FrameSpec) (now : V) → Visited took before fs now → HasShown before fs now
  has_shown before fs now visited = visited_to took (λ gone v. HasShown before gone v) (λ gone f mid last so_far one.
      let h = is mid last f one in record {
        added = texts_added d (frame_text (dates before)) _ _ _ gone f so_far.added (subst (λ (b : Bool). Added d (to mid) (frame_text b f) (to last)) so_far.same h.0.shows.added);
        same = h.1 ∙ so_far.same;
        counts = omega (arith, so_far.counts, h.0.counts);
      }) fs [] before now record { added = added_none d (to before); same = refl; counts = omega arith } visited

  sound_shown : (old new : V) (f : FrameSpec) → took old f new → payload_fault f ≡ None
  sound_shown old new f one = (is old new f one).0.shows.sound

  -- all of them
  pub shows_file : (known : Option Verdict) (count : ℕ) (before now : V) → VisitsAll took known count before now → Took d (to before) (to now) (Shown (dates before) (fully_known known))
  shows_file known count before now p = grind (arith, dates before, has_shown before p.frames now p.visited, says_visited took sound_shown known count before now p)

  pub shows_counts : (known : Option Verdict) (count : ℕ) (before now : V) → VisitsAll took known count before now → d.failures (to before) ≤ d.failures (to now)
  shows_counts known count before now p = (has_shown before p.frames now p.visited).counts

  module _ (failed : StopRule V) (known : Option Verdict) (read : Type 0) (before now : V) (stop : Stop) (fails : (mid : V) (f : FrameSpec) (s : Stop) → failed mid f now s → FailsToShowNext d (dates mid) (to mid) (to now) f s) (stopped : StopsVisit took failed known read before now stop) where
    -- it stopped, and a prefix went out
    pub front_shown : WritesFront (dates before) (fully_known known) (d.taken (to before)) (d.taken (to now))
    front_shown = of stopped where
      within : (f : FrameSpec) (rest : Option Verdict) (mid : V) → dates mid ≡ dates before → (Added d (to mid) [] (to now) ⊎ ((payload_fault f ≡ None) × IsFront (d.taken (to mid)) (d.taken (to now)) (frame_text (dates mid) f)))
          → StoppedWithin (frame_text (dates before)) (fully_known (with_first_known f rest)) (d.taken (to mid)) (d.taken (to now))
      within f rest mid same (inl none) = inl (none.told ∙ append_none (d.taken (to mid)))
      within f rest mid same (inr (sound, front)) = inr (f, fully_known rest, fully_first (with_first_known f rest) rest f refl sound, subst (λ (b : Bool). IsFront (d.taken (to mid)) (d.taken (to now)) (frame_text b f)) same front)

      of : StopsVisit took failed known read before now stop → WritesFront (dates before) (fully_known known) (d.taken (to before)) (d.taken (to now))
      of (inl s) = texts_front (frame_text (dates before)) _ _ s.frames _ _ _ (fully_gone known s.rest s.frames (sound_visited took sound_shown before s.frames now s.visited) s.gone) (has_shown before s.frames now s.visited).added.told (inl refl)
      of (inr s) =
          let h = has_shown before s.frames s.mid s.visited in
          let next = with_first_known s.frame s.rest in
          texts_front (frame_text (dates before)) _ _ s.frames _ _ _ (fully_gone known next s.frames (sound_visited took sound_shown before s.frames s.mid s.visited) s.gone) h.added.told (within s.frame s.rest s.mid h.same (fails s.mid s.frame stop s.failing).fails.front)

    pub stops_shown : Caused (FaultOf (fully_known known)) read (WriteFailed d (to before) (to now)) unchanged stop
    stops_shown = stops_judging took sound_shown failed known read (WriteFailed d (to before) (to now)) before now stop (λ fs mid f s visited failing. fails_since _ _ _ _ _ (has_shown before fs mid visited).counts (fails mid f s failing).fails.cause) stopped

    pub stopped_counts : d.failures (to before) ≤ d.failures (to now)
    stopped_counts = of stopped where
      of : StopsVisit took failed known read before now stop → d.failures (to before) ≤ d.failures (to now)
      of (inl s) = (has_shown before s.frames now s.visited).counts
      of (inr s) = omega (arith, (has_shown before s.frames s.mid s.visited).counts, (fails s.mid s.frame stop s.failing).counts)

  -- what the feed gave has a fault
  pub faulty_shown : {F : Type 0} (f : feed.Ghosts F) (first last : F) (failed : StopRule V) (before now : V) (stop : Stop) (fails : (mid : V) (f : FrameSpec) (s : Stop) → failed mid f now s → FailsToShowNext d (dates mid) (to mid) (to now) f s)
      → RefusesRest f first last (RefusesVisit took failed (λ b. judged_known false 0 (Some b)) before now) stop → ReadsFaulty f first last stop
  faulty_shown f first last failed before now (why.Refused e) fails rest = refuses_less f first last _ _ (λ b stopped. fault_is_faulty (judged_file (Some b)) e (stops_shown failed (judged_known false 0 (Some b)) ⊥ before now (why.Refused e) fails stopped)) rest
  faulty_shown f first last failed before now why.Read fails rest = tt
  faulty_shown f first last failed before now why.Write fails rest = tt
  faulty_shown f first last failed before now why.Memory fails rest = tt
  faulty_shown f first last failed before now (why.Changed pass) fails rest = refuses_less f first last _ _ (λ b stopped. absurd (stops_shown failed (judged_known false 0 (Some b)) ⊥ before now (why.Changed pass) fails stopped)) rest

-- the text of the file that is given is that of the file that is reported
pub shown_told : (dates : Bool) (known : Option (List ℕ)) (file written : List ℕ) → Tells known file → Shown dates (judged_file (Some file)) written → Shown dates (judged_file known) written
shown_told dates known file written tells shown = grind (arith, says_told known file (shown.frames, None) tells shown.says)

-- the whole text is a prefix of itself
pub shown_front : (dates : Bool) (known : Option Verdict) (old new : Option (List ℕ)) (written : List ℕ) → Shown dates known written → new ≡ append old written → ShowsFront dates known old new
shown_front dates known old new written s taken all is = grind (arith, front_whole old new (file_text dates s.frames) (taken ∙ ap (append old) s.is))

-- one entity more is done
pub entities_more : (done left rest all : List EntitySpec) (e : EntitySpec) → left ≡ e ∷ rest → done ++ left ≡ all → (done ++ e ∷ []) ++ rest ≡ all
entities_more done left rest all e is split = append_assoc done (e ∷ []) rest ∙ ap (λ (l : List EntitySpec). done ++ l) (sym is) ∙ split

-- a prefix of an entity's line went out, and so of all
pub entities_front : (dates : Bool) (done left rest all : List EntitySpec) (e : EntitySpec) (before now after : Option (List ℕ)) → left ≡ e ∷ rest → done ++ left ≡ all
    → now ≡ append before (flat_map (entity_line dates) done) → IsFront now after (entity_line dates e) → IsFront before after (flat_map (entity_line dates) all)
entities_front dates done left rest all e before now after is split went front =
    let line = entity_line dates in
    let lines = flat_map line in
    subst (λ (l : List ℕ). IsFront before after l)
    (ap (λ (l : List ℕ). l ++ lines rest) (sym (text_one line done e)) ∙ sym (flat_map-append line (done ++ e ∷ []) rest) ∙ ap lines (entities_more done left rest all e is split))
    (front_longer before after (lines done ++ line e) (lines rest) (front_then before now after (lines done) (line e) went front))

-- ---- of lines

module _ {D : Type 0} (d : drain.Ghosts D) where
  pub keeps_drain : (a b c : D) → KeepsDrain d a b → KeepsDrain d b c → KeepsDrain d a c
  keeps_drain a b c k l = record { counts = omega (arith, k.counts, l.counts); lender = l.lender ∙ k.lender }

  -- of a writer with other dates that are the same
  pub lines_by : {X : Type 0} (here dates : Bool) (e : EntitySpec) (before now : LineWriter) (old new : D) (r : Result X Stop) → here ≡ dates → WritesLines d (entity_line here e) before now old new r → WritesLines d (entity_line dates e) before now old new r
  lines_by here dates e before now old new r same lines = subst (λ (b : Bool). WritesLines d (entity_line b e) before now old new r) same lines

  -- a stop after what was written is one of all
  pub stopped_since : (a b c : D) (s : Stop) → KeepsDrain d a b → Caused (Only None) ⊥ (WriteFailed d b c) unchanged s → Caused (Only None) ⊥ (WriteFailed d a c) unchanged s
  stopped_since a b c s keeps stops = fails_since None _ _ _ s keeps.counts stops
