-- What a listing did, as events.
use Rattle.std.proofs.Common.{◌≡◌, inl, inr, ℕ, List, [], ◌∷◌, Bool, true, false, Option, Result, Ok, Err, IfErr, OnOk, refl, subst, sym, None, Some}
use Rattle.std.specs.Option.{is_some}
use Rattle.pbf_frame.specs.declared.device.Feed as feed
use Rattle.pbf_frame.specs.declared.device.Drain as drain
use Rattle.pbf_frame.specs.Transfers.{Added}
use Rattle.pbf_frame.specs.Verdict.{Says, Verdict, judged_known}
use Rattle.pbf_frame.proofs.Beginnings.{front_whole}
use Rattle.pbf_pass.specs.Given.{Took}
use Rattle.pbf_pass.specs.Stops.{WriteFailed}
use Rattle.pbf_published.specs.Showing.{TellsInfo}
use Rattle.pbfcut.specs.Blobs.{lines}
use Rattle.pbfcut.specs.Summary.{judged_headings}
use Rattle.pbfcut_cli.specs.declared.endings.Ending.{Ending}
use Rattle.pbfcut_cli.specs.declared.programs.Program.{Program}
use Rattle.pbfcut_cli.specs.declared.programs.Program.TheVariants.{Pbfcutz}
use Rattle.pbfcut_program.specs.declared.engine.Halted.{Halted}
use Rattle.pbfcut_program.specs.declared.host.FinishFault.{FinishFault}
use Rattle.pbfcut_program.specs.Devices.{Closes, EndsFor, Finishes, Fronts, IsFreshFeed, IsFreshOut}
use Rattle.pbfcut_program.specs.Events.{Event, Reading, Writing, opened, screened, read, wrote, then_all}
use Rattle.pbfcut_program.specs.Fails.{Each, Fails, FailsFor, Judging, judging, listing}
use Rattle.pbfcut_program.specs.Outcomes.{ListsBy, ending_of_text}
use Rattle.pbfcut_program.specs.Manner.{Manner, input_form, manner, meant, of_input, raw_file, to_raw}
use Rattle.pbfcut_program.specs.Program.{IsListing}
use Rattle.pbfcut_program.specs.Leaving.{IsFrontAs, LeavesFor}
use Rattle.pbfcut.specs.Tasks.{answer_of, listing_frames}
use Rattle.pbfcut_program.specs.Telling.{Silent}
use Rattle.pbfcut_program.proofs.Closing.{ends_with_out, reading, returned_all, stop_told}
use Rattle.pbfcut_program.proofs.EventLemmas.{has_risen}
use Rattle.pbfcut_program.proofs.FailLemmas.{caused_weaker, opened_fails, stop_fails, text_stops}
use Rattle.pbfcut_program.proofs.FrontLemmas.{meant_is}
use Rattle.pbfcut_program.proofs.LeavingLemmas.{IsReturn, IsReturned, TakenFront, returned_silent, taken_front, taken_is}
use Rattle.pbfcut_program.proofs.Logging.{and_then}
use Rattle.pbfcut_program.proofs.Weaker.{ends_weaker}

module _ {F D : Type 0} (f : feed.Ghosts F) (d : drain.Ghosts D) (now : F) (out : D) (name : Option (List ℕ)) (kept : Bool) (fault : Option FinishFault) (l m n : Option (List Event)) (c : Closes f now l m) (fin : Finishes d out name kept fault m n) where
  abbrev lost : Writing
  lost = record { name = name; bytes = fin.0.0; reports = is_some (d.taken out); failures = d.failures out; kept = kept; fault = fault }

  -- whatever went through the devices
  pub some_listing : n ≡ then_all l (read (reading f now c.0.0) ∷ wrote lost ∷ [])
  some_listing = and_then l m n (read (reading f now c.0.0) ∷ []) (wrote lost ∷ []) c.0.1 fin.0.2

  pub list_done : (program : Program) (old : F) (before : D) (outcome : Result ℕ Halted) → IsFreshOut d before → ListsBy program f d old now before out outcome
      → OnOk outcome ((r : Reading) × (w : Writing) × (n ≡ then_all l (read r ∷ wrote w ∷ [])) × (w.fault ≡ fault) × IsListing program (f.remaining old) w.bytes)
  list_done program old before (Ok count) fresh lists =
      let end = fin.1 _ (lists.added.logged 0 [] fresh.0) in
      (reading f now c.0.0, record { name = name; bytes = _; reports = is_some (d.taken out); failures = d.failures out; kept = kept; fault = fault }, and_then l m n (read (reading f now c.0.0) ∷ []) (wrote (record { name = name; bytes = _; reports = is_some (d.taken out); failures = d.failures out; kept = kept; fault = fault }) ∷ []) c.0.1 end, refl, (lists.frames, lists.says, refl))
  list_done program old before (Err halted) fresh lists = tt

  pub info_done : {T : Type 0} (json : Bool) (has : Option (List ℕ)) (before : D) (outcome : Result T Halted) → IsFreshOut d before → OnOk outcome (Took d before out (TellsInfo json has))
      → OnOk outcome ((r : Reading) × (w : Writing) × (n ≡ then_all l (read r ∷ wrote w ∷ [])) × (w.fault ≡ fault) × TellsInfo json has w.bytes)
  info_done json has before (Ok t) fresh shows =
      let end = fin.1 _ (shows.added.logged 0 [] fresh.0) in (
        reading f now c.0.0,
        record { name = name; bytes = _; reports = is_some (d.taken out); failures = d.failures out; kept = kept; fault = fault },
        and_then l m n (read (reading f now c.0.0) ∷ []) (wrote (record { name = name; bytes = _; reports = is_some (d.taken out); failures = d.failures out; kept = kept; fault = fault }) ∷ []) c.0.1 end,
        refl,
        shows.holding,
      )
  info_done json has before (Err halted) fresh shows = tt

  -- with what came before
  abbrev all : (input : List ℕ) → Option (List ℕ) → List Event
  all input has = opened input 1 has ∷ screened true ∷ read (reading f now c.0.0) ∷ wrote lost ∷ []

  pub all_listing : (k : Option (List Event)) (input : List ℕ) (has : Option (List ℕ)) → l ≡ then_all k (opened input 1 has ∷ screened true ∷ []) → n ≡ then_all k (all input has)
  all_listing k input has e = and_then k l n (opened input 1 has ∷ screened true ∷ []) (read (reading f now c.0.0) ∷ wrote lost ∷ []) e some_listing

  -- a prefix of the lines, if that is what the drain took
  abbrev LeavesLines : (input : List ℕ) → Manner → Option (List ℕ) → List Event → Type 0
  LeavesLines input m has events = ((bytes : List ℕ) → has ≡ Some bytes → TakenFront (d.taken out) (raw_file, answer_of listing_frames (of_input m bytes))) → LeavesFor input (to_raw m) listing_frames events

  lines_left : (m : Manner) (input : List ℕ) (has : Option (List ℕ)) → LeavesLines input m has (all input has)
  lines_left m input has front = record { has = has ∷ []; opens = (inl (refl, refl, refl), tt); leaves = inl (tt, λ bytes same. (tt, (tt, (tt, (taken_is (IsFrontAs (raw_file, answer_of listing_frames (of_input m bytes))) fin.0.0 (d.taken out) fin.0.1 (front bytes same.0), tt))))) }

  pub list_front : (program : Program) (old : F) (before : D) (outcome : Result ℕ Halted) → IsFreshOut d before → ListsBy program f d old now before out outcome → Fronts (input_form program) listing_frames (f.remaining old ∷ []) (d.taken before) (d.taken out) outcome
      → (bytes : List ℕ) → f.remaining old ≡ Some bytes → TakenFront (d.taken out) (raw_file, answer_of listing_frames (meant (input_form program) bytes))
  list_front program old before (Err halted) fresh lists front bytes is = taken_front (d.taken before) (d.taken out) _ fresh.1 (front bytes (is, tt))
  list_front program old before (Ok count) fresh listed front bytes is =
      let same = subst (λ (k : Option (List ℕ)). Says (judged_known false 0 k) (listed.frames, None)) (meant_is (input_form program) (f.remaining old) bytes is) listed.says in
      subst (λ (v : Verdict). TakenFront (d.taken out) (raw_file, lines v.0)) (sym same) (taken_front (d.taken before) (d.taken out) (lines listed.frames) fresh.1 (front_whole _ _ (lines listed.frames) listed.added.told))

  -- by what it has
  pub listing_fails : (m : Manner) (j : Judging) (how : Ending) (k : Option (List Event)) (input : List ℕ) (has : Option (List ℕ)) → l ≡ then_all k (opened input 1 has ∷ screened true ∷ []) → Fails m j (has ∷ []) how (all input has)
      → (events : List Event) × (n ≡ then_all k events) × FailsFor input m j how events × LeavesLines input m has events × Each Silent events
  listing_fails m j how k input has e why = (all input has, all_listing k input has e, record { has = has ∷ []; opens = (inl (refl, refl, refl), tt); why = why }, lines_left m input has, (tt, (tt, (tt, (tt, tt)))))

  pub listing_lost : (m : Manner) (j : Judging) (k : Option (List Event)) (input : List ℕ) (has : Option (List ℕ)) → l ≡ then_all k (opened input 1 has ∷ screened true ∷ []) → (why : FinishFault) → fault ≡ Some why
      → (events : List Event) × (n ≡ then_all k events) × FailsFor input m j (ending_of_text why) events × LeavesLines input m has events × Each Silent events
  listing_lost m j k input has e why gone = listing_fails m j (ending_of_text why) k input has e (text_stops m j (has ∷ []) why (all input has) (inr (inr (inr (inl gone)))))

  pub list_fails : (m : Manner) (old : F) (before : D) (outcome : Result ℕ Halted) (k : Option (List Event)) (input : List ℕ) → l ≡ then_all k (opened input 1 (f.remaining old) ∷ screened true ∷ []) → ListsBy m.program f d old now before out outcome
      → IfErr outcome (λ halted. (events : List Event) × (n ≡ then_all k events) × FailsFor input m listing halted.ending events × LeavesLines input m (f.remaining old) events × Each Silent events)
  list_fails m old before (Err halted) k input e ends =
      listing_fails m listing halted.ending k input (f.remaining old) e (stop_fails m listing (f.remaining old ∷ []) halted.ending (all input (f.remaining old)) ends.0 ends.1
      (caused_weaker _ _ _ _ _ _ _ _ ends.0 (λ x fault. fault) (λ risen. inr (inr (inl (has_risen _ _ risen)))) (λ risen. inr (inr (inr (inl (inl (has_risen _ _ risen)))))) (λ p c. c) ends.2))
  list_fails m old before (Ok count) k input e ends = tt

  pub info_fails : {T : Type 0} (digests : Bool) (old : F) (before : D) (outcome : Result T Halted) (k : Option (List Event)) (input : List ℕ) → IsFreshFeed f old → IsFreshOut d before → l ≡ then_all k (opened input 1 (f.remaining old) ∷ screened true ∷ [])
      → IfErr outcome (λ halted. EndsFor Pbfcutz f judged_headings (old ∷ []) (now ∷ []) (Added d before [] out) (WriteFailed d before out) halted.ending)
      → IfErr outcome (λ halted. (events : List Event) × (n ≡ then_all k events) × FailsFor input (manner Pbfcutz false digests) (judging judged_headings (λ file. ⊥)) halted.ending events × Each Silent events)
  info_fails digests old before (Err halted) k input fresh start e ends =
      let took = d.has_taken out 0 in
      let failed = WriteFailed d before out in
      let first : List Event = opened input 1 (f.remaining old) ∷ screened true ∷ [] in
      let works = ends_weaker f (Added d before [] out) (took []) (λ none. none.logged 0 [] start.0) Pbfcutz judged_headings failed failed halted.ending (old ∷ []) (now ∷ []) (λ w. w) ends in
      let tail = ends_with_out d out name kept fault took failed ⊥ m n (λ w t. t) (λ risen. has_risen _ _ risen) (λ none. absurd none) fin in
      let end = stop_told f false digests judged_headings (λ file. ⊥) took failed ⊥ (Each (IsReturn (IsReturned (d.taken out) kept))) l m n tail Pbfcutz works.0 (old ∷ []) (now ∷ []) (fresh, tt) (m, c, refl) works.2 in
      let why = stop_fails (manner Pbfcutz false digests) (judging judged_headings (λ file. ⊥)) (f.remaining old ∷ []) halted.ending end.0 works.0 works.1 end.2 in
      let gone = end.3 in
      (_, and_then k l n first end.0 e end.1, opened_fails (manner Pbfcutz false digests) (judging judged_headings (λ file. ⊥)) (f.remaining old ∷ []) halted.ending first end.0 (tt, (tt, tt)) (inl (refl, refl, refl), tt) why, (tt, (tt, returned_silent _ end.0 (returned_all _ gone.0 gone.1 end.0 gone.2 gone.3))))
  info_fails digests old before (Ok t) k input fresh start e ends = tt
