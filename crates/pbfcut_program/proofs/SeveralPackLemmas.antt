-- What a run says of several areas whose drains pack, once these are finished, one after the other.
use Rattle.std.proofs.Common.{◌≡◌, ◌⊎◌, inl, inr, ℕ, ◌<◌, List, [], ◌∷◌, ◌++◌, map, Bool, true, false, Option, None, Result, Ok, Err, IfOk, refl, sym, ap, subst, ◌∙◌}
use Rattle.std.specs.Prelude.{IfSome}
use Rattle.std.specs.List.{AllByRecursion, AllZip}
use Rattle.osm_ways.specs.Selection.{Strategy}
use Rattle.pbf_block.specs.declared.counts.Counts.{Counts}
use Rattle.pbf_frame.specs.declared.device.Feed as feed
use Rattle.pbf_frame.specs.declared.device.Drain as drain
use Rattle.pbf_frame.specs.declared.stop.Stop.TheVariants as stop
use Rattle.pbf_frame.specs.Devices.{IsFront}
use Rattle.pbf_frame.proofs.Beginnings.{front_whole}
use Rattle.pbf_pass.specs.declared.hashing.PassCheck.{PassCheck}
use Rattle.pbf_unpack.specs.declared.drain.PackedDrain.{PackedDrain}
use Rattle.pbf_unpack.specs.Packing.{GaveAll, HasCompressed, failures_of_drain, taken_raw}
use Rattle.pbf_unpack.specs.Unpacked.{unpacked}
use Rattle.pbfcut.specs.declared.carrying.AreaOutput.{AreaOutput}
use Rattle.pbfcut.specs.Calls.{AllSupply}
use Rattle.pbfcut.specs.Several.{AnyZip, OutputFailed}
use Rattle.pbfcut.specs.Tasks.{Task, answer_of, extracting}
use Rattle.pbfcut.proofs.SeveralLemmas.{any_after, zip_more, zip_right, zip_then, zip_with}
use Rattle.pbfcut_cli.specs.declared.endings.Ending.TheVariants as ending
use Rattle.pbfcut_cli.specs.declared.programs.Program.{Program}
use Rattle.pbfcut_cli.specs.declared.programs.Program.TheVariants.{Pbfcut, Pbfcutz}
use Rattle.pbfcut_program.specs.declared.engine.Halted.{Halted}
use Rattle.pbfcut_program.specs.declared.several.InputDigests.{InputDigests}
use Rattle.pbfcut_program.specs.declared.several.OutputArea.{OutputArea}
use Rattle.pbfcut_program.specs.Devices.{AreFresh, DrainFailed, FinishesPacked, Fronts, IsAsked, IsFreshOut, Leads, MeansBy, PackingFailed, Wholes, Works}
use Rattle.pbfcut_program.specs.Fails.{EndsAsStop}
use Rattle.pbfcut_program.specs.Leaving.{IsFrontAs}
use Rattle.pbfcut_program.specs.Manner.{Manner, manner, packed_file}
use Rattle.pbfcut_program.specs.Several.{report_with, result_with}
use Rattle.pbfcut_program.specs.SeveralOuts.{AnyFailedInto, AreUnpacked, IsPackingOver, IsUnpacked, RunsRaw, RunsRawEach, RunsUnhashed, RunsUnhashedEach, cut_into}
use Rattle.pbfcut_program.proofs.EventLemmas.{has_risen}
use Rattle.pbfcut_program.proofs.LeavingLemmas.{fresh_front, packed_front}
use Rattle.pbfcut_program.proofs.Weaker.{Finished, front_lost, whole_lost, works_finished}

-- what is said of a drain that packs
abbrev pub packing : {D : Type 0} → (d : drain.Ghosts D) → drain.Ghosts (PackedDrain D d)
packing d = record { taken = λ p. taken_raw p; failures = λ p. failures_of_drain p; lender = λ p. d.lender p.below.drain; has_taken = λ p log raw. HasCompressed p log raw }

-- ---- lists that grow

pub packing_more : {D : Type 0} {d : drain.Ghosts D} (xs : List (AreaOutput OutputArea D)) (ys : List (AreaOutput OutputArea (PackedDrain D d))) (x : AreaOutput OutputArea D) (y : AreaOutput OutputArea (PackedDrain D d)) → AllZip IsPackingOver xs ys → IsPackingOver x y → AllZip IsPackingOver (xs ++ x ∷ []) (ys ++ y ∷ [])
packing_more xs ys x y all one = zip_more IsPackingOver xs ys x y all one

pub unpacked_more : {D : Type 0} {d : drain.Ghosts D} (xs : List (AreaOutput OutputArea (PackedDrain D d))) (ys : List (AreaOutput OutputArea D)) (x : AreaOutput OutputArea (PackedDrain D d)) (y : AreaOutput OutputArea D) (returned between result : Result InputDigests Halted)
    → AreUnpacked xs returned between ys → IsUnpacked x between result y → AreUnpacked (xs ++ x ∷ []) returned result (ys ++ y ∷ [])
unpacked_more [] [] x y returned between result same one = (result, subst (λ r. IsUnpacked x r result y) same one, refl)
unpacked_more (a ∷ xs) (b ∷ ys) x y returned between result all one = (all.0, all.1, unpacked_more xs ys x y all.0 between result all.2 one)
unpacked_more [] (b ∷ ys) x y returned between result all one = absurd all
unpacked_more (a ∷ xs) [] x y returned between result all one = absurd all

pub unpacked_length : {D : Type 0} {d : drain.Ghosts D} (xs : List (AreaOutput OutputArea (PackedDrain D d))) (ys : List (AreaOutput OutputArea D)) (returned result : Result InputDigests Halted) → AreUnpacked xs returned result ys → AllZip (λ x y. Unit {0}) xs ys
unpacked_length [] [] returned result all = tt
unpacked_length (x ∷ xs) (y ∷ ys) returned result all = (tt, unpacked_length xs ys all.0 result all.2)
unpacked_length [] (y ∷ ys) returned result all = absurd all
unpacked_length (x ∷ xs) [] returned result all = absurd all

-- ---- what a run comes to

-- why a write failed: of those of the drains that failed, or of those that were finished
abbrev Outcome : {A : Type 0} → (failed lost : Type 0) → (returned result : Result A Halted) → Type 0
Outcome failed lost (Ok report) (Ok same) = same ≡ report
Outcome failed lost (Ok report) (Err halted) = (halted.ending ≡ ending.Stopped stop.Memory) ⊎ ((halted.ending ≡ ending.Stopped stop.Write) × lost)
Outcome failed lost (Err halted) (Err same) = (same.ending ≡ ending.Stopped stop.Memory) ⊎ ((same.ending ≡ halted.ending) × (halted.ending ≡ ending.Stopped stop.Write → failed → lost))
Outcome failed lost (Err halted) (Ok report) = ⊥

either : (failed fails lost loses : Type 0) → (failed → lost) → (fails → loses) → (failed ⊎ fails) → (lost ⊎ loses)
either failed fails lost loses one more (inl here) = inl (one here)
either failed fails lost loses one more (inr there) = inr (more there)

-- by one drain and those after it
module _ {D : Type 0} {d : drain.Ghosts D} (mid new : PackedDrain D d) (here failed lost : Type 0) where
  err_step : (h next : Halted) (result : Result InputDigests Halted) → (((rest : List ℕ) → PackingFailed new rest) → here) → FinishesPacked {A = InputDigests} mid new (Err h) (Err next) → Outcome failed lost (Err next) result → Outcome ((0 < failures_of_drain mid) ⊎ failed) (here ⊎ lost) (Err h) result
  err_step h next (Ok report) lose fin out = absurd out
  err_step h next (Err same) lose fin (inl none) = inl none
  err_step h next (Err same) lose (kept, inl none) (inr (is, more)) = inl (is ∙ none)
  err_step h next (Err same) lose (kept, inr (shown, fails)) (inr (is, more)) = inr (is ∙ shown, λ wrote f. either _ _ _ _ (λ risen. lose (fails wrote risen)) (more (shown ∙ wrote)) f)

  ok_step : (report : InputDigests) (next result : Result InputDigests Halted) → (PackingFailed new [] → here) → FinishesPacked mid new (Ok report) next → Outcome failed lost next result → Outcome ((0 < failures_of_drain mid) ⊎ failed) (here ⊎ lost) (Ok report) result
  ok_step report (Ok same) (Ok all) lose fin out = out ∙ fin.0
  ok_step report (Ok same) (Err halted) lose fin (inl none) = inl none
  ok_step report (Ok same) (Err halted) lose fin (inr (wrote, more)) = inr (wrote, inr more)
  ok_step report (Err next) (Ok all) lose fin out = absurd out
  ok_step report (Err next) (Err halted) lose fin (inl none) = inl none
  ok_step report (Err next) (Err halted) lose (inl none) (inr (is, more)) = inl (is ∙ none)
  ok_step report (Err next) (Err halted) lose (inr (wrote, fails)) (inr (is, more)) = inr (is ∙ wrote, inl (lose fails))

-- by all of them: `P` is known of each, `Lost` is why its OUT failed
module _ {D : Type 0} {d : drain.Ghosts D} (P : AreaOutput OutputArea D → AreaOutput OutputArea (PackedDrain D d) → Type 0) (Lost : AreaOutput OutputArea D → AreaOutput OutputArea D → Type 0)
    (front : (x : AreaOutput OutputArea D) (y : AreaOutput OutputArea (PackedDrain D d)) (z : AreaOutput OutputArea D) (r n : Result InputDigests Halted) (u : IsUnpacked y r n z) → P x y → ((rest : List ℕ) → PackingFailed u.finished rest) → Lost x z) where
  abbrev Failing : AreaOutput OutputArea D → AreaOutput OutputArea (PackedDrain D d) → Type 0
  Failing x y = 0 < failures_of_drain y.drain

  err_all : (xs : List (AreaOutput OutputArea D)) (ys : List (AreaOutput OutputArea (PackedDrain D d))) (zs : List (AreaOutput OutputArea D)) (h : Halted) (result : Result InputDigests Halted) → AllZip P xs ys → AreUnpacked ys (Err h) result zs → Outcome (AnyZip Failing xs ys) (AnyZip Lost xs zs) (Err h) result
  err_all [] [] [] h result all same = subst (λ r. Outcome ⊥ ⊥ (Err h) r) (sym same) (inr (refl, λ wrote none. none))
  err_all (x ∷ xs) (y ∷ ys) (z ∷ zs) h result all (Err next, u, more) = err_step y.drain u.finished (Lost x z) (AnyZip Failing xs ys) (AnyZip Lost xs zs) h next result (front x y z (Err h) (Err next) u all.0) u.finishes (err_all xs ys zs next result all.1 more)
  err_all (x ∷ xs) (y ∷ ys) (z ∷ zs) h result all (Ok next, u, more) = absurd u.finishes
  err_all [] [] (z ∷ zs) h result all u = absurd u
  err_all [] (y ∷ ys) zs h result all u = absurd all
  err_all (x ∷ xs) [] zs h result all u = absurd all
  err_all (x ∷ xs) (y ∷ ys) [] h result all u = absurd u

  module _ (whole : (x : AreaOutput OutputArea D) (y : AreaOutput OutputArea (PackedDrain D d)) (z : AreaOutput OutputArea D) (r n : Result InputDigests Halted) (u : IsUnpacked y r n z) → P x y → PackingFailed u.finished [] → Lost x z) where
    ok_all : (xs : List (AreaOutput OutputArea D)) (ys : List (AreaOutput OutputArea (PackedDrain D d))) (zs : List (AreaOutput OutputArea D)) (report : InputDigests) (result : Result InputDigests Halted) → AllZip P xs ys → AreUnpacked ys (Ok report) result zs → Outcome (AnyZip Failing xs ys) (AnyZip Lost xs zs) (Ok report) result
    ok_all [] [] [] report result all same = subst (λ r. Outcome ⊥ ⊥ (Ok report) r) (sym same) refl
    ok_all (x ∷ xs) (y ∷ ys) (z ∷ zs) report result all (Ok next, u, more) = ok_step y.drain u.finished (Lost x z) (AnyZip Failing xs ys) (AnyZip Lost xs zs) report (Ok next) result (whole x y z (Ok report) (Ok next) u all.0) u.finishes (ok_all xs ys zs next result all.1 more)
    ok_all (x ∷ xs) (y ∷ ys) (z ∷ zs) report result all (Err next, u, more) = ok_step y.drain u.finished (Lost x z) (AnyZip Failing xs ys) (AnyZip Lost xs zs) report (Err next) result (whole x y z (Ok report) (Err next) u all.0) u.finishes (err_all xs ys zs next result all.1 more)
    ok_all [] [] (z ∷ zs) report result all u = absurd u
    ok_all [] (y ∷ ys) zs report result all u = absurd all
    ok_all (x ∷ xs) [] zs report result all u = absurd all
    ok_all (x ∷ xs) (y ∷ ys) [] report result all u = absurd u

-- ---- what is left of each

-- a drain that packs was finished so, and taken off
record Left {D : Type 0} {d : drain.Ghosts D} (K : PackedDrain D d → PackedDrain D d → Type 0) (mid : AreaOutput OutputArea (PackedDrain D d)) (new : AreaOutput OutputArea D) : Type 0 where
  finished : PackedDrain D d
  kept : K mid.drain finished
  taken : taken_raw finished ≡ taken_raw mid.drain
  drain : new.drain ≡ finished.below.drain
  cut : new.area.cut ≡ mid.area.cut
  output : new.area.output ≡ None
  meaning : new.area.meaning ≡ mid.area.output
  counts : new.counts ≡ mid.counts

module _ {D : Type 0} {d : drain.Ghosts D} where
  left_by : (K : PackedDrain D d → PackedDrain D d → Type 0) (mid : AreaOutput OutputArea (PackedDrain D d)) (new : AreaOutput OutputArea D) (r n : Result InputDigests Halted) (u : IsUnpacked mid r n new) → K mid.drain u.finished → Left K mid new
  left_by K mid new r n u kept = record { finished = u.finished; kept = kept; taken = u.taken; drain = u.drain; cut = u.cut; output = u.output; meaning = u.meaning; counts = u.counts }

  abbrev Same : PackedDrain D d → PackedDrain D d → Type 0
  Same mid new = new ≡ mid

  abbrev Whatever : PackedDrain D d → PackedDrain D d → Type 0
  Whatever mid new = Unit {0}

  no_ok : (ys : List (AreaOutput OutputArea (PackedDrain D d))) (zs : List (AreaOutput OutputArea D)) (h : Halted) (report : InputDigests) → AreUnpacked ys (Err h) (Ok report) zs → ⊥
  no_ok [] [] h report same = cc
  no_ok (y ∷ ys) (z ∷ zs) h report (Err next, u, more) = no_ok ys zs next report more
  no_ok (y ∷ ys) (z ∷ zs) h report (Ok next, u, more) = u.finishes
  no_ok [] (z ∷ zs) h report u = u
  no_ok (y ∷ ys) [] h report u = u

  left_err : (ys : List (AreaOutput OutputArea (PackedDrain D d))) (zs : List (AreaOutput OutputArea D)) (h : Halted) (result : Result InputDigests Halted) → AreUnpacked ys (Err h) result zs → AllZip (Left Same) ys zs
  left_err [] [] h result same = tt
  left_err (y ∷ ys) (z ∷ zs) h result (Err next, u, more) = (left_by Same y z (Err h) (Err next) u u.finishes.0, left_err ys zs next result more)
  left_err (y ∷ ys) (z ∷ zs) h result (Ok next, u, more) = absurd u.finishes
  left_err [] (z ∷ zs) h result u = absurd u
  left_err (y ∷ ys) [] h result u = absurd u

  left_ok : (ys : List (AreaOutput OutputArea (PackedDrain D d))) (zs : List (AreaOutput OutputArea D)) (report same : InputDigests) → AreUnpacked ys (Ok report) (Ok same) zs → AllZip (Left GaveAll) ys zs
  left_ok [] [] report same u = tt
  left_ok (y ∷ ys) (z ∷ zs) report same (Ok next, u, more) = (left_by GaveAll y z (Ok report) (Ok next) u u.finishes.1, left_ok ys zs next same more)
  left_ok (y ∷ ys) (z ∷ zs) report same (Err next, u, more) = absurd (no_ok ys zs next same more)
  left_ok [] (z ∷ zs) report same u = absurd u
  left_ok (y ∷ ys) [] report same u = absurd u

  left_any : (ys : List (AreaOutput OutputArea (PackedDrain D d))) (zs : List (AreaOutput OutputArea D)) (r result : Result InputDigests Halted) → AreUnpacked ys r result zs → AllZip (Left Whatever) ys zs
  left_any [] [] r result same = tt
  left_any (y ∷ ys) (z ∷ zs) r result (next, u, more) = (left_by Whatever y z r next u tt, left_any ys zs next result more)
  left_any [] (z ∷ zs) r result u = absurd u
  left_any (y ∷ ys) [] r result u = absurd u

-- ---- one area

-- a prefix of the answer was taken, or all of it
raw_front : (task : Task) (has : List (Option (List ℕ))) (before after : Option (List ℕ)) (r : Result InputDigests Halted) (counts : Counts) → Fronts packed_file task has before after (result_with r counts) → Wholes packed_file task has before after (result_with r counts)
    → (bytes : List ℕ) → AllSupply bytes has → IsFront before after (answer_of task (unpacked bytes))
raw_front task has before after (Ok digests) counts front whole bytes all = front_whole before after (answer_of task (unpacked bytes)) (whole bytes all)
raw_front task has before after (Err halted) counts front whole bytes all = front bytes all

leads : (task : Task) (has : List (Option (List ℕ))) (after : Option (List ℕ)) (r : Result InputDigests Halted) (counts : Counts) → ((bytes : List ℕ) → AllSupply bytes has → IfSome after (IsFrontAs (packed_file, answer_of task (unpacked bytes)))) → Leads packed_file packed_file task has after (result_with r counts)
leads task has after (Ok digests) counts front = tt
leads task has after (Err halted) counts front = front

asked_then : {D : Type 0} {d : drain.Ghosts D} (mid new : PackedDrain D d) (failed lost : Type 0) (returned result : Result InputDigests Halted) (counts : Counts) (X : Type 0) → Finished mid new failed lost (result_with returned counts) (result_with result counts) → IfOk (result_with returned counts) (λ _. X) → IfOk (result_with result counts) (λ _. X)
asked_then mid new failed lost (Ok digests) (Ok same) counts X fin asked = asked
asked_then mid new failed lost (Ok digests) (Err halted) counts X fin asked = tt
asked_then mid new failed lost (Err halted) (Err same) counts X fin asked = tt
asked_then mid new failed lost (Err halted) (Ok same) counts X fin asked = absurd fin

module _ {F D : Type 0} (digests : Bool) (by : PassCheck) (s : Strategy) (f : feed.Ghosts F) (d : drain.Ghosts D) (olds news : List F) where
  abbrev has : List (Option (List ℕ))
  has = map f.remaining olds

  abbrev cut_of : AreaOutput OutputArea D → Task
  cut_of old = extracting s (cut_into old.area)

  abbrev LostOut : AreaOutput OutputArea D → AreaOutput OutputArea D → Type 0
  LostOut old new = DrainFailed d packed_file (cut_of old) has new.drain

  -- a drain that packs, by what the run did with it
  record Between (failing : Type 0) (returned : Result InputDigests Halted) (old : AreaOutput OutputArea D) (mid : AreaOutput OutputArea (PackedDrain D d)) : Type 0 where
    over : AreaOutput OutputArea (PackedDrain D d)
    begun : IsPackingOver old over
    fresh : IsFreshOut d old.drain
    ran : RunsRaw (manner Pbfcutz true digests) by f (packing d) (cut_of old) olds news failing over mid (result_with returned mid.counts)

  module _ (failing : Type 0) (returned : Result InputDigests Halted) (old : AreaOutput OutputArea D) (mid : AreaOutput OutputArea (PackedDrain D d)) (b : Between failing returned old mid) where
    none_before : IfSome (taken_raw b.over.drain) (λ taken. taken ≡ [])
    none_before = subst (λ known. IfSome known (λ taken. taken ≡ [])) (sym b.begun.taken) b.fresh.1

    goes_before : (bytes : List ℕ) → AllSupply bytes has → IsFront (taken_raw b.over.drain) (taken_raw mid.drain) (answer_of (cut_of old) (unpacked bytes))
    goes_before = raw_front (cut_of old) has (taken_raw b.over.drain) (taken_raw mid.drain) returned mid.counts b.ran.front b.ran.whole

    -- what is said of the area
    module _ (K : PackedDrain D d → PackedDrain D d → Type 0) (new : AreaOutput OutputArea D) (left : Left K mid new) (result : Result InputDigests Halted) (lost : Type 0) (fin : Finished mid.drain left.finished failing lost (result_with returned mid.counts) (result_with result mid.counts)) where
      abbrev Ran : (out : D) (meaning : Option (List ℕ)) → Type 0
      Ran out meaning = Works (manner Pbfcutz true digests) by f (cut_of old) olds news (λ w. d.has_taken out 0 w × MeansBy packed_file meaning w) lost (result_with result mid.counts)

      area_works : AreFresh f olds → Ran new.drain new.area.meaning
      area_works fresh = subst (λ o. Ran new.drain o) (sym left.meaning) (subst (λ x. Ran x mid.area.output) (sym left.drain)
          (works_finished digests by f mid.drain left.finished mid.area.output (cut_of old) olds news failing lost true (result_with returned mid.counts) (result_with result mid.counts) refl fin (b.ran.works fresh (b.begun.logged 0 b.fresh.0))))

      area_front : Leads packed_file packed_file (cut_of old) has (d.taken new.drain) (result_with result mid.counts)
      area_front = leads (cut_of old) has (d.taken new.drain) result mid.counts (λ bytes all. subst (λ x. IfSome (d.taken x) (IsFrontAs (packed_file, answer_of (cut_of old) (unpacked bytes)))) (sym left.drain)
          (packed_front left.finished (taken_raw b.over.drain) (answer_of (cut_of old) (unpacked bytes)) none_before (subst (λ k. IsFront (taken_raw b.over.drain) k (answer_of (cut_of old) (unpacked bytes))) (sym left.taken) (goes_before bytes all))))

      area_unhashed : RunsUnhashed (manner Pbfcutz true digests) by f d (cut_of old) olds news lost old new (result_with result new.counts)
      area_unhashed = subst (λ n. RunsUnhashed (manner Pbfcutz true digests) by f d (cut_of old) olds news lost old new (result_with result n)) (sym left.counts) (record {
        works = area_works;
        front = area_front;
        unhashed = left.output;
        meaning = subst (λ o. IfOk (result_with result mid.counts) (λ _. IsAsked digests o)) (sym left.meaning) (asked_then mid.drain left.finished failing lost returned result mid.counts (IsAsked digests mid.area.output) fin b.ran.hashed);
        cut = left.cut ∙ b.ran.cut ∙ ap (λ (a : OutputArea). a.cut) b.begun.area;
      })

  -- why its OUT failed
  lost_front : (failing : Type 0) (returned : Result InputDigests Halted) (old : AreaOutput OutputArea D) (mid : AreaOutput OutputArea (PackedDrain D d)) (new : AreaOutput OutputArea D) (r n : Result InputDigests Halted) (u : IsUnpacked mid r n new) → Between failing returned old mid → ((rest : List ℕ) → PackingFailed u.finished rest) → LostOut old new
  lost_front failing returned old mid new r n u b fails = subst (λ x. DrainFailed d packed_file (cut_of old) has x) (sym u.drain)
      (front_lost mid.drain u.finished (cut_of old) has (taken_raw b.over.drain) (none_before failing returned old mid b) u.taken (goes_before failing returned old mid b) fails)

  lost_whole : (failing : Type 0) (report : InputDigests) (old : AreaOutput OutputArea D) (mid : AreaOutput OutputArea (PackedDrain D d)) (new : AreaOutput OutputArea D) (r n : Result InputDigests Halted) (u : IsUnpacked mid r n new) → Between failing (Ok report) old mid → PackingFailed u.finished [] → LostOut old new
  lost_whole failing report old mid new r n u b fails = subst (λ x. DrainFailed d packed_file (cut_of old) has x) (sym u.drain)
      (whole_lost mid.drain u.finished (cut_of old) has (taken_raw b.over.drain) (none_before failing (Ok report) old mid b) u.taken b.ran.whole fails)

  -- ---- all of them

  module _ (befores : List (AreaOutput OutputArea D)) (overs mids : List (AreaOutput OutputArea (PackedDrain D d))) (afters : List (AreaOutput OutputArea D)) (fresh : AllByRecursion (λ (o : AreaOutput OutputArea D). IsFreshOut d o.drain) befores) (put : AllZip IsPackingOver befores overs) where
    abbrev AnyRisen : Type 0
    AnyRisen = AnyZip (OutputFailed (packing d)) overs mids

    abbrev AnyFailing : Type 0
    AnyFailing = AnyZip (λ (old : AreaOutput OutputArea D) (mid : AreaOutput OutputArea (PackedDrain D d)). 0 < failures_of_drain mid.drain) befores mids

    abbrev AnyLost : Type 0
    AnyLost = AnyFailedInto (manner Pbfcutz true digests) s f d olds befores afters

    any_failing : AnyRisen → AnyFailing
    any_failing risen = any_after IsPackingOver (OutputFailed (packing d)) (λ old mid. 0 < failures_of_drain mid.drain) (λ old over mid p up. has_risen _ _ up) befores overs mids put risen

    abbrev Over : Result InputDigests Halted → AreaOutput OutputArea D → AreaOutput OutputArea (PackedDrain D d) → Type 0
    Over returned old mid = (over : AreaOutput OutputArea (PackedDrain D d)) × IsPackingOver old over × RunsRaw (manner Pbfcutz true digests) by f (packing d) (cut_of old) olds news AnyRisen over mid (result_with returned mid.counts)

    between : (returned : Result InputDigests Halted) → RunsRawEach (manner Pbfcutz true digests) by s f (packing d) olds news overs mids returned → AllZip (Between AnyRisen returned) befores mids
    between returned ran = zip_with (λ (o : AreaOutput OutputArea D). IsFreshOut d o.drain) (Over returned) (Between AnyRisen returned) (λ old mid none b. record { over = b.0; begun = b.1; fresh = none; ran = b.2 }) befores mids fresh
        (zip_then IsPackingOver (λ over mid. RunsRaw (manner Pbfcutz true digests) by f (packing d) (extracting s (cut_into over.area)) olds news AnyRisen over mid (result_with returned mid.counts)) (Over returned)
        (λ old over mid p one. (over, p, subst (λ area. RunsRaw (manner Pbfcutz true digests) by f (packing d) (extracting s (cut_into area)) olds news AnyRisen over mid (result_with returned mid.counts)) p.area one)) befores overs mids put ran)

    told : (halted same : Halted) → Outcome {A = InputDigests} AnyFailing AnyLost (Err halted) (Err same) → Outcome {A = InputDigests} AnyRisen AnyLost (Err halted) (Err same)
    told halted same (inl none) = inl none
    told halted same (inr (shown, lost)) = inr (shown, λ wrote risen. lost wrote (any_failing risen))

    packed_each : (returned result : Result InputDigests Halted) → RunsRawEach (manner Pbfcutz true digests) by s f (packing d) olds news overs mids returned → AreUnpacked mids returned result afters → RunsUnhashedEach (manner Pbfcutz true digests) by s f d olds news befores afters result
    packed_each (Ok report) (Ok same) ran off =
        let all = between (Ok report) ran in
        let out : same ≡ report = ok_all (Between AnyRisen (Ok report)) LostOut (lost_front AnyRisen (Ok report)) (lost_whole AnyRisen report) befores mids afters report (Ok same) all off in
        zip_then (Between AnyRisen (Ok report)) (Left GaveAll) _ (λ old mid new b left. area_unhashed AnyRisen (Ok report) old mid b GaveAll new left (Ok same) AnyLost (ap (λ r. report_with r mid.counts) out, left.kept)) befores mids afters all (left_ok mids afters report same off)
    packed_each (Ok report) (Err halted) ran off =
        let all = between (Ok report) ran in
        let out = ok_all (Between AnyRisen (Ok report)) LostOut (lost_front AnyRisen (Ok report)) (lost_whole AnyRisen report) befores mids afters report (Err halted) all off in
        zip_then (Between AnyRisen (Ok report)) (Left Whatever) _ (λ old mid new b left. area_unhashed AnyRisen (Ok report) old mid b Whatever new left (Err halted) AnyLost out) befores mids afters all (left_any mids afters (Ok report) (Err halted) off)
    packed_each (Err halted) (Err same) ran off =
        let all = between (Err halted) ran in
        let out = told halted same (err_all (Between AnyRisen (Err halted)) LostOut (lost_front AnyRisen (Err halted)) befores mids afters halted (Err same) all off) in
        zip_then (Between AnyRisen (Err halted)) (Left Same) _ (λ old mid new b left. area_unhashed AnyRisen (Err halted) old mid b Same new left (Err same) AnyLost (left.kept, out)) befores mids afters all (left_err mids afters halted (Err same) off)
    packed_each (Err halted) (Ok report) ran off = absurd (no_ok mids afters halted report off)

-- by a program that packs
pub packed_manner : {F D : Type 0} (program : Program) (packs digests : Bool) (by : PassCheck) (s : Strategy) (f : feed.Ghosts F) (d : drain.Ghosts D) (olds news : List F) (befores : List (AreaOutput OutputArea D)) (overs mids : List (AreaOutput OutputArea (PackedDrain D d))) (afters : List (AreaOutput OutputArea D)) (returned result : Result InputDigests Halted) → program ≡ Pbfcutz → packs ≡ true
    → AllByRecursion (λ (o : AreaOutput OutputArea D). IsFreshOut d o.drain) befores → AllZip IsPackingOver befores overs → RunsRawEach (manner program packs digests) by s f (packing d) olds news overs mids returned → AreUnpacked mids returned result afters → RunsUnhashedEach (manner program packs digests) by s f d olds news befores afters result
packed_manner Pbfcutz true digests by s f d olds news befores overs mids afters returned result is packs fresh put ran off = packed_each digests by s f d olds news befores overs mids afters fresh put returned result ran off
packed_manner Pbfcutz false digests by s f d olds news befores overs mids afters returned result is packs fresh put ran off = (let bad : ⊥ = cc in absurd bad)
packed_manner Pbfcut packs digests by s f d olds news befores overs mids afters returned result is all fresh put ran off = (let bad : ⊥ = cc in absurd bad)

-- no drain is hashed before a run
pub unhashed_packing : {D : Type 0} {d : drain.Ghosts D} (befores : List (AreaOutput OutputArea D)) (overs : List (AreaOutput OutputArea (PackedDrain D d))) → AllZip IsPackingOver befores overs → AllByRecursion (λ (o : AreaOutput OutputArea D). o.area.output ≡ None) befores → AllByRecursion (λ (o : AreaOutput OutputArea (PackedDrain D d)). o.area.output ≡ None) overs
unhashed_packing {D} {d} befores overs put none = zip_right IsPackingOver (λ (o : AreaOutput OutputArea D). o.area.output ≡ None) (λ (o : AreaOutput OutputArea (PackedDrain D d)). o.area.output ≡ None) (λ old over p n. ap (λ (a : OutputArea). a.output) p.area ∙ n) befores overs put none

-- nothing was done, since memory was refused
module _ {F D : Type 0} (m : Manner) (by : PassCheck) (s : Strategy) (f : feed.Ghosts F) (d : drain.Ghosts D) (olds : List F) (halted : Halted) (memory : halted.ending ≡ ending.Stopped stop.Memory) where
  none_one : (failed : Type 0) (out : AreaOutput OutputArea D) → IsFreshOut d out.drain → out.area.output ≡ None → RunsUnhashed m by f d (extracting s (cut_into out.area)) olds olds failed out out (Err halted)
  none_one failed out fresh none = record {
    works = λ read. (stop.Memory, subst (λ how. EndsAsStop m.program stop.Memory how) (sym memory) refl, tt);
    front = λ bytes all. fresh_front (d.taken out.drain) _ fresh.1;
    unhashed = none;
    meaning = tt;
    cut = refl;
  }

  none_all : (failed : Type 0) (outs : List (AreaOutput OutputArea D)) → AllByRecursion (λ (o : AreaOutput OutputArea D). IsFreshOut d o.drain) outs → AllByRecursion (λ (o : AreaOutput OutputArea D). o.area.output ≡ None) outs
      → AllZip (λ old new. RunsUnhashed m by f d (extracting s (cut_into old.area)) olds olds failed old new (result_with (Err halted) new.counts)) outs outs
  none_all failed [] fresh none = tt
  none_all failed (out ∷ outs) fresh none = (none_one failed out fresh.0 none.0, none_all failed outs fresh.1 none.1)

  pub none_unhashed : (outs : List (AreaOutput OutputArea D)) → AllByRecursion (λ (o : AreaOutput OutputArea D). IsFreshOut d o.drain) outs → AllByRecursion (λ (o : AreaOutput OutputArea D). o.area.output ≡ None) outs → RunsUnhashedEach m by s f d olds olds outs outs (Err halted)
  none_unhashed outs fresh none = none_all (AnyFailedInto m s f d olds outs outs) outs fresh none
