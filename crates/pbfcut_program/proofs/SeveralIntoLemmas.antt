-- What a run says of several areas once it is settled whether their OUTs get raw blobs or zlib blobs, and whether what they take is hashed.
use Rattle.std.proofs.Common.{◌≡◌, ℕ, List, [], map, Bool, true, false, Option, None, Result, Err, IfOk, sym, ap, subst, ◌∙◌}
use Rattle.std.specs.Prelude.{IfSome}
use Rattle.std.specs.List.{AllByRecursion, AllZip}
use Rattle.osm_ways.specs.Selection.{Strategy}
use Rattle.pbf_frame.specs.declared.device.Feed as feed
use Rattle.pbf_frame.specs.declared.device.Drain as drain
use Rattle.pbf_frame.specs.declared.stop.Stop.TheVariants as stop
use Rattle.pbf_pass.specs.declared.hashed.HashedDrain.{HashedDrain}
use Rattle.pbf_pass.specs.declared.hashing.PassCheck.{PassCheck}
use Rattle.pbfcut.specs.declared.carrying.AreaOutput.{AreaOutput}
use Rattle.pbfcut.specs.Several.{AnyZip, KeepsOutput, OutputFailed}
use Rattle.pbfcut.specs.Tasks.{Task, extracting}
use Rattle.pbfcut.proofs.SeveralLemmas.{any_after, any_then, any_weaker, zip_both, zip_right, zip_then, zip_weaker, zip_with}
use Rattle.sha2.specs.Sha256.{sha256}
use Rattle.pbfcut_cli.specs.declared.endings.Ending.TheVariants as ending
use Rattle.pbfcut_cli.specs.declared.programs.Program.{Program}
use Rattle.pbfcut_program.specs.declared.engine.Halted.{Halted}
use Rattle.pbfcut_program.specs.declared.linked.LinkedDrain.{LinkedDrain}
use Rattle.pbfcut_program.specs.declared.several.InputDigests.{InputDigests}
use Rattle.pbfcut_program.specs.declared.several.OutputArea.{OutputArea}
use Rattle.pbfcut_program.specs.Devices.{DrainFailed, IsAsked, IsFreshOut, Leads, MeansBy, TakenBy}
use Rattle.pbfcut_program.specs.Manner.{Form, hashes_meaning, input_form, manner, output_form, raw_file}
use Rattle.pbfcut_program.specs.Several.{RunsArea, RunsEach, result_with}
use Rattle.pbfcut_program.specs.SeveralOuts.{AnyFailedInto, IsHashing, IsUnhashed, RunsEachInto, RunsInto, RunsUnhashed, RunsUnhashedEach, cut_into}
use Rattle.pbfcut_program.proofs.LeavingLemmas.{raw_leads}
use Rattle.pbfcut_program.proofs.SeveralOutLemmas.{asked, hashing, not_asked}
use Rattle.pbfcut_program.proofs.SeveralPackLemmas.{none_unhashed}
use Rattle.pbfcut_program.proofs.Weaker.{raw_failed, works_raw, works_weaker}

module _ {F D : Type 0} (program : Program) (packs digests : Bool) (by : PassCheck) (s : Strategy) (f : feed.Ghosts F) (d : drain.Ghosts D) (olds news : List F) where
  abbrev form : Form
  form = output_form packs program

  abbrev has : List (Option (List ℕ))
  has = map f.remaining olds

  abbrev task_in : OutputArea → Task
  task_in area = extracting s (cut_into area)

  abbrev Unhashed : (failed : Type 0) → Result InputDigests Halted → (old new : AreaOutput OutputArea D) → Type 0
  Unhashed failed r old new = RunsUnhashed (manner program packs digests) by f d (task_in old.area) olds news failed old new (result_with r new.counts)

  abbrev Into : (failed : Type 0) → Result InputDigests Halted → (old new : AreaOutput OutputArea D) → Type 0
  Into failed r old new = RunsInto (manner program packs digests) by f d (task_in old.area) olds news failed old new (result_with r new.counts)

  -- ---- raw blobs

  raw_one : form ≡ raw_file → (failed lost : Type 0) → (failed → lost) → (r : Result InputDigests Halted) (old new : AreaOutput OutputArea D) → IsFreshOut d old.drain → old.area.output ≡ None → old.area.meaning ≡ None → new.area ≡ old.area
      → RunsArea (manner program packs digests) by f d (task_in old.area) olds news failed old.drain new.drain (result_with r new.counts) → Unhashed lost r old new
  raw_one is failed lost up r old new fresh unhashed unmeant kept ran =
      let known : new.area.meaning ≡ None = ap (λ (a : OutputArea). a.meaning) kept ∙ unmeant in record {
        works = λ read. works_weaker program packs digests by f (task_in old.area) olds news _ _ failed lost (result_with r new.counts) (λ w t. (t, subst (λ o. MeansBy form o w) (sym known) tt)) up
            (works_raw program packs digests by f (task_in old.area) olds news _ failed (result_with r new.counts) is (ran.works read 0 fresh.0));
        front = subst (λ o. Leads o (input_form program) (task_in old.area) has (d.taken new.drain) (result_with r new.counts)) (sym is)
            (raw_leads (task_in old.area) has (input_form program) (d.taken old.drain) (d.taken new.drain) (result_with r new.counts) fresh.1 ran.front);
        unhashed = ap (λ (a : OutputArea). a.output) kept ∙ unhashed;
        meaning = not_asked (result_with r new.counts) (hashes_meaning form digests) new.area.meaning (ap (λ o. hashes_meaning o digests) is) known;
        cut = ap (λ (a : OutputArea). a.cut) kept;
      }

  pub raw_each : (befores afters : List (AreaOutput OutputArea D)) (r : Result InputDigests Halted) → form ≡ raw_file → AllByRecursion (λ (o : AreaOutput OutputArea D). IsFreshOut d o.drain) befores → AllByRecursion (λ (o : AreaOutput OutputArea D). o.area.output ≡ None) befores → AllByRecursion (λ (o : AreaOutput OutputArea D). o.area.meaning ≡ None) befores
      → RunsEach (manner program packs digests) by s cut_into f d olds news befores afters r → RunsUnhashedEach (manner program packs digests) by s f d olds news befores afters r
  raw_each befores afters r is fresh unhashed unmeant ran =
      let up = any_weaker (OutputFailed d) (λ old new. DrainFailed d form (task_in old.area) has new.drain) (λ old new risen. raw_failed d form (task_in old.area) has old.drain new.drain is risen) befores afters in
      zip_with (λ (o : AreaOutput OutputArea D). IsFreshOut d o.drain) (λ old new. IsFreshOut d old.drain → Unhashed (AnyFailedInto (manner program packs digests) s f d olds befores afters) r old new) _ (λ old new start one. one start) befores afters fresh
      (zip_with (λ (o : AreaOutput OutputArea D). o.area.output ≡ None) (λ old new. old.area.output ≡ None → IsFreshOut d old.drain → Unhashed (AnyFailedInto (manner program packs digests) s f d olds befores afters) r old new) _ (λ old new none one. one none) befores afters unhashed
      (zip_with (λ (o : AreaOutput OutputArea D). o.area.meaning ≡ None) (λ old new. RunsArea (manner program packs digests) by f d (task_in old.area) olds news (AnyZip (OutputFailed d) befores afters) old.drain new.drain (result_with r new.counts) × KeepsOutput d old new) _
      (λ old new unmeant both none start. raw_one is (AnyZip (OutputFailed d) befores afters) (AnyFailedInto (manner program packs digests) s f d olds befores afters) up r old new start none unmeant both.1.area both.0) befores afters unmeant
      (zip_both _ (KeepsOutput d) _ (λ old new one kept. (one, kept)) befores afters ran.each ran.outs)))

  -- ---- as they are

  into_one : digests ≡ false → (failed : Type 0) (r : Result InputDigests Halted) (old new : AreaOutput OutputArea D) → Unhashed failed r old new → Into failed r old new
  into_one printed failed r old new ran = record {
    works = λ read. works_weaker program packs digests by f (task_in old.area) olds news _ _ failed failed (result_with r new.counts) (λ w t. ((t.0, subst (λ o. IfSome o (λ known. known ≡ sha256 w)) (sym ran.unhashed) tt), t.1)) (λ lost. lost) (ran.works read);
    front = ran.front;
    hashed = not_asked (result_with r new.counts) digests new.area.output printed ran.unhashed;
    meaning = ran.meaning;
    cut = ran.cut;
  }

  pub into_each : (befores afters : List (AreaOutput OutputArea D)) (r : Result InputDigests Halted) → digests ≡ false → RunsUnhashedEach (manner program packs digests) by s f d olds news befores afters r → RunsEachInto (manner program packs digests) by s f d olds news befores afters r
  into_each befores afters r printed ran = zip_weaker _ _ (λ old new one. into_one printed (AnyFailedInto (manner program packs digests) s f d olds befores afters) r old new one) befores afters ran

  -- ---- hashed

  module _ (old : AreaOutput OutputArea D) (over under : AreaOutput OutputArea (LinkedDrain (HashedDrain D))) (new : AreaOutput OutputArea D) (put : IsHashing old over) (off : IsUnhashed under new) (lost failed : Type 0) (up : lost → failed) (printed : digests ≡ true) (r : Result InputDigests Halted)
      (ran : RunsUnhashed (manner program packs digests) by f (hashing d) (task_in old.area) olds news lost over under (result_with r under.counts)) where
    hashed_into_one : Into failed r old new
    hashed_into_one = subst (λ n. RunsInto (manner program packs digests) by f d (task_in old.area) olds news failed old new (result_with r n)) (sym off.counts) (record {
      works = λ read. works_weaker program packs digests by f (task_in old.area) olds news _ _ lost failed (result_with r under.counts)
          (λ w t. ((subst (λ x. d.has_taken x 0 w) (sym off.drain) t.0.1, subst (λ o. IfSome o (λ known. known ≡ sha256 w)) (sym off.known) (off.is w t.0.0)), subst (λ o. MeansBy form o w) (sym off.meaning) t.1)) up (ran.works read);
      front = subst (λ x. Leads form (input_form program) (task_in old.area) has (d.taken x) (result_with r under.counts)) (sym off.drain) ran.front;
      hashed = asked (result_with r under.counts) digests new.area.output off.digest printed off.known;
      meaning = subst (λ o. IfOk (result_with r under.counts) (λ _. IsAsked (hashes_meaning form digests) o)) (sym off.meaning) ran.meaning;
      cut = off.cut ∙ ran.cut ∙ ap (λ (a : OutputArea). a.cut) put.area;
    })

  module _ (befores : List (AreaOutput OutputArea D)) (overs unders : List (AreaOutput OutputArea (LinkedDrain (HashedDrain D)))) (afters : List (AreaOutput OutputArea D)) (put : AllZip IsHashing befores overs) (off : AllZip IsUnhashed unders afters) where
    abbrev AnyLost : Type 0
    AnyLost = AnyFailedInto (manner program packs digests) s f (hashing d) olds overs unders

    abbrev AnyFails : Type 0
    AnyFails = AnyFailedInto (manner program packs digests) s f d olds befores afters

    abbrev Fails : AreaOutput OutputArea (LinkedDrain (HashedDrain D)) → AreaOutput OutputArea D → Type 0
    Fails over new = DrainFailed d form (task_in over.area) has new.drain

    any_fails : AnyLost → AnyFails
    any_fails lost =
        any_after IsHashing Fails (λ old new. DrainFailed d form (task_in old.area) has new.drain) (λ old over new p one. subst (λ area. DrainFailed d form (task_in area) has new.drain) p.area one) befores overs afters put
        (any_then (λ over under. DrainFailed (hashing d) form (task_in over.area) has under.drain) IsUnhashed Fails (λ over under new one o. subst (λ x. DrainFailed d form (task_in over.area) has x) (sym o.drain) one) overs unders afters lost off)

    -- a drain that hashes, by what the run did with it
    record Between (r : Result InputDigests Halted) (old : AreaOutput OutputArea D) (under : AreaOutput OutputArea (LinkedDrain (HashedDrain D))) : Type 0 where
      over : AreaOutput OutputArea (LinkedDrain (HashedDrain D))
      begun : IsHashing old over
      ran : RunsUnhashed (manner program packs digests) by f (hashing d) (task_in old.area) olds news AnyLost over under (result_with r under.counts)

    pub hashed_into_each : (r : Result InputDigests Halted) → digests ≡ true → RunsUnhashedEach (manner program packs digests) by s f (hashing d) olds news overs unders r → RunsEachInto (manner program packs digests) by s f d olds news befores afters r
    hashed_into_each r printed ran =
        zip_then (Between r) IsUnhashed _ (λ old under new b o. hashed_into_one old b.over under new b.begun o AnyLost AnyFails any_fails printed r b.ran) befores unders afters
        (zip_then IsHashing _ (Between r) (λ old over under p one. record { over = over; begun = p; ran = subst (λ area. RunsUnhashed (manner program packs digests) by f (hashing d) (task_in area) olds news AnyLost over under (result_with r under.counts)) p.area one }) befores overs unders put ran) off

-- ---- before a run

module _ {D : Type 0} (d : drain.Ghosts D) (befores : List (AreaOutput OutputArea D)) (overs : List (AreaOutput OutputArea (LinkedDrain (HashedDrain D)))) (put : AllZip IsHashing befores overs) where
  pub fresh_hashing : AllByRecursion (λ (o : AreaOutput OutputArea D). IsFreshOut d o.drain) befores → AllByRecursion (λ (o : AreaOutput OutputArea (LinkedDrain (HashedDrain D))). IsFreshOut (hashing d) o.drain) overs
  fresh_hashing fresh = zip_right IsHashing (λ (o : AreaOutput OutputArea D). IsFreshOut d o.drain) (λ (o : AreaOutput OutputArea (LinkedDrain (HashedDrain D))). IsFreshOut (hashing d) o.drain) (λ old over p start.
      let under = sym p.drain in
      ((p.none, subst (λ x. d.has_taken x 0 []) under start.0), subst (λ x. IfSome (d.taken x) (λ taken. taken ≡ [])) under start.1, subst (λ x. d.failures x ≡ 0) under start.2)) befores overs put fresh

  pub unhashed_hashing : AllByRecursion (λ (o : AreaOutput OutputArea D). o.area.output ≡ None) befores → AllByRecursion (λ (o : AreaOutput OutputArea (LinkedDrain (HashedDrain D))). o.area.output ≡ None) overs
  unhashed_hashing none = zip_right IsHashing (λ (o : AreaOutput OutputArea D). o.area.output ≡ None) (λ (o : AreaOutput OutputArea (LinkedDrain (HashedDrain D))). o.area.output ≡ None) (λ old over p n. ap (λ (a : OutputArea). a.output) p.area ∙ n) befores overs put none

  pub unmeant_hashing : AllByRecursion (λ (o : AreaOutput OutputArea D). o.area.meaning ≡ None) befores → AllByRecursion (λ (o : AreaOutput OutputArea (LinkedDrain (HashedDrain D))). o.area.meaning ≡ None) overs
  unmeant_hashing none = zip_right IsHashing (λ (o : AreaOutput OutputArea D). o.area.meaning ≡ None) (λ (o : AreaOutput OutputArea (LinkedDrain (HashedDrain D))). o.area.meaning ≡ None) (λ old over p n. ap (λ (a : OutputArea). a.meaning) p.area ∙ n) befores overs put none

-- nothing was done, since memory was refused
module _ {F D : Type 0} (program : Program) (packs digests : Bool) (by : PassCheck) (s : Strategy) (f : feed.Ghosts F) (d : drain.Ghosts D) (olds : List F) (halted : Halted) where
  into_failed : (failed : Type 0) (old new : AreaOutput OutputArea D) → RunsUnhashed (manner program packs digests) by f d (extracting s (cut_into old.area)) olds olds failed old new (Err halted) → RunsInto (manner program packs digests) by f d (extracting s (cut_into old.area)) olds olds failed old new (Err halted)
  into_failed failed old new ran = record {
    works = λ read. works_weaker program packs digests by f (extracting s (cut_into old.area)) olds olds (λ w. d.has_taken new.drain 0 w × MeansBy (output_form packs program) new.area.meaning w) (λ w. TakenBy d new.drain new.area.output w × MeansBy (output_form packs program) new.area.meaning w) failed failed (Err halted) (λ w t. ((t.0, subst (λ o. IfSome o (λ known. known ≡ sha256 w)) (sym ran.unhashed) tt), t.1)) (λ lost. lost) (ran.works read);
    front = ran.front;
    hashed = tt;
    meaning = tt;
    cut = ran.cut;
  }

  pub none_into : (outs : List (AreaOutput OutputArea D)) → halted.ending ≡ ending.Stopped stop.Memory → AllByRecursion (λ (o : AreaOutput OutputArea D). IsFreshOut d o.drain) outs → AllByRecursion (λ (o : AreaOutput OutputArea D). o.area.output ≡ None) outs → RunsEachInto (manner program packs digests) by s f d olds olds outs outs (Err halted)
  none_into outs memory fresh none = zip_weaker _ _ (λ old new one. into_failed (AnyFailedInto (manner program packs digests) s f d olds outs outs) old new one) outs outs (none_unhashed (manner program packs digests) by s f d olds halted memory outs fresh none)
