-- What a run says of several areas, from what it says of the drains that are put over those of their OUTs.
use Rattle.std.proofs.Common.{◌≡◌, ℕ, List, [], ◌∷◌, ◌++◌, map, Bool, true, false, Option, Some, None, Result, Ok, Err, IfOk, refl, sym, ap, subst, ◌∙◌}
use Rattle.std.specs.Prelude.{IfSome}
use Rattle.std.specs.List.{AllByRecursion, AllZip}
use Rattle.osm_ways.specs.Selection.{Strategy}
use Rattle.pbf_frame.specs.declared.device.Feed as feed
use Rattle.pbf_frame.specs.declared.device.Drain as drain
use Rattle.pbf_frame.specs.declared.stop.Stop.TheVariants as stop
use Rattle.pbf_frame.specs.Devices.{HasRisen}
use Rattle.pbf_pass.specs.declared.hashed.HashedDrain.{HashedDrain}
use Rattle.pbf_pass.specs.declared.hashing.PassCheck.{PassCheck}
use Rattle.pbf_pass.specs.Hashing.{HasPassed}
use Rattle.pbfcut.specs.declared.carrying.AreaOutput.{AreaOutput}
use Rattle.pbfcut.specs.Several.{AnyZip, KeepsOutput, OutputFailed}
use Rattle.pbfcut.specs.Tasks.{Task, extracting}
use Rattle.pbfcut.proofs.ConvertingLemmas.{nothing_out}
use Rattle.pbfcut.proofs.SeveralLemmas.{any_after, any_then, zip_both, zip_more, zip_same, zip_then, zip_with}
use Rattle.sha2.specs.Hashers.{Holds256}
use Rattle.sha2.specs.Sha256.{sha256}
use Rattle.pbfcut_cli.specs.declared.endings.Ending.TheVariants as ending
use Rattle.pbfcut_program.specs.declared.engine.Halted.{Halted}
use Rattle.pbfcut_program.specs.declared.engine.Report.{Report}
use Rattle.pbfcut_program.specs.declared.linked.LinkedDrain.{LinkedDrain}
use Rattle.pbfcut_program.specs.declared.several.InputDigests.{InputDigests}
use Rattle.pbfcut_program.specs.declared.several.OutputArea.{OutputArea}
use Rattle.pbfcut_program.specs.Devices.{AreFresh, Fronts, HasLinked, IsAsked, TakenBy, Wholes, Works}
use Rattle.pbfcut_program.specs.Fails.{EndsAsStop}
use Rattle.pbfcut_program.specs.Manner.{Form, Manner, input_form, to_raw}
use Rattle.pbfcut_program.specs.Several.{RunsArea, RunsEach, result_with}
use Rattle.pbfcut_program.specs.SeveralOuts.{IsHashing, IsUnhashed, RunsRaw, RunsRawEach, cut_into}
use Rattle.pbfcut_program.proofs.SeveralRuns.{whole_or_not}
use Rattle.pbfcut_program.proofs.Weaker.{works_weaker}

-- ---- lists that grow

pub hashing_more : {D : Type 0} (xs : List (AreaOutput OutputArea D)) (ys : List (AreaOutput OutputArea (LinkedDrain (HashedDrain D)))) (x : AreaOutput OutputArea D) (y : AreaOutput OutputArea (LinkedDrain (HashedDrain D))) → AllZip IsHashing xs ys → IsHashing x y → AllZip IsHashing (xs ++ x ∷ []) (ys ++ y ∷ [])
hashing_more xs ys x y all one = zip_more IsHashing xs ys x y all one

pub unhashed_more : {D : Type 0} (xs : List (AreaOutput OutputArea (LinkedDrain (HashedDrain D)))) (ys : List (AreaOutput OutputArea D)) (x : AreaOutput OutputArea (LinkedDrain (HashedDrain D))) (y : AreaOutput OutputArea D) → AllZip IsUnhashed xs ys → IsUnhashed x y → AllZip IsUnhashed (xs ++ x ∷ []) (ys ++ y ∷ [])
unhashed_more xs ys x y all one = zip_more IsUnhashed xs ys x y all one

-- ---- one area

-- what is said of a drain that hashes
abbrev pub hashing : {D : Type 0} → drain.Ghosts D → drain.Ghosts (LinkedDrain (HashedDrain D))
hashing d =
    let hashed : drain.Ghosts (HashedDrain _) = record { taken = λ h. d.taken h.drain; failures = λ h. d.failures h.drain; lender = λ h. d.lender h.drain; has_taken = λ h log b. HasPassed Holds256 d.has_taken h.drain h.hasher log b } in
    record { taken = λ l. hashed.taken l.drain; failures = λ l. hashed.failures l.drain; lender = λ l. hashed.lender l.drain; has_taken = λ l log b. HasLinked hashed l.drain log b }

-- a digest is known if digests are printed
pub asked : {X : Type 0} (r : Result X Halted) (digests : Bool) (known : Option (List ℕ)) (digest : List ℕ) → digests ≡ true → known ≡ Some digest → IfOk r (λ _. IsAsked digests known)
asked (Ok x) digests known digest printed is = subst (λ b. IsAsked b known) (sym printed) (subst (λ o. IsAsked true o) (sym is) tt)
asked (Err h) digests known digest printed is = tt

pub not_asked : {X : Type 0} (r : Result X Halted) (digests : Bool) (known : Option (List ℕ)) → digests ≡ false → known ≡ None → IfOk r (λ _. IsAsked digests known)
not_asked (Ok x) digests known printed is = subst (λ b. IsAsked b known) (sym printed) (subst (λ o. IsAsked false o) (sym is) tt)
not_asked (Err h) digests known printed is = tt

module _ {F D : Type 0} (m : Manner) (by : PassCheck) (s : Strategy) (f : feed.Ghosts F) (d : drain.Ghosts D) (olds news : List F) where
  abbrev task_in : OutputArea → Task
  task_in area = extracting s (cut_into area)

  abbrev Ran : (failed : Type 0) → Result InputDigests Halted → (old new : AreaOutput OutputArea D) → Type 0
  Ran failed r old new = RunsRaw m by f d (task_in old.area) olds news failed old new (result_with r new.counts)

  -- by a drain that hashes over its OUT
  module _ (old : AreaOutput OutputArea D) (over under : AreaOutput OutputArea (LinkedDrain (HashedDrain D))) (new : AreaOutput OutputArea D) (put : IsHashing old over) (kept : KeepsOutput (hashing d) over under) (off : IsUnhashed under new) (lost failed : Type 0) (up : lost → failed) (digests : m.digests ≡ true) where
    hashed_works : (task : Task) (r : Result Report Halted) → (AreFresh f olds → (log : ℕ) → (hashing d).has_taken over.drain log [] → Works (to_raw m) by f task olds news ((hashing d).has_taken under.drain log) lost r)
        → AreFresh f olds → d.has_taken old.drain 0 [] → Works (to_raw m) by f task olds news (TakenBy d new.drain new.area.output) failed r
    hashed_works task r works fresh start = works_weaker m.program false m.digests by f task olds news _ _ _ _ r
        (λ w t. (subst (λ x. d.has_taken x 0 w) (sym off.drain) t.1, subst (λ o. IfSome o (λ known. known ≡ sha256 w)) (sym off.known) (off.is w t.0))) up
        (works fresh 0 (put.none, subst (λ x. d.has_taken x 0 []) (sym put.drain) start))

    taken_fronts : (form : Form) (task : Task) (r : Result Report Halted) → Fronts form task (map f.remaining olds) (d.taken over.drain.drain.drain) (d.taken under.drain.drain.drain) r → Fronts form task (map f.remaining olds) (d.taken old.drain) (d.taken new.drain) r
    taken_fronts form task r front = subst (λ x. Fronts form task (map f.remaining olds) (d.taken x) (d.taken new.drain) r) put.drain (subst (λ x. Fronts form task (map f.remaining olds) (d.taken over.drain.drain.drain) (d.taken x) r) (sym off.drain) front)

    taken_wholes : (form : Form) (task : Task) (r : Result Report Halted) → Wholes form task (map f.remaining olds) (d.taken over.drain.drain.drain) (d.taken under.drain.drain.drain) r → Wholes form task (map f.remaining olds) (d.taken old.drain) (d.taken new.drain) r
    taken_wholes form task r whole = subst (λ x. Wholes form task (map f.remaining olds) (d.taken x) (d.taken new.drain) r) put.drain (subst (λ x. Wholes form task (map f.remaining olds) (d.taken over.drain.drain.drain) (d.taken x) r) (sym off.drain) whole)

    hashed_one : (r : Result InputDigests Halted) → RunsArea m by f (hashing d) (task_in over.area) olds news lost over.drain under.drain (result_with r under.counts) → Ran failed r old new
    hashed_one r ran = subst (λ area. RunsRaw m by f d (task_in area) olds news failed old new (result_with r new.counts)) put.area (subst (λ n. RunsRaw m by f d (task_in over.area) olds news failed old new (result_with r n)) (sym off.counts) (record {
      works = hashed_works (task_in over.area) (result_with r under.counts) ran.works;
      front = taken_fronts (input_form m.program) (task_in over.area) (result_with r under.counts) ran.front;
      whole = taken_wholes (input_form m.program) (task_in over.area) (result_with r under.counts) ran.whole;
      hashed = asked (result_with r under.counts) m.digests new.area.output off.digest digests off.known;
      cut = off.cut ∙ ap (λ (a : OutputArea). a.cut) (kept.area ∙ put.area);
      meaning = off.meaning ∙ ap (λ (a : OutputArea). a.meaning) (kept.area ∙ put.area);
    }))

  -- as it is
  as_it_is : (digests : m.digests ≡ false) (failed : Type 0) (r : Result InputDigests Halted) (old new : AreaOutput OutputArea D) → old.area.output ≡ None → new.area ≡ old.area → RunsArea m by f d (task_in old.area) olds news failed old.drain new.drain (result_with r new.counts) → Ran failed r old new
  as_it_is digests failed r old new none kept ran =
      let known : new.area.output ≡ None = ap (λ (a : OutputArea). a.output) kept ∙ none in record {
        works = λ fresh start. works_weaker m.program false m.digests by f (task_in old.area) olds news _ _ _ _ (result_with r new.counts) (λ w t. (t, subst (λ o. IfSome o (λ digest. digest ≡ sha256 w)) (sym known) tt)) (λ failed. failed) (ran.works fresh 0 start);
        front = ran.front;
        whole = ran.whole;
        hashed = not_asked (result_with r new.counts) m.digests new.area.output digests known;
        cut = ap (λ (a : OutputArea). a.cut) kept;
        meaning = ap (λ (a : OutputArea). a.meaning) kept;
      }

  -- ---- all of them

  module _ (befores : List (AreaOutput OutputArea D)) (overs unders : List (AreaOutput OutputArea (LinkedDrain (HashedDrain D)))) (afters : List (AreaOutput OutputArea D)) (put : AllZip IsHashing befores overs) (off : AllZip IsUnhashed unders afters) where
    abbrev AnyLost : Type 0
    AnyLost = AnyZip (OutputFailed (hashing d)) overs unders

    abbrev AnyFails : Type 0
    AnyFails = AnyZip (OutputFailed d) befores afters

    abbrev Risen : AreaOutput OutputArea (LinkedDrain (HashedDrain D)) → AreaOutput OutputArea D → Type 0
    Risen over new = HasRisen (d.failures over.drain.drain.drain) (d.failures new.drain)

    any_fails : AnyLost → AnyFails
    any_fails lost =
        any_after IsHashing Risen (OutputFailed d) (λ old over new p risen. subst (λ x. HasRisen (d.failures x) (d.failures new.drain)) p.drain risen) befores overs afters put
        (any_then (OutputFailed (hashing d)) IsUnhashed Risen (λ over under new risen o. subst (λ x. HasRisen (d.failures over.drain.drain.drain) (d.failures x)) (sym o.drain) risen) overs unders afters lost off)

    -- a drain that hashes, by what the run did with it
    record Between (r : Result InputDigests Halted) (old : AreaOutput OutputArea D) (under : AreaOutput OutputArea (LinkedDrain (HashedDrain D))) : Type 0 where
      over : AreaOutput OutputArea (LinkedDrain (HashedDrain D))
      begun : IsHashing old over
      ran : RunsArea m by f (hashing d) (task_in over.area) olds news AnyLost over.drain under.drain (result_with r under.counts)
      kept : KeepsOutput (hashing d) over under

    pub hashed_each : (r : Result InputDigests Halted) → m.digests ≡ true → RunsEach m by s cut_into f (hashing d) olds news overs unders r → RunsRawEach m by s f d olds news befores afters r
    hashed_each r digests ran =
        let both = zip_both _ (KeepsOutput (hashing d)) (λ over under. RunsArea m by f (hashing d) (task_in over.area) olds news AnyLost over.drain under.drain (result_with r under.counts) × KeepsOutput (hashing d) over under)
        (λ over under one kept. (one, kept)) overs unders ran.each ran.outs in
        let between = zip_then IsHashing _ (Between r) (λ old over under p b. record { over = over; begun = p; ran = b.0; kept = b.1 }) befores overs unders put both in
        zip_then (Between r) IsUnhashed _ (λ old under new b o. hashed_one old b.over under new b.begun b.kept o AnyLost AnyFails any_fails digests r b.ran) befores unders afters between off

  pub as_they_are : (befores afters : List (AreaOutput OutputArea D)) (r : Result InputDigests Halted) → m.digests ≡ false → AllByRecursion (λ (o : AreaOutput OutputArea D). o.area.output ≡ None) befores → RunsEach m by s cut_into f d olds news befores afters r → RunsRawEach m by s f d olds news befores afters r
  as_they_are befores afters r digests none ran =
      zip_with _ (λ old new. RunsArea m by f d (task_in old.area) olds news (AnyZip (OutputFailed d) befores afters) old.drain new.drain (result_with r new.counts) × KeepsOutput d old new) _
      (λ old new none both. as_it_is digests (AnyZip (OutputFailed d) befores afters) r old new none both.1.area both.0) befores afters none
      (zip_both _ (KeepsOutput d) _ (λ old new one kept. (one, kept)) befores afters ran.each ran.outs)

  -- nothing was done, since memory was refused
  pub none_done : (outs : List (AreaOutput OutputArea D)) (halted : Halted) → halted.ending ≡ ending.Stopped stop.Memory → RunsRawEach m by s f d olds news outs outs (Err halted)
  none_done outs halted is = zip_same _ (λ out. record {
    works = λ fresh start. (stop.Memory, subst (λ how. EndsAsStop m.program stop.Memory how) (sym is) refl, tt);
    front = λ bytes all. nothing_out (d.taken out.drain) _;
    whole = whole_or_not (input_form m.program) (task_in out.area) (map f.remaining olds) (d.taken out.drain) (d.taken out.drain) halted;
    hashed = tt;
    cut = refl;
    meaning = refl;
  }) outs
