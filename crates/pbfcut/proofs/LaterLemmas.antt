-- A call that reads a file again and again: what one pass more says of all of them.
use Rattle.std.proofs.Common.{Bool, ◌≡◌, inl, inr, ℕ, ◌+◌, arith, List, [], ◌∷◌, ◌++◌, length, Option, Some, None, Result, Err, refl, subst, sym, ap, ◌∙◌}
use Rattle.std.proofs.lemmas.Result.{IfErr-weaker}
use Rattle.osm_ways.specs.Phases.{KeptSets}
use Rattle.pbf_header.specs.Header.{HeaderSpec}
use Rattle.pbf_frame.specs.declared.device.Feed as feed
use Rattle.pbf_frame.specs.declared.device.Drain as drain
use Rattle.pbf_frame.specs.declared.stop.Stop.{Stop}
use Rattle.pbf_frame.specs.Frames.{FrameSpec}
use Rattle.pbf_frame.specs.Keeps.{KeepsDrain}
use Rattle.pbf_frame.specs.Refusals.{Refuses}
use Rattle.pbf_frame.specs.Verdict.{Says, Verdict}
use Rattle.pbf_frame.proofs.Passed.{added_none}
use Rattle.pbf_frame.proofs.Refusing.{refused_told}
use Rattle.pbf_wire.specs.declared.fault.Fault.{Fault}
use Rattle.pbf_pass.specs.declared.receipt.Halt.{Halt}
use Rattle.pbf_pass.specs.declared.receipt.InputReceipt.{InputReceipt}
use Rattle.pbf_pass.specs.declared.receipt.Refusal.{Refusal}
use Rattle.pbf_pass.specs.Hashing.{IsDigestOf, Mark}
use Rattle.pbf_pass.specs.Judged.{judged_file}
use Rattle.pbf_pass.specs.Refused.{Halts, stop_of}
use Rattle.pbf_pass.specs.Stops.{Caused, FaultOf}
use Rattle.pbf_pass.proofs.GivenLemmas.{IsDigest, told_digest, told_says}
use Rattle.pbf_pass.proofs.HaltingLemmas.{halts_first}
use Rattle.pbf_pass.proofs.UnjudgedLemmas.{refuses_less}
use Rattle.pbfcut.specs.declared.repeat.LaterPass.{LaterPass}
use Rattle.pbfcut.specs.Calls.{AnyFailed, ChangedAmong, ChangedLater, Differ, DrainUse, FailedDrain, FailedFeed, FeedUse, GaveBy, IfMore, KeepsAll, KeepsFed, RefusedFirst, drained, supply_of, taken_after, taken_before}
use Rattle.pbfcut.specs.Changes.{ChangedOf, IfChanged}
use Rattle.pbfcut.specs.Choosing.{StopsChoosing}
use Rattle.pbfcut.specs.Ends.{EndsPasses, TookNothing}
use Rattle.pbfcut.specs.Repeat.{IsUnlike, StopsLater, digest_of}
use Rattle.pbfcut.specs.Write.{WritesChoice}
use Rattle.pbfcut.proofs.ChangedLemmas.{changed_before, no_refusal}
use Rattle.pbfcut.proofs.ConvertingLemmas.{known_says}
use Rattle.pbf_pass.specs.declared.hashing.PassCheck.{PassCheck}

-- ---- one feed more

failed_more : (feeds : List FeedUse) (last : FeedUse) → AnyFailed feeds → AnyFailed (feeds ++ last ∷ [])
failed_more [] last none = absurd none
failed_more (one ∷ more) last (inl failed) = inl failed
failed_more (one ∷ more) last (inr failed) = inr (failed_more more last failed)

failed_last : (feeds : List FeedUse) (last : FeedUse) → FailedFeed last → AnyFailed (feeds ++ last ∷ [])
failed_last [] last failed = inl failed
failed_last (one ∷ more) last failed = inr (failed_last more last failed)

pub keeps_more : (feeds : List FeedUse) (last : FeedUse) → KeepsAll feeds → KeepsFed last → KeepsAll (feeds ++ last ∷ [])
keeps_more [] last all keeps = (keeps, tt)
keeps_more (one ∷ more) last all keeps = (all.0, keeps_more more last all.1 keeps)

if_more : (more : List FeedUse) (last : FeedUse) (nothing : Type 0) → nothing → IfMore (more ++ last ∷ []) nothing
if_more more last nothing h3 = grind arith

module _ (changed : ℕ → FeedUse → ℕ → Type 0) (nothing : Type 0) (last : FeedUse) (pass : ℕ) where
  changed_more : (later : List FeedUse) (number : ℕ) → nothing → ChangedLater changed (Unit {0}) number later pass → ChangedLater changed nothing number (later ++ last ∷ []) pass
  changed_more [] number went none = absurd none
  changed_more (one ∷ more) number went (inl is) = inl (is.0, if_more more last nothing went)
  changed_more (one ∷ more) number went (inr is) = inr (changed_more more (number + 1) went is)

  changed_last : (later : List FeedUse) (number at : ℕ) → at ≡ length later + number → changed at last pass → ChangedLater changed nothing number (later ++ last ∷ []) pass
  changed_last [] number at is at_last = let here : at ≡ number = omega (arith, is) in inl (subst (λ (n : ℕ). changed n last pass) here at_last, tt)
  changed_last (one ∷ more) number at is at_last = inr (changed_last more (number + 1) at (omega (arith, is)) at_last)

-- ---- a pass before this one stopped

-- the stops of earlier passes, in a call with more of them
pub stops_earlier : (refused also : Fault → Type 0) (read more wrote : Type 0) (changed too : ℕ → Type 0) (s : Stop) → ((e : Fault) → refused e → also e) → (read → more) → ((pass : ℕ) → changed pass → too pass) → Caused refused read ⊥ changed s → Caused also more wrote too s
stops_earlier refused also read more wrote changed too s h8 h9 h10 h11 = grind arith

module _ (judge : Option (List ℕ) → Option Verdict) (first : FeedUse) (later : List FeedUse) (last : FeedUse) (check : PassCheck) (h : Halt) (stops : StopsChoosing judge first later check h) where
  -- if this one chooses too
  pub choosing_more : StopsChoosing judge first (later ++ last ∷ []) check h
  choosing_more = record {
    refused = stops.refused;
    stops = stops_earlier (FaultOf (judge (supply_of first))) (FaultOf (judge (supply_of first))) (AnyFailed (first ∷ later)) (AnyFailed (first ∷ later ++ last ∷ [])) ⊥ (ChangedAmong (Unit {0}) first later) (ChangedAmong (Unit {0}) first (later ++ last ∷ [])) (stop_of h) (λ e is. is) (failed_more (first ∷ later) last) (λ pass. changed_more _ _ last pass later 2 tt) stops.stops;
    changed = changed_before _ _ (stop_of h) (λ pass. changed_more _ _ last pass later 2 tt) stops.changed;
  }

  -- if it writes, and nothing was written
  pub choosing_ends : {D X : Type 0} (d : drain.Ghosts D) (out : D) (result : Result X Halt) → result ≡ Err h → KeepsAll (first ∷ later ++ last ∷ []) → KeepsDrain d out out → EndsPasses judge first (later ++ last ∷ []) (drained d out out) check result
  choosing_ends d out result is keeps drain_keeps = rw is (record {
    refused = halts_first first.ghosts first.old first.new check d (λ b. judge (Some b)) out h stops.refused;
    stops = stops_earlier (FaultOf (judge (supply_of first))) (RefusedFirst (judge (supply_of first)) (d.taken out) (d.taken out)) (AnyFailed (first ∷ later)) (AnyFailed (first ∷ later ++ last ∷ [])) _ (ChangedAmong (Unit {0}) first later) (ChangedAmong (d.taken out ≡ d.taken out) first (later ++ last ∷ [])) (stop_of h) (λ e fault. (fault, refl)) (failed_more (first ∷ later) last) (λ pass. changed_more _ _ last pass later 2 refl) stops.stops;
    changed = changed_before _ _ (stop_of h) (λ pass. changed_more _ _ last pass later 2 (added_none d out)) stops.changed;
    feeds = keeps;
    out = drain_keeps;
  })

-- ---- this one stopped

-- bytes that aren't those of the first pass's digest are not the first pass's bytes
later_differs : (one : FeedUse) (first : Option (List ℕ)) (digest : Mark) (frames : List FrameSpec) → IsDigest first digest → Says (judged_file first) (frames, None) → Refuses (IsUnlike digest) (one.ghosts.has_passed one.old) (one.ghosts.has_passed one.new) (supply_of one) (one.ghosts.remaining one.new) → Differ first (supply_of one)
later_differs one first digest frames same says unlike b c is too e =
    let judged = known_says b (frames, None) (subst (λ (o : Option (List ℕ)). Says (judged_file o) (frames, None)) is says) in
    refused_told (IsUnlike digest) _ _ _ (one.ghosts.remaining one.new) c unlike too (subst (λ (l : List ℕ). IsDigestOf digest l) e (same b is)) frames (ap (λ (l : List ℕ). judged_file (Some l)) (sym e) ∙ judged)

-- after a first pass that found no fault
module _ (first : FeedUse) (digest : Mark) (holds : List ℕ → Type 0) (given : GaveBy first digest holds) (frames : List FrameSpec) (says : Says (judged_file (Some given.file)) (frames, None)) (later : List FeedUse) (last : FeedUse) (again : LaterPass) (number : again.number ≡ length later + 2) (is : digest_of again ≡ digest) (nothing : Type 0) where
  last_differs : Refuses (IsUnlike (digest_of again)) (last.ghosts.has_passed last.old) (last.ghosts.has_passed last.new) (supply_of last) (last.ghosts.remaining last.new) → Differ (supply_of first) (supply_of last)
  last_differs = later_differs last (supply_of first) (digest_of again) frames (subst (λ (d : Mark). IsDigest (supply_of first) d) (sym is) (told_digest first.ghosts _ _ digest holds given)) (told_says first.ghosts _ _ digest holds (frames, None) given says)

  pub last_stops : (refused : Fault → Type 0) (wrote : Type 0) (s : Stop) → StopsLater last.ghosts again last.old last.new wrote s → Caused refused (AnyFailed (first ∷ later ++ last ∷ [])) wrote (ChangedAmong nothing first (later ++ last ∷ [])) s
  last_stops refused wrote s h3 = grind (arith, failed_last, changed_last, last_differs)

  pub last_changed : (wrote : Type 0) (s : Stop) → StopsLater last.ghosts again last.old last.new wrote s → IfChanged (ChangedOf nothing first (later ++ last ∷ [])) s
  last_changed wrote s h2 = grind (arith, changed_last, refuses_less, known_says)

-- ---- the pass that writes stopped, or didn't

-- a later pass refuses nothing
pub later_halts : {F : Type 0} (f : feed.Ghosts F) (again : LaterPass) (old new : F) (wrote : Type 0) (refused : Refusal → Type 0) (h : Halt) → StopsLater f again old new wrote (stop_of h) → Halts refused h
later_halts f again old new wrote refused h h7 = grind (arith, no_refusal)

module _ {D : Type 0} (first : FeedUse) (digest : Mark) (holds : List ℕ → Type 0) (given : GaveBy first digest holds) (frames : List FrameSpec) (says : Says (judged_file (Some given.file)) (frames, None)) (later : List FeedUse) (last : FeedUse) (again : LaterPass) (number : again.number ≡ length later + 2) (is : digest_of again ≡ digest)
    (out : DrainUse D) (sets : KeptSets) (h : HeaderSpec) (spared : Bool) (r : Result InputReceipt Halt) (wrote : WritesChoice last out again sets h spared r) where
  pub writing_ends : (judge : Option (List ℕ) → Option Verdict) (check : PassCheck) → KeepsAll (first ∷ later) → EndsPasses judge first (later ++ last ∷ []) out check r
  writing_ends judge check keeps = record {
    refused = IfErr-weaker r _ _ (λ h stops. later_halts last.ghosts again _ _ _ _ h stops) wrote.stops;
    stops = IfErr-weaker r _ _ (λ h stops. last_stops first digest holds given frames says later last again number is (taken_after out ≡ taken_before out) _ (FailedDrain out) (stop_of h) stops) wrote.stops;
    changed = IfErr-weaker r _ _ (λ h stops. last_changed first digest holds given frames says later last again number is (TookNothing out) (FailedDrain out) (stop_of h) stops) wrote.stops;
    feeds = keeps_more (first ∷ later) last keeps wrote.keeps;
    out = wrote.out;
  }
