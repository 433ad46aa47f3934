-- The frames that a loop read, and at its end the bytes that the feed gave.
use Rattle.std.proofs.Common.{arith}
use Rattle.std.proofs.Common.{◌≡◌, inl, inr, ℕ, Bool, true, List, [], ◌∷◌, ◌++◌, ◌||◌, Option, Some, None, Ok, Err, refl, sym, ap, ◌∙◌, subst, append_assoc}
use Rattle.std.proofs.lemmas.List.{append-nil}
use Rattle.pbf_frame.specs.declared.device.Feed as feed
use Rattle.pbf_frame.specs.declared.reader.FrameReader.{FrameReader}
use Rattle.pbf_wire.specs.declared.fault.Fault.{Fault}
use Rattle.pbf_frame.specs.declared.stop.Stop.{Stop}
use Rattle.pbf_frame.specs.declared.stop.Stop.TheVariants as why
use Rattle.pbf_frame.specs.Devices.{prepend, Passes}
use Rattle.pbf_frame.specs.Frames.{FrameSpec, is_header, frame_kind, frame_end, frame_bytes, next_within, next_of}
use Rattle.pbf_frame.specs.Next.{place_of, had_header_of}
use Rattle.pbf_frame.specs.Refusals.{Refuses}
use Rattle.pbf_frame.specs.Sound.{IsFrame}
use Rattle.pbf_frame.specs.Verdict.{Verdict, judged, judged_after, judged_known, with_first_known, joined_frames, VerdictAfter}
use Rattle.pbf_frame.proofs.Judging.{judged_some, judged_step, gave_fault}
use Rattle.pbf_frame.proofs.KnownBytes.{prepend_none, prepend_more}
use Rattle.pbf_frame.proofs.Longest.{frame_is_next}
use Rattle.pbf_frame.proofs.Refusing.{refuses_more}
use Rattle.pbf_frame.proofs.Parting.{some_same}
use Rattle.pbf_frame.proofs.Passed.{passes_none, passes_more, passes_same}
use Rattle.pbf_frame.proofs.VerdictLemmas.{gone_more}
use Rattle.pbf_pass.specs.Given.{GaveRest, judged_from}
use Rattle.pbf_pass.specs.Refused.{RefusesRest}
use Rattle.pbf_pass.specs.Visit.{Takes, StopRule, Visited, RefusesVisit}
use Rattle.pbf_pass.proofs.StepLemmas.{GaveOne, GaveNone, RefusedStep}

joined_one : (frames : List FrameSpec) (f : FrameSpec) → joined_frames (frames ++ f ∷ []) ≡ joined_frames frames ++ frame_bytes f
joined_one [] f = append-nil (frame_bytes f)
joined_one (g ∷ frames) f = ap (λ (l : List ℕ). frame_bytes g ++ l) (joined_one frames f) ∙ sym (append_assoc (frame_bytes g) (joined_frames frames) (frame_bytes f))

next_nothing : (p : ℕ) → next_of true p [] ≡ Ok (None, [])
unfolding next_within
next_nothing p = refl

judged_nothing : (p : ℕ) → judged true p [] ≡ ([], None)
judged_nothing p = judged_step true p [] ∙ ap (judged_after judged true) (next_nothing p)

nothing_left : (h : Bool) (p : ℕ) → h ≡ true → judged_known h p (Some []) ≡ Some ([], None)
nothing_left h p had = ap (λ (b : Bool). judged_known b p (Some [])) had ∙ ap (λ (v : Verdict). Some v) (judged_nothing p)

-- since the first reader these frames were read
pub record HasPassed {F : Type 0} (g : feed.Ghosts F) (first : FrameReader F) (frames : List FrameSpec) (now : FrameReader F) : Type 0 where
  pub told : g.remaining first.feed ≡ prepend (joined_frames frames) (g.remaining now.feed)
  pub logged : Passes (g.has_passed first.feed) (joined_frames frames) (g.has_passed now.feed)
  -- whatever follows them
  pub gone : (rest : List ℕ) → VerdictAfter (judged_known (had_header_of first) (place_of first) (Some (joined_frames frames ++ rest))) frames (judged_known (had_header_of now) (place_of now) (Some rest))

gone_none : (h : Bool) (p : ℕ) (rest : List ℕ) → VerdictAfter (judged_known h p (Some rest)) [] (judged_known h p (Some rest))
gone_none h p rest = refl

gone_one : (h : Bool) (p : ℕ) (h2 : Bool) (p2 : ℕ) (first : Option Verdict) (frames : List FrameSpec) (f : FrameSpec) (rest : List ℕ) → VerdictAfter first frames (judged_known h p (Some (frame_bytes f ++ rest))) → IsFrame h p f
    → h2 ≡ (h || is_header (frame_kind f)) → p2 ≡ frame_end f → VerdictAfter first (frames ++ f ∷ []) (judged_known h2 p2 (Some rest))
gone_one h p h2 p2 first frames f rest so_far is had place =
    let known : judged_known h p (Some (frame_bytes f ++ rest)) ≡ with_first_known f (judged_known h2 p2 (Some rest)) =
    ap Some (judged_some h p (frame_bytes f ++ rest) f rest (frame_is_next h p f rest is))
    ∙ ap (λ (b : Bool). with_first_known f (judged_known b (frame_end f) (Some rest))) (sym had)
    ∙ ap (λ (n : ℕ). with_first_known f (judged_known h2 n (Some rest))) (sym place) in
    gone_more first (judged_known h p (Some (frame_bytes f ++ rest))) (judged_known h2 p2 (Some rest)) frames f so_far known

module _ {F : Type 0} (g : feed.Ghosts F) where
  pub has_passed_none : (first : FrameReader F) → HasPassed g first [] first
  has_passed_none first = grind (arith, prepend_none (g.remaining first.feed), passes_none (g.has_passed first.feed), gone_none (had_header_of first) (place_of first))

  pub has_passed_more : (first mid now : FrameReader F) (frames : List FrameSpec) (f : FrameSpec) → HasPassed g first frames mid → GaveOne g mid now f → HasPassed g first (frames ++ f ∷ []) now
  has_passed_more first mid now frames f so_far gave =
      let one = joined_one frames f in
      record {
        told = prepend_more _ _ _ (joined_frames frames) (frame_bytes f) so_far.told gave.told ∙ ap (λ (l : List ℕ). prepend l (g.remaining now.feed)) (sym one);
        logged = passes_same (g.has_passed first.feed) (g.has_passed now.feed) _ _ (sym one) (passes_more (g.has_passed first.feed) (g.has_passed mid.feed) (g.has_passed now.feed) (joined_frames frames) (frame_bytes f) so_far.logged gave.logged);
        gone = λ rest. grind (arith, append_assoc (joined_frames frames) (frame_bytes f) rest, gone_one (had_header_of mid) (place_of mid) (had_header_of now) (place_of now), so_far.gone (frame_bytes f ++ rest));
      }

  -- at the end these frames are all, and their bytes are what the feed gave
  pub has_passed_all : (first mid now : FrameReader F) (frames : List FrameSpec) (holds : Option Verdict → Type 0) → HasPassed g first frames mid → GaveNone g mid now → g.lender now.feed ≡ g.lender first.feed → holds (Some (frames, None)) → GaveRest g first now holds
  has_passed_all first mid now frames holds so_far none lender holding = grind (arith, so_far.gone [], nothing_left (had_header_of mid) (place_of mid) none.had_header, some_same, append-nil (joined_frames frames), append-nil frames)

  -- the bytes of these frames, and those of what is refused after them, or of the frame at which a visitor stopped
  module _ {V : Type 0} (took : Takes V) (failed : StopRule V) (before mid last : V) (first at now : FrameReader F) (frames : List FrameSpec) (so_far : HasPassed g first frames at) (visited : Visited took before frames mid) where
    abbrev stops_for : Stop → List ℕ → Type 0
    stops_for s b = RefusesVisit took failed (judged_from first) before last s b

    by_reader : (e : Fault) → last ≡ mid → (b : List ℕ) → next_of (had_header_of at) (place_of at) b ≡ Err e → stops_for (why.Refused e) (joined_frames frames ++ b)
    by_reader e same b is = inl record {
      frames = frames;
      rest = judged_known (had_header_of at) (place_of at) (Some b);
      gone = so_far.gone b;
      visited = subst (λ v. Visited took before frames v) (sym same) visited;
      caused = gave_fault (had_header_of at) (place_of at) (Some b) e (λ bytes same. subst (λ (l : List ℕ). next_of (had_header_of at) (place_of at) l ≡ Err e) (some_same _ _ same) is);
    }

    by_visitor : (s : Stop) (f : FrameSpec) → GaveOne g at now f → failed mid f last s → (rest : List ℕ) → stops_for s ((joined_frames frames ++ frame_bytes f) ++ rest)
    by_visitor s f gave failing rest = subst (stops_for s) (sym (append_assoc (joined_frames frames) (frame_bytes f) rest)) (inr record {
      frames = frames;
      frame = f;
      rest = judged_known (had_header_of at || is_header (frame_kind f)) (frame_end f) (Some rest);
      gone = subst (λ (k : Option Verdict). VerdictAfter (judged_from first (joined_frames frames ++ (frame_bytes f ++ rest))) frames k)
          (ap Some (judged_some (had_header_of at) (place_of at) (frame_bytes f ++ rest) f rest (frame_is_next (had_header_of at) (place_of at) f rest gave.is_frame))) (so_far.gone (frame_bytes f ++ rest));
      mid = mid;
      visited = visited;
      failing = failing;
    })

    at_frame : (s : Stop) → (f : FrameSpec) × GaveOne g at now f × failed mid f last s → Refuses (stops_for s) (g.has_passed first.feed) (g.has_passed now.feed) (g.remaining first.feed) (g.remaining now.feed)
    at_frame s (f, gave, failing) = record {
      read = joined_frames frames ++ frame_bytes f;
      told = prepend_more _ _ _ (joined_frames frames) (frame_bytes f) so_far.told gave.told;
      logged = passes_more (g.has_passed first.feed) (g.has_passed at.feed) (g.has_passed now.feed) (joined_frames frames) (frame_bytes f) so_far.logged gave.logged;
      faulty = inl (by_visitor s f gave failing);
    }

    pub has_passed_refused : (stop : Stop) → RefusedStep g at now (λ f s. failed mid f last s) (last ≡ mid) stop → RefusesRest g first.feed now.feed (RefusesVisit took failed (judged_from first) before last) stop
    has_passed_refused (why.Refused e) (inl (refuses, same)) =
        refuses_more (stops_for (why.Refused e)) (λ b. next_of (had_header_of at) (place_of at) b ≡ Err e) (g.has_passed first.feed) (g.has_passed at.feed) (g.has_passed now.feed) (g.remaining first.feed) (g.remaining at.feed) (g.remaining now.feed) (joined_frames frames) so_far.told so_far.logged (by_reader e same) refuses
    has_passed_refused (why.Refused e) (inr one) = at_frame (why.Refused e) one
    has_passed_refused why.Read refused = tt
    has_passed_refused why.Write refused = tt
    has_passed_refused why.Memory refused = tt
    has_passed_refused (why.Changed n) one = at_frame (why.Changed n) one
