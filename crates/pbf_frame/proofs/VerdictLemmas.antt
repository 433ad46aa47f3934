-- Frames done, one more, and none left.
use Rattle.std.proofs.Common.{◌≡◌, List, [], ◌∷◌, ◌++◌, Option, Some, None, refl, sym, ap, ◌∙◌, append_assoc}
use Rattle.std.specs.Option.{option_map}
use Rattle.pbf_frame.specs.Frames.{FrameSpec}
use Rattle.pbf_frame.specs.Verdict.{Verdict, with_first_known, with_all, VerdictAfter}

-- one more frame is done
pub gone_more : (first mid rest : Option Verdict) (frames : List FrameSpec) (f : FrameSpec) → VerdictAfter first frames mid → mid ≡ with_first_known f rest → VerdictAfter first (frames ++ f ∷ []) rest
gone_more first mid rest frames f gone e = gone ∙ ap (λ (v : Option Verdict). option_map (with_all frames) v) e ∙ same rest where
  same : (rest : Option Verdict) → option_map (with_all frames) (with_first_known f rest) ≡ option_map (with_all (frames ++ f ∷ [])) rest
  same None = refl
  same (Some verdict) = ap (λ (l : List FrameSpec). let v : Verdict = (l, verdict.1) in Some v) (sym (append_assoc frames (f ∷ []) verdict.0))

-- of known verdicts, the frames that are done are a prefix of all
pub gone_split : (first mid : Option Verdict) (fs : List FrameSpec) (all : Verdict) → VerdictAfter first fs mid → first ≡ Some all → (rest : Verdict) × (mid ≡ Some rest) × (all.0 ≡ fs ++ rest.0)
gone_split first None fs all gone e = absurd (never first all gone e) where
  never : (v : Option Verdict) (all : Verdict) → v ≡ None → v ≡ Some all → ⊥
  never v all e f = cc
gone_split first (Some rest) fs all gone e = (rest, refl, ap (λ (v : Verdict). v.0) (one first all (with_all fs rest) e gone)) where
  one : (v : Option Verdict) (x y : Verdict) → v ≡ Some x → v ≡ Some y → x ≡ y
  one v x y e f = cc
