-- Frames whose payloads have no fault.
use Rattle.std.proofs.Common.{arith}
use Rattle.std.proofs.Common.{◌≡◌, List, [], ◌∷◌, ◌++◌, Option, Some, None, refl, sym, ap, ◌∙◌, subst}
use Rattle.std.specs.List.{AllByRecursion}
use Rattle.std.specs.Option.{option_map}
use Rattle.pbf_wire.specs.declared.fault.Fault.{Fault}
use Rattle.pbf_frame.specs.Frames.{FrameSpec}
use Rattle.pbf_frame.specs.Verdict.{Verdict, with_frame_first, with_first_known, with_all, VerdictAfter, Says}
use Rattle.pbf_frame.proofs.Parting.{none_some, some_same}
use Rattle.pbf_frame.proofs.VerdictLemmas.{gone_more, gone_split}
use Rattle.pbf_pass.specs.Unjudged.{IsSound, IsFaulty}
use Rattle.pbf_pass.specs.Judged.{sound_first, sound_front, fully, fully_known}

-- the first ones of such frames
pub sound_first_ones : (fs gs : List FrameSpec) → AllByRecursion IsSound (fs ++ gs) → AllByRecursion IsSound fs
sound_first_ones [] gs sound = tt
sound_first_ones (f ∷ fs) gs sound = (sound.0, sound_first_ones fs gs sound.1)

-- and the last one
pub sound_last : (fs : List FrameSpec) (f : FrameSpec) → AllByRecursion IsSound (fs ++ f ∷ []) → IsSound f
sound_last [] f sound = sound.0
sound_last (g ∷ fs) f sound = sound_last fs f sound.1

-- ---- the verdict of all phases

-- on such frames it is the verdict of frames
pub front_of_sound : (fs : List FrameSpec) (e : Option Fault) → AllByRecursion IsSound fs → sound_front fs e ≡ (fs, e)
front_of_sound [] e sound = refl
front_of_sound (f ∷ fs) e sound = ap (λ (o : Option Fault). sound_first o f (sound_front fs e)) sound.0 ∙ ap (with_frame_first f) (front_of_sound fs e sound.1)

front_over : (fs gs : List FrameSpec) (e : Option Fault) → AllByRecursion IsSound fs → sound_front (fs ++ gs) e ≡ with_all fs (sound_front gs e)
front_over [] gs e sound = refl
front_over (f ∷ fs) gs e sound = ap (λ (o : Option Fault). sound_first o f (sound_front (fs ++ gs) e)) sound.0 ∙ ap (with_frame_first f) (front_over fs gs e sound.1)

-- such frames are gone by both verdicts
pub fully_gone : (first rest : Option Verdict) (fs : List FrameSpec) → AllByRecursion IsSound fs → VerdictAfter first fs rest → VerdictAfter (fully_known first) fs (fully_known rest)
fully_gone first rest fs sound gone = ap fully_known gone ∙ of rest where
  of : (rest : Option Verdict) → fully_known (option_map (with_all fs) rest) ≡ option_map (with_all fs) (fully_known rest)
  of None = refl
  of (Some v) = ap (λ (v : Verdict). Some v) (front_over fs v.0 v.1 sound)

-- if it has no fault, the frames are such
pub sound_frames : (fs : List FrameSpec) (e : Option Fault) → (sound_front fs e).1 ≡ None → AllByRecursion IsSound fs
sound_frames [] e is = tt
sound_frames (f ∷ fs) e is = grind (arith, sound_frames fs e)

-- and there is no fault of frames
pub ends_well : (fs : List FrameSpec) (e : Option Fault) → (sound_front fs e).1 ≡ None → e ≡ None
ends_well fs e is = sym (ap (λ (v : Verdict). v.1) (front_of_sound fs e (sound_frames fs e is))) ∙ is

-- these are the frames of a file without a fault
pub all_sound : (fs all : List FrameSpec) → Some (fully (fs, None)) ≡ Some (all, None) → (fs ≡ all) × AllByRecursion IsSound fs
all_sound fs all is = grind (arith, some_same, sound_frames fs None (ap (λ (v : Verdict). v.1) (some_same _ _ is)), front_of_sound fs None (sound_frames fs None (ap (λ (v : Verdict). v.1) (some_same _ _ is))))

-- what follows the frames done, in such a file
pub rest_sound : (first mid : Option Verdict) (fs all : List FrameSpec) → VerdictAfter first fs mid → fully_known first ≡ Some (all, None) → (rest : Verdict) × (mid ≡ Some rest) × (all ≡ fs ++ rest.0) × AllByRecursion IsSound all
rest_sound first mid fs all h4 h5 = grind (arith, none_some, some_same, sound_frames, front_of_sound, gone_split)

-- ---- a file that has a fault

faulty_known : (first : Option Verdict) → ((v : Verdict) → first ≡ Some v → (fully v).1 ≡ None → ⊥) → IsFaulty (fully_known first)
faulty_known first h1 z0 z1 = grind (arith, none_some, some_same)

-- in the frames after these
pub faulty_rest : (first rest : Option Verdict) (fs : List FrameSpec) (e : Fault) → VerdictAfter first fs rest → Says rest ([], Some e) → IsFaulty (fully_known first)
faulty_rest first rest fs e gone says = faulty_known first wrong where
  wrong : (v : Verdict) → first ≡ Some v → (fully v).1 ≡ None → ⊥
  wrong v is well =
      let (left, follows, split) = gone_split first rest fs v gone is in
      let whole : v ≡ with_all fs left = some_same _ _ (sym is ∙ gone ∙ ap (λ (k : Option Verdict). option_map (with_all fs) k) follows) in
      let ends : left.1 ≡ Some e = ap (λ (k : Verdict). k.1) (subst (λ (k : Option Verdict). Says k ([], Some e)) follows says) in
      none_some _ _ (ends_well v.0 v.1 well) (ap (λ (k : Verdict). k.1) whole ∙ ends)

-- in the payload of the frame after these
pub faulty_frame : (first mid rest : Option Verdict) (fs : List FrameSpec) (f : FrameSpec) → VerdictAfter first fs mid → mid ≡ with_first_known f rest → (IsSound f → ⊥) → IsFaulty (fully_known first)
faulty_frame first mid rest fs f gone is unsound = faulty_known first wrong where
  wrong : (v : Verdict) → first ≡ Some v → (fully v).1 ≡ None → ⊥
  wrong v known well =
      let (left, follows, split) = gone_split first rest (fs ++ f ∷ []) v (gone_more first mid rest fs f gone is) known in
      unsound (sound_last fs f (sound_first_ones (fs ++ f ∷ []) left.0 (subst (λ (l : List FrameSpec). AllByRecursion IsSound l) split (sound_frames v.0 v.1 well))))
