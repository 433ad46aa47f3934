-- The verdict on the bytes, frame by frame.
use Rattle.std.proofs.Common.{◌≡◌, ℕ, zero, suc, ◌<◌, ◌||◌, Bool, List, [], length, Option, Some, None, Result, Ok, Err, refl, sym, ap, ◌∙◌, subst, length-append, arith}
use Rattle.pbf_wire.specs.declared.fault.Fault.{Fault}
use Rattle.pbf_frame.specs.Devices.{prepend}
use Rattle.pbf_frame.specs.declared.frame.TheConstants.{FILE_LIMIT}
use Rattle.pbf_frame.specs.Frames.{FrameSpec, is_header, frame_kind, frame_bytes, frame_end, next_of}
use Rattle.pbf_frame.specs.Verdict.{Verdict, with_frame_first, judged_after, judged_fueled, judged_within, judged, judged_known, with_first_known, Says}
use Rattle.pbf_frame.proofs.Parting.{next_split, next_none}

-- enough fuel is enough
same_after : (f g : Bool → ℕ → List ℕ → Verdict) (h : Bool) (p : ℕ) (bytes : List ℕ) → ((h' : Bool) (p' : ℕ) (rest : List ℕ) → length rest < length bytes → f h' p' rest ≡ g h' p' rest)
    → judged_after f h (next_of h p bytes) ≡ judged_after g h (next_of h p bytes)
same_after f g h p bytes same = cases (next_of h p bytes) refl where
  cases : (r : Result (Option FrameSpec × List ℕ) Fault) → next_of h p bytes ≡ r → judged_after f h r ≡ judged_after g h r
  cases (Err e) is = refl
  cases (Ok (None, rest)) is = refl
  cases (Ok (Some spec, rest)) is =
      let split = next_split h p bytes spec rest is in
      let shorter : length rest < length bytes = omega (arith, split.1, ap length split.0 ∙ length-append (frame_bytes spec) rest) in
      ap (with_frame_first spec) (same (h || is_header (frame_kind spec)) (frame_end spec) rest shorter)

more_fuel : (m n : ℕ) (h : Bool) (p : ℕ) (bytes : List ℕ) → length bytes < m → length bytes < n → judged_fueled (Some FILE_LIMIT) m h p bytes ≡ judged_fueled (Some FILE_LIMIT) n h p bytes
unfolding judged_fueled
more_fuel zero n h p bytes low high = absurd (omega (arith, low))
more_fuel (suc m) zero h p bytes low high = absurd (omega (arith, high))
more_fuel (suc m) (suc n) h p bytes low high =
    same_after (judged_fueled (Some FILE_LIMIT) m) (judged_fueled (Some FILE_LIMIT) n) h p bytes (λ h' p' rest shorter. more_fuel m n h' p' rest (omega (arith, low, shorter)) (omega (arith, high, shorter)))

-- the verdict, frame by frame
pub judged_step : (h : Bool) (p : ℕ) (bytes : List ℕ) → judged h p bytes ≡ judged_after judged h (next_of h p bytes)
unfolding judged_within judged_fueled
judged_step h p bytes = grind (arith, same_after, more_fuel)

pub judged_some : (h : Bool) (p : ℕ) (bytes : List ℕ) (f : FrameSpec) (rest : List ℕ) → next_of h p bytes ≡ Ok (Some f, rest) → judged h p bytes ≡ with_frame_first f (judged (h || is_header (frame_kind f)) (frame_end f) rest)
judged_some h p bytes f rest e = judged_step h p bytes ∙ ap (judged_after judged h) e

-- ---- what a reading call gives, as equations

abbrev pub GivesSome : Bool → ℕ → Option (List ℕ) → FrameSpec → Option (List ℕ) → Type 0
GivesSome h p old f new = (judged_known h p old ≡ with_first_known f (judged_known (h || is_header (frame_kind f)) (frame_end f) new)) × (old ≡ prepend (frame_bytes f) new)

pub gave_some : (h : Bool) (p : ℕ) (old new : Option (List ℕ)) (f : FrameSpec) → ((bytes : List ℕ) → old ≡ Some bytes → (rest : List ℕ) × (next_of h p bytes ≡ Ok (Some f, rest)) × (new ≡ Some rest)) → (old ≡ None → new ≡ None) → GivesSome h p old f new
gave_some h p (Some bytes) new f given untold =
    let (rest, gives, left) = given bytes refl in
    subst (GivesSome h p (Some bytes) f) (sym left) (ap Some (judged_some h p bytes f rest gives), ap Some (next_split h p bytes f rest gives).0)
gave_some h p None new f given untold = subst (GivesSome h p None f) (sym (untold refl)) (refl, refl)

abbrev pub GivesNone : Bool → ℕ → Option (List ℕ) → Option (List ℕ) → Type 0
GivesNone h p old new = Says (judged_known h p old) ([], None) × (old ≡ new)

pub gave_none : (h : Bool) (p : ℕ) (old new : Option (List ℕ)) → ((bytes : List ℕ) → old ≡ Some bytes → (rest : List ℕ) × (next_of h p bytes ≡ Ok (None, rest)) × (new ≡ Some rest)) → (old ≡ None → new ≡ None) → GivesNone h p old new
gave_none h p (Some bytes) new given untold =
    let (rest, gives, left) = given bytes refl in
    let nothing = next_none h p bytes rest gives in
    (judged_step h p bytes ∙ ap (judged_after judged h) gives, ap Some (nothing.0 ∙ sym nothing.1) ∙ sym left)
gave_none h p None new given untold = (tt, sym (untold refl))

pub gave_fault : (h : Bool) (p : ℕ) (old : Option (List ℕ)) (e : Fault) → ((bytes : List ℕ) → old ≡ Some bytes → next_of h p bytes ≡ Err e) → Says (judged_known h p old) ([], Some e)
gave_fault h p (Some bytes) e given = judged_step h p bytes ∙ ap (judged_after judged h) (given bytes refl)
gave_fault h p None e given = tt
