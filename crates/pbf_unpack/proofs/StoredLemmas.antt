-- How the blobs of a file are stored, frame by frame.
use Rattle.std.proofs.Common.{◌≡◌, ℕ, zero, suc, ◌≤◌, true, false, List, [], ◌∷◌, ◌++◌, length, drop, append_assoc, Option, refl, sym, ap, ◌∙◌, arith}
use Rattle.std.specs.Option.{option_or}
use Rattle.std.proofs.lemmas.List.{append-nil, length-drop}
use Rattle.pbf_frame.specs.Frames.{FrameSpec, blob_at, frame_end, frame_kind, frame_bytes, frame_at}
use Rattle.pbf_unpack.specs.declared.stored.Stored.{Stored}
use Rattle.pbf_unpack.specs.Stored.{none_stored, stored_from, stored_in_frame, stored_within, together}
use Rattle.pbf_unpack.specs.declared.fault.UnpackFault.{UnpackFault}
use Rattle.pbf_unpack.specs.Unpacked.{is_whole, then_unpacked, unpacked_from}
use Rattle.pbf_unpack.proofs.UnpackedLemmas.{joined_assoc, whole_long}

-- ---- together

pub together_assoc : (a b c : Stored) → together (together a b) c ≡ together a (together b c)
together_assoc a b c = grind arith

pub together_none : (a : Stored) → together a none_stored ≡ a
together_none a = grind arith

-- no bytes have none
pub nothing_stored : (place : ℕ) → stored_from place [] ≡ none_stored
unfolding stored_from stored_within
nothing_stored place = refl

-- ---- bytes that begin no whole frame

unfit_within : (n place : ℕ) (bytes : List ℕ) → is_whole (frame_at place bytes) ≡ false → stored_within n place bytes ≡ none_stored
unfolding stored_within
unfit_within n place bytes h1 = grind arith

pub unfit_stored : (place : ℕ) (bytes : List ℕ) → is_whole (frame_at place bytes) ≡ false → stored_from place bytes ≡ none_stored
unfolding stored_from
unfit_stored place bytes is = unfit_within (length bytes) place bytes is

-- ---- a whole frame

abbrev then_others : (ℕ → List ℕ → Stored) → FrameSpec → List ℕ → Stored
then_others others f bytes = together (stored_in_frame (frame_kind f) (blob_at f) f.blob) (others (frame_end f) (drop (length (frame_bytes f)) bytes))

whole_within : (n place : ℕ) (bytes : List ℕ) → is_whole (frame_at place bytes) ≡ true → stored_within (suc n) place bytes ≡ then_others (stored_within n) (frame_at place bytes) bytes
unfolding stored_within
whole_within n place bytes is = rw is refl

-- enough fuel is enough
same_fuel : (m n place : ℕ) (bytes : List ℕ) → length bytes ≤ m → length bytes ≤ n → stored_within m place bytes ≡ stored_within n place bytes
same_fuel m n place [] low high = unfit_within m place [] refl ∙ sym (unfit_within n place [] refl)
same_fuel zero n place (b ∷ bs) low high = absurd (omega (arith, low))
same_fuel (suc m) zero place (b ∷ bs) low high = absurd (omega (arith, high))
same_fuel (suc m) (suc n) place (b ∷ bs) low high = elim (is_whole (frame_at place (b ∷ bs))) as (λ w. is_whole (frame_at place (b ∷ bs)) ≡ w → stored_within (suc m) place (b ∷ bs) ≡ stored_within (suc n) place (b ∷ bs)) [
  | true ↦ λ is.
      let f = frame_at place (b ∷ bs) in
      let long = whole_long f is in
      let rest = drop (length (frame_bytes f)) (b ∷ bs) in
      let shorter : length rest ≤ length bs = omega (arith, long, length-drop (length (frame_bytes f)) (b ∷ bs)) in
      whole_within m place (b ∷ bs) is
      ∙ ap (together (stored_in_frame (frame_kind f) (blob_at f) f.blob)) (same_fuel m n (frame_end f) rest (omega (arith, shorter, low)) (omega (arith, shorter, high)))
      ∙ sym (whole_within n place (b ∷ bs) is)
  | false ↦ λ is. unfit_within (suc m) place (b ∷ bs) is ∙ sym (unfit_within (suc n) place (b ∷ bs) is)
] refl

pub whole_stored : (place : ℕ) (bytes : List ℕ) → is_whole (frame_at place bytes) ≡ true → stored_from place bytes ≡ then_others stored_from (frame_at place bytes) bytes
unfolding stored_from
whole_stored place bytes is = grind (arith, whole_long (frame_at place bytes) is, same_fuel (length bytes) (suc (length bytes)) place bytes, whole_within (length bytes) place bytes is, same_fuel (length bytes), length-drop (length (frame_bytes (frame_at place bytes))) bytes)

-- ---- bytes that are read

-- after some bytes, a frame more was read
pub stored_on : (packed read rest : List ℕ) (s one : Stored) (place end : ℕ) → stored_from 0 (packed ++ (read ++ rest)) ≡ together s (stored_from place (read ++ rest)) → stored_from place (read ++ rest) ≡ together one (stored_from end rest) → stored_from 0 ((packed ++ read) ++ rest) ≡ together (together s one) (stored_from end rest)
stored_on packed read rest s one place end before more = ap (stored_from 0) (append_assoc packed read rest) ∙ before ∙ ap (together s) more ∙ sym (together_assoc s one (stored_from end rest))

-- the same of what they mean: the bytes before, all of which were supplied, and then the frame
pub carried_on : (packed read rest bytes new : List ℕ) (fault one : Option UnpackFault) (place end : ℕ) → unpacked_from 0 (packed ++ (read ++ rest)) ≡ then_unpacked (bytes ++ [], fault) (unpacked_from place (read ++ rest)) → unpacked_from place (read ++ rest) ≡ then_unpacked (new, one) (unpacked_from end rest)
    → unpacked_from 0 ((packed ++ read) ++ rest) ≡ then_unpacked (bytes ++ new, option_or fault one) (unpacked_from end rest)
carried_on packed read rest bytes new fault one place end before more =
    ap (unpacked_from 0) (append_assoc packed read rest) ∙ before ∙ ap (then_unpacked (bytes ++ [], fault)) more ∙ sym (joined_assoc (bytes ++ [], fault) (new, one) (unpacked_from end rest))
    ∙ ap (λ (l : List ℕ). then_unpacked (l ++ new, option_or fault one) (unpacked_from end rest)) (append-nil bytes)
