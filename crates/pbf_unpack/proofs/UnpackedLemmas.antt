-- The raw file that a file means, frame by frame.
use Rattle.std.proofs.Common.{◌≡◌, ℕ, zero, suc, ◌+◌, ◌<◌, ◌≤◌, ◌^◌, ◌==◌, nat_lt, nat_le, Bool, true, false, List, [], ◌∷◌, ◌++◌, length, drop, refl, sym, ap, ◌∙◌, append_assoc, length-append, arith}
use Rattle.std.specs.Prelude.{is_ok}
use Rattle.std.proofs.lemmas.List.{append-nil, length-drop}
use Rattle.std.proofs.lemmas.Bool.Decides.{nat_tests}
use Rattle.byteorder.specs.Endian.{big_number}
use Rattle.pbf_frame.specs.declared.header.TheConstants.{HEADER_LIMIT}
use Rattle.pbf_frame.specs.Frames.{FrameSpec, header_at, blob_at, frame_end, frame_kind, frame_bytes, frame_at}
use Rattle.pbf_frame.specs.Header.{head_says}
use Rattle.pbf_frame.specs.Steps.{head_of}
use Rattle.pbf_unpack.specs.Unpacked.{Unpacked, then_unpacked, as_they_stand, unpacked_frame, is_whole, unpacked_within, unpacked_from}

-- ---- joining

pub joined_assoc : (a b c : Unpacked) → then_unpacked (then_unpacked a b) c ≡ then_unpacked a (then_unpacked b c)
joined_assoc a b c = grind (arith, append_assoc)

pub joined_nothing : (a : Unpacked) → then_unpacked (as_they_stand []) a ≡ a
joined_nothing (xs, e) = refl

pub joined_end : (a : Unpacked) → then_unpacked a (as_they_stand []) ≡ a
joined_end a = grind (arith, append-nil)

-- no bytes mean none
pub nothing_more : (place : ℕ) → unpacked_from place [] ≡ as_they_stand []
unfolding unpacked_from unpacked_within
nothing_more place = refl

-- ---- what makes a frame none

module _ (f : FrameSpec) where
  abbrev size : ℕ
  size = (head_says (header_at f) f.header).size

  abbrev said : Bool
  said = is_ok (head_of (header_at f) f.header)

  pub without_prefix : nat_lt (length f.prefix) 4 ≡ true → is_whole f ≡ false
  without_prefix is = rw is refl

  pub with_long_header : nat_lt (length f.prefix) 4 ≡ false → nat_le HEADER_LIMIT (big_number 4 f.prefix) ≡ true → is_whole f ≡ false
  with_long_header four is = rw (four, is) refl

  pub without_header : nat_lt (length f.prefix) 4 ≡ false → nat_le HEADER_LIMIT (big_number 4 f.prefix) ≡ false → nat_lt (length f.header) (big_number 4 f.prefix) ≡ true → is_whole f ≡ false
  without_header four small is = rw (four, small, is) refl

  pub without_head : said ≡ false → is_whole f ≡ false
  without_head is = grind arith

  pub too_far : nat_le (blob_at f + size) (2 ^ 62) ≡ false → is_whole f ≡ false
  too_far is = grind arith

  pub without_blob : (length f.blob == size) ≡ false → is_whole f ≡ false
  without_blob is = grind arith

  -- a frame of which all is there is whole
  pub whole_parts : length f.prefix ≡ 4 → big_number 4 f.prefix < HEADER_LIMIT → length f.header ≡ big_number 4 f.prefix → said ≡ true → blob_at f + size ≤ 2 ^ 62 → length f.blob ≡ size → is_whole f ≡ true
  whole_parts four small counted says fits sized = grind (arith, nat_tests)

  -- a whole frame has four bytes at least
  pub whole_long : is_whole f ≡ true → 4 ≤ length (frame_bytes f)
  whole_long whole = grind (arith, nat_tests, without_prefix, length-append (f.prefix ++ f.header) f.blob, length-append f.prefix f.header)

-- ---- bytes that begin no whole frame

unfit_within : (n place : ℕ) (bytes : List ℕ) → is_whole (frame_at place bytes) ≡ false → unpacked_within n place bytes ≡ as_they_stand bytes
unfolding unpacked_within
unfit_within n place bytes h1 = grind arith

pub unfit : (place : ℕ) (bytes : List ℕ) → is_whole (frame_at place bytes) ≡ false → unpacked_from place bytes ≡ as_they_stand bytes
unfolding unpacked_from
unfit place bytes is = unfit_within (length bytes) place bytes is

-- ---- a whole frame

abbrev then_others : (ℕ → List ℕ → Unpacked) → FrameSpec → List ℕ → Unpacked
then_others others f bytes = then_unpacked (unpacked_frame (frame_kind f) (blob_at f) (frame_bytes f) f.blob) (others (frame_end f) (drop (length (frame_bytes f)) bytes))

whole_within : (n place : ℕ) (bytes : List ℕ) → is_whole (frame_at place bytes) ≡ true → unpacked_within (suc n) place bytes ≡ then_others (unpacked_within n) (frame_at place bytes) bytes
unfolding unpacked_within
whole_within n place bytes is = rw is refl

-- enough fuel is enough
same_fuel : (m n place : ℕ) (bytes : List ℕ) → length bytes ≤ m → length bytes ≤ n → unpacked_within m place bytes ≡ unpacked_within n place bytes
same_fuel m n place [] low high = unfit_within m place [] refl ∙ sym (unfit_within n place [] refl)
same_fuel zero n place (b ∷ bs) low high = absurd (omega (arith, low))
same_fuel (suc m) zero place (b ∷ bs) low high = absurd (omega (arith, high))
same_fuel (suc m) (suc n) place (b ∷ bs) low high = elim (is_whole (frame_at place (b ∷ bs))) as (λ w. is_whole (frame_at place (b ∷ bs)) ≡ w → unpacked_within (suc m) place (b ∷ bs) ≡ unpacked_within (suc n) place (b ∷ bs)) [
  | true ↦ λ is.
      let f = frame_at place (b ∷ bs) in
      let long = whole_long f is in
      let rest = drop (length (frame_bytes f)) (b ∷ bs) in
      let shorter : length rest ≤ length bs = omega (arith, long, length-drop (length (frame_bytes f)) (b ∷ bs)) in
      whole_within m place (b ∷ bs) is
      ∙ ap (then_unpacked (unpacked_frame (frame_kind f) (blob_at f) (frame_bytes f) f.blob)) (same_fuel m n (frame_end f) rest (omega (arith, shorter, low)) (omega (arith, shorter, high)))
      ∙ sym (whole_within n place (b ∷ bs) is)
  | false ↦ λ is. unfit_within (suc m) place (b ∷ bs) is ∙ sym (unfit_within (suc n) place (b ∷ bs) is)
] refl

pub whole_then : (place : ℕ) (bytes : List ℕ) → is_whole (frame_at place bytes) ≡ true → unpacked_from place bytes ≡ then_others unpacked_from (frame_at place bytes) bytes
unfolding unpacked_from
whole_then place bytes is = grind (arith, whole_long (frame_at place bytes) is, same_fuel (length bytes) (suc (length bytes)) place bytes, whole_within (length bytes) place bytes is, same_fuel (length bytes), length-drop (length (frame_bytes (frame_at place bytes))) bytes)
