-- Frames without faults make up a file, with a limit of its length or without one; and a file of any length that keeps to a limit has the
-- same frames with it.
use Rattle.std.proofs.Common.{◌≡◌, ℕ, zero, suc, ◌+◌, ◌<◌, ◌≤◌, ◌||◌, ◌==◌, nat_lt, Bool, true, false, cond, List, [], ◌∷◌, ◌++◌, length, take, drop, Option, Some, None, Result, Ok, Err, refl, sym, ap, ◌∙◌, subst, append_assoc, length-append, arith}
use Rattle.std.specs.Prelude.{unwrap_or}
use Rattle.std.proofs.lemmas.Bool.Decides.{nat_tests}
use Rattle.std.proofs.lemmas.List.{take_at, drop_at, length-take, length-drop}
use Rattle.byteorder.specs.Endian.{big_number}
use Rattle.pbf_wire.specs.declared.fault.Fault.{Fault}
use Rattle.pbf_wire.specs.declared.fault.Reason.TheVariants.{NoHeader, BlobCut}
use Rattle.pbf_wire.specs.Faults.{fault, fault_where, leaf_faults}
use Rattle.pbf_wire.specs.Least.{least}
use Rattle.pbf_wire.specs.Phases.{first_fault}
use Rattle.pbf_wire.proofs.FaultLemmas.{leaf_is_wire}
use Rattle.pbf_frame.specs.declared.frame.FrameKind.{FrameKind}
use Rattle.pbf_frame.specs.declared.header.TheConstants.{HEADER_KINDS}
use Rattle.pbf_frame.specs.Blob.{blob_fault}
use Rattle.pbf_frame.specs.Header.{head_says, header_faults}
use Rattle.pbf_frame.specs.Frames.{FrameSpec, is_header, header_at, blob_at, frame_at, frame_kind, frame_bytes, frame_end, cut_faults, order_faults, phases_of_blob, frame_phases, next_within}
use Rattle.pbf_frame.specs.Sound.{IsSoundBlob, IsFrameWithin, AreFramesWithin, had_after}
use Rattle.pbf_frame.specs.Verdict.{with_frame_first, judged_after, judged_fueled, judged_within, joined_frames}
use Rattle.pbf_frame.proofs.Stepping.{given_or}
use Rattle.pbf_wire.proofs.SoundLemmas.{both_none}

-- ---- a frame without a fault is the next

blob_none : (k : FrameKind) (at : ℕ) (blob : List ℕ) → IsSoundBlob k at blob → first_fault (phases_of_blob k at blob) ≡ None
unfolding blob_fault
blob_none k at blob sound = grind arith

-- after four bytes and a header, as these bytes begin
abbrev from_prefix : ℕ → List ℕ → List ℕ → FrameSpec
from_prefix place prefix after =
    let header = take (big_number 4 prefix) after in
    record { offset = place; prefix = prefix; header = header; blob = take (head_says (place + 4) header).size (drop (length header) after) }

abbrev from_header : ℕ → List ℕ → List ℕ → List ℕ → FrameSpec
from_header place prefix header left = record { offset = place; prefix = prefix; header = header; blob = take (head_says (place + 4) header).size left }

module _ (limit : Option ℕ) (h : Bool) (f : FrameSpec) (rest : List ℕ) (is : IsFrameWithin limit h f.offset f) where
  abbrev spelling : List ℕ
  spelling = f.prefix ++ (f.header ++ (f.blob ++ rest))

  size_is : length f.blob ≡ (head_says (header_at f) f.header).size
  size_is = ap (λ (m : Option ℕ). unwrap_or m 0) (sym is.sized)

  at_frame : frame_at f.offset spelling ≡ f
  at_frame =
      let after = f.header ++ (f.blob ++ rest) in
      let counted : length f.header ≡ big_number 4 f.prefix = sym is.spelled in
      ap (λ (p : List ℕ). from_prefix f.offset p (drop 4 spelling)) (take_at f.prefix after 4 is.prefix_long)
      ∙ ap (from_prefix f.offset f.prefix) (drop_at f.prefix after 4 is.prefix_long)
      ∙ ap (λ (l : List ℕ). from_header f.offset f.prefix l (drop (length l) after)) (take_at f.header (f.blob ++ rest) (big_number 4 f.prefix) counted)
      ∙ ap (from_header f.offset f.prefix f.header) (drop_at f.header (f.blob ++ rest) (length f.header) refl)
      ∙ ap (λ (b : List ℕ). record { offset = f.offset; prefix = f.prefix; header = f.header; blob = b }) (take_at f.blob rest (head_says (header_at f) f.header).size size_is)

  cut_none : cut_faults f ≡ []
  cut_none = grind (arith, nat_tests)

  no_fault : first_fault (frame_phases limit h f) ≡ None
  no_fault = grind (arith, nat_tests, size_is, cut_none, leaf_is_wire, blob_none)

  next_at : next_within limit h f.offset (frame_bytes f ++ rest) ≡ Ok (Some f, rest)
  unfolding next_within
  next_at = grind (arith, nat_tests, length-append, append_assoc, at_frame, given_or, no_fault, drop_at)

pub frame_is_next_within : (limit : Option ℕ) (h : Bool) (p : ℕ) (f : FrameSpec) (rest : List ℕ) → IsFrameWithin limit h p f → next_within limit h p (frame_bytes f ++ rest) ≡ Ok (Some f, rest)
frame_is_next_within limit h p f rest is = grind (arith, next_at)

-- ---- frames without faults, and nothing after them

nothing_next : (limit : Option ℕ) (h : Bool) (p : ℕ) → h ≡ true → next_within limit h p [] ≡ Ok (None, [])
unfolding next_within
nothing_next limit h p had = rw had refl

judged_frames : (fs : List FrameSpec) (limit : Option ℕ) (n : ℕ) (h : Bool) (p : ℕ) → length fs < n → AreFramesWithin limit h p fs → had_after h fs ≡ true → judged_fueled limit n h p (joined_frames fs) ≡ (fs, None)
unfolding judged_fueled
judged_frames fs limit zero h p low are had = absurd (omega (arith, low))
judged_frames [] limit (suc n) h p low are had = ap (judged_after (judged_fueled limit n) h) (nothing_next limit h p had)
judged_frames (f ∷ fs) limit (suc n) h p low are had = grind (arith, frame_is_next_within, judged_frames fs limit n (h || is_header (frame_kind f)) (frame_end f) (omega (arith, low)) are.1 had)

few_frames : (fs : List FrameSpec) (limit : Option ℕ) (h : Bool) (p : ℕ) → AreFramesWithin limit h p fs → length fs ≤ length (joined_frames fs)
few_frames [] limit h p are = omega arith
few_frames (f ∷ fs) limit h p are = grind (arith, length-append, few_frames fs limit (h || is_header (frame_kind f)) (frame_end f) are.1)

-- they are all that there is
pub whole_file : (limit : Option ℕ) (h : Bool) (p : ℕ) (fs : List FrameSpec) → AreFramesWithin limit h p fs → had_after h fs ≡ true → judged_within limit h p (joined_frames fs) ≡ (fs, None)
unfolding judged_within
whole_file limit h p fs are had = judged_frames fs limit (length (joined_frames fs) + 1) h p (omega (arith, few_frames fs limit h p are)) are had

-- ---- a limit that is kept

abbrev Found : Type 0
Found = Option FrameSpec × List ℕ

err_ok : (e : Fault) (x : Found) → ◌≡◌ {A = Result Found Fault} (Err e) (Ok x) → ⊥
err_ok e x is = cc

ok_same : (x y : Found) → ◌≡◌ {A = Result Found Fault} (Ok x) (Ok y) → x ≡ y
ok_same x y e = cc

first_and_fifth : (a b c d e : List Fault) (late : List (List Fault)) → first_fault (a ∷ b ∷ c ∷ d ∷ e ∷ late) ≡ None → (least a ≡ None) × (least e ≡ None)
first_and_fifth a b c d e late none =
    let one = both_none (least a) (first_fault (b ∷ c ∷ d ∷ e ∷ late)) none in
    let two = both_none (least b) (first_fault (c ∷ d ∷ e ∷ late)) one.1 in
    let three = both_none (least c) (first_fault (d ∷ e ∷ late)) two.1 in
    let four = both_none (least d) (first_fault (e ∷ late)) three.1 in
    (one.0, (both_none (least e) (first_fault late) four.1).0)

ordered_same : (limit : ℕ) (h : Bool) (p : ℕ) (k : FrameKind) (last : ℕ) → last ≤ limit → order_faults (Some limit) h p k last ≡ order_faults None h p k last
ordered_same limit h p k last low = grind (arith, nat_tests)

-- the next frame of bytes that keep to the limit, which has no fault without it
module _ (limit : ℕ) (h : Bool) (p : ℕ) (bytes : List ℕ) (low : p + length bytes ≤ limit) where
  abbrev f : FrameSpec
  f = frame_at p bytes

  abbrev size : ℕ
  size = (head_says (header_at f) f.header).size

  -- without a fault it is all there
  record IsThere : Type 0 where
    room : frame_end f + length (drop (length (frame_bytes f)) bytes) ≡ p + length bytes
    whole : size ≤ length f.blob

  is_there : first_fault (frame_phases None h f) ≡ None → IsThere
  is_there none =
      let (cut, sized) = first_and_fifth (cut_faults f) (leaf_faults HEADER_KINDS f.offset (header_at f) f.header) (header_faults (header_at f) f.header) (order_faults None h f.offset (frame_kind f) (blob_at f + size))
      (fault_where (nat_lt (length f.blob) size) (blob_at f) BlobCut) (phases_of_blob (frame_kind f) (blob_at f) f.blob) none in
      let long : nat_lt (length f.prefix) 4 ≡ false = grind (arith, cut) in
      let enough : nat_lt (length f.blob) size ≡ false = grind (arith, sized) in
      let wide : 4 ≤ length f.prefix = grind (arith, nat_tests, long) in
      let whole : size ≤ length f.blob = grind (arith, nat_tests, enough) in
      let prefix = length-take 4 bytes in
      let four : length f.prefix ≡ 4 = omega (arith, wide, prefix) in
      let header = length-take (big_number 4 f.prefix) (drop 4 bytes) in
      let blob = length-take size (drop (length f.header) (drop 4 bytes)) in
      let room : frame_end f + length (drop (length (frame_bytes f)) bytes) ≡ p + length bytes =
      omega (arith, four, prefix, header, blob, length-drop 4 bytes, length-drop (length f.header) (drop 4 bytes), length-drop (length (frame_bytes f)) bytes, length-append (f.prefix ++ f.header) f.blob, length-append f.prefix f.header) in
      record { room = room; whole = whole }

  phases_same : first_fault (frame_phases None h f) ≡ None → frame_phases (Some limit) h f ≡ frame_phases None h f
  phases_same none = grind (arith, is_there, ordered_same)

  -- the bytes after the next frame keep to the limit too
  abbrev Room : Found → Type 0
  Room (None, rest) = Unit {0}
  Room (Some g, rest) = frame_end g + length rest ≤ limit

  record IsSame (x : Found) : Type 0 where
    same : next_within (Some limit) h p bytes ≡ Ok x
    room : Room x

  ended_is : (any : Option ℕ) → (length bytes == 0) ≡ true → next_within any h p bytes ≡ cond {A = Result Found Fault} h (Ok (None, [])) (Err (fault p NoHeader))
  unfolding next_within
  ended_is any is = rw is refl

  some_is : (any : Option ℕ) → (length bytes == 0) ≡ false → next_within any h p bytes ≡ given_or (first_fault (frame_phases any h f)) f bytes
  unfolding next_within
  some_is any is = rw is refl

  same_ended : (b : Bool) (x : Found) → cond {A = Result Found Fault} b (Ok (None, [])) (Err (fault p NoHeader)) ≡ Ok x → next_within (Some limit) h p bytes ≡ Ok x → IsSame x
  same_ended true x e same = record { same = same; room = subst Room (ok_same (None, []) x e) tt }
  same_ended false x e same = absurd (err_ok (fault p NoHeader) x e)

  same_given : (o : Option Fault) (x : Found) → first_fault (frame_phases None h f) ≡ o → given_or o f bytes ≡ Ok x → (length bytes == 0) ≡ false → IsSame x
  same_given (Some e) x is gives some = absurd (err_ok e x gives)
  same_given None x is gives some =
      let given : Found = (Some f, drop (length (frame_bytes f)) bytes) in
      let there = is_there is in
      let same : next_within (Some limit) h p bytes ≡ Ok given =
      some_is (Some limit) some ∙ ap (λ (phases : List (List Fault)). given_or (first_fault phases) f bytes) (phases_same is) ∙ ap (λ (o : Option Fault). given_or o f bytes) is in
      subst IsSame (ok_same given x gives) record { same = same; room = omega (arith, low, there.room) }

  next_same : (b : Bool) (x : Found) → (length bytes == 0) ≡ b → next_within None h p bytes ≡ Ok x → IsSame x
  next_same true x is e = same_ended h x (sym (ended_is None is) ∙ e) (ended_is (Some limit) is ∙ sym (ended_is None is) ∙ e)
  next_same false x is e = same_given (first_fault (frame_phases None h f)) x refl (sym (some_is None is) ∙ e) is

module _ (n limit : ℕ) (h : Bool) (p : ℕ) (bytes : List ℕ) (low : p + length bytes ≤ limit)
    (later : (h' : Bool) (p' : ℕ) (rest : List ℕ) → p' + length rest ≤ limit → (judged_fueled None n h' p' rest).1 ≡ None → judged_fueled (Some limit) n h' p' rest ≡ judged_fueled None n h' p' rest) where
  same_step : (r : Result Found Fault) → next_within None h p bytes ≡ r → (judged_after (judged_fueled None n) h r).1 ≡ None
      → judged_after (judged_fueled (Some limit) n) h (next_within (Some limit) h p bytes) ≡ judged_after (judged_fueled None n) h r
  same_step (Err e) is none = (let bad : ⊥ = cc in absurd bad)
  same_step (Ok (None, rest)) is none = ap (judged_after (judged_fueled (Some limit) n) h) (next_same limit h p bytes low (length bytes == 0) (None, rest) refl is).same
  same_step (Ok (Some f, rest)) is none =
      let next = next_same limit h p bytes low (length bytes == 0) (Some f, rest) refl is in
      ap (judged_after (judged_fueled (Some limit) n) h) next.same ∙ ap (with_frame_first f) (later (h || is_header (frame_kind f)) (frame_end f) rest next.room none)

same_fueled : (n limit : ℕ) (h : Bool) (p : ℕ) (bytes : List ℕ) → p + length bytes ≤ limit → (judged_fueled None n h p bytes).1 ≡ None → judged_fueled (Some limit) n h p bytes ≡ judged_fueled None n h p bytes
unfolding judged_fueled
same_fueled zero limit h p bytes low none = refl
same_fueled (suc n) limit h p bytes low none = same_step n limit h p bytes low (λ h' p' rest. same_fueled n limit h' p' rest) (next_within None h p bytes) refl none

-- bytes that keep to a limit and have no fault without it have the same verdict with it
pub same_within : (limit : ℕ) (h : Bool) (p : ℕ) (bytes : List ℕ) → p + length bytes ≤ limit → (judged_within None h p bytes).1 ≡ None → judged_within (Some limit) h p bytes ≡ judged_within None h p bytes
unfolding judged_within
same_within limit h p bytes low none = same_fueled (length bytes + 1) limit h p bytes low none
