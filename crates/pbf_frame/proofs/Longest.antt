-- Frames without faults, and the longest list of them.
use Rattle.std.proofs.Common.{◌≡◌, ℕ, zero, suc, ◌+◌, ◌<◌, ◌||◌, ◌==◌, nat_lt, nat_le, Bool, false, List, [], ◌∷◌, ◌++◌, length, take, Option, Some, None, Result, Ok, Err, refl, sym, ap, ◌∙◌, subst, append_assoc, length-append, arith}
use Rattle.std.specs.Prelude.{is_none, unwrap_or}
use Rattle.std.proofs.lemmas.Bool.Decides.{nat_tests}
use Rattle.std.proofs.lemmas.List.{take_at, drop_at}
use Rattle.byteorder.specs.Endian.{big_number}
use Rattle.pbf_wire.specs.declared.fault.Fault.{Fault}
use Rattle.pbf_wire.specs.declared.fault.Reason.TheVariants.{Missing}
use Rattle.pbf_wire.specs.Faults.{fault_where}
use Rattle.pbf_wire.specs.Least.{least}
use Rattle.pbf_wire.specs.Occurrence.{Occurrence, items, found}
use Rattle.pbf_wire.specs.Reading.{last_of}
use Rattle.pbf_frame.specs.declared.frame.FrameKind.{FrameKind}
use Rattle.pbf_frame.specs.declared.header.TheConstants.{TYPE, DATASIZE, HEADER_LIMIT}
use Rattle.pbf_frame.specs.Header.{header_faults, int32_held, size_within, size_of, size_faults}
use Rattle.pbf_frame.specs.declared.frame.TheConstants.{FILE_LIMIT}
use Rattle.pbf_frame.specs.Frames.{FrameSpec, is_header, header_at, blob_at, frame_kind, frame_bytes, frame_end, order_faults, next_of}
use Rattle.pbf_frame.specs.Verdict.{Verdict, with_all, judged_after, judged, joined_frames}
use Rattle.pbf_frame.specs.Sound.{IsSoundBlob, IsFrame, AreFrames, had_after, place_after, EndsAs, IsLongestFront}
use Rattle.pbf_frame.specs.Steps.{prefix_at}
use Rattle.pbf_frame.proofs.AnyLength.{frame_is_next_within}
use Rattle.pbf_frame.proofs.FrameLemmas.{head_parts}
use Rattle.pbf_frame.proofs.Parting.{FrameParts, next_parts, next_split, next_none}
use Rattle.pbf_frame.proofs.Judging.{judged_step, judged_some}
use Rattle.pbf_wire.proofs.SoundLemmas.{no_least}

-- ---- one frame

-- a header without faults names a size
sized : (at : ℕ) (front : List Fault) (last : Option Occurrence) → front ++ fault_where (is_none last) at (Missing DATASIZE) ++ size_faults last ≡ [] → size_of last ≡ Some (unwrap_or (size_of last) 0)
sized at front None e = absurd (never front _ e) where
  never : (front : List Fault) (x : Fault) → (front ++ x ∷ []) ++ [] ≡ [] → ⊥
  never [] x e = cc
  never (y ∷ ys) x e = cc
sized at front (Some o) e = cases (size_within (int32_held o.content)) refl where
  never : (front : List Fault) (x : Fault) → (front ++ []) ++ x ∷ [] ≡ [] → ⊥
  never [] x e = cc
  never (y ∷ ys) x e = cc

  cases : (s : Option ℕ) → size_within (int32_held o.content) ≡ s → size_within (int32_held o.content) ≡ Some (unwrap_or (size_within (int32_held o.content)) 0)
  cases (Some n) is = is ∙ ap (λ (m : Option ℕ). Some (unwrap_or m 0)) (sym is)
  cases None is = absurd (never front _ (rw (is) at e))

pub frame_at : (h : Bool) (bytes : List ℕ) (f : FrameSpec) (rest : List ℕ) → FrameParts h f.offset bytes f rest → IsFrame h f.offset f
frame_at h bytes f rest parts =
    let says = head_parts (header_at f) f.header parts.head parts.header_is.says in
    let last = last_of DATASIZE (found (items (header_at f) f.header)) in
    let size : length f.blob ≡ unwrap_or (size_of last) 0 = parts.blob_is.long ∙ says.3 in
    record {
      offset = refl;
      prefix_long = parts.prefix_long;
      spelled = sym parts.header_is.long;
      short = subst (λ (n : ℕ). n < HEADER_LIMIT) (sym parts.header_is.long) parts.small;
      wired = says.0;
      whole = says.1;
      sized = sized (header_at f) (fault_where (is_none (last_of TYPE (found (items (header_at f) f.header)))) (header_at f) (Missing TYPE)) last (no_least (header_faults (header_at f) f.header) says.1) ∙ ap Some (sym size);
      ordered = ap (λ (k : FrameKind). least (order_faults (Some FILE_LIMIT) h f.offset k (frame_end f))) (sym says.2) ∙ ap (λ (n : ℕ). least (order_faults (Some FILE_LIMIT) h f.offset parts.head.kind (blob_at f + n))) parts.blob_is.long ∙ parts.header_is.ordered;
      sound = subst (λ (k : FrameKind). IsSoundBlob k (blob_at f) f.blob) says.2 parts.blob_is.sound;
    }

pub next_is_frame : (h : Bool) (p : ℕ) (bytes : List ℕ) (f : FrameSpec) (rest : List ℕ) → next_of h p bytes ≡ Ok (Some f, rest) → IsFrame h p f
next_is_frame h p bytes f rest e =
    let parts = next_parts h p bytes f rest e in
    subst (λ (n : ℕ). IsFrame h n f) parts.offset (frame_at h bytes f rest (subst (λ (n : ℕ). FrameParts h n bytes f rest) (sym parts.offset) parts))

pub prefix_whole : (h : Bool) (p : ℕ) (prefix left : List ℕ) → length prefix ≡ 4 → big_number 4 prefix < HEADER_LIMIT → prefix_at h p (prefix ++ left) ≡ Ok (Some prefix, left)
unfolding prefix_at
prefix_whole h p prefix left long small =
    let some : (length (prefix ++ left) == 0) ≡ false = grind (arith, nat_tests, length-append prefix left, long) in
    let front : take 4 (prefix ++ left) ≡ prefix = take_at prefix left 4 long in
    let enough : nat_lt (length prefix) 4 ≡ false = grind (arith, nat_tests, long) in
    let below : nat_le HEADER_LIMIT (big_number 4 prefix) ≡ false = grind (arith, nat_tests, small) in
    rw (some, front, enough, below, drop_at prefix left 4 long) refl

pub frame_is_next : (h : Bool) (p : ℕ) (f : FrameSpec) (rest : List ℕ) → IsFrame h p f → next_of h p (frame_bytes f ++ rest) ≡ Ok (Some f, rest)
frame_is_next h p f rest is = frame_is_next_within (Some FILE_LIMIT) h p f rest is

-- ---- all frames

pub frames_then_rest : (h : Bool) (p : ℕ) (fs : List FrameSpec) (rest : List ℕ) → AreFrames h p fs → judged h p (joined_frames fs ++ rest) ≡ with_all fs (judged (had_after h fs) (place_after p fs) rest)
frames_then_rest h p [] rest are = refl
frames_then_rest h p (f ∷ fs) rest are = grind (arith, append_assoc, judged_some, frame_is_next, frames_then_rest (h || is_header (frame_kind f)) (frame_end f) fs rest are.1)

-- everything except that no list is longer
pub record IsFrontOf (h : Bool) (p : ℕ) (bytes : List ℕ) (verdict : Verdict) : Type 0 where
  pub rest : List ℕ
  pub split : bytes ≡ joined_frames verdict.0 ++ rest
  pub frames : AreFrames h p verdict.0
  pub ends : EndsAs (next_of (had_after h verdict.0) (place_after p verdict.0) rest) verdict.1

front_step : (h : Bool) (p : ℕ) (bytes : List ℕ) → ((h' : Bool) (p' : ℕ) (rest : List ℕ) → length rest < length bytes → IsFrontOf h' p' rest (judged h' p' rest)) → IsFrontOf h p bytes (judged h p bytes)
front_step h p bytes later = cases (next_of h p bytes) refl where
  cases : (r : Result (Option FrameSpec × List ℕ) Fault) → next_of h p bytes ≡ r → IsFrontOf h p bytes (judged h p bytes)
  cases (Err e) is =
      let eq = judged_step h p bytes ∙ ap (judged_after judged h) is in
      subst (IsFrontOf h p bytes) (sym eq) record { rest = bytes; split = refl; frames = tt; ends = is }
  cases (Ok (None, rest)) is =
      let eq = judged_step h p bytes ∙ ap (judged_after judged h) is in
      subst (IsFrontOf h p bytes) (sym eq) record { rest = bytes; split = refl; frames = tt; ends = is ∙ ap (λ (l : List ℕ). Ok (None, l)) (next_none h p bytes rest is).1 }
  cases (Ok (Some f, rest)) is =
      let split = next_split h p bytes f rest is in
      let shorter : length rest < length bytes = omega (arith, split.1, ap length split.0 ∙ length-append (frame_bytes f) rest) in
      let h2 = h || is_header (frame_kind f) in
      let front = later h2 (frame_end f) rest shorter in
      subst (IsFrontOf h p bytes) (sym (judged_some h p bytes f rest is)) record {
        rest = front.rest;
        split = split.0 ∙ ap (λ l. frame_bytes f ++ l) front.split ∙ sym (append_assoc (frame_bytes f) (joined_frames (judged h2 (frame_end f) rest).0) front.rest);
        frames = (next_is_frame h p bytes f rest is, front.frames);
        ends = front.ends;
      }

front_within : (n : ℕ) (h : Bool) (p : ℕ) (bytes : List ℕ) → length bytes < n → IsFrontOf h p bytes (judged h p bytes)
front_within zero h p bytes low = absurd (omega (arith, low))
front_within (suc n) h p bytes low = front_step h p bytes (λ h' p' rest shorter. front_within n h' p' rest (omega (arith, low, shorter)))

pub longest_front : (h : Bool) (p : ℕ) (bytes : List ℕ) → IsLongestFront h p bytes (judged h p bytes)
longest_front h p bytes =
    let front = front_within (length bytes + 1) h p bytes (omega arith) in
    record {
      rest = front.rest;
      split = front.split;
      frames = front.frames;
      ends = front.ends;
      longest = λ fs more are begins.
          ((judged (had_after h fs) (place_after p fs) more).0, ap (λ (v : Verdict). v.0) (ap (judged h p) begins ∙ frames_then_rest h p fs more are));
    }
