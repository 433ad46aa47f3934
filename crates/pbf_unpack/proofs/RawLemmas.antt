-- A raw file without a fault means itself.
use Rattle.std.proofs.Common.{◌≡◌, ℕ, ◌+◌, ◌≤◌, ◌^◌, ◌||◌, Bool, true, false, List, [], ◌∷◌, ◌++◌, length, None, Result, Ok, refl, sym, ap, ◌∙◌, append_assoc, arith}
use Rattle.std.specs.Prelude.{is_ok}
use Rattle.std.proofs.lemmas.Bool.Decides.{nat_tests}
use Rattle.std.proofs.lemmas.List.{append-nil, take_at, drop_at}
use Rattle.pbf_wire.specs.declared.fault.Fault.{Fault}
use Rattle.pbf_wire.proofs.SoundLemmas.{not_wrong, no_least, both_none}
use Rattle.pbf_frame.specs.declared.frame.FrameKind.{FrameKind}
use Rattle.pbf_frame.specs.declared.header.Head.{Head}
use Rattle.pbf_frame.specs.Frames.{FrameSpec, is_header, header_at, blob_at, frame_end, frame_kind, frame_bytes, frame_at}
use Rattle.pbf_frame.specs.Header.{head_says}
use Rattle.pbf_frame.specs.Sound.{IsSoundBlob, IsFrame, AreFrames, had_after, place_after}
use Rattle.pbf_frame.specs.Steps.{head_of}
use Rattle.pbf_frame.specs.Verdict.{joined_frames, judged}
use Rattle.pbf_frame.proofs.BlobLemmas.{blob_steps}
use Rattle.pbf_frame.proofs.FrameLemmas.{head_parts}
use Rattle.pbf_frame.proofs.Longest.{frame_is_next, longest_front}
use Rattle.pbf_frame.proofs.Parting.{FrameParts, next_none, next_parts}
use Rattle.pbf_unpack.specs.Laws.{RawMeansItself}
use Rattle.pbf_unpack.specs.Unpacked.{Unpacked, as_they_stand, unpacked_frame, is_whole, unpacked_from}
use Rattle.pbf_unpack.proofs.UnpackedLemmas.{whole_parts, whole_then, nothing_more}
use Rattle.pbf_unpack.proofs.WholeLemmas.{at_header}

-- ---- a sound blob is raw

stands : (k : FrameKind) (at : ℕ) (frame blob : List ℕ) → IsSoundBlob k at blob → unpacked_frame k at frame blob ≡ as_they_stand frame
stands k at frame blob sound = grind (arith, both_none, blob_steps, no_least)

-- ---- a frame without a fault is whole

last_nil : (xs ys : List Fault) → xs ++ ys ≡ [] → ys ≡ []
last_nil [] ys e = e
last_nil (x ∷ xs) ys e = (let bad : ⊥ = cc in absurd bad)

module _ (had : Bool) (place : ℕ) (f : FrameSpec) (is : IsFrame had place f) where
  pub parts : FrameParts had place (frame_bytes f ++ []) f []
  parts = next_parts had place (frame_bytes f ++ []) f [] (frame_is_next had place f [] is)

  pub says : head_of (header_at f) f.header ≡ Ok parts.head
  says = ap (λ (p : ℕ). head_of (p + 4) f.header) is.offset ∙ parts.header_is.says

  size_is : length f.blob ≡ (head_says (header_at f) f.header).size
  size_is = parts.blob_is.long ∙ (head_parts (header_at f) f.header parts.head says).3

  ends : frame_end f ≤ 2 ^ 62
  ends = grind (arith, nat_tests, no_least, not_wrong, last_nil)

  whole : is_whole f ≡ true
  whole = whole_parts f is.prefix_long (omega (arith, is.spelled, is.short)) (sym is.spelled) (ap (λ (r : Result Head Fault). is_ok r) says) (omega (arith, ends, size_is)) size_is

  at_frame : (rest : List ℕ) → frame_at f.offset (frame_bytes f ++ rest) ≡ f
  at_frame rest = grind (arith, append_assoc (f.prefix ++ f.header) f.blob rest, append_assoc f.prefix f.header (f.blob ++ rest), at_header f.offset f.prefix f.header (f.blob ++ rest) is.prefix_long (sym is.spelled), take_at f.blob rest (head_says (header_at f) f.header).size size_is, size_is)

frames_stand : (had : Bool) (place : ℕ) (fs : List FrameSpec) → AreFrames had place fs → unpacked_from place (joined_frames fs) ≡ as_they_stand (joined_frames fs)
frames_stand had place [] are = nothing_more place
frames_stand had place (f ∷ fs) are = grind (arith, at_frame had place f are.0, whole_then place, whole had place f are.0, stands (frame_kind f) (blob_at f) (frame_bytes f) f.blob, drop_at (frame_bytes f) (joined_frames fs) (length (frame_bytes f)) refl, frames_stand (had || is_header (frame_kind f)) (frame_end f) fs are.1)

-- ---- a file

raw_is_itself : (file : List ℕ) → (judged false 0 file).1 ≡ None → unpacked_from 0 file ≡ as_they_stand file
raw_is_itself file none = grind (arith, longest_front false 0 file, next_none (had_after false ((judged false 0 file).0)) (place_after 0 ((judged false 0 file).0)), append-nil (joined_frames ((judged false 0 file).0)), frames_stand false 0 ((judged false 0 file).0))

pub raw_means_itself : RawMeansItself
raw_means_itself file none = (let is = raw_is_itself file none in (ap (λ (u : Unpacked). u.0) is, ap (λ (u : Unpacked). u.1) is))
