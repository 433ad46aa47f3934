-- What a frame without a fault is.
use Rattle.std.specs.Prelude.{◌≡◌, ℕ, ◌<◌, List, [], ◌∷◌, ◌++◌, Bool, ◌||◌, Option, Some, None, Result, Ok, Err, length}
use Rattle.pbf_wire.specs.declared.fault.Fault.{Fault}
use Rattle.byteorder.specs.Endian.{big_number}
use Rattle.pbf_wire.specs.Least.{least}
use Rattle.pbf_wire.specs.Occurrence.{items, found}
use Rattle.pbf_wire.specs.Reading.{last_of}
use Rattle.pbf_wire.specs.Wire.{wire}
use Rattle.pbf_frame.specs.declared.frame.FrameKind.{FrameKind}
use Rattle.pbf_frame.specs.declared.frame.FrameKind.TheVariants as kind
use Rattle.pbf_frame.specs.declared.header.TheConstants.{DATASIZE, HEADER_KINDS, HEADER_LIMIT}
use Rattle.pbf_frame.specs.Header.{header_faults, size_of}
use Rattle.pbf_frame.specs.Blob.{blob_fault}
use Rattle.pbf_frame.specs.declared.frame.TheConstants.{FILE_LIMIT}
use Rattle.pbf_frame.specs.Frames.{FrameSpec, is_header, header_at, blob_at, frame_kind, frame_end, order_faults, next_of}
use Rattle.pbf_frame.specs.Verdict.{Verdict, joined_frames}

-- a blob that is read has no fault
abbrev pub IsSoundBlob : FrameKind → ℕ → List ℕ → Type 0
IsSoundBlob kind.Header at blob = blob_fault at blob ≡ None
IsSoundBlob kind.Data at blob = blob_fault at blob ≡ None
IsSoundBlob kind.Other at blob = Unit {0}

-- a frame without a fault at this place, whether a header frame came before or not, with a limit of the length of all bytes or without one
pub record IsFrameWithin (limit : Option ℕ) (had_header : Bool) (place : ℕ) (f : FrameSpec) : Type 0 where
  pub offset : f.offset ≡ place
  pub prefix_long : length f.prefix ≡ 4
  pub spelled : big_number 4 f.prefix ≡ length f.header
  pub short : length f.header < HEADER_LIMIT
  pub wired : wire HEADER_KINDS (items (header_at f) f.header) ≡ None
  pub whole : least (header_faults (header_at f) f.header) ≡ None
  pub sized : size_of (last_of DATASIZE (found (items (header_at f) f.header))) ≡ Some (length f.blob)
  pub ordered : least (order_faults limit had_header place (frame_kind f) (frame_end f)) ≡ None
  pub sound : IsSoundBlob (frame_kind f) (blob_at f) f.blob

-- the same of a file's frame
abbrev pub IsFrame : Bool → ℕ → FrameSpec → Type 0
IsFrame = IsFrameWithin (Some FILE_LIMIT)

-- frames without faults, one after the other, the first at this place
abbrev pub AreFramesWithin : Option ℕ → Bool → ℕ → List FrameSpec → Type 0
AreFramesWithin limit had_header place [] = Unit {0}
AreFramesWithin limit had_header place (f ∷ fs) = IsFrameWithin limit had_header place f × AreFramesWithin limit (had_header || is_header (frame_kind f)) (frame_end f) fs

abbrev pub AreFrames : Bool → ℕ → List FrameSpec → Type 0
AreFrames = AreFramesWithin (Some FILE_LIMIT)

-- whether a header frame came before what follows them
abbrev pub had_after : Bool → List FrameSpec → Bool
had_after had_header [] = had_header
had_after had_header (f ∷ fs) = had_after (had_header || is_header (frame_kind f)) fs

-- where they end
abbrev pub place_after : ℕ → List FrameSpec → ℕ
place_after place [] = place
place_after place (f ∷ fs) = place_after (frame_end f) fs

-- what follows them: nothing, or a faulty frame, or the end of an input without a header
abbrev pub EndsAs : Result (Option FrameSpec × List ℕ) Fault → Option Fault → Type 0
EndsAs next None = next ≡ Ok (None, [])
EndsAs next (Some e) = next ≡ Err e

-- the frames of the verdict are the longest list of frames without faults whose spellings, joined, begin the bytes
pub record IsLongestFront (had_header : Bool) (place : ℕ) (bytes : List ℕ) (verdict : Verdict) : Type 0 where
  pub rest : List ℕ
  pub split : bytes ≡ joined_frames verdict.0 ++ rest
  pub frames : AreFrames had_header place verdict.0
  pub ends : EndsAs (next_of (had_after had_header verdict.0) (place_after place verdict.0) rest) verdict.1
  pub longest : (fs : List FrameSpec) (more : List ℕ) → AreFrames had_header place fs → bytes ≡ joined_frames fs ++ more → (later : List FrameSpec) × (verdict.0 ≡ fs ++ later)
