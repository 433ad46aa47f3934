-- What a call that reads from a feed gives.
use Rattle.std.specs.Prelude.{◌≡◌, ◌≤◌, ◌+◌, ℕ, Bool, true, List, [], Option, Some, None, Result, Ok, IfOk, IfErr, take, drop, length}
use Rattle.pbf_wire.specs.declared.fault.Fault.{Fault}
use Rattle.pbf_frame.specs.declared.device.Feed as feed
use Rattle.pbf_frame.specs.declared.frame.FrameKind.{FrameKind}
use Rattle.pbf_frame.specs.declared.frame.FrameKind.TheVariants as kind
use Rattle.pbf_frame.specs.declared.frame_parts.BufferedFrame.{BufferedFrame}
use Rattle.pbf_frame.specs.declared.stop.Stop.{Stop}
use Rattle.pbf_frame.specs.declared.stop.Stop.TheVariants.{Refused, Read, Write, Memory}
use Rattle.pbf_frame.specs.Devices.{HasRisen, IsAtEnd, Passes, prepend}
use Rattle.pbf_frame.specs.Keeps.{KeepsFeed}
use Rattle.pbf_frame.specs.Blob.{blob_fault}
use Rattle.pbf_frame.specs.Refusals.{RefusedFrom}
use Rattle.pbf_frame.specs.Frames.{FrameSpec, blob_at, frame_kind, frame_bytes, next_of}
use Rattle.pbf_frame.specs.Sound.{IsFrame}
use Rattle.pbf_frame.specs.Steps.{blob_of}
use Rattle.pbf_frame.specs.declared.frame.TheConstants.{FILE_LIMIT}

-- what was read is the first n bytes, or all if there are fewer, and the others are left
pub record ReadsBytes (old new : Option (List ℕ)) (n : ℕ) (read : List ℕ) : Type 0 where
  pub front : (bytes : List ℕ) → old ≡ Some bytes → (read ≡ take n bytes) × (new ≡ Some (drop n bytes))
  pub untold : old ≡ None → new ≡ None

-- if the feed reports its bytes, this is what f gives of them, and the feed is left at the bytes after it
abbrev pub Gives : {A : Type 0} → A → Option (List ℕ) → Option (List ℕ) → (List ℕ → Result (A × List ℕ) Fault) → Type 0
Gives a old new f = (bytes : List ℕ) → old ≡ Some bytes → (rest : List ℕ) × (f bytes ≡ Ok (a, rest)) × (new ≡ Some rest)

-- a call that only reads bytes stops for a failed read, or for want of memory
abbrev pub IsFillStop : ℕ → ℕ → Stop → Type 0
IsFillStop old new Read = HasRisen old new
IsFillStop old new Memory = Unit {0}
IsFillStop _ _ _ = ⊥

-- such a call stops so, and keeps what else the feed has
pub record FillsFrom {F X : Type 0} (f : feed.Ghosts F) (old new : F) (result : Result X Stop) : Type 0 where
  pub stops : IfErr result (IsFillStop (f.failures old) (f.failures new))
  pub keeps : KeepsFeed f old new

-- a call that only writes stops for a failed write
abbrev pub IsWriteStop : ℕ → ℕ → Stop → Type 0
IsWriteStop old new Write = HasRisen old new
IsWriteStop _ _ _ = ⊥

-- a reader's stop names the feed only if its count of failures rose, and never a drain
abbrev pub IsReaderStop : ℕ → ℕ → Stop → Type 0
IsReaderStop old new (Refused f) = Unit {0}
IsReaderStop old new Read = HasRisen old new
IsReaderStop old new Memory = Unit {0}
IsReaderStop _ _ _ = ⊥

-- a call that reads frames stops for such a cause
pub record UsesFeed {F X : Type 0} (f : feed.Ghosts F) (old new : F) (result : Result X Stop) : Type 0 where
  pub stops : IfErr result (IsReaderStop (f.failures old) (f.failures new))
  pub keeps : KeepsFeed f old new

-- a call that reads a part of the file gives it, or refuses it, as f does of the same bytes
pub record ReadsPart {F X A : Type 0} (f : feed.Ghosts F) (part : List ℕ → Result (A × List ℕ) Fault) (value : X → A) (old new : F) (result : Result X Stop) : Type 0 where
  pub given : IfOk result (λ x. Gives (value x) (f.remaining old) (f.remaining new) part)
  pub refused : IfErr result (RefusedFrom f part old new)
  pub uses : UsesFeed f old new result

-- this many bytes are gone
pub record Skips (before now : ℕ → List ℕ → Type 0) (old new : Option (List ℕ)) (count : ℕ) : Type 0 where
  pub skipped : List ℕ
  pub long : length skipped ≡ count
  pub gone : old ≡ prepend skipped new
  pub passed : Passes before skipped now

-- what the blob buffer has of a blob without a fault: all, but nothing of one of another type
abbrev pub BufferHolds : FrameKind → ℕ → List ℕ → List ℕ → Type 0
BufferHolds kind.Header at blob held = (held ≡ blob) × (blob_fault at blob ≡ None)
BufferHolds kind.Data at blob held = (held ≡ blob) × (blob_fault at blob ≡ None)
BufferHolds kind.Other at blob held = held ≡ []

-- a blob that was read
pub record GaveBlob (kind : FrameKind) (size at : ℕ) (held : List ℕ) (before now : ℕ → List ℕ → Type 0) (old new : Option (List ℕ)) : Type 0 where
  pub blob : List ℕ
  pub long : length blob ≡ size
  pub holds : BufferHolds kind at blob held
  pub passed : Passes before blob now
  pub given : (bytes : List ℕ) → old ≡ Some bytes → (rest : List ℕ) × (blob_of kind size at bytes ≡ Ok (blob, rest)) × (new ≡ Some rest)
  pub untold : old ≡ None → new ≡ None

-- this frame of the file lies in the reader's buffers
pub record IsSeen (header blob : List ℕ) (seen : BufferedFrame) (f : FrameSpec) : Type 0 where
  pub offset : seen.offset ≡ f.offset
  pub header_is : f.header ≡ header
  pub place : seen.blob_at ≡ blob_at f
  pub kind_is : seen.kind ≡ frame_kind f
  pub size_is : seen.size ≡ length f.blob
  pub holds : BufferHolds (frame_kind f) (blob_at f) f.blob blob

-- it lies within the limit of a file
abbrev pub IsWithinFile : BufferedFrame → Type 0
IsWithinFile seen = (seen.offset ≤ FILE_LIMIT) × (seen.blob_at + seen.size ≤ FILE_LIMIT)

-- a frame was read, whose bytes are gone
pub record GaveFrame (had_header : Bool) (place : ℕ) (header blob : List ℕ) (seen : BufferedFrame) (before now : ℕ → List ℕ → Type 0) (old new : Option (List ℕ)) : Type 0 where
  pub frame : FrameSpec
  pub is_seen : IsSeen header blob seen frame
  pub offset : frame.offset ≡ place
  pub is_frame : IsFrame had_header place frame
  pub passed : Passes before (frame_bytes frame) now
  pub given : (bytes : List ℕ) → old ≡ Some bytes → (rest : List ℕ) × (next_of had_header place bytes ≡ Ok (Some frame, rest)) × (new ≡ Some rest)
  pub untold : old ≡ None → new ≡ None

-- the end was reached
pub record GaveEnd (had_header : Bool) (place : ℕ) (before now : ℕ → List ℕ → Type 0) (old new : Option (List ℕ)) : Type 0 where
  pub given : (bytes : List ℕ) → old ≡ Some bytes → (rest : List ℕ) × (next_of had_header place bytes ≡ Ok (None, rest)) × (new ≡ Some rest)
  pub untold : old ≡ None → new ≡ None
  pub end : IsAtEnd new
  pub passed : (log : ℕ) (b : List ℕ) → before log b → now log b
  pub header_given : had_header ≡ true
