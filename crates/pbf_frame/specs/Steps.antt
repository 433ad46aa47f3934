-- A frame step by step, as a reader comes to its bytes, and what each part of reading returns. No public contract depends on it: all steps
-- together come to `Frames.next_of`.
use Rattle.std.specs.Prelude.{ℕ, ◌+◌, List, [], length, take, drop, Bool, nat_lt, nat_le, ◌==◌, if◌then◌else◌, Option, Some, None, Result, Ok, Err}
use Rattle.byteorder.specs.Endian.{big_number}
use Rattle.pbf_wire.specs.declared.fault.Fault.{Fault}
use Rattle.pbf_wire.specs.declared.fault.Reason.TheVariants.{PrefixCut, HeaderLong, HeaderCut, BlobCut, NoHeader}
use Rattle.pbf_wire.specs.Faults.{fault}
use Rattle.pbf_wire.specs.Least.{least}
use Rattle.pbf_wire.specs.Occurrence.{◌>>=◌, items}
use Rattle.pbf_wire.specs.Wire.{wire}
use Rattle.pbf_frame.specs.declared.frame.FrameKind.{FrameKind}
use Rattle.pbf_frame.specs.declared.frame.FrameKind.TheVariants as kind
use Rattle.pbf_frame.specs.declared.header.Head.{Head}
use Rattle.pbf_frame.specs.declared.header.TheConstants.{HEADER_KINDS, HEADER_LIMIT}
use Rattle.pbf_frame.specs.Header.{header_faults, head_says}
use Rattle.pbf_frame.specs.Blob.{blob_fault}
use Rattle.pbf_frame.specs.declared.frame.TheConstants.{FILE_LIMIT}
use Rattle.pbf_frame.specs.Frames.{FrameSpec, order_faults}

-- what follows, if nothing is wrong so far
abbrev pub unless : {A : Type 0} → Option Fault → Result A Fault → Result A Fault
unless None later = later
unless (Some f) later = Err f

-- ---- the parts of a frame

-- what a header says of its frame, or its first fault: of its wire form, then of its fields
unfoldable pub head_of : ℕ → List ℕ → Result Head Fault
head_of at header = unless (wire HEADER_KINDS (items at header)) (unless (least (header_faults at header)) (Ok (head_says at header)))

-- the first n bytes and the others, if there are n
unfoldable pub bytes_at : Fault → ℕ → List ℕ → Result (List ℕ × List ℕ) Fault
bytes_at cut n bytes = if nat_lt (length (take n bytes)) n then Err cut else Ok (take n bytes, drop n bytes)

-- the four bytes before the header of the next frame, or nothing at the end of a file that had its header
unfoldable pub prefix_at : Bool → ℕ → List ℕ → Result (Option (List ℕ) × List ℕ) Fault
prefix_at had_header place bytes =
    if length bytes == 0 then (if had_header then Ok (None, []) else Err (fault place NoHeader))
    else if nat_lt (length (take 4 bytes)) 4 then Err (fault place PrefixCut)
    else if nat_le HEADER_LIMIT (big_number 4 (take 4 bytes)) then Err (fault place HeaderLong)
    else Ok (Some (take 4 bytes), drop 4 bytes)

-- the header after this prefix, what it says, and the bytes after it
unfoldable pub header_after : Bool → ℕ → List ℕ → List ℕ → Result ((List ℕ × Head) × List ℕ) Fault
header_after had_header place prefix bytes = do
  header ← bytes_at (fault place HeaderCut) (big_number 4 prefix) bytes
  head ← head_of (place + 4) header.0
  unless (least (order_faults (Some FILE_LIMIT) had_header place head.kind (place + 4 + length header.0 + head.size))) (Ok ((header.0, head), header.1))

-- the blob of a header or of data, and the bytes after it
unfoldable pub known_blob_of : ℕ → ℕ → List ℕ → Result (List ℕ × List ℕ) Fault
known_blob_of size at bytes = do
  blob ← bytes_at (fault at BlobCut) size bytes
  unless (blob_fault at blob.0) (Ok blob)

-- the blob of any frame: one of another type isn't read
abbrev pub blob_of : FrameKind → ℕ → ℕ → List ℕ → Result (List ℕ × List ℕ) Fault
blob_of kind.Header size at bytes = known_blob_of size at bytes
blob_of kind.Data size at bytes = known_blob_of size at bytes
blob_of kind.Other size at bytes = bytes_at (fault at BlobCut) size bytes

-- the frame after this prefix, and the bytes after it
unfoldable pub frame_of : Bool → ℕ → List ℕ → List ℕ → Result (FrameSpec × List ℕ) Fault
frame_of had_header place prefix bytes = do
  front ← header_after had_header place prefix bytes
  blob ← blob_of front.0.1.kind front.0.1.size (place + 4 + length front.0.0) front.1
  Ok (record { offset = place; prefix = prefix; header = front.0.0; blob = blob.0 }, blob.1)

unfoldable pub after_prefix : Bool → ℕ → Option (List ℕ) × List ℕ → Result (Option FrameSpec × List ℕ) Fault
after_prefix had_header place (None, bytes) = Ok (None, bytes)
after_prefix had_header place (Some prefix, bytes) = frame_of had_header place prefix bytes >>= λ read. Ok (Some read.0, read.1)

-- the next frame and the bytes after it, nothing at the end, or the fault of a step
unfoldable pub steps_of : Bool → ℕ → List ℕ → Result (Option FrameSpec × List ℕ) Fault
steps_of had_header place bytes = prefix_at had_header place bytes >>= after_prefix had_header place
