-- The raw file that a file with zlib blobs means.
use Rattle.std.specs.Prelude.{ℕ, zero, suc, ◌+◌, ◌==◌, ◌&&◌, Bool, nat_le, List, ◌++◌, length, drop, Option, Some, None, Result, Ok, Err, is_ok, if◌then◌else◌}
use Rattle.std.specs.Option.{option_or}
use Rattle.pbf_wire.specs.Occurrence.{Occurrence, items, found}
use Rattle.pbf_wire.specs.Reading.{last_of}
use Rattle.pbf_frame.specs.declared.blob.TheConstants.{RAW_SIZE}
use Rattle.pbf_frame.specs.declared.frame.FrameKind.{FrameKind}
use Rattle.pbf_frame.specs.declared.frame.FrameKind.TheVariants as kind
use Rattle.pbf_frame.specs.Frames.{FrameSpec, header_at, blob_at, frame_end, frame_kind, frame_bytes, frame_at, cut_faults}
use Rattle.pbf_frame.specs.Header.{head_says}
use Rattle.pbf_frame.specs.Steps.{head_of}
use Rattle.pbf_frame.specs.Writing.{written_frame}
use Rattle.pbf_unpack.specs.declared.fault.UnpackFault.{UnpackFault}
use Rattle.pbf_unpack.specs.Packed.{packed_in, unpacked_payload}
use Rattle.pbf_frame.specs.declared.frame.TheConstants.{FILE_LIMIT}

-- raw bytes, and the first fault of the zlib data that they stand for, if it has one
abbrev pub Unpacked : Type 0
Unpacked = List ℕ × Option UnpackFault

-- these, and then those
abbrev pub then_unpacked : Unpacked → Unpacked → Unpacked
then_unpacked first rest = (first.0 ++ rest.0, option_or first.1 rest.1)

-- bytes as they are
abbrev pub as_they_stand : List ℕ → Unpacked
as_they_stand bytes = (bytes, None)

-- ---- one frame

-- the frame with this payload in written form; without one the frame stays as it is, and it is known why
abbrev pub rewritten : FrameKind → List ℕ → Result (List ℕ) UnpackFault → Unpacked
rewritten kind frame (Ok payload) = as_they_stand (written_frame kind payload)
rewritten kind frame (Err e) = (frame, Some e)

-- a frame without zlib data stays as it is
abbrev pub with_data : FrameKind → List ℕ → Option Occurrence → Option Occurrence → Unpacked
with_data kind frame None raw_size = as_they_stand frame
with_data kind frame (Some stream) raw_size = rewritten kind frame (unpacked_payload stream raw_size)

-- what a frame of this kind means whose blob is at this place; the blob of another type isn't read
abbrev pub unpacked_frame : FrameKind → ℕ → (frame blob : List ℕ) → Unpacked
unpacked_frame kind.Other at frame blob = as_they_stand frame
unpacked_frame kind at frame blob = with_data kind frame (packed_in at blob) (last_of RAW_SIZE (found (items at blob)))

-- ---- a file

-- it is known where the frame ends, within the limit of a file, and all of it is there
abbrev pub is_whole : FrameSpec → Bool
is_whole f =
    let size = (head_says (header_at f) f.header).size in
    length (cut_faults f) == 0 && is_ok (head_of (header_at f) f.header) && nat_le (blob_at f + size) FILE_LIMIT && length f.blob == size

-- the frame that begins here, unpacked, and then the others; bytes that begin no whole frame stay as they are, to their end
unfoldable pub unpacked_within : ℕ → ℕ → List ℕ → Unpacked
unpacked_within zero place bytes = as_they_stand bytes
unpacked_within (suc fuel) place bytes =
    let f = frame_at place bytes in
    if is_whole f then then_unpacked (unpacked_frame (frame_kind f) (blob_at f) (frame_bytes f) f.blob) (unpacked_within fuel (frame_end f) (drop (length (frame_bytes f)) bytes))
    else as_they_stand bytes

-- what bytes at this place mean; each frame has a byte at least
unfoldable pub unpacked_from : ℕ → List ℕ → Unpacked
unpacked_from place bytes = unpacked_within (length bytes) place bytes

-- the raw file that a file means
abbrev pub unpacked : List ℕ → List ℕ
unpacked file = (unpacked_from 0 file).0

-- the first fault of its zlib data, with its place in the file
abbrev pub unpack_fault : List ℕ → Option UnpackFault
unpack_fault file = (unpacked_from 0 file).1
