-- How the blobs of a file are stored: whether some are zlib data, and whether some are raw.
use Rattle.std.specs.Prelude.{ℕ, zero, suc, true, false, ◌||◌, List, length, drop, Option, Some, None, if◌then◌else◌}
use Rattle.pbf_wire.specs.Occurrence.{Occurrence}
use Rattle.pbf_frame.specs.declared.frame.FrameKind.{FrameKind}
use Rattle.pbf_frame.specs.declared.frame.FrameKind.TheVariants as kind
use Rattle.pbf_frame.specs.Frames.{blob_at, frame_end, frame_kind, frame_bytes, frame_at}
use Rattle.pbf_unpack.specs.declared.stored.Stored.{Stored}
use Rattle.pbf_unpack.specs.declared.unpack.Outcome.{Outcome}
use Rattle.pbf_unpack.specs.declared.unpack.Outcome.TheVariants.{Kept, Unpacked, Faulty}
use Rattle.pbf_unpack.specs.Packed.{packed_in}
use Rattle.pbf_unpack.specs.Unpacked.{is_whole}

-- those of nothing
abbrev pub none_stored : Stored
none_stored = record { packed = false; raw = false }

abbrev pub together : Stored → Stored → Stored
together s t = record { packed = s.packed || t.packed; raw = s.raw || t.raw }

-- ---- one frame

-- a blob with zlib data is packed, whether the data has a fault or not; any other is raw
abbrev pub stored_as : Option Occurrence → Stored
stored_as (Some stream) = record { packed = true; raw = false }
stored_as None = record { packed = false; raw = true }

-- that of a frame of this kind; the blob of another type doesn't count
abbrev pub stored_in_frame : FrameKind → ℕ → (blob : List ℕ) → Stored
stored_in_frame kind.Other at blob = none_stored
stored_in_frame _ at blob = stored_as (packed_in at blob)

-- ---- a file

-- the frame that begins here, and then the others; bytes that begin no whole frame don't count
unfoldable pub stored_within : ℕ → ℕ → List ℕ → Stored
stored_within zero place bytes = none_stored
stored_within (suc fuel) place bytes =
    let f = frame_at place bytes in
    if is_whole f then together (stored_in_frame (frame_kind f) (blob_at f) f.blob) (stored_within fuel (frame_end f) (drop (length (frame_bytes f)) bytes)) else none_stored

-- the frames of these bytes at this place; each has a byte at least
unfoldable pub stored_from : ℕ → List ℕ → Stored
stored_from place bytes = stored_within (length bytes) place bytes

-- ---- what becomes of a frame

abbrev pub stored_after : Outcome → Stored
stored_after Kept = record { packed = false; raw = true }
stored_after Unpacked = record { packed = true; raw = false }
stored_after (Faulty fault) = record { packed = true; raw = false }

-- by its kind
abbrev pub stored_by_kind : FrameKind → Outcome → Stored
stored_by_kind kind.Other outcome = none_stored
stored_by_kind _ outcome = stored_after outcome
