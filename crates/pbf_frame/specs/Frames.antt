-- The frames of a file: four bytes for the length of the header, the header, and the blob.
use Rattle.std.specs.Prelude.{ℕ, ◌+◌, List, [], ◌∷◌, ◌++◌, length, take, drop, Bool, true, false, ◌&&◌, not, nat_lt, nat_le, ◌==◌, if◌then◌else◌, Option, Some, None, Result, Ok, Err}
use Rattle.std.specs.Option.{option_map_or}
use Rattle.byteorder.specs.Endian.{big_number}
use Rattle.pbf_wire.specs.declared.fault.Fault.{Fault}
use Rattle.pbf_wire.specs.declared.fault.Reason.TheVariants.{PrefixCut, HeaderLong, HeaderCut, BlobCut, NoHeader, SecondHeader, DataFirst, FileLong}
use Rattle.pbf_wire.specs.Phases.{first_fault}
use Rattle.pbf_wire.specs.Occurrence.{items, found}
use Rattle.pbf_wire.specs.Reading.{last_of}
use Rattle.pbf_frame.specs.declared.blob.TheConstants.{RAW}
use Rattle.pbf_frame.specs.declared.frame.TheConstants.{FILE_LIMIT}
use Rattle.pbf_frame.specs.declared.frame.FrameKind.{FrameKind}
use Rattle.pbf_frame.specs.declared.frame.FrameKind.TheVariants as kind
use Rattle.pbf_frame.specs.declared.header.TheConstants.{HEADER_KINDS, HEADER_LIMIT}
use Rattle.pbf_wire.specs.Faults.{fault, fault_where, leaf_faults}
use Rattle.pbf_frame.specs.Header.{frame_type_at, kind_named, header_faults, head_says}
use Rattle.pbf_frame.specs.Blob.{blob_phases, raw_payload_of, raw_at}

-- a frame of a file: where it begins, and its bytes in three parts
pub record FrameSpec : Type 0 where
  pub offset : ℕ
  pub prefix : List ℕ
  pub header : List ℕ
  pub blob : List ℕ

abbrev pub is_header : FrameKind → Bool
is_header kind.Header = true
is_header _ = false

abbrev pub is_data : FrameKind → Bool
is_data kind.Data = true
is_data _ = false

-- ---- what a frame says

abbrev pub header_at : FrameSpec → ℕ
header_at f = f.offset + 4

abbrev pub blob_at : FrameSpec → ℕ
blob_at f = f.offset + 4 + length f.header

abbrev pub frame_end : FrameSpec → ℕ
frame_end f = f.offset + 4 + length f.header + length f.blob

-- its spelling
abbrev pub frame_bytes : FrameSpec → List ℕ
frame_bytes f = f.prefix ++ f.header ++ f.blob

abbrev pub frame_name : FrameSpec → List ℕ
frame_name f = frame_type_at (header_at f) f.header

abbrev pub frame_kind : FrameSpec → FrameKind
frame_kind f = kind_named (frame_type_at (header_at f) f.header)

-- the payload of a blob at this place, and where it begins; a blob of another type isn't read
abbrev pub payload_in : FrameKind → ℕ → List ℕ → List ℕ
payload_in kind.Other at blob = []
payload_in _ at blob = raw_payload_of at blob

abbrev pub payload_place : FrameKind → ℕ → List ℕ → ℕ
payload_place kind.Other at blob = at
payload_place _ at blob = raw_at at (last_of RAW (found (items at blob)))

abbrev pub frame_payload : FrameSpec → List ℕ
frame_payload f = payload_in (frame_kind f) (blob_at f) f.blob

abbrev pub frame_payload_at : FrameSpec → ℕ
frame_payload_at f = payload_place (frame_kind f) (blob_at f) f.blob

-- ---- the frame that begins at a place

-- four bytes, a header as long as they say, and a blob of the size that the header says; if the bytes end before, as many as there are
abbrev pub frame_at : ℕ → List ℕ → FrameSpec
frame_at place bytes =
    let after = drop 4 bytes in
    let header = take (big_number 4 (take 4 bytes)) after in
    record { offset = place; prefix = take 4 bytes; header = header; blob = take (head_says (place + 4) header).size (drop (length header) after) }

-- ---- its faults, phase by phase

-- the four bytes or the header are cut, or the header is too long
abbrev pub cut_faults : FrameSpec → List Fault
cut_faults f =
    if nat_lt (length f.prefix) 4 then fault f.offset PrefixCut ∷ []
    else (if nat_le HEADER_LIMIT (big_number 4 f.prefix) then fault f.offset HeaderLong ∷ []
    else fault_where (nat_lt (length f.header) (big_number 4 f.prefix)) f.offset HeaderCut)

-- a frame of this kind that ends here is out of order, or ends too late: after the limit, if there is one
abbrev pub order_faults : Option ℕ → Bool → ℕ → FrameKind → ℕ → List Fault
order_faults limit had_header place kind last =
    fault_where (had_header && is_header kind) place SecondHeader
    ++ fault_where (not had_header && is_data kind) place DataFirst
    ++ fault_where (option_map_or (λ most. nat_lt most last) limit false) place FileLong

-- the blob of another type isn't read
abbrev pub phases_of_blob : FrameKind → ℕ → List ℕ → List (List Fault)
phases_of_blob kind.Other at blob = []
phases_of_blob _ at blob = blob_phases at blob

-- all of them; whether a header frame came before says what order is right
abbrev pub frame_phases : Option ℕ → Bool → FrameSpec → List (List Fault)
frame_phases limit had_header f =
    let size = (head_says (header_at f) f.header).size in
    cut_faults f
    ∷ leaf_faults HEADER_KINDS f.offset (header_at f) f.header
    ∷ header_faults (header_at f) f.header
    ∷ order_faults limit had_header f.offset (frame_kind f) (blob_at f + size)
    ∷ fault_where (nat_lt (length f.blob) size) (blob_at f) BlobCut
    ∷ phases_of_blob (frame_kind f) (blob_at f) f.blob

-- ---- the next frame

-- the next frame and the bytes after it, nothing at the end of bytes that had their header, or the least fault of the frame's first phase
-- that has one. The limit is that of the length of all bytes; without one they may have any
unfoldable pub next_within : Option ℕ → Bool → ℕ → List ℕ → Result (Option FrameSpec × List ℕ) Fault
next_within limit had_header place bytes =
    if length bytes == 0 then (if had_header then Ok (None, []) else Err (fault place NoHeader))
    else (let f = frame_at place bytes in
    option_map_or Err (first_fault (frame_phases limit had_header f)) (Ok (Some f, drop (length (frame_bytes f)) bytes)))

-- the next frame of a file
abbrev pub next_of : Bool → ℕ → List ℕ → Result (Option FrameSpec × List ℕ) Fault
next_of = next_within (Some FILE_LIMIT)
