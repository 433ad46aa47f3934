-- A blob that holds zlib data and no other, and the payload that it stands for.
use Rattle.std.specs.Prelude.{◌≡◌, ℕ, ℤ, pos, negsuc, ◌-◌, ◌==◌, ◌&&◌, Bool, true, false, List, length, Option, Some, None, Result, Ok, Err, is_none, if◌then◌else◌}
use Rattle.pbf_wire.specs.Occurrence.{Occurrence, items, found}
use Rattle.pbf_wire.specs.Reading.{bytes_held, last_of}
use Rattle.pbf_wire.specs.Wire.{wire}
use Rattle.pbf_frame.specs.declared.blob.TheConstants.{RAW, ZLIB_DATA, LZMA_DATA, BZIP2_DATA, LZ4_DATA, ZSTD_DATA, BLOB_KINDS}
use Rattle.pbf_wire.specs.declared.limits.TheConstants.{RAW_LIMIT}
use Rattle.pbf_frame.specs.declared.frame.FrameKind.{FrameKind}
use Rattle.pbf_frame.specs.declared.frame.FrameKind.TheVariants as kinds
use Rattle.pbf_frame.specs.Header.{int32_held}
use Rattle.zlib.specs.Stream.{inflated}
use Rattle.zlib.specs.declared.fault.InflateFault.{InflateFault}
use Rattle.pbf_unpack.specs.declared.fault.UnpackFault.{UnpackFault}
use Rattle.pbf_unpack.specs.declared.fault.UnpackReason.{UnpackReason}
use Rattle.pbf_unpack.specs.declared.fault.UnpackReason.TheVariants.{Inflate, RawSize}

-- no occurrence is one of this field
abbrev pub lacks : ℕ → List Occurrence → Bool
lacks number os = is_none (last_of number os)

-- there is no data except under zlib_data
abbrev pub lacks_others : List Occurrence → Bool
lacks_others os = lacks RAW os && lacks LZMA_DATA os && lacks BZIP2_DATA os && lacks LZ4_DATA os && lacks ZSTD_DATA os

-- the zlib data of a blob at this place: the last occurrence of its field, if the wire form of the blob has no fault and the blob has
-- no other data
abbrev pub packed_in : ℕ → List ℕ → Option Occurrence
packed_in at blob =
    if is_none (wire BLOB_KINDS (items at blob)) && lacks_others (found (items at blob)) then last_of ZLIB_DATA (found (items at blob)) else None

-- the blob of a frame of this kind is read, and holds zlib data
abbrev pub HoldsPacked : FrameKind → ℕ → (blob : List ℕ) → Type 0
HoldsPacked kind at blob = (kind ≡ kinds.Other → ⊥) × (packed_in at blob ≡ None → ⊥)

-- raw_size is this length
abbrev pub is_length : ℤ → ℕ → Bool
is_length (pos size) n = size == n
is_length (negsuc size) n = false

-- raw_size is absent or is this length
abbrev pub fits_size : Option Occurrence → ℕ → Bool
fits_size None n = true
fits_size (Some raw_size) n = is_length (int32_held raw_size.content) n

abbrev pub unpack_fault_at : ℕ → UnpackReason → UnpackFault
unpack_fault_at place reason = record { offset = place; reason = reason }

-- the meaning of a stream, if raw_size is its length
abbrev pub sized : ℕ → Option Occurrence → Result (List ℕ) InflateFault → Result (List ℕ) UnpackFault
sized place raw_size (Ok payload) = if fits_size raw_size (length payload) then Ok payload else Err (unpack_fault_at place RawSize)
sized place raw_size (Err e) = Err (unpack_fault_at place (Inflate e))

-- the payload of zlib data beside this raw_size, shorter than the limit of raw data, or why there is none; the fault is where the data is
abbrev pub unpacked_payload : Occurrence → Option Occurrence → Result (List ℕ) UnpackFault
unpacked_payload stream raw_size = sized stream.place raw_size (inflated (RAW_LIMIT - 1) (bytes_held stream.content))
