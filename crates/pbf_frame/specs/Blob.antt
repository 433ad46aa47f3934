-- The Blob: the bytes that it holds.
use Rattle.std.specs.Prelude.{ℕ, ◌==◌, nat_le, List, [], ◌∷◌, ◌++◌, length, Option, Some, None, if◌then◌else◌}
use Rattle.std.specs.List.{flat_map}
use Rattle.std.specs.Option.{option_map_or}
use Rattle.pbf_wire.specs.declared.fault.Fault.{Fault}
use Rattle.pbf_wire.specs.declared.fault.Reason.{Reason}
use Rattle.pbf_wire.specs.declared.fault.Reason.TheVariants.{NoRaw, RawLong, Zlib, Lzma, Bzip2, Lz4, Zstd}
use Rattle.pbf_wire.specs.Phases.{first_fault}
use Rattle.pbf_wire.specs.Occurrence.{Content, Bytes, Occurrence, items, found}
use Rattle.pbf_wire.specs.Reading.{bytes_held, occurrence_text, last_of}
use Rattle.pbf_frame.specs.declared.blob.TheConstants.{RAW, ZLIB_DATA, LZMA_DATA, BZIP2_DATA, LZ4_DATA, ZSTD_DATA, BLOB_KINDS}
use Rattle.pbf_wire.specs.declared.limits.TheConstants.{RAW_LIMIT}
use Rattle.pbf_wire.specs.Faults.{fault, fault_where, or_more, leaf_faults}

-- why data under this field number isn't read
abbrev pub compression_of : ℕ → Option Reason
compression_of number =
    if number == ZLIB_DATA then Some Zlib
    else (if number == LZMA_DATA then Some Lzma
    else (if number == BZIP2_DATA then Some Bzip2
    else (if number == LZ4_DATA then Some Lz4
    else (if number == ZSTD_DATA then Some Zstd else None))))

-- each occurrence of compressed data
abbrev pub compressed : List Occurrence → List Fault
compressed os = flat_map (λ (o : Occurrence). or_more o.place (compression_of o.number) []) os

-- the raw data is too long, or there is no data at all
abbrev pub raw_faults : ℕ → Option Occurrence → List Fault → List Fault
raw_faults at (Some o) others = fault_where (nat_le RAW_LIMIT (length (bytes_held o.content))) o.place RawLong ++ others
raw_faults at None [] = fault at NoRaw ∷ []
raw_faults at None (f ∷ others) = f ∷ others

-- what is wrong with the fields of a blob
abbrev pub blob_faults : ℕ → List ℕ → List Fault
blob_faults at blob = raw_faults at (last_of RAW (found (items at blob))) (compressed (found (items at blob)))

-- the faults of a blob: of its wire form, and of its fields
abbrev pub blob_phases : ℕ → List ℕ → List (List Fault)
blob_phases at blob = leaf_faults BLOB_KINDS at at blob ∷ blob_faults at blob ∷ []

-- the first of them
unfoldable pub blob_fault : ℕ → List ℕ → Option Fault
blob_fault at blob = first_fault (blob_phases at blob)

-- the payload
abbrev pub raw_payload_of : ℕ → List ℕ → List ℕ
raw_payload_of at blob = occurrence_text (last_of RAW (found (items at blob)))

-- where the bytes that an occurrence holds begin; for one without bytes, this place
abbrev pub bytes_place : ℕ → Content → ℕ
bytes_place at (Bytes bytes begin) = begin
bytes_place at _ = at

-- where its first byte is
abbrev pub raw_at : ℕ → Option Occurrence → ℕ
raw_at at last = option_map_or (λ o. bytes_place at o.content) last at
