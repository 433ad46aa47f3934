-- A frame in written form has no fault, and its kind and payload are those that were written.
use Rattle.std.proofs.Common.{◌≡◌, ℕ, ◌+◌, ◌^◌, ◌<◌, ◌≤◌, Bool, List, [], ◌∷◌, length, Option, Some, None, refl, sym, ap, ◌∙◌, length-append, arith}
use Rattle.std.proofs.lemmas.Bool.Decides.{nat_tests}
use Rattle.std.proofs.lemmas.List.{append-nil}
use Rattle.std.specs.List.{flat_map, AllByRecursion}
use Rattle.byteorder.specs.Endian.{big_bytes, big_from}
use Rattle.byteorder.specs.Numbers.{length-bytes_high_first, big_number-reads_back}
use Rattle.pbf_wire.specs.Least.{least}
use Rattle.pbf_wire.specs.Message.{Slot, Scalar, Each, parts_of, message, SlotFits}
use Rattle.pbf_wire.specs.Occurrence.{items, found}
use Rattle.pbf_wire.specs.Reading.{occurrence_text, last_of}
use Rattle.pbf_wire.specs.Signed.{low_i32}
use Rattle.pbf_wire.specs.Varint.{shortest}
use Rattle.pbf_wire.specs.Wire.{wire}
use Rattle.pbf_wire.specs.Writing.{occurrences_of}
use Rattle.pbf_wire.proofs.MessageLemmas.{fields_written, no_wire_fault}
use Rattle.pbf_wire.proofs.Shortest.{shortest_spells}
use Rattle.pbf_wire.proofs.WritingLemmas.{message_first, message_none, each_bytes, scalar_bytes}
use Rattle.pbf_frame.specs.declared.blob.TheConstants.{RAW, BLOB_KINDS}
use Rattle.pbf_wire.specs.declared.limits.TheConstants.{RAW_LIMIT}
use Rattle.pbf_frame.specs.declared.frame.FrameKind.{FrameKind}
use Rattle.pbf_frame.specs.declared.frame.FrameKind.TheVariants as kind
use Rattle.pbf_frame.specs.declared.header.TheConstants.{TYPE, DATASIZE, HEADER_KINDS, LARGEST_SIZE}
use Rattle.pbf_frame.specs.Header.{frame_type_at, kind_named, size_within, size_of, header_faults}
use Rattle.pbf_frame.specs.Blob.{blob_fault, raw_payload_of}
use Rattle.pbf_frame.specs.Frames.{order_faults, frame_kind, frame_end, frame_bytes, frame_payload, blob_at}
use Rattle.pbf_frame.specs.Sound.{IsSoundBlob, IsFrameWithin}
use Rattle.pbf_frame.proofs.BlobLemmas.{blob_steps}
use Rattle.pbf_frame.specs.Writing.{written_name, written_header, written_blob, written_at, written_frame}

spelling_short : (v : ℕ) → v < 2 ^ 64 → length (shortest v) ≤ 10
spelling_short v small = (shortest_spells v small).short

-- ---- the blob

abbrev blob_slots : List ℕ → List Slot
blob_slots payload = Each RAW (payload ∷ []) ∷ []

blob_is : (payload : List ℕ) → written_blob payload ≡ message (blob_slots payload)
unfolding written_blob
blob_is payload = refl

blob_short : (payload : List ℕ) → length payload < RAW_LIMIT → length (written_blob payload) ≤ 20 + length payload
blob_short payload small = grind (arith, blob_is, message_first, message_none, append-nil, each_bytes, spelling_short, length-append)

blob_fits : (payload : List ℕ) → AllByRecursion SlotFits (blob_slots payload)
blob_fits payload = ((omega arith, omega arith), tt)

blob_fields : (at : ℕ) (payload : List ℕ) → length payload < RAW_LIMIT → found (items at (written_blob payload)) ≡ occurrences_of at (flat_map parts_of (blob_slots payload))
blob_fields at payload small = grind (arith, blob_is, fields_written, blob_fits, blob_short)

blob_payload : (at : ℕ) (payload : List ℕ) → length payload < RAW_LIMIT → raw_payload_of at (written_blob payload) ≡ payload
blob_payload at payload small = ap (λ os. occurrence_text (last_of RAW os)) (blob_fields at payload small)

blob_wired : (at : ℕ) (payload : List ℕ) → length payload < RAW_LIMIT → wire BLOB_KINDS (items at (written_blob payload)) ≡ None
blob_wired at payload small = grind (arith, blob_is, no_wire_fault, blob_fits, blob_short)

blob_sound : (at : ℕ) (payload : List ℕ) → length payload < RAW_LIMIT → blob_fault at (written_blob payload) ≡ None
blob_sound at payload small = grind (arith, blob_steps, blob_wired, blob_fields)

-- ---- the header

abbrev header_slots : FrameKind → ℕ → List Slot
header_slots k size = Each TYPE (written_name k ∷ []) ∷ Scalar DATASIZE (Some size) ∷ []

header_is : (k : FrameKind) (size : ℕ) → written_header k size ≡ message (header_slots k size)
unfolding written_header
header_is k size = refl

header_short : (k : FrameKind) (size : ℕ) → size < 2 ^ 64 → length (written_header k size) ≤ 49
header_short k size small = grind (arith, header_is, message_first, message_none, append-nil, scalar_bytes, each_bytes, spelling_short, length-append)

header_fits : (k : FrameKind) (size : ℕ) → size < 2 ^ 64 → AllByRecursion SlotFits (header_slots k size)
header_fits k size small = ((omega arith, omega arith), ((omega arith, omega arith, small), tt))

header_fields : (at : ℕ) (k : FrameKind) (size : ℕ) → size < 2 ^ 64 → found (items at (written_header k size)) ≡ occurrences_of at (flat_map parts_of (header_slots k size))
header_fields at k size small = grind (arith, header_is, fields_written, header_fits, header_short)

header_name : (at : ℕ) (k : FrameKind) (size : ℕ) → size < 2 ^ 64 → frame_type_at at (written_header k size) ≡ written_name k
header_name at k size small = ap (λ os. occurrence_text (last_of TYPE os)) (header_fields at k size small)

name_kind : (k : FrameKind) → (k ≡ kind.Other → ⊥) → kind_named (written_name k) ≡ k
name_kind k known = grind arith

header_wired : (at : ℕ) (k : FrameKind) (size : ℕ) → size < 2 ^ 64 → wire HEADER_KINDS (items at (written_header k size)) ≡ None
header_wired at k size small = grind (arith, header_is, no_wire_fault, header_fits, header_short)

size_read : (size : ℕ) → size ≤ LARGEST_SIZE → size_within (low_i32 size) ≡ Some size
size_read size small = grind (arith, nat_tests)

header_sized : (at : ℕ) (k : FrameKind) (size : ℕ) → size ≤ LARGEST_SIZE → size_of (last_of DATASIZE (found (items at (written_header k size)))) ≡ Some size
header_sized at k size small = ap (λ os. size_of (last_of DATASIZE os)) (header_fields at k size (omega (arith, small))) ∙ size_read size small

header_whole : (at : ℕ) (k : FrameKind) (size : ℕ) → size ≤ LARGEST_SIZE → least (header_faults at (written_header k size)) ≡ None
header_whole at k size small = grind (arith, header_fields, size_read)

-- ---- the frame

sound_any : (k : FrameKind) (at : ℕ) (blob : List ℕ) → blob_fault at blob ≡ None → IsSoundBlob k at blob
sound_any kind.Other at blob sound = tt
sound_any k at blob sound = sound

module _ (place : ℕ) (k : FrameKind) (payload : List ℕ) (known : k ≡ kind.Other → ⊥) (small : length payload < RAW_LIMIT) where
  size_small : length (written_blob payload) ≤ LARGEST_SIZE
  size_small = omega (arith, blob_short payload small, small)

  pub written_kind : frame_kind (written_at place k payload) ≡ k
  written_kind = ap kind_named (header_name (place + 4) k (length (written_blob payload)) (omega (arith, size_small))) ∙ name_kind k known

  pub written_payload : frame_payload (written_at place k payload) ≡ payload
  written_payload = grind (arith, written_kind, blob_payload)

  pub written_is_frame : (limit : Option ℕ) (h : Bool) → least (order_faults limit h place k (frame_end (written_at place k payload))) ≡ None → IsFrameWithin limit h place (written_at place k payload)
  written_is_frame limit h ordered =
      let f = written_at place k payload in
      let n = length f.header in
      let short : n ≤ 49 = header_short k (length (written_blob payload)) (omega (arith, size_small)) in
      record {
        offset = refl;
        prefix_long = length-bytes_high_first 4 n;
        spelled = ap (λ l. big_from 0 4 l) (sym (append-nil (big_bytes 4 n))) ∙ big_number-reads_back 4 n [] (omega (arith, short));
        short = omega (arith, short);
        wired = header_wired (place + 4) k (length (written_blob payload)) (omega (arith, size_small));
        whole = header_whole (place + 4) k (length (written_blob payload)) size_small;
        sized = header_sized (place + 4) k (length (written_blob payload)) size_small;
        ordered = ap (λ (x : FrameKind). least (order_faults limit h place x (frame_end f))) written_kind ∙ ordered;
        sound = sound_any (frame_kind f) (blob_at f) f.blob (blob_sound (blob_at f) payload small);
      }

-- its bytes are the same at every place
pub written_bytes : (place : ℕ) (k : FrameKind) (payload : List ℕ) → frame_bytes (written_at place k payload) ≡ written_frame k payload
unfolding written_frame
written_bytes place k payload = refl
