-- What a frame's header says, and what its blob holds, doesn't depend on their places.
use Rattle.std.proofs.Common.{◌≡◌, ℕ, false, List, [], Option, Ok, arith}
use Rattle.std.specs.Prelude.{is_none}
use Rattle.std.specs.Option.{option_map}
use Rattle.pbf_wire.specs.Occurrence.{Occurrence, items, found, without_places}
use Rattle.pbf_wire.specs.Reading.{occurrence_text, last_of}
use Rattle.pbf_wire.proofs.PlaceLemmas.{last_moved, wired_moved}
use Rattle.pbf_wire.proofs.SoundLemmas.{no_least}
use Rattle.pbf_frame.specs.declared.header.Head.{Head}
use Rattle.pbf_frame.specs.declared.header.TheConstants.{DATASIZE, HEADER_KINDS, TYPE}
use Rattle.pbf_frame.specs.Header.{head_says, header_faults, size_of}
use Rattle.pbf_frame.specs.Steps.{head_of}
use Rattle.pbf_frame.proofs.FrameLemmas.{head_parts}

text_same : (o p : Option Occurrence) → option_map without_places o ≡ option_map without_places p → occurrence_text o ≡ occurrence_text p
text_same o p e = grind arith

size_same : (o p : Option Occurrence) → option_map without_places o ≡ option_map without_places p → size_of o ≡ size_of p
size_same o p e = grind arith

-- the fields of a header that has no fault
record HasFields (at : ℕ) (header : List ℕ) : Type 0 where
  typed : is_none (last_of TYPE (found (items at header))) ≡ false
  sized : is_none (size_of (last_of DATASIZE (found (items at header)))) ≡ false

has_fields : (at : ℕ) (header : List ℕ) → header_faults at header ≡ [] → HasFields at header
has_fields at header none = grind arith

no_faults : (at : ℕ) (header : List ℕ) → HasFields at header → header_faults at header ≡ []
no_faults at header has = grind arith

module _ (at bt : ℕ) (header : List ℕ) where
  fields_moved : HasFields at header → HasFields bt header
  fields_moved has = grind (arith, last_moved TYPE at bt header, last_moved DATASIZE at bt header, size_same)

  says_same : head_says at header ≡ head_says bt header
  says_same = grind (arith, last_moved TYPE at bt header, last_moved DATASIZE at bt header, size_same, text_same)

  pub head_moved : (head : Head) → head_of at header ≡ Ok head → head_of bt header ≡ Ok head
  unfolding head_of
  head_moved head says =
      let parts = head_parts at header head says in
      let none = no_faults bt header (fields_moved (has_fields at header (no_least (header_faults at header) parts.1))) in
      grind (arith, wired_moved HEADER_KINDS at bt header parts.0, says_same)
