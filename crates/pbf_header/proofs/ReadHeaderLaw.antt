-- Every header that is read can be written: its numbers fit the types of the format, whatever is wrong with it.
use Rattle.std.proofs.Common.{◌==◌, ◌+◌, ◌%◌, ◌/◌, ◌^◌, ◌<◌, ℕ, pos, negsuc, Bool, true, false, List, [], ◌∷◌, length, arith}
use Rattle.std.specs.Prelude.{Option, Some, None, unwrap_or, if◌then◌else◌}
use Rattle.std.specs.Option.{option_map}
use Rattle.std.specs.List.{last_or, cons_option, AllByRecursion}
use Rattle.std.proofs.lemmas.Int.{ints}
use Rattle.pbf_wire.specs.Faults.{fields_in}
use Rattle.pbf_wire.specs.Occurrence.{Content, Number, Occurrence, IsBody, Joins}
use Rattle.pbf_wire.specs.Reading.{value_in, values, last_number}
use Rattle.pbf_wire.specs.Signed.{unzigzag, low_i64}
use Rattle.pbf_wire.proofs.Cutting.{is_cutting}
use Rattle.osm_entity.specs.Ranges.{IsInt64, IfPresent}
use Rattle.osm_box.specs.declared.bounding_box.BoundingBox.{BoundingBox}
use Rattle.osm_entity.proofs.RangeLemmas.{int64_typed}
use Rattle.pbf_header.specs.declared.header_block.TheConstants.{LEFT, RIGHT, TOP, BOTTOM, REPLICATION_TIMESTAMP, REPLICATION_SEQUENCE, BBOX}
use Rattle.pbf_header.specs.Header.{edge, box_in, last_text, header_in}
use Rattle.pbf_header.specs.WrittenHeader.{edges_of, header_out_for_box, header_out_for_convert, EdgesTyped, BoxTyped, HeaderFits}
use Rattle.pbf_header.proofs.HeaderLaw.{out_fits}
use Rattle.pbf_wire.proofs.SlotLemmas.{IfSome}

-- ---- the numbers of a message

abbrev IsWide : ℕ → Type 0
IsWide v = v < 2 ^ 64

-- a content that is a number is one of 64 bits
abbrev HoldsWide : Content → Type 0
HoldsWide (Number v) = IsWide v
HoldsWide _ = Unit {0}

body_wide : (c : Content) (kind end : ℕ) (s : List ℕ) → IsBody c kind end s → HoldsWide c
body_wide (Number v) kind end s h = h.1.fits
body_wide c kind end s h = tt

abbrev AllWide : List Occurrence → Type 0
AllWide os = AllByRecursion (λ o. HoldsWide o.content) os

joined_wide : (os : List Occurrence) (at : ℕ) (m : List ℕ) → Joins at m os → AllWide os
joined_wide [] at m h = tt
joined_wide (o ∷ os) at m h = (body_wide o.content h.4.kind (o.place + length h.4.tag) h.4.body h.4.holds, joined_wide os (at + length h.0) h.1 h.5)

fields_wide : (at : ℕ) (m : List ℕ) → AllWide (fields_in at m)
fields_wide at m = let cut = is_cutting at m in joined_wide (fields_in at m) at cut.front cut.joins

abbrev IsValueWide : Option (ℕ × ℕ) → Type 0
IsValueWide value = IfSome IsWide (option_map (λ p. p.1) value)

-- the last number of a field, if one came before or none
number_wide : (b : Bool) (place : ℕ) (c : Content) (vs : List (ℕ × ℕ)) (before : Option (ℕ × ℕ)) → HoldsWide c → IsValueWide before → ((before : Option (ℕ × ℕ)) → IsValueWide before → IsValueWide (last_or before vs))
    → IsValueWide (last_or before (cons_option (if b then value_in place c else None) vs))
number_wide false place c vs before wide h more = more before h
number_wide true place (Number v) vs before wide h more = more (Some (place, v)) wide
number_wide true place c vs before wide h more = more before h

last_from : (k : ℕ) (os : List Occurrence) (before : Option (ℕ × ℕ)) → AllWide os → IsValueWide before → IsValueWide (last_or before (values k os))
last_from k [] before all h = h
last_from k (o ∷ os) before all h = number_wide (o.number == k) o.place o.content (values k os) before all.0 h (λ before h. last_from k os before all.1 h)

last_wide : (k at : ℕ) (m : List ℕ) → IfSome IsWide (last_number k (fields_in at m))
last_wide k at m = last_from k (fields_in at m) None (fields_wide at m) tt

-- ---- their types

unzigzag_typed : (v : ℕ) → v < 2 ^ 64 → IsInt64 (unzigzag v)
unzigzag_typed v wide = by (v % 2 == 0) where
  by : (b : Bool) → IsInt64 (if b then pos (v / 2) else negsuc (v / 2))
  by true = (omega (arith, ints), omega (arith, ints))
  by false = (omega (arith, ints), omega (arith, ints))

edge_or : (o : Option ℕ) → IfSome IsWide o → IsInt64 (unzigzag (unwrap_or o 0))
edge_or None h = (omega (arith, ints), omega (arith, ints))
edge_or (Some v) h = unzigzag_typed v h

edge_typed : (k : ℕ) (m : List ℕ) → IsInt64 (edge k (fields_in 0 m))
edge_typed k m = edge_or (last_number k (fields_in 0 m)) (last_wide k 0 m)

box_typed : (m : List ℕ) → EdgesTyped (box_in m)
box_typed m = record { left = edge_typed LEFT m; right = edge_typed RIGHT m; top = edge_typed TOP m; bottom = edge_typed BOTTOM m }

bbox_typed : (o : Option (List ℕ)) → BoxTyped (option_map box_in o)
bbox_typed None = tt
bbox_typed (Some m) = box_typed m

int64_if : (o : Option ℕ) → IfPresent IsInt64 (option_map low_i64 o)
int64_if None = tt
int64_if (Some v) = int64_typed v

-- ---- the header

timestamp_typed : (at : ℕ) (m : List ℕ) → IfPresent IsInt64 (header_in at m).timestamp
unfolding header_in
timestamp_typed at m = int64_if (last_number REPLICATION_TIMESTAMP (fields_in at m))

sequence_typed : (at : ℕ) (m : List ℕ) → IfPresent IsInt64 (header_in at m).sequence
unfolding header_in
sequence_typed at m = int64_if (last_number REPLICATION_SEQUENCE (fields_in at m))

own_box_typed : (at : ℕ) (m : List ℕ) → BoxTyped (header_in at m).bbox
unfolding header_in
own_box_typed at m = bbox_typed (last_text BBOX (fields_in at m))

-- with its own box
pub header_fits : (at : ℕ) (m : List ℕ) → HeaderFits (header_out_for_convert (header_in at m))
header_fits at m = let h = header_in at m in out_fits h.bbox h (own_box_typed at m) (timestamp_typed at m) (sequence_typed at m)

-- with the box of an extract
pub header_fits_box : (area : BoundingBox) (at : ℕ) (m : List ℕ) → EdgesTyped (edges_of area) → HeaderFits (header_out_for_box area (header_in at m))
header_fits_box area at m typed = out_fits (Some (edges_of area)) (header_in at m) typed (timestamp_typed at m) (sequence_typed at m)
