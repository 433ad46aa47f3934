-- What a written message reads as, field by field.
use Rattle.std.proofs.Common.{◌≡◌, ℕ, ◌+◌, ◌*◌, ◌^◌, ◌<◌, Bool, true, false, cond, eqb, List, [], ◌∷◌, ◌++◌, length, map, Option, Some, None, refl, sym, ap, ◌∙◌, arith, length-append}
use Rattle.std.specs.Prelude.{Ok}
use Rattle.std.specs.List.{flat_map, last_or, AllByRecursion}
use Rattle.std.specs.Option.{option_map}
use Rattle.std.proofs.lemmas.List.{append-nil, map-append}
use Rattle.std.proofs.lemmas.Grind.{flat_map-append}
use Rattle.pbf_wire.specs.declared.kind.Kind.{Kind}
use Rattle.pbf_wire.specs.Varint.{shortest}
use Rattle.pbf_wire.specs.Occurrence.{Number, Bytes, Occurrence, items, found}
use Rattle.pbf_wire.specs.Columns.{entries, read_entries, entry_fault, packed, placed, column_of, column}
use Rattle.pbf_wire.specs.Reading.{values, last_number, each}
use Rattle.pbf_wire.specs.Wire.{reason_in, kind_of, wire}
use Rattle.pbf_wire.specs.Writing.{Part, Single, Whole, spelling, written, IsWritablePart, occurrence_of, occurrences_of}
use Rattle.pbf_wire.specs.Message.{Slot, Scalar, Column, Each, parts_of, message, SlotFits, SlotIs, SlotBelow, numbers_at, scalars_at, messages_at}
use Rattle.pbf_wire.proofs.Cutting.{all_ok}
use Rattle.pbf_wire.proofs.Written.{reads_back, column_reads_back, all_entries}
use Rattle.pbf_wire.proofs.Columns.{placed_numbers}
use Rattle.pbf_wire.proofs.PackedLemmas.{column_read}
use Rattle.pbf_wire.proofs.AllLemmas.{all_append, all_each, all_left, all_map, all_right}

-- ---- all fields can be written

abbrev PartFits : Part → Type 0
PartFits (Single number value) = (0 < number) × (number < 2 ^ 29) × (value < 2 ^ 64)
PartFits (Whole number bytes) = (0 < number) × (number < 2 ^ 29)

slot_parts_fit : (s : Slot) → SlotFits s → AllByRecursion PartFits (parts_of s)
slot_parts_fit (Scalar number (Some value)) h = (h, tt)
slot_parts_fit (Column number (v ∷ vs)) h = ((h.0, h.1), tt)
slot_parts_fit (Each number messages) h = all_map PartFits (Whole number) messages (all_each (λ m. PartFits (Whole number m)) (λ m. (h.0, h.1)) messages)
slot_parts_fit s h = tt

parts_fit : (slots : List Slot) → AllByRecursion SlotFits slots → AllByRecursion PartFits (flat_map parts_of slots)
parts_fit [] h = tt
parts_fit (s ∷ slots) h = all_append PartFits (parts_of s) (flat_map parts_of slots) (slot_parts_fit s h.0) (parts_fit slots h.1)

one_writable : (p : Part) → PartFits p → length (spelling p) < 2 ^ 64 → IsWritablePart p
one_writable (Single number value) h lt = h
one_writable (Whole number bytes) h lt = (h.0, h.1, omega (arith, length-append (shortest (number * 8 + 2)) (shortest (length bytes) ++ bytes), length-append (shortest (length bytes)) bytes))

writable : (ps : List Part) → AllByRecursion PartFits ps → length (written ps) < 2 ^ 64 → AllByRecursion IsWritablePart ps
writable [] h lt = tt
writable (p ∷ ps) h lt =
    let len = length-append (spelling p) (written ps) in
    (one_writable p h.0 (omega arith), writable ps h.1 (omega arith))

-- ---- the fields of a written message

found_all : (os : List Occurrence) → found (map Ok os) ≡ os
found_all [] = refl
found_all (o ∷ os) = ap (λ (xs : List Occurrence). o ∷ xs) (found_all os)

pub items_written : (at : ℕ) (slots : List Slot) → AllByRecursion SlotFits slots → length (message slots) < 2 ^ 64 → items at (message slots) ≡ map Ok (occurrences_of at (flat_map parts_of slots))
unfolding message
items_written at slots h lt = reads_back at (flat_map parts_of slots) (writable (flat_map parts_of slots) (parts_fit slots h) lt)

pub fields_written : (at : ℕ) (slots : List Slot) → AllByRecursion SlotFits slots → length (message slots) < 2 ^ 64 → found (items at (message slots)) ≡ occurrences_of at (flat_map parts_of slots)
fields_written at slots h lt = ap found (items_written at slots h lt) ∙ found_all (occurrences_of at (flat_map parts_of slots))

-- ---- columns

abbrev part_numbers : ℕ → Part → List ℕ
part_numbers k (Single number value) = cond (eqb number k) (value ∷ []) []
part_numbers k (Whole number bytes) = cond (eqb number k) (read_entries (entries bytes)) []

one_part : (k at : ℕ) (p : Part) → map (λ (p : ℕ × ℕ). p.0) (column_of k (occurrence_of at p)) ≡ part_numbers k p
one_part k at (Single number value) = elim (eqb number k) as (λ b. map (λ (p : ℕ × ℕ). p.0) (cond b (placed at (value ∷ [])) []) ≡ cond b (value ∷ []) []) [ true ↦ refl | false ↦ refl ]
one_part k at (Whole number bytes) =
    elim (eqb number k) as (λ b. map (λ (p : ℕ × ℕ). p.0) (cond b (placed at (read_entries (entries bytes))) []) ≡ cond b (read_entries (entries bytes)) [])
    [ true ↦ ap (map (λ (p : ℕ × ℕ). p.0)) (sym (append-nil (placed at (read_entries (entries bytes))))) ∙ placed_numbers at (read_entries (entries bytes)) | false ↦ refl ]

joined_parts : (k at : ℕ) (ps : List Part) → column k (occurrences_of at ps) ≡ flat_map (part_numbers k) ps
joined_parts k at [] = refl
joined_parts k at (p ∷ ps) = grind (arith, map-append, one_part, joined_parts k (at + length (spelling p)) ps)

none_at : (number k : ℕ) (ms : List (List ℕ)) (b : Bool) → eqb number k ≡ b → flat_map (part_numbers k) (map (Whole number) ms) ≡ cond b (flat_map (λ m. read_entries (entries m)) ms) []
none_at number k [] true e = refl
none_at number k [] false e = refl
none_at number k (m ∷ ms) true e = rw e (ap (λ (xs : List ℕ). read_entries (entries m) ++ xs) (none_at number k ms true e))
none_at number k (m ∷ ms) false e = rw e (none_at number k ms false e)

one_slot : (k : ℕ) (s : Slot) → SlotFits s → flat_map (part_numbers k) (parts_of s) ≡ numbers_at k s
one_slot k s h = grind (arith, append-nil, column_read, none_at)

slots_numbers : (k : ℕ) (slots : List Slot) → AllByRecursion SlotFits slots → flat_map (part_numbers k) (flat_map parts_of slots) ≡ flat_map (numbers_at k) slots
slots_numbers k [] h = refl
slots_numbers k (s ∷ slots) h = grind (arith, flat_map-append, one_slot, slots_numbers k slots h.1)

pub column_written : (k at : ℕ) (slots : List Slot) → AllByRecursion SlotFits slots → length (message slots) < 2 ^ 64 → column k (found (items at (message slots))) ≡ flat_map (numbers_at k) slots
column_written k at slots h lt = cc (fields_written at slots h lt, joined_parts k at (flat_map parts_of slots), slots_numbers k slots h)

-- ---- single numbers

abbrev pub part_scalars : ℕ → Part → List ℕ
part_scalars k (Single number value) = cond (eqb number k) (value ∷ []) []
part_scalars k (Whole number bytes) = []

abbrev pub numbers : List (ℕ × ℕ) → List ℕ
numbers vs = map (λ p. p.1) vs

scalar_parts : (k at : ℕ) (ps : List Part) → numbers (values k (occurrences_of at ps)) ≡ flat_map (part_scalars k) ps
scalar_parts k at [] = refl
scalar_parts k at (Single number value ∷ ps) = grind (arith, scalar_parts k (at + length (spelling (Single number value))) ps)
scalar_parts k at (Whole number bytes ∷ ps) = grind (arith, scalar_parts k (at + length (spelling (Whole number bytes))) ps)

no_scalars : (k number : ℕ) (ms : List (List ℕ)) → flat_map (part_scalars k) (map (Whole number) ms) ≡ []
no_scalars k number [] = refl
no_scalars k number (m ∷ ms) = no_scalars k number ms

slot_scalars : (k : ℕ) (s : Slot) → flat_map (part_scalars k) (parts_of s) ≡ scalars_at k s
slot_scalars k (Scalar number (Some value)) = append-nil _
slot_scalars k (Column number (v ∷ vs)) = refl
slot_scalars k (Each number messages) = no_scalars k number messages
slot_scalars k s = refl

pub slots_scalars : (k : ℕ) (slots : List Slot) → flat_map (part_scalars k) (flat_map parts_of slots) ≡ flat_map (scalars_at k) slots
slots_scalars k [] = refl
slots_scalars k (s ∷ slots) = grind (arith, flat_map-append, slot_scalars, slots_scalars k slots)

pub values_written : (k at : ℕ) (slots : List Slot) → numbers (values k (occurrences_of at (flat_map parts_of slots))) ≡ flat_map (scalars_at k) slots
values_written k at slots = scalar_parts k at (flat_map parts_of slots) ∙ slots_scalars k slots

last_number_is : (before : Option (ℕ × ℕ)) (vs : List (ℕ × ℕ)) → option_map (λ p. p.1) (last_or before vs) ≡ last_or (option_map (λ p. p.1) before) (numbers vs)
last_number_is before [] = refl
last_number_is before (v ∷ vs) = last_number_is (Some v) vs

pub last_written : (k at : ℕ) (slots : List Slot) → AllByRecursion SlotFits slots → length (message slots) < 2 ^ 64 → last_number k (found (items at (message slots))) ≡ last_or None (flat_map (scalars_at k) slots)
last_written k at slots h lt =
    let os = occurrences_of at (flat_map parts_of slots) in
    ap (last_number k) (fields_written at slots h lt) ∙ last_number_is None (values k os) ∙ ap (last_or None) (values_written k at slots)

-- ---- texts and embedded messages

abbrev pub part_messages : ℕ → Part → List (List ℕ)
part_messages k (Single number value) = []
part_messages k (Whole number bytes) = cond (eqb number k) (bytes ∷ []) []

message_parts : (k at : ℕ) (ps : List Part) → each k (occurrences_of at ps) ≡ flat_map (part_messages k) ps
message_parts k at [] = refl
message_parts k at (Single number value ∷ ps) = grind (arith, message_parts k (at + length (spelling (Single number value))) ps)
message_parts k at (Whole number bytes ∷ ps) = grind (arith, message_parts k (at + length (spelling (Whole number bytes))) ps)

whole_messages : (k number : ℕ) (ms : List (List ℕ)) (b : Bool) → eqb number k ≡ b → flat_map (part_messages k) (map (Whole number) ms) ≡ cond b ms []
whole_messages k number [] true e = refl
whole_messages k number [] false e = refl
whole_messages k number (m ∷ ms) true e = rw e (ap (λ (xs : List (List ℕ)). m ∷ xs) (whole_messages k number ms true e))
whole_messages k number (m ∷ ms) false e = rw e (whole_messages k number ms false e)

slot_messages : (k : ℕ) (s : Slot) → flat_map (part_messages k) (parts_of s) ≡ messages_at k s
slot_messages k s = grind (arith, append-nil, whole_messages)

pub slots_messages : (k : ℕ) (slots : List Slot) → flat_map (part_messages k) (flat_map parts_of slots) ≡ flat_map (messages_at k) slots
slots_messages k [] = refl
slots_messages k (s ∷ slots) = grind (arith, flat_map-append, slot_messages, slots_messages k slots)

pub each_written : (k at : ℕ) (slots : List Slot) → AllByRecursion SlotFits slots → length (message slots) < 2 ^ 64 → each k (found (items at (message slots))) ≡ flat_map (messages_at k) slots
each_written k at slots h lt =
    simp (fields_written at slots h lt, message_parts, slots_messages)

-- ---- each field has its type

abbrev PartIs : List (ℕ × Kind) → Part → Type 0
PartIs kinds (Single number value) = reason_in (kind_of kinds number) (Number value) ≡ None
PartIs kinds (Whole number bytes) = (a : ℕ) → reason_in (kind_of kinds number) (Bytes bytes a) ≡ None

wire_parts : (kinds : List (ℕ × Kind)) (at : ℕ) (ps : List Part) → AllByRecursion (PartIs kinds) ps → wire kinds (all_ok (occurrences_of at ps)) ≡ None
wire_parts kinds at [] h = refl
wire_parts kinds at (Single number value ∷ ps) h = grind (arith, h.0, wire_parts kinds (at + length (spelling (Single number value))) ps h.1)
wire_parts kinds at (Whole number bytes ∷ ps) h =
    let next = at + length (spelling (Whole number bytes)) in
    cc (h.0 (at + length (shortest (number * 8 + 2)) + length (shortest (length bytes))), wire_parts kinds next ps h.1)

no_entry_fault : (ns : List ℕ) → entry_fault (all_entries ns) ≡ None
no_entry_fault [] = refl
no_entry_fault (n ∷ ns) = no_entry_fault ns

slot_parts_are : (kinds : List (ℕ × Kind)) (s : Slot) → SlotIs kinds s → SlotFits s → AllByRecursion (PartIs kinds) (parts_of s)
slot_parts_are kinds (Scalar number (Some value)) h fits = (ap (λ (k : Option Kind). reason_in k (Number value)) h, tt)
slot_parts_are kinds (Column number (v ∷ vs)) h fits =
    (λ a. ap (λ (k : Option Kind). reason_in k (Bytes (packed (v ∷ vs)) a)) h ∙ ap entry_fault (column_reads_back (v ∷ vs) fits.2) ∙ no_entry_fault (v ∷ vs), tt)
slot_parts_are kinds (Each number ms) h fits = all_map (PartIs kinds) (Whole number) ms (all_each (λ m. PartIs kinds (Whole number m)) (λ m a. ap (λ (k : Option Kind). reason_in k (Bytes m a)) h) ms)
slot_parts_are kinds s h fits = tt

parts_are : (kinds : List (ℕ × Kind)) (slots : List Slot) → AllByRecursion (SlotIs kinds) slots → AllByRecursion SlotFits slots → AllByRecursion (PartIs kinds) (flat_map parts_of slots)
parts_are kinds [] h fits = tt
parts_are kinds (s ∷ slots) h fits = all_append (PartIs kinds) (parts_of s) (flat_map parts_of slots) (slot_parts_are kinds s h.0 fits.0) (parts_are kinds slots h.1 fits.1)

-- a written message whose slots have their types has no wire fault
pub no_wire_fault : (kinds : List (ℕ × Kind)) (at : ℕ) (slots : List Slot) → AllByRecursion (SlotIs kinds) slots → AllByRecursion SlotFits slots → length (message slots) < 2 ^ 64 → wire kinds (items at (message slots)) ≡ None
no_wire_fault kinds at slots h fits lt = cc (items_written at slots fits lt, wire_parts kinds at (flat_map parts_of slots) (parts_are kinds slots h fits))

-- ---- an embedded message is shorter than the whole

abbrev PartBelow : ℕ → Part → Type 0
PartBelow n (Single number value) = Unit {0}
PartBelow n (Whole number bytes) = length bytes < n

one_below : (n : ℕ) (p : Part) → length (spelling p) < n → PartBelow n p
one_below n (Single number value) lt = tt
one_below n (Whole number bytes) lt = omega (arith, length-append (shortest (number * 8 + 2)) (shortest (length bytes) ++ bytes), length-append (shortest (length bytes)) bytes)

parts_below : (n : ℕ) (ps : List Part) → length (written ps) < n → AllByRecursion (PartBelow n) ps
parts_below n [] lt = tt
parts_below n (p ∷ ps) lt =
    let len = length-append (spelling p) (written ps) in
    (one_below n p (omega arith), parts_below n ps (omega arith))

each_below : (n number : ℕ) (ms : List (List ℕ)) → AllByRecursion (PartBelow n) (map (Whole number) ms) → AllByRecursion (λ m. length m < n) ms
each_below n number [] h = tt
each_below n number (m ∷ ms) h = (h.0, each_below n number ms h.1)

slot_below : (n : ℕ) (s : Slot) → AllByRecursion (PartBelow n) (parts_of s) → SlotBelow n s
slot_below n (Each number ms) h = each_below n number ms h
slot_below n s h = tt

slots_below : (n : ℕ) (slots : List Slot) → AllByRecursion (PartBelow n) (flat_map parts_of slots) → AllByRecursion (SlotBelow n) slots
slots_below n [] h = tt
slots_below n (s ∷ slots) h =
    (slot_below n s (all_left (PartBelow n) (parts_of s) (flat_map parts_of slots) h), slots_below n slots (all_right (PartBelow n) (parts_of s) (flat_map parts_of slots) h))

pub embedded_below : (n : ℕ) (slots : List Slot) → length (message slots) < n → AllByRecursion (SlotBelow n) slots
unfolding message
embedded_below n slots lt = slots_below n slots (parts_below n (flat_map parts_of slots) lt)
