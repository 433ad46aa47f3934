-- How long a written message is at most.
use Rattle.std.proofs.Common.{◌≡◌, ℕ, zero, suc, ◌+◌, ◌*◌, ◌/◌, ◌≤◌, List, [], ◌∷◌, ◌++◌, length, map, arith, length-append}
use Rattle.std.specs.List.{flat_map}
use Rattle.std.proofs.lemmas.List.{append-nil}
use Rattle.pbf_wire.specs.Columns.{packed}
use Rattle.pbf_wire.specs.Varint.{shortest, spelled_within}
use Rattle.pbf_wire.specs.Writing.{Part, Single, Whole, spelling, written}
use Rattle.pbf_wire.specs.Message.{Slot, Scalar, Column, Each, parts_of, message}

-- ---- varints, columns, fields

spelled_short : (n v : ℕ) → length (spelled_within n v) ≤ n + 1
unfolding spelled_within
spelled_short zero v = omega arith
spelled_short (suc n) v = grind (arith, spelled_short n (v / 128))

pub varint_short : (v : ℕ) → length (shortest v) ≤ 10
unfolding shortest
varint_short v = spelled_short 9 v

pub packed_short : (values : List ℕ) → length (packed values) ≤ 10 * length values
packed_short [] = omega arith
packed_short (v ∷ vs) = let rest = packed_short vs in omega (arith, length-append (shortest v) (packed vs), varint_short v, rest)

number_short : (number value : ℕ) → length (spelling (Single number value)) ≤ 20
number_short number value = omega (arith, length-append (shortest (number * 8)) (shortest value), varint_short (number * 8), varint_short value)

whole_short : (number : ℕ) (bytes : List ℕ) → length (spelling (Whole number bytes)) ≤ 20 + length bytes
whole_short number bytes = grind (arith, length-append, varint_short)

-- ---- messages

abbrev pub each_room : List (List ℕ) → ℕ
each_room [] = 0
each_room (m ∷ ms) = 20 + length m + each_room ms

abbrev pub slot_room : Slot → ℕ
slot_room (Scalar number value) = 20
slot_room (Column number values) = 20 + length (packed values)
slot_room (Each number ms) = each_room ms

abbrev pub room : List Slot → ℕ
room [] = 0
room (s ∷ slots) = slot_room s + room slots

pub each_short : (number : ℕ) (ms : List (List ℕ)) → length (written (map (Whole number) ms)) ≤ each_room ms
each_short number [] = omega arith
each_short number (m ∷ ms) = omega (arith, length-append (spelling (Whole number m)) (written (map (Whole number) ms)), whole_short number m, each_short number ms)

slot_short : (s : Slot) → length (written (parts_of s)) ≤ slot_room s
slot_short s = grind (arith, append-nil, number_short, whole_short, each_short)

written_append : (ps qs : List Part) → length (written (ps ++ qs)) ≡ length (written ps) + length (written qs)
written_append [] qs = omega arith
written_append (p ∷ ps) qs = omega (arith, length-append (spelling p) (written (ps ++ qs)), length-append (spelling p) (written ps), written_append ps qs)

slots_short : (slots : List Slot) → length (written (flat_map parts_of slots)) ≤ room slots
slots_short [] = omega arith
slots_short (s ∷ slots) = omega (arith, written_append (parts_of s) (flat_map parts_of slots), slot_short s, slots_short slots)

pub message_short : (slots : List Slot) → length (message slots) ≤ room slots
unfolding message
message_short = slots_short
