-- A message is written slot by slot.
use Rattle.std.proofs.Common.{◌≡◌, ℕ, ◌+◌, ◌*◌, ◌<◌, List, [], ◌∷◌, ◌++◌, length, Some, None, refl, sym, ap, ◌∙◌, arith, length-append, append_assoc}
use Rattle.std.specs.List.{flat_map}
use Rattle.std.proofs.lemmas.List.{append-nil, map-append}
use Rattle.std.proofs.lemmas.Grind.{flat_map-append}
use Rattle.pbf_wire.specs.Varint.{shortest, spelled_within}
use Rattle.pbf_wire.specs.Columns.{packed}
use Rattle.pbf_wire.specs.Writing.{spelling}
use Rattle.pbf_wire.specs.Message.{Slot, Scalar, Column, Each, parts_of, slot_bytes, message, unless_empty}

spelled_positive : (n v : ℕ) → 0 < length (spelled_within n v)
unfolding spelled_within
spelled_positive n v = grind arith

-- each spelling takes a byte
pub shortest_positive : (v : ℕ) → 0 < length (shortest v)
unfolding shortest
shortest_positive v = spelled_positive 9 v

pub scalar_bytes : (number value : ℕ) → slot_bytes (Scalar number (Some value)) ≡ shortest (number * 8) ++ shortest value
unfolding slot_bytes
scalar_bytes number value = append-nil _

pub each_bytes : (number : ℕ) (bytes : List ℕ) → slot_bytes (Each number (bytes ∷ [])) ≡ shortest (number * 8 + 2) ++ (shortest (length bytes) ++ bytes)
unfolding slot_bytes
each_bytes number bytes = append-nil _

pub number_put : (number value : ℕ) (old tagged new : List ℕ) → tagged ≡ old ++ shortest (number * 8) → new ≡ tagged ++ shortest value → new ≡ old ++ slot_bytes (Scalar number (Some value))
number_put number value old tagged new e f = rw (scalar_bytes number value, f, e) (append_assoc old (shortest (number * 8)) (shortest value))

pub bytes_put : (number : ℕ) (bytes old tagged sized new : List ℕ) → tagged ≡ old ++ shortest (number * 8 + 2) → sized ≡ tagged ++ shortest (length bytes) → new ≡ sized ++ bytes → new ≡ old ++ slot_bytes (Each number (bytes ∷ []))
bytes_put number bytes old tagged sized new e f g = rw (each_bytes number bytes, g, f, e) (simp append_assoc)

-- a column that is empty has no bytes
pub column_empty : (number : ℕ) (values : List ℕ) → length (packed values) ≡ 0 → slot_bytes (Column number values) ≡ []
unfolding slot_bytes
column_empty number values e = grind (arith, length-append, shortest_positive)

whole : (bytes : List ℕ) → 0 < length bytes → unless_empty bytes ≡ bytes ∷ []
whole bytes h = grind arith

-- a column is written as a message that is left out if it is empty
pub column_put : (number : ℕ) (values : List ℕ) → slot_bytes (Each number (unless_empty (packed values))) ≡ slot_bytes (Column number values)
unfolding slot_bytes
column_put number values = grind (arith, whole, length-append, shortest_positive)

-- ---- for those who write a whole message

pub message_first : (s : Slot) (slots : List Slot) → message (s ∷ slots) ≡ slot_bytes s ++ message slots
unfolding message slot_bytes
message_first s slots = flat_map-append spelling (parts_of s) (flat_map parts_of slots)

pub message_none : message [] ≡ []
unfolding message
message_none = refl

pub message_one : (s : Slot) → message (s ∷ []) ≡ slot_bytes s
message_one s = message_first s [] ∙ ap (λ (w : List ℕ). slot_bytes s ++ w) message_none ∙ append-nil (slot_bytes s)

-- one more slot is written
pub one_more : (s : Slot) (slots : List Slot) (old new all : List ℕ) → new ≡ old ++ slot_bytes s → all ≡ new ++ message slots → all ≡ old ++ message (s ∷ slots)
one_more s slots old new all e h = grind (arith, append_assoc, message_first)

pub all_written : (all : List ℕ) → all ≡ all ++ message []
all_written all = sym (ap (λ (w : List ℕ). all ++ w) message_none ∙ append-nil all)

-- the last slot is written
pub last_slot : (s : Slot) (old new : List ℕ) → new ≡ old ++ slot_bytes s → new ≡ old ++ message (s ∷ [])
last_slot s old new e = one_more s [] old new new e (all_written new)

-- a slot is written after a message
pub slot_put : (slots : List Slot) (s : Slot) (old new : List ℕ) → old ≡ message slots → new ≡ old ++ slot_bytes s → new ≡ message (slots ++ s ∷ [])
slot_put [] s old new e h = h ∙ ap (λ (w : List ℕ). w ++ slot_bytes s) (e ∙ message_none) ∙ sym (message_one s)
slot_put (t ∷ slots) s old new e h = grind (arith, message_first, append_assoc, slot_put slots s (message slots) (message slots ++ slot_bytes s) refl refl)

-- nothing is written for an absent number
pub scalar_none : (number : ℕ) → slot_bytes (Scalar number None) ≡ []
unfolding slot_bytes
scalar_none number = refl

pub nothing_put : (s : Slot) (old : List ℕ) → slot_bytes s ≡ [] → old ≡ old ++ slot_bytes s
nothing_put s old e = sym (ap (λ (w : List ℕ). old ++ w) e ∙ append-nil old)

-- ---- messages and texts, one after the other

pub each_none : (number : ℕ) → slot_bytes (Each number []) ≡ []
unfolding slot_bytes
each_none number = refl

pub each_joined : (number : ℕ) (ms others : List (List ℕ)) → slot_bytes (Each number (ms ++ others)) ≡ slot_bytes (Each number ms) ++ slot_bytes (Each number others)
unfolding slot_bytes
each_joined number ms others = grind (arith, map-append, flat_map-append)

-- more is written under the same number
pub each_after : (number : ℕ) (ms others : List (List ℕ)) (old new all : List ℕ) → new ≡ old ++ slot_bytes (Each number ms) → all ≡ new ++ slot_bytes (Each number others) → all ≡ old ++ slot_bytes (Each number (ms ++ others))
each_after number ms others old new all e h = grind (arith, append_assoc, each_joined)

-- a message without fields isn't written
pub empty_left : (number : ℕ) (m old : List ℕ) → length m ≡ 0 → old ≡ old ++ slot_bytes (Each number (unless_empty m))
empty_left number m old e = grind (arith, nothing_put, each_none)
