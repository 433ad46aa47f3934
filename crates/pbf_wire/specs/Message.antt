-- A message that is written, as what it has at each of its field numbers.
use Rattle.std.specs.Prelude.{◌≡◌, ℕ, ◌^◌, ◌<◌, ◌==◌, if◌then◌else◌, List, [], ◌∷◌, length, map, Option, Some, None}
use Rattle.std.specs.List.{flat_map, AllByRecursion}
use Rattle.pbf_wire.specs.declared.kind.Kind.{Kind}
use Rattle.pbf_wire.specs.declared.kind.Kind.TheVariants as kind
use Rattle.pbf_wire.specs.Columns.{entries, read_entries, packed}
use Rattle.pbf_wire.specs.Wire.{kind_of}
use Rattle.pbf_wire.specs.Writing.{Part, Single, Whole, written}

-- what it has at a field number: a number or nothing, a packed column, or messages and texts
pub data Slot : Type 0 where
  Scalar : (number : ℕ) (value : Option ℕ) → Slot
  Column : (number : ℕ) (values : List ℕ) → Slot
  Each : (number : ℕ) (messages : List (List ℕ)) → Slot

-- the fields that are written for it: none for nothing, and none for an empty column
abbrev pub parts_of : Slot → List Part
parts_of (Scalar number None) = []
parts_of (Scalar number (Some value)) = Single number value ∷ []
parts_of (Column number []) = []
parts_of (Column number (v ∷ vs)) = Whole number (packed (v ∷ vs)) ∷ []
parts_of (Each number messages) = map (Whole number) messages

-- what is written for one slot
unfoldable pub slot_bytes : Slot → List ℕ
slot_bytes slot = written (parts_of slot)

-- the message of these slots
unfoldable pub message : List Slot → List ℕ
message slots = written (flat_map parts_of slots)

-- a message that is left out if it has no field
abbrev pub unless_empty : List ℕ → List (List ℕ)
unless_empty [] = []
unless_empty (byte ∷ bytes) = (byte ∷ bytes) ∷ []

-- the numbers in it can be written
abbrev pub SlotFits : Slot → Type 0
SlotFits (Scalar number None) = Unit {0}
SlotFits (Scalar number (Some value)) = (0 < number) × (number < 2 ^ 29) × (value < 2 ^ 64)
SlotFits (Column number values) = (0 < number) × (number < 2 ^ 29) × AllByRecursion (λ v. v < 2 ^ 64) values
SlotFits (Each number messages) = (0 < number) × (number < 2 ^ 29)

-- it has the type that its field is known by
abbrev pub SlotIs : List (ℕ × Kind) → Slot → Type 0
SlotIs kinds (Scalar number value) = kind_of kinds number ≡ Some kind.Number
SlotIs kinds (Column number values) = kind_of kinds number ≡ Some kind.Column
SlotIs kinds (Each number messages) = kind_of kinds number ≡ Some kind.Bytes

-- its messages are shorter than n
abbrev pub SlotBelow : ℕ → Slot → Type 0
SlotBelow n (Scalar number value) = Unit {0}
SlotBelow n (Column number values) = Unit {0}
SlotBelow n (Each number messages) = AllByRecursion (λ m. length m < n) messages

-- ---- what is read of a slot at the field k

abbrev pub numbers_at : ℕ → Slot → List ℕ
numbers_at k (Scalar number None) = []
numbers_at k (Scalar number (Some value)) = if number == k then value ∷ [] else []
numbers_at k (Column number values) = if number == k then values else []
numbers_at k (Each number messages) = if number == k then flat_map (λ m. read_entries (entries m)) messages else []

abbrev pub scalars_at : ℕ → Slot → List ℕ
scalars_at k (Scalar number None) = []
scalars_at k (Scalar number (Some value)) = if number == k then value ∷ [] else []
scalars_at k (Column number values) = []
scalars_at k (Each number messages) = []

abbrev pub messages_at : ℕ → Slot → List (List ℕ)
messages_at k (Scalar number value) = []
messages_at k (Column number []) = []
messages_at k (Column number (v ∷ vs)) = if number == k then packed (v ∷ vs) ∷ [] else []
messages_at k (Each number messages) = if number == k then messages else []
