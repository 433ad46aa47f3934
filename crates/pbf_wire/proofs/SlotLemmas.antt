-- What is read at one field of a list of slots.
use Rattle.std.proofs.Common.{length, ◌≡◌, ◌≤◌, arith, ℕ, ◌^◌, ◌<◌, [], ◌++◌, Option, Some, None}
use Rattle.std.specs.List.{last_or}
use Rattle.std.specs.Option.{option_map, option_to_list}
use Rattle.pbf_wire.specs.Message.{Scalar, SlotFits}

-- ---- options

abbrev pub IfSome : {X : Type 0} → (X → Type 0) → Option X → Type 0
IfSome P None = Unit {0}
IfSome P (Some x) = P x

-- what is read of an option that was written
pub option_read : {X Y : Type 0} (f : X → Y) (g : Y → X) (P : X → Type 0) → ((x : X) → P x → g (f x) ≡ x) → (o : Option X) → IfSome P o → option_map g (option_map f o) ≡ o
option_read f g P back h h' = grind arith

-- a text that is present is the last there is
pub last_text_of : {X : Type 0} (o : Option X) → last_or None (option_to_list o ++ []) ≡ o
last_text_of o = grind arith

-- ---- numbers

pub scalar_fits : {X : Type 0} (f : X → ℕ) (P : X → Type 0) → ((x : X) → P x → f x < 2 ^ 64) → (number : ℕ) → 0 < number → number < 2 ^ 29 → (o : Option X) → IfSome P o → SlotFits (Scalar number (option_map f o))
scalar_fits f P fit number positive small None h = tt
scalar_fits f P fit number positive small (Some x) h = (positive, small, fit x h)

-- one at most
pub option_few : {X : Type 0} (o : Option X) → length (option_to_list o ++ []) ≤ 1
option_few o = grind arith
