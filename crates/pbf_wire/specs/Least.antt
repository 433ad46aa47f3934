-- The least of faults: by offset, then by the reason, in the order of the reasons' numbers, then by the field of Missing.
use Rattle.std.specs.Prelude.{◌≡◌, ◌⊎◌, ℕ, List, [], ◌∷◌, Bool, true, false, Option, Some, None, nat_lt, if◌then◌else◌}
use denote.Enum.Declared.{tag_of}
use Rattle.pbf_wire.specs.contracts.fault.Reason.{the_type}
use Rattle.pbf_wire.specs.declared.fault.Fault.{Fault}
use Rattle.pbf_wire.specs.Reasons.{missing_field}

-- what faults are compared by, the first number first; the tag of a reason is its place among the reasons as they are declared, and
-- reasons are declared in the order of their numbers
abbrev pub fault_rank : Fault → List ℕ
fault_rank f = f.offset ∷ tag_of the_type f.reason ∷ missing_field f.reason ∷ []

-- the first list is less, by the first numbers that differ
abbrev pub is_less : List ℕ → List ℕ → Bool
is_less [] [] = false
is_less [] (y ∷ ys) = true
is_less (x ∷ xs) [] = false
is_less (x ∷ xs) (y ∷ ys) = if nat_lt x y then true else (if nat_lt y x then false else is_less xs ys)

-- the lesser of two, and the first of two that are alike
abbrev pub lesser_by : {X : Type 0} → (X → List ℕ) → Option X → Option X → Option X
lesser_by rank None g = g
lesser_by rank (Some f) None = Some f
lesser_by rank (Some f) (Some g) = if is_less (rank g) (rank f) then Some g else Some f

-- the least of a list
abbrev pub least_by : {X : Type 0} → (X → List ℕ) → List X → Option X
least_by rank [] = None
least_by rank (f ∷ fs) = lesser_by rank (Some f) (least_by rank fs)

abbrev pub lesser : Option Fault → Option Fault → Option Fault
lesser f g = lesser_by fault_rank f g

abbrev pub least : List Fault → Option Fault
least fs = least_by fault_rank fs

-- ---- what the least is

abbrev pub IsOne : {X : Type 0} → X → List X → Type 0
IsOne f [] = ⊥
IsOne f (g ∷ gs) = (f ≡ g) ⊎ IsOne f gs

-- none of them is less
abbrev pub NoneLess : {X : Type 0} → (X → List ℕ) → X → List X → Type 0
NoneLess rank f [] = Unit {0}
NoneLess rank f (g ∷ gs) = (is_less (rank g) (rank f) ≡ false) × NoneLess rank f gs

-- one of the list, with none less; of no list nothing
abbrev pub IsLeastBy : {X : Type 0} → (X → List ℕ) → Option X → List X → Type 0
IsLeastBy rank None fs = fs ≡ []
IsLeastBy rank (Some f) fs = IsOne f fs × NoneLess rank f fs
