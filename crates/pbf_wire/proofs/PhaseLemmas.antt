-- The least fault of the first phase that has one is the least of all phases; so is it of whatever comes part by part, each part with a
-- number of its own, and in each part by an order.
use Rattle.std.proofs.Common.{◌≡◌, ℕ, ◌+◌, ◌≤◌, List, [], ◌∷◌, ◌++◌, refl, ap, sym, subst, ◌∙◌, arith}
use Rattle.std.specs.Prelude.{Option, Some, None, map}
use Rattle.std.specs.Option.{option_map, option_or}
use Rattle.pbf_wire.specs.declared.fault.Fault.{Fault}
use Rattle.pbf_wire.specs.Least.{fault_rank, lesser_by, least_by, least}
use Rattle.pbf_wire.specs.Phases.{first_fault, in_phases, phase_rank}
use Rattle.pbf_wire.proofs.LeastLemmas.{least_joined}

-- what is there is of the part with this number or of a later one
abbrev pub IsFrom : {X : Type 0} → ℕ → Option (ℕ × X) → Type 0
IsFrom n None = Unit {0}
IsFrom n (Some p) = n ≤ p.0

pub later_from : {X : Type 0} (n k : ℕ) (o : Option (ℕ × X)) → n ≤ k → IsFrom k o → IsFrom n o
later_from n k None le from = tt
later_from n k (Some p) le from = omega (arith, le, from)

module _ {X : Type 0} (r : X → List ℕ) where
  -- by the part's number, then as in the part
  abbrev in_part : ℕ × X → List ℕ
  in_part p = p.0 ∷ r p.1

  -- ---- one part

  lesser_in_part : (n : ℕ) (f g : Option X) → lesser_by in_part (option_map (λ x. (n, x)) f) (option_map (λ x. (n, x)) g) ≡ option_map (λ x. (n, x)) (lesser_by r f g)
  lesser_in_part n f g = grind arith

  least_in_part : (n : ℕ) (xs : List X) → least_by in_part (map (λ x. (n, x)) xs) ≡ option_map (λ x. (n, x)) (least_by r xs)
  least_in_part n [] = refl
  least_in_part n (x ∷ xs) = ap (λ w. lesser_by in_part (Some (n, x)) w) (least_in_part n xs) ∙ lesser_in_part n (Some x) (least_by r xs)

  -- ---- a part and those after it

  from_or : (n : ℕ) (found : Option X) (later : Option (ℕ × X)) → IsFrom (n + 1) later → IsFrom n (option_or (option_map (λ x. (n, x)) found) later)
  from_or n None later from = later_from n (n + 1) later (omega arith) from
  from_or n (Some x) later from = omega arith

  found_or : (n : ℕ) (found : Option X) (later : Option (ℕ × X)) → option_map (λ p. p.1) (option_or (option_map (λ x. (n, x)) found) later) ≡ option_or found (option_map (λ p. p.1) later)
  found_or n f later = grind arith

  parted : (n : ℕ) (xs : List X) (later : List (ℕ × X)) → IsFrom (n + 1) (least_by in_part later) → least_by in_part (map (λ x. (n, x)) xs ++ later) ≡ option_or (option_map (λ x. (n, x)) (least_by r xs)) (least_by in_part later)
  parted n xs later from = grind (arith, least_joined, least_in_part)

  pub parted_from : (n : ℕ) (xs : List X) (later : List (ℕ × X)) → IsFrom (n + 1) (least_by in_part later) → IsFrom n (least_by in_part (map (λ x. (n, x)) xs ++ later))
  parted_from n xs later from = subst (IsFrom n) (sym (parted n xs later from)) (from_or n (least_by r xs) _ from)

  pub parted_found : (n : ℕ) (xs : List X) (later : List (ℕ × X)) → IsFrom (n + 1) (least_by in_part later) → option_map (λ p. p.1) (least_by in_part (map (λ x. (n, x)) xs ++ later)) ≡ option_or (least_by r xs) (option_map (λ p. p.1) (least_by in_part later))
  parted_found n xs later from = ap (option_map (λ p. p.1)) (parted n xs later from) ∙ found_or n (least_by r xs) _

-- ---- phases

all_from : (n : ℕ) (phases : List (List Fault)) → IsFrom n (least_by phase_rank (in_phases n phases))
all_from n [] = grind arith
all_from n (faults ∷ later) = parted_from fault_rank n faults (in_phases (n + 1) later) (all_from (n + 1) later)

pub phases_joined : (n : ℕ) (phases : List (List Fault)) → option_map (λ p. p.1) (least_by phase_rank (in_phases n phases)) ≡ first_fault phases
phases_joined n [] = refl
phases_joined n (faults ∷ later) = cc (parted_found fault_rank n faults (in_phases (n + 1) later) (all_from (n + 1) later), phases_joined (n + 1) later)

pub or_first : (f g h : Option Fault) → option_or f (option_or g h) ≡ option_or (option_or f g) h
or_first f g h = grind arith

-- the first phase that has one is of the first phases, or of those after them
pub first_of_joined : (phases later : List (List Fault)) → first_fault (phases ++ later) ≡ option_or (first_fault phases) (first_fault later)
first_of_joined [] later = refl
first_of_joined (faults ∷ phases) later = ap (option_or (least faults)) (first_of_joined phases later) ∙ or_first (least faults) (first_fault phases) (first_fault later)
