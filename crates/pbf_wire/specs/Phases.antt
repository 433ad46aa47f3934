-- Faults of several phases: the first phase that has one decides, and this is one order.
use Rattle.std.specs.Prelude.{ℕ, ◌+◌, List, [], ◌∷◌, ◌++◌, Option, None, map}
use Rattle.std.specs.Option.{option_or}
use Rattle.pbf_wire.specs.declared.fault.Fault.{Fault}
use Rattle.pbf_wire.specs.Least.{fault_rank, least}

-- the least fault of the first phase that has one
abbrev pub first_fault : List (List Fault) → Option Fault
first_fault [] = None
first_fault (faults ∷ later) = option_or (least faults) (first_fault later)

-- ---- the same as one order

-- the faults of a phase
abbrev pub in_phase : ℕ → List Fault → List (ℕ × Fault)
in_phase phase faults = map (λ f. (phase, f)) faults

-- those of all phases, of which the first has this number
abbrev pub in_phases : ℕ → List (List Fault) → List (ℕ × Fault)
in_phases n [] = []
in_phases n (faults ∷ later) = in_phase n faults ++ in_phases (n + 1) later

-- by phase, then as the faults of one phase: by offset, by the reason's number, by the field that is missing
abbrev pub phase_rank : ℕ × Fault → List ℕ
phase_rank p = p.0 ∷ fault_rank p.1
