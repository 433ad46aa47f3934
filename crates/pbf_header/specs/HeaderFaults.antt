-- What is wrong with a HeaderBlock, phase by phase.
use Rattle.std.specs.Prelude.{ℕ, not, List, [], ◌∷◌, ◌++◌, Option}
use Rattle.std.specs.List.{flat_map}
use Rattle.pbf_wire.specs.declared.fault.Fault.{Fault}
use Rattle.pbf_wire.specs.declared.fault.Reason.TheVariants.{Feature}
use Rattle.pbf_wire.specs.Faults.{fault_where, entered, fields_in, nested_faults, missing, twice}
use Rattle.pbf_wire.specs.Occurrence.{Occurrence}
use Rattle.pbf_strings.specs.TableOut.{has_text}
use Rattle.pbf_header.specs.declared.header_block.TheConstants.{BBOX, HEADER_BLOCK_KINDS, BBOX_KINDS, REQUIRED_FEATURES, LEFT, RIGHT, TOP, BOTTOM}
use Rattle.pbf_wire.specs.Phases.{first_fault, in_phases}
use Rattle.pbf_header.specs.WrittenHeader.{known_features}

-- the edges that a box lacks, at the box's place
abbrev pub edge_faults : ℕ → ℕ → List ℕ → List Fault
edge_faults place at m = flat_map (λ k. missing k place (fields_in at m)) (LEFT ∷ RIGHT ∷ TOP ∷ BOTTOM ∷ [])

-- each box after the first, and what each box lacks
abbrev pub header_structure : List Occurrence → List Fault
header_structure os = twice BBOX os ++ flat_map (entered BBOX edge_faults) os

-- a feature that isn't known
abbrev pub feature_faults : ℕ → ℕ → List ℕ → List Fault
feature_faults place at text = fault_where (not (has_text known_features text)) place Feature

-- each required feature that isn't known
abbrev pub header_values : List Occurrence → List Fault
header_values os = flat_map (entered REQUIRED_FEATURES feature_faults) os

-- the faults of a header whose first byte is at `at` in the file, phase by phase: first those of the wire form of it and of its boxes
abbrev pub header_phases : ℕ → List ℕ → List (List Fault)
header_phases at m = let os = fields_in at m in nested_faults HEADER_BLOCK_KINDS BBOX BBOX_KINDS at at m ∷ header_structure os ∷ header_values os ∷ []

-- the first of them: the least of the first phase that has one
unfoldable pub header_fault : ℕ → List ℕ → Option Fault
header_fault at m = first_fault (header_phases at m)

-- all of them, each with its phase; a frame has seven before them
abbrev pub all_header_faults : ℕ → List ℕ → List (ℕ × Fault)
all_header_faults at m = in_phases 8 (header_phases at m)
