-- The first fault of a file is the least of all its faults.
use Rattle.std.proofs.Common.{◌≡◌, ℕ, zero, suc, ◌+◌, ◌≤◌, List, ◌++◌, length, drop, refl, ap, ap₂, sym, ◌∙◌, arith}
use Rattle.std.specs.Prelude.{Bool, true, false, ◌||◌, ◌==◌, if◌then◌else◌, Option, Some, None, Result, Ok, Err, [], map}
use Rattle.std.specs.Option.{option_map, option_or}
use Rattle.pbf_wire.specs.declared.fault.Fault.{Fault}
use Rattle.pbf_wire.specs.declared.fault.Reason.TheVariants.{NoHeader}
use Rattle.pbf_wire.specs.Least.{least_by}
use Rattle.pbf_wire.specs.Phases.{first_fault, phase_rank}
use Rattle.pbf_wire.proofs.PhaseLemmas.{IsFrom, later_from, parted_from, parted_found, phases_joined, or_first, first_of_joined}
use Rattle.pbf_frame.specs.declared.frame.TheConstants.{FILE_LIMIT}
use Rattle.pbf_frame.specs.Frames.{FrameSpec, is_header, frame_at, frame_kind, frame_end, frame_bytes, frame_phases, next_within}
use Rattle.pbf_frame.proofs.Stepping.{given_or}
use Rattle.pbf_frame.specs.Verdict.{Verdict, judged_after, judged_fueled, judged_within}
use Rattle.pbf_header.specs.HeaderFaults.{header_fault}
use Rattle.pbf_block.specs.PrimitiveBlock.{block_fault}
use Rattle.pbfcut.specs.FileFaults.{payload_phases, frame_faults, end_faults, faults_within, file_faults, file_rank}
use Rattle.pbf_pass.specs.Judged.{fault_in, payload_fault, sound_first, fully, judged_file}
use Rattle.pbf_pass.specs.Payload.{Payload, payload_of}

-- ---- a frame

payload_first : (p : Payload) → first_fault (payload_phases p) ≡ fault_in p
unfolding header_fault block_fault
payload_first p = grind arith

frame_first : (had_header : Bool) (f : FrameSpec) → option_map (λ p. p.1) (least_by phase_rank (frame_faults had_header f)) ≡ option_or (first_fault (frame_phases (Some FILE_LIMIT) had_header f)) (payload_fault f)
frame_first had_header f = grind (arith, phases_joined 1 (frame_phases (Some FILE_LIMIT) had_header f ++ payload_phases (payload_of f)), first_of_joined (frame_phases (Some FILE_LIMIT) had_header f) (payload_phases (payload_of f)), payload_first (payload_of f))

-- ---- the verdict, frame by frame

after_payload : (fault : Option Fault) (f : FrameSpec) (later : Verdict) → (sound_first fault f later).1 ≡ option_or fault later.1
after_payload fault f later = grind arith

after_frame : (later : Bool → ℕ → List ℕ → Verdict) (had_header : Bool) (fault : Option Fault) (f : FrameSpec) (bytes : List ℕ)
    → (fully (judged_after later had_header (given_or fault f bytes))).1
    ≡ option_or fault (option_or (payload_fault f) (fully (later (had_header || is_header (frame_kind f)) (frame_end f) (drop (length (frame_bytes f)) bytes))).1)
after_frame later had_header fault f bytes = grind (arith, after_payload)

-- ---- the set, frame by frame

both_parts : (o : Option (ℕ × (ℕ × Fault))) → option_map (λ p. p.1.1) o ≡ option_map (λ p. p.1) (option_map (λ p. p.1) o)
both_parts o = grind arith

map_or : (f g : Option (ℕ × Fault)) → option_map (λ p. p.1) (option_or f g) ≡ option_or (option_map (λ p. p.1) f) (option_map (λ p. p.1) g)
map_or f g = grind arith

frame_ends : (f : FrameSpec) → f.offset + 1 ≤ frame_end f
frame_ends f = omega arith

ends_from : (had_header : Bool) (place : ℕ) → IsFrom place (least_by file_rank (map (λ p. (place, p)) (end_faults had_header place)))
ends_from had_header place = grind arith

-- a file ends here, if it had its header
abbrev end_of : Bool → ℕ → Result (Option FrameSpec × List ℕ) Fault
end_of had_header place = if had_header then Ok (None, []) else Err (record { offset = place; reason = NoHeader })

ends_same : (later : Bool → ℕ → List ℕ → Verdict) (had_header : Bool) (place : ℕ) → option_map (λ p. p.1.1) (least_by file_rank (map (λ p. (place, p)) (end_faults had_header place))) ≡ (fully (judged_after later had_header (end_of had_header place))).1
ends_same later had_header place = grind arith

-- a frame, and what follows it
module _ (fuel : ℕ) (had_header : Bool) (place : ℕ) (bytes : List ℕ) where
  abbrev f : FrameSpec
  f = frame_at place bytes

  abbrev later : List (ℕ × (ℕ × Fault))
  later = faults_within fuel (had_header || is_header (frame_kind f)) (frame_end f) (drop (length (frame_bytes f)) bytes)

  abbrev after : Option Fault
  after = (fully (judged_fueled (Some FILE_LIMIT) fuel (had_header || is_header (frame_kind f)) (frame_end f) (drop (length (frame_bytes f)) bytes))).1

  abbrev own : Option Fault
  own = first_fault (frame_phases (Some FILE_LIMIT) had_header f)

  abbrev all_of : Bool → List (ℕ × (ℕ × Fault))
  all_of b = if b then map (λ p. (place, p)) (end_faults had_header place) else (map (λ p. (place, p)) (frame_faults had_header f) ++ later)

  module _ (from : IsFrom (frame_end f) (least_by file_rank later)) where
    from_next : IsFrom (place + 1) (least_by file_rank later)
    from_next = later_from (place + 1) (frame_end f) (least_by file_rank later) (frame_ends f) from

    from_here : (b : Bool) → IsFrom place (least_by file_rank (all_of b))
    from_here true = ends_from had_header place
    from_here false = parted_from phase_rank place (frame_faults had_header f) later from_next

    frame_then : option_map (λ p. p.1.1) (least_by file_rank later) ≡ after → option_map (λ p. p.1.1) (least_by file_rank (all_of false)) ≡ option_or own (option_or (payload_fault f) after)
    frame_then is =
        both_parts (least_by file_rank (all_of false))
        ∙ ap (option_map (λ p. p.1)) (parted_found phase_rank place (frame_faults had_header f) later from_next)
        ∙ map_or (least_by phase_rank (frame_faults had_header f)) (option_map (λ p. p.1) (least_by file_rank later))
        ∙ ap₂ option_or (frame_first had_header f) (sym (both_parts (least_by file_rank later)) ∙ is)
        ∙ sym (or_first own (payload_fault f) after)

    same_here : option_map (λ p. p.1.1) (least_by file_rank later) ≡ after → (b : Bool)
        → option_map (λ p. p.1.1) (least_by file_rank (all_of b)) ≡ (fully (judged_after (judged_fueled (Some FILE_LIMIT) fuel) had_header (if b then end_of had_header place else given_or own f bytes))).1
    same_here h0 b = grind (arith, ends_same, frame_then, after_frame)

from_place : (fuel : ℕ) (had_header : Bool) (place : ℕ) (bytes : List ℕ) → IsFrom place (least_by file_rank (faults_within fuel had_header place bytes))
unfolding faults_within
from_place zero had_header place bytes = tt
from_place (suc fuel) had_header place bytes =
    let f = frame_at place bytes in
    from_here fuel had_header place bytes (from_place fuel (had_header || is_header (frame_kind f)) (frame_end f) (drop (length (frame_bytes f)) bytes)) (length bytes == 0)

faults_same : (fuel : ℕ) (had_header : Bool) (place : ℕ) (bytes : List ℕ) → option_map (λ p. p.1.1) (least_by file_rank (faults_within fuel had_header place bytes)) ≡ (fully (judged_fueled (Some FILE_LIMIT) fuel had_header place bytes)).1
unfolding faults_within judged_fueled next_within
faults_same zero had_header place bytes = refl
faults_same (suc fuel) had_header place bytes =
    let f = frame_at place bytes in
    let had = had_header || is_header (frame_kind f) in
    let rest = drop (length (frame_bytes f)) bytes in
    same_here fuel had_header place bytes (from_place fuel had (frame_end f) rest) (faults_same fuel had (frame_end f) rest) (length bytes == 0)

-- ---- a file

pub file_first : (file : List ℕ) → option_map (λ verdict. verdict.1) (judged_file (Some file)) ≡ Some (option_map (λ p. p.1.1) (least_by file_rank (file_faults file)))
unfolding judged_within
file_first file = ap Some (sym (faults_same (length file + 1) false 0 file))
