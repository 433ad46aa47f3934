-- All faults of a file as one set: of its frames, one after another, and in each of the eleven phases.
use Rattle.std.specs.Prelude.{ℕ, zero, suc, ◌+◌, List, [], ◌∷◌, ◌++◌, length, drop, map, Bool, false, Some, ◌||◌, not, ◌==◌, if◌then◌else◌}
use Rattle.pbf_wire.specs.declared.fault.Fault.{Fault}
use Rattle.pbf_wire.specs.declared.fault.Reason.TheVariants.{NoHeader}
use Rattle.pbf_wire.specs.Faults.{fault_where}
use Rattle.pbf_wire.specs.Phases.{in_phase, in_phases, phase_rank}
use Rattle.pbf_frame.specs.declared.frame.TheConstants.{FILE_LIMIT}
use Rattle.pbf_frame.specs.Frames.{FrameSpec, is_header, frame_at, frame_kind, frame_end, frame_bytes, frame_phases}
use Rattle.pbf_header.specs.HeaderFaults.{header_phases}
use Rattle.pbf_block.specs.PrimitiveBlock.{block_phases}
use Rattle.pbf_pass.specs.Payload.{Payload, header_block, primitive_block, unknown, payload_of}

-- the faults of a payload, phase by phase
abbrev pub payload_phases : Payload → List (List Fault)
payload_phases (header_block at message) = header_phases at message
payload_phases (primitive_block at message) = block_phases at message
payload_phases unknown = []

-- those of a frame and of its payload, each with its phase: seven for a frame whose payload is read, and then those of the payload
abbrev pub frame_faults : Bool → FrameSpec → List (ℕ × Fault)
frame_faults had_header f = in_phases 1 (frame_phases (Some FILE_LIMIT) had_header f ++ payload_phases (payload_of f))

-- a file that ends without its header lacks it at the place of the next frame
abbrev pub end_faults : Bool → ℕ → List (ℕ × Fault)
end_faults had_header place = in_phase 1 (fault_where (not had_header) place NoHeader)

-- those from a place on, each with the place of its frame, with fuel for each frame. What comes after a faulty frame is cut as if it had
-- no fault: all that is found there comes later in the order
unfoldable pub faults_within : ℕ → Bool → ℕ → List ℕ → List (ℕ × (ℕ × Fault))
faults_within zero had_header place bytes = []
faults_within (suc fuel) had_header place bytes =
    if length bytes == 0 then map (λ p. (place, p)) (end_faults had_header place)
    else (let f = frame_at place bytes in
    map (λ p. (place, p)) (frame_faults had_header f)
    ++ faults_within fuel (had_header || is_header (frame_kind f)) (frame_end f) (drop (length (frame_bytes f)) bytes))

-- those of a file
abbrev pub file_faults : List ℕ → List (ℕ × (ℕ × Fault))
file_faults file = faults_within (length file + 1) false 0 file

-- by the place of the frame, then by phase, then by offset, by the reason's number, by the field that is missing
abbrev pub file_rank : ℕ × (ℕ × Fault) → List ℕ
file_rank p = p.0 ∷ phase_rank p.1
