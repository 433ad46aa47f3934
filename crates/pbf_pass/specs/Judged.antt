-- The verdict on a file of all phases: of its frames, and of the payloads in them.
use Rattle.std.specs.Prelude.{ℕ, List, [], ◌∷◌, false, Option, Some, None}
use Rattle.std.specs.Option.{option_map}
use Rattle.pbf_wire.specs.declared.fault.Fault.{Fault}
use Rattle.pbf_frame.specs.Frames.{FrameSpec}
use Rattle.pbf_frame.specs.Verdict.{Verdict, with_frame_first, judged_known}
use Rattle.pbf_header.specs.HeaderFaults.{header_fault}
use Rattle.pbf_block.specs.PrimitiveBlock.{block_fault}
use Rattle.pbf_pass.specs.Payload.{Payload, header_block, primitive_block, unknown, payload_of}

-- the first fault of a payload
abbrev pub fault_in : Payload → Option Fault
fault_in (header_block at message) = header_fault at message
fault_in (primitive_block at message) = block_fault at message
fault_in unknown = None

abbrev pub payload_fault : FrameSpec → Option Fault
payload_fault f = fault_in (payload_of f)

-- a frame before the others, if its payload has no fault
abbrev pub sound_first : Option Fault → FrameSpec → Verdict → Verdict
sound_first None f verdict = with_frame_first f verdict
sound_first (Some e) f verdict = ([], Some e)

-- the frames before the first one whose payload has a fault, and that fault; if none has one, all of them and what follows them
abbrev pub sound_front : List FrameSpec → Option Fault → Verdict
sound_front [] ending = ([], ending)
sound_front (f ∷ fs) ending = sound_first (payload_fault f) f (sound_front fs ending)

-- the verdict of all phases, if this is the one of frames
abbrev pub fully : Verdict → Verdict
fully verdict = sound_front verdict.0 verdict.1

abbrev pub fully_known : Option Verdict → Option Verdict
fully_known known = option_map fully known

-- the verdict of all phases on a file
abbrev pub judged_file : Option (List ℕ) → Option Verdict
judged_file known = fully_known (judged_known false 0 known)
