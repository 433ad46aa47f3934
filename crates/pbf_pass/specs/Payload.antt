-- A payload as one value: what it is by its frame, the place in the file where it begins, and its bytes.
use Rattle.std.specs.Prelude.{ℕ, List}
use Rattle.pbf_frame.specs.declared.frame.Frame.{Frame}
use Rattle.pbf_frame.specs.declared.frame.FrameKind.{FrameKind}
use Rattle.pbf_frame.specs.declared.frame.FrameKind.TheVariants as kind
use Rattle.pbf_frame.specs.Frames.{FrameSpec, frame_kind, frame_payload, frame_payload_at}

-- a HeaderBlock or a PrimitiveBlock, by its place and its message; or what another type holds, which isn't read
pub data Payload : Type 0 where
  header_block : ℕ → List ℕ → Payload
  primitive_block : ℕ → List ℕ → Payload
  unknown : Payload

abbrev pub payload_as : FrameKind → ℕ → List ℕ → Payload
payload_as kind.Header at message = header_block at message
payload_as kind.Data at message = primitive_block at message
payload_as kind.Other _ _ = unknown

-- that of a frame
abbrev pub payload_of : FrameSpec → Payload
payload_of f = payload_as (frame_kind f) (frame_payload_at f) (frame_payload f)

-- that of a frame which a reader lends
abbrev pub lent_by : Frame → Payload
lent_by frame = payload_as frame.kind frame.payload_at frame.payload.now
