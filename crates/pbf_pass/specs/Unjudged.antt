-- What a pass after the one that judged the file takes, and why it stops. It judges no payload, so what it takes is stated only for
-- files without a fault.
use Rattle.std.specs.Prelude.{◌≡◌, ℕ, List, Option, Some, None}
use Rattle.std.specs.List.{fold}
use Rattle.osm_entity.specs.Entity.{EntitySpec}
use Rattle.pbf_frame.specs.declared.device.Feed as feed
use Rattle.pbf_frame.specs.declared.stop.Stop.{Stop}
use Rattle.pbf_frame.specs.Frames.{FrameSpec}
use Rattle.pbf_frame.specs.Verdict.{Verdict}
use Rattle.pbf_pass.specs.Counting.{entities_in, stored_entities}
use Rattle.pbf_pass.specs.Judged.{fault_in, judged_file, payload_fault}
use Rattle.pbf_pass.specs.Payload.{Payload, payload_of}
use Rattle.pbf_pass.specs.Refused.{RefusesRest}
use Rattle.pbf_pass.specs.Stops.{Caused}

-- ---- one payload, and one frame

-- its entities were gathered, if it has no fault
abbrev pub GathersPayload : {S : Type 0} → (S → EntitySpec → S) → (before now : S) → Payload → Type 0
GathersPayload gathered before now p = fault_in p ≡ None → now ≡ fold gathered before (entities_in p)

-- some entities were gathered, whether the payload has a fault or not
abbrev pub GathersSome : {S : Type 0} → (S → EntitySpec → S) → (before now : S) → Type 0
GathersSome gathered before now = (es : List EntitySpec) × (now ≡ fold gathered before es)

-- it has a fault, which says that the bytes changed since they were judged; or a write failed, or memory was refused
abbrev pub StopsAtPayload : ℕ → (wrote : Type 0) → Payload → Stop → Type 0
StopsAtPayload number wrote p stop = Caused (λ e. ⊥) ⊥ wrote (λ pass. (pass ≡ number) × (fault_in p ≡ None → ⊥)) stop

-- the same of a frame, by its payload
abbrev pub IsSound : FrameSpec → Type 0
IsSound f = payload_fault f ≡ None

abbrev pub GathersFrame : {S : Type 0} → (S → EntitySpec → S) → (before now : S) → FrameSpec → Type 0
GathersFrame gathered before now f = GathersPayload gathered before now (payload_of f)

abbrev pub StopsAtFrame : ℕ → (wrote : Type 0) → FrameSpec → Stop → Type 0
StopsAtFrame number wrote f stop = StopsAtPayload number wrote (payload_of f) stop

-- ---- a file

-- this isn't the verdict on a file without a fault
abbrev pub IsFaulty : Option Verdict → Type 0
IsFaulty known = (frames : List FrameSpec) → known ≡ Some (frames, None) → ⊥

-- its entities were gathered, if it has no fault
abbrev pub GathersFile : {S : Type 0} → (S → EntitySpec → S) → Option Verdict → (before now : S) → Type 0
GathersFile gathered known before now = (frames : List FrameSpec) → known ≡ Some (frames, None) → now ≡ fold gathered before (stored_entities frames)

-- what the feed gave is how a file with a fault begins, or is one: so it is at a refusal, and at `Changed`
abbrev pub ReadsFaulty : {F : Type 0} → feed.Ghosts F → (old new : F) → Stop → Type 0
ReadsFaulty f old new stop = RefusesRest f old new (λ s bytes. IsFaulty (judged_file (Some bytes))) stop

-- it has a fault, in a frame that the reader refuses or in the payload of one; or a device failed, or memory was refused
abbrev pub StopsUnjudged : ℕ → Option Verdict → (read wrote : Type 0) → Stop → Type 0
StopsUnjudged number known read wrote stop = Caused (λ e. IsFaulty known) read wrote (λ pass. (pass ≡ number) × IsFaulty known) stop
