-- The text of `show`, what a call does to its drain, and why it stops.
use Rattle.std.specs.Prelude.{◌≡◌, ◌≤◌, ◌⊎◌, ℕ, List, [], Bool, Option, Some, None, Result, OnOk, OnErr, IfOk, IfErr}
use Rattle.std.specs.List.{flat_map}
use Rattle.pbf_wire.specs.declared.fault.Fault.{Fault}
use Rattle.pbf_header.specs.Header.{header_in}
use Rattle.pbf_block.specs.PrimitiveBlock.{entities}
use Rattle.pbf_frame.specs.declared.device.Drain as drain
use Rattle.pbf_frame.specs.declared.stop.Stop.{Stop}
use Rattle.pbf_frame.specs.Devices.{IsFront}
use Rattle.pbf_frame.specs.Transfers.{Added}
use Rattle.pbf_frame.specs.Frames.{FrameSpec}
use Rattle.pbf_frame.specs.Verdict.{Verdict, Says}
use Rattle.osm_text.specs.EntityText.{entity_line}
use Rattle.osm_text.specs.HeaderText.{header_text}
use Rattle.pbfcut.specs.declared.showing.LineWriter.{LineWriter}
use Rattle.pbf_pass.specs.Hashing.{mark_by}
use Rattle.pbf_pass.specs.Unjudged.{ReadsFaulty}
use Rattle.pbf_pass.specs.Judged.{fault_in, judged_file, payload_fault}
use Rattle.pbf_pass.specs.Payload.{Payload, header_block, primitive_block, unknown, payload_of}
use Rattle.pbf_pass.specs.Stops.{Caused, FaultOf, Only, unchanged, WriteFailed}
use Rattle.pbf_frame.specs.Keeps.{KeepsDrain}
use Rattle.pbfcut.specs.Calls.{DrainUse, FailedDrain, FailedFeed, FeedUse, GaveBy, KeepsDrained, KeepsFed, TookBy, supply_of, taken_after, taken_before}
use Rattle.pbf_pass.specs.declared.hashing.PassCheck.{PassCheck}

-- ---- the text

-- of a payload: the lines of its header, or of its entities
abbrev pub text_in : Bool → Payload → List ℕ
text_in dates (header_block at message) = header_text (header_in at message)
text_in dates (primitive_block at message) = flat_map (entity_line dates) (entities at message)
text_in dates unknown = []

unfoldable pub frame_text : Bool → FrameSpec → List ℕ
frame_text dates f = text_in dates (payload_of f)

-- of all frames, in order
abbrev pub file_text : Bool → List FrameSpec → List ℕ
file_text dates frames = flat_map (frame_text dates) frames

-- what is to be written for a file with this verdict: nothing if it has a fault
abbrev pub answer_text : Bool → Verdict → List ℕ
answer_text dates (frames, None) = file_text dates frames
answer_text dates (frames, Some e) = []

-- ---- a whole call

-- the file has no fault, and these bytes are the text of its frames
pub record Shown (dates : Bool) (known : Option Verdict) (written : List ℕ) : Type 0 where
  pub frames : List FrameSpec
  pub says : Says known (frames, None)
  pub is : written ≡ file_text dates frames

-- a prefix of what is to be written for the file went out
abbrev pub ShowsFront : Bool → Option Verdict → Option (List ℕ) → Option (List ℕ) → Type 0
ShowsFront dates known old new = (all : Verdict) → known ≡ Some all → IsFront old new (answer_text dates all)

-- ---- the pass that writes

-- a prefix of the text of the frames before the first fault went out
abbrev pub WritesFront : Bool → Option Verdict → Option (List ℕ) → Option (List ℕ) → Type 0
WritesFront dates known old new = (all : Verdict) → known ≡ Some all → IsFront old new (file_text dates all.0)

-- the feed gave a file, of this digest by the check, and the drain took its text; or a prefix of it, if the pass stopped
pub record ShowsAgain {D : Type 0} (source : FeedUse) (drain : DrainUse D) (check : PassCheck) (dates : Bool) (result : Result (List ℕ) Stop) : Type 0 where
  pub shown : IfOk result (λ digest. GaveBy source (mark_by check digest) (λ file. TookBy drain (Shown dates (judged_file (Some file)))))
  pub beginning : OnErr result (WritesFront dates (judged_file (supply_of source)) (taken_before drain) (taken_after drain))
  pub stops : IfErr result (Caused (FaultOf (judged_file (supply_of source))) (FailedFeed source) (FailedDrain drain) unchanged)
  pub faulty : IfErr result (ReadsFaulty source.ghosts source.old source.new)
  pub keeps : KeepsFed source
  pub out : KeepsDrained drain

-- ---- one frame of it

-- what has no fault was shown
pub record ShowsText {D : Type 0} (d : drain.Ghosts D) (fault : Option Fault) (text : List ℕ) (old new : D) : Type 0 where
  pub sound : fault ≡ None
  pub added : Added d old text new

-- a call stopped: for the fault, then nothing went out; otherwise a prefix of the text did
pub record StopsShowing {D : Type 0} (d : drain.Ghosts D) (fault : Option Fault) (text : List ℕ) (old new : D) (stop : Stop) : Type 0 where
  pub cause : Caused (Only fault) ⊥ (WriteFailed d old new) unchanged stop
  pub front : Added d old [] new ⊎ ((fault ≡ None) × IsFront (d.taken old) (d.taken new) text)

-- what a call does that writes these lines
pub record WritesLines {D X : Type 0} (d : drain.Ghosts D) (text : List ℕ) (before now : LineWriter) (old new : D) (result : Result X Stop) : Type 0 where
  pub shown : OnOk result (Added d old text new)
  pub front : OnErr result (IsFront (d.taken old) (d.taken new) text)
  pub stops : IfErr result (Caused (Only None) ⊥ (WriteFailed d old new) unchanged)
  pub keeps : KeepsDrain d old new
  pub same : now.dates ≡ before.dates

-- what a call does that judges a payload, and writes its lines
pub record WritesPayload {D X : Type 0} (d : drain.Ghosts D) (p : Payload) (before now : LineWriter) (old new : D) (result : Result X Stop) : Type 0 where
  pub shown : OnOk result (ShowsText d (fault_in p) (text_in before.dates p) old new)
  pub stopped : IfErr result (StopsShowing d (fault_in p) (text_in before.dates p) old new)
  pub keeps : KeepsDrain d old new
  pub same : now.dates ≡ before.dates

-- what a visitor does with a frame that shows, and the count of failures doesn't fall
pub record ShowsNext {D : Type 0} (d : drain.Ghosts D) (dates : Bool) (old new : D) (f : FrameSpec) : Type 0 where
  pub shows : ShowsText d (payload_fault f) (frame_text dates f) old new
  pub counts : d.failures old ≤ d.failures new

pub record FailsToShowNext {D : Type 0} (d : drain.Ghosts D) (dates : Bool) (old new : D) (f : FrameSpec) (stop : Stop) : Type 0 where
  pub fails : StopsShowing d (payload_fault f) (frame_text dates f) old new stop
  pub counts : d.failures old ≤ d.failures new
