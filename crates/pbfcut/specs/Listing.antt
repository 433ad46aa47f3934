-- What a listing of frames does to its drain, and why it stops.
use Rattle.std.specs.Prelude.{◌≡◌, ◌≤◌, ℕ, List, length, Option, Some, None}
use Rattle.pbf_wire.specs.declared.fault.Fault.{Fault}
use Rattle.pbf_frame.specs.declared.device.Drain as drain
use Rattle.pbf_frame.specs.declared.stop.Stop.{Stop}
use Rattle.pbf_frame.specs.Devices.{IsFront}
use Rattle.pbf_frame.specs.Frames.{FrameSpec}
use Rattle.pbf_frame.specs.Transfers.{Added}
use Rattle.pbf_frame.specs.Verdict.{Verdict, Says}
use Rattle.pbfcut.specs.Blobs.{line, lines}
use Rattle.pbf_pass.specs.Stops.{Caused, Only, unchanged, WriteFailed}

-- ---- a whole listing

-- the file has no frame fault, the lines of all its frames went out, and there are so many
pub record Lists {D : Type 0} (d : drain.Ghosts D) (old new : D) (known : Option Verdict) (count : ℕ) : Type 0 where
  pub frames : List FrameSpec
  pub says : Says known (frames, None)
  pub added : Added d old (lines frames) new
  pub counted : count ≡ length frames

-- a prefix of the lines of all frames before the fault went out
abbrev pub ListsFront : {D : Type 0} → drain.Ghosts D → D → D → Option Verdict → Type 0
ListsFront d old new known = (all : Verdict) → known ≡ Some all → IsFront (d.taken old) (d.taken new) (lines all.0)

-- if the file is refused, by its first frame fault, the lines of the frames before it went out
pub record ListsToFault {D : Type 0} (d : drain.Ghosts D) (old new : D) (known : Option Verdict) (e : Fault) : Type 0 where
  pub frames : List FrameSpec
  pub says : Says known (frames, Some e)
  pub added : Added d old (lines frames) new

-- ---- one frame of it

-- the line of a frame went out, and the count of failures doesn't fall
pub record ListsNext {D : Type 0} (d : drain.Ghosts D) (old new : D) (f : FrameSpec) : Type 0 where
  pub added : Added d old (line f) new
  pub counts : d.failures old ≤ d.failures new

-- a step stopped at a frame, by its write or without memory, and a prefix of the frame's line went out
pub record StopsListing {D : Type 0} (d : drain.Ghosts D) (old new : D) (f : FrameSpec) (stop : Stop) : Type 0 where
  pub cause : Caused (Only None) ⊥ (WriteFailed d old new) unchanged stop
  pub front : IsFront (d.taken old) (d.taken new) (line f)
