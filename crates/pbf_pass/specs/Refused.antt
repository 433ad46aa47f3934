-- What a refusal says of the bytes that were read, whether the feed reports them or not.
use Rattle.std.specs.Prelude.{◌≡◌, ℕ, List, [], Option, Some, Result, IfErr}
use Rattle.pbf_wire.specs.declared.fault.Fault.{Fault}
use Rattle.pbf_frame.specs.declared.device.Feed as feed
use Rattle.pbf_frame.specs.declared.stop.Stop.{Stop}
use Rattle.pbf_frame.specs.declared.stop.Stop.TheVariants as stop
use Rattle.pbf_frame.specs.Keeps.{KeepsFeed}
use Rattle.pbf_frame.specs.Refusals.{Refuses}
use Rattle.pbf_frame.specs.Verdict.{Verdict}
use Rattle.pbf_pass.specs.declared.hashing.PassCheck.{PassCheck}
use Rattle.pbf_pass.specs.declared.receipt.Refusal.{Refusal}
use Rattle.pbf_pass.specs.declared.receipt.Halt.{Halt}
use Rattle.pbf_pass.specs.declared.receipt.Halt.TheVariants as halt
use Rattle.pbf_pass.specs.declared.pass.Judged.{Judged}
use Rattle.pbf_pass.specs.HeaderLimit.{header_limit, held_header}
use Rattle.pbf_pass.specs.Hashing.{IsLength, IsDigestOf, mark_by}
use Rattle.pbf_pass.specs.Judged.{judged_file}
use Rattle.pbf_pass.specs.Stops.{Caused, FaultOf, ReadFailed, unchanged}

-- what a reader's feed gave is why it stopped: it is refused, or it changed; any other stop says nothing of the bytes
abbrev pub RefusesRest : {F : Type 0} → feed.Ghosts F → (old new : F) → (Stop → List ℕ → Type 0) → Stop → Type 0
RefusesRest f old new at_fault (stop.Refused e) = Refuses (at_fault (stop.Refused e)) (f.has_passed old) (f.has_passed new) (f.remaining old) (f.remaining new)
RefusesRest f old new at_fault stop.Read = Unit {0}
RefusesRest f old new at_fault stop.Write = Unit {0}
RefusesRest f old new at_fault stop.Memory = Unit {0}
RefusesRest f old new at_fault (stop.Changed pass) = Refuses (at_fault (stop.Changed pass)) (f.has_passed old) (f.has_passed new) (f.remaining old) (f.remaining new)

-- faulty bytes were read, with their number, as far as it can be counted, and their digest by the check
pub record RefusesBytes {F : Type 0} (f : feed.Ghosts F) (old new : F) (check : PassCheck) (at_fault : Fault → List ℕ → Type 0) (refusal : Refusal) : Type 0 where
  pub bytes : Refuses (at_fault refusal.fault) (f.has_passed old) (f.has_passed new) (f.remaining old) (f.remaining new)
  pub counted : IsLength refusal.read bytes.read
  pub digest_is : IsDigestOf (mark_by check refusal.input) bytes.read

-- the same of a file, whose fault is that of a verdict
pub record RefusesFile {F : Type 0} (f : feed.Ghosts F) (old new : F) (check : PassCheck) (judge : List ℕ → Option Verdict) (refusal : Refusal) : Type 0 where
  pub bytes : Refuses (λ b. FaultOf (judge b) refusal.fault) (f.has_passed old) (f.has_passed new) (f.remaining old) (f.remaining new)
  pub counted : IsLength refusal.read bytes.read
  pub digest_is : IsDigestOf (mark_by check refusal.input) bytes.read

-- the stop that a halt stands for
abbrev pub stop_of : Halt → Stop
stop_of (halt.Refused refusal) = stop.Refused refusal.fault
stop_of (halt.Stopped s) = s

-- the halt for a stop, with what was read
abbrev pub halted : Stop → ℕ → List ℕ → Halt
halted (stop.Refused e) read input = halt.Refused (record { fault = e; read = read; input = input })
halted stop.Read read input = halt.Stopped stop.Read
halted stop.Write read input = halt.Stopped stop.Write
halted stop.Memory read input = halt.Stopped stop.Memory
halted (stop.Changed pass) read input = halt.Stopped (stop.Changed pass)

-- it is a refusal with what was read, or no refusal
abbrev pub Halts : (Refusal → Type 0) → Halt → Type 0
Halts refused (halt.Refused refusal) = refused refusal
Halts refused (halt.Stopped s) = (e : Fault) → s ≡ stop.Refused e → ⊥

-- a call halted: if it refuses a file, something else holds too, such as that nothing went out
abbrev pub HaltsFile : {F : Type 0} → feed.Ghosts F → (old new : F) → PassCheck → (List ℕ → Option Verdict) → Type 0 → Halt → Type 0
HaltsFile f old new check judge also h = Halts (λ refusal. RefusesFile f old new check judge refusal × also) h

-- the file that was judged has no fault, but a header that can't be written: it is refused after all of its bytes
abbrev pub IsLimitRefused : Judged → Halt → Type 0
IsLimitRefused told (halt.Refused refusal) = (header_limit (held_header told.pass) ≡ Some refusal.fault) × (refusal.read ≡ told.count) × (refusal.input ≡ told.digest)
IsLimitRefused told (halt.Stopped s) = ⊥

-- ---- however a call ends

-- what a call says that judges a file, but for what it returns of one without a fault
pub record EndsJudging {F X : Type 0} (f : feed.Ghosts F) (old new : F) (check : PassCheck) (result : Result X Halt) : Type 0 where
  -- the feed gave `read` bytes of this digest. The fault is the first of whatever begins so (or of them, if the feed was at its end)
  pub refused : IfErr result (Halts (RefusesFile f old new check (λ b. judged_file (Some b))))
  -- `Refused` names the first fault of the file. `Read` comes only if the feed's count of failures rose; `Write` and `Changed` never come
  pub stops : IfErr result (λ h. Caused (FaultOf (judged_file (f.remaining old))) (ReadFailed f old new) ⊥ unchanged (stop_of h))
  -- the feed keeps its references, and its count of failures doesn't fall
  pub keeps : KeepsFeed f old new
