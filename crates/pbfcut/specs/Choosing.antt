-- What the passes before the one that writes say however they end.
use Rattle.std.specs.Prelude.{◌≡◌, ℕ, ◌+◌, List, ◌∷◌, length, Bool, false, Option, Some, None, Result, IfOk, IfErr}
use Rattle.pbf_pass.specs.declared.receipt.Halt.{Halt}
use Rattle.pbf_pass.specs.declared.receipt.Passes.{Passes}
use Rattle.pbf_frame.specs.Frames.{FrameSpec}
use Rattle.pbf_frame.specs.Verdict.{Verdict}
use Rattle.pbf_header.specs.Header.{HeaderSpec}
use Rattle.pbf_pass.specs.declared.receipt.Halt.TheVariants as halt
use Rattle.pbf_pass.specs.Hashing.{IsLength}
use Rattle.pbf_pass.specs.Judged.{judged_file}
use Rattle.pbf_pass.specs.Pass.{file_header}
use Rattle.pbf_wire.specs.declared.fault.Reason.TheVariants.{Unsorted}
use Rattle.pbf_wire.specs.Faults.{fault}
use Rattle.pbf_pass.specs.Refused.{RefusesFile, Halts, stop_of}
use Rattle.pbf_pass.specs.Stops.{Caused, FaultOf}
use Rattle.pbfcut.specs.declared.extracting.Choice.{Choice}
use Rattle.pbfcut.specs.Calls.{AnyFailed, ChangedAmong, FeedUse, KeepsAll, supply_of}
use Rattle.pbfcut.specs.Changes.{ChangedOf, IfChanged}
use Rattle.pbfcut.specs.Repeat.{IsPass}
use Rattle.pbf_pass.specs.declared.hashing.PassCheck.{PassCheck}

-- a phase never has all ways, so that no pass is spared
abbrev pub IsNever : {S : Type 0} → (S → Bool) → Type 0
IsNever {S} has_ways = (s : S) → has_ways s ≡ false

-- they stop: the first feed's file is refused, whether its bytes are reported or not; a read failed; or a later feed gave other bytes
pub record StopsChoosing (judge : Option (List ℕ) → Option Verdict) (first : FeedUse) (later : List FeedUse) (check : PassCheck) (h : Halt) : Type 0 where
  pub refused : Halts (RefusesFile first.ghosts first.old first.new check (λ b. judge (Some b))) h
  pub stops : Caused (FaultOf (judge (supply_of first))) (AnyFailed (first ∷ later)) ⊥ (ChangedAmong (Unit {0}) first later) (stop_of h)
  pub changed : IfChanged (ChangedOf (Unit {0}) first later) (stop_of h)

-- however they end: the pass that comes next has the next number, and they keep their feeds
pub record EndsChoosing (judge : Option (List ℕ) → Option Verdict) (first : FeedUse) (later : List FeedUse) (passes : Passes) (result : Result Choice Halt) : Type 0 where
  pub next : IfOk result (λ choice. IsPass (length later + 2) passes choice.next)
  pub halts : IfErr result (StopsChoosing judge first later passes.check)
  pub feeds : KeepsAll (first ∷ later)

-- the halt that refuses this file, of which all was read, for its order
pub record RefusesOrder (digest : List ℕ) (h : Halt) (file : List ℕ) : Type 0 where
  pub frames : List FrameSpec
  pub judged : judged_file (Some file) ≡ Some (frames, None)
  pub header : ℕ × HeaderSpec
  pub has : file_header frames ≡ Some header
  pub read : ℕ
  pub counted : IsLength read file
  pub is : h ≡ halt.Refused (record { fault = fault header.0 Unsorted; read = read; input = digest })
