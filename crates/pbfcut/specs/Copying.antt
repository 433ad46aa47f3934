-- Bytes that go from a feed to a drain as they are.
use Rattle.std.specs.Prelude.{◌≡◌, ℕ, ◌<◌, List, length, Bool, true, false, Option, Some, Result, OnOk, IfErr}
use Rattle.pbf_frame.specs.declared.device.Feed as feed
use Rattle.pbf_frame.specs.declared.device.Drain as drain
use Rattle.pbf_frame.specs.declared.frame.TheConstants.{FILE_LIMIT}
use Rattle.pbf_frame.specs.declared.stop.Stop.{Stop}
use Rattle.pbf_frame.specs.Devices.{IsAtEnd, IsFront}
use Rattle.pbf_frame.specs.Transfers.{Added, SuppliedFirst}
use Rattle.pbfcut.specs.Calls.{DrainUse, FailedDrain, FeedUse, GaveBy, KeepsDrained, KeepsFed, TookBy, supply_of, taken_after, taken_before}
use Rattle.pbfcut.specs.declared.repeat.LaterPass.{LaterPass}
use Rattle.pbfcut.specs.Repeat.{StopsLater, digest_of}

-- a feed gave bytes, and a drain took them
pub record Copied {F D : Type 0} (f : feed.Ghosts F) (old new : F) (d : drain.Ghosts D) (before now : D) : Type 0 where
  pub bytes : List ℕ
  pub gave : SuppliedFirst f old bytes new
  pub took : Added d before bytes now

-- these are all bytes that there were, or more than the longest file has
abbrev pub IsAllOrLong : Bool → Option (List ℕ) → List ℕ → Type 0
IsAllOrLong true left bytes = IsAtEnd left
IsAllOrLong false left bytes = FILE_LIMIT < length bytes

-- what a later pass does that copies
pub record CopiesAgain {D X : Type 0} (source : FeedUse) (drain : DrainUse D) (again : LaterPass) (result : Result X Stop) : Type 0 where
  pub copied : OnOk result (GaveBy source (digest_of again) (λ file. TookBy drain (λ written. written ≡ file)))
  pub front : (all : List ℕ) → supply_of source ≡ Some all → IsFront (taken_before drain) (taken_after drain) all
  pub stops : IfErr result (StopsLater source.ghosts again source.old source.new (FailedDrain drain))
  pub feed : KeepsFed source
  pub out : KeepsDrained drain
