-- Passes after the first one: their bytes have to have its digest.
use Rattle.std.specs.Prelude.{◌≡◌, ℕ, List, Bool, true, false, Option, Some, Result, OnOk, IfErr}
use Rattle.sha2.specs.Sha256.{sha256}
use Rattle.osm_entity.specs.Entity.{EntitySpec}
use Rattle.pbf_frame.specs.declared.device.Feed as feed
use Rattle.pbf_frame.specs.declared.stop.Stop.{Stop}
use Rattle.pbf_frame.specs.declared.stop.Stop.TheVariants.{Refused, Read, Write, Memory, Changed}
use Rattle.pbf_frame.specs.Keeps.{KeepsFeed}
use Rattle.pbf_frame.specs.Refusals.{Refuses}
use Rattle.pbfcut.specs.declared.repeat.LaterPass.{LaterPass}
use Rattle.pbf_pass.specs.declared.receipt.Passes.{Passes}
use Rattle.pbf_pass.specs.Unjudged.{GathersFile, GathersSome, IsFaulty}
use Rattle.pbf_pass.specs.Given.{GaveFile}
use Rattle.pbf_pass.specs.Hashing.{IsDigestOf, Mark, mark_by}
use Rattle.pbf_pass.specs.Judged.{judged_file}
use Rattle.pbf_pass.specs.Stops.{Caused, ReadFailed}

-- it is the pass of this number, made like this
abbrev pub IsPass : ℕ → Passes → LaterPass → Type 0
IsPass number passes again = (again.number ≡ number) × (again.passes ≡ passes)

-- the digest of the first pass, by the check
abbrev pub digest_of : LaterPass → Mark
digest_of again = mark_by again.passes.check again.digest

-- these bytes have a fault, or another digest by the check
abbrev pub IsUnlike : Mark → List ℕ → Type 0
IsUnlike digest bytes = IsDigestOf digest bytes → IsFaulty (judged_file (Some bytes))

-- nothing is refused; and if the stop is `Changed`, the feed gave other bytes than those of the digest
abbrev pub StopsLater : {F : Type 0} → feed.Ghosts F → LaterPass → (old new : F) → (wrote : Type 0) → Stop → Type 0
StopsLater f again old new wrote stop =
    Caused (λ e. ⊥) (ReadFailed f old new) wrote (λ pass. (pass ≡ again.number) × Refuses (IsUnlike (digest_of again)) (f.has_passed old) (f.has_passed new) (f.remaining old) (f.remaining new)) stop

-- a fault that a later pass finds is a change
abbrev pub as_change : ℕ → Stop → Stop
as_change number (Refused e) = Changed number
as_change number Read = Read
as_change number Write = Write
as_change number Memory = Memory
as_change number (Changed pass) = Changed pass

-- if the bytes of the first feed are known, those of the other have their digest
abbrev pub SameDigest : Option (List ℕ) → Option (List ℕ) → Type 0
SameDigest first other = (b c : List ℕ) → first ≡ Some b → other ≡ Some c → sha256 b ≡ sha256 c

-- the entities of a whole file, of this digest by the check, were gathered, if it has no fault; or none were left, and nothing was read
abbrev pub GathersRest : {F S : Type 0} → feed.Ghosts F → (S → EntitySpec → S) → Bool → (old new : F) → Mark → (before now : S) → Type 0
GathersRest f gathered true old new digest before now = (new ≡ old) × (now ≡ before)
GathersRest f gathered false old new digest before now = GaveFile f old new digest (λ file. GathersFile gathered (judged_file (Some file)) before now)

-- what a later pass does that gathers, or that is spared since none were left
pub record GathersLater {F S X : Type 0} (f : feed.Ghosts F) (with_one : S → EntitySpec → S) (spared : Bool) (again : LaterPass) (old new : F) (before now : S) (result : Result X Stop) : Type 0 where
  pub gathered : OnOk result (GathersRest f with_one spared old new (digest_of again) before now)
  pub some : OnOk result (GathersSome with_one before now)
  pub stops : IfErr result (StopsLater f again old new ⊥)
  pub keeps : KeepsFeed f old new
