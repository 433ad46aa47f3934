-- A later pass that stopped for a change: what its feed gave isn't the first feed's file.
use Rattle.std.proofs.Common.{arith, ◌≡◌, ℕ, List, Option, subst}
use Rattle.pbf_wire.specs.declared.fault.Fault.{Fault}
use Rattle.pbf_frame.specs.declared.device.Feed as feed
use Rattle.pbf_frame.specs.declared.stop.Stop.{Stop}
use Rattle.pbf_frame.specs.declared.stop.Stop.TheVariants as stop
use Rattle.pbf_frame.specs.Verdict.{Verdict}
use Rattle.pbf_pass.specs.Unjudged.{StopsUnjudged, ReadsFaulty}
use Rattle.pbf_pass.specs.Given.{GaveFile}
use Rattle.pbf_pass.specs.Hashing.{mark_by}
use Rattle.pbf_pass.specs.Stops.{Caused, unchanged, ReadFailed}
use Rattle.pbf_pass.proofs.UnjudgedLemmas.{refuses_less}
use Rattle.pbfcut.specs.declared.repeat.LaterPass.{LaterPass}
use Rattle.pbfcut.specs.Changes.{IfChanged}
use Rattle.pbfcut.specs.Repeat.{StopsLater, as_change}

-- ---- of one later pass

module _ {F : Type 0} (f : feed.Ghosts F) (repeat : LaterPass) (old new : F) (wrote : Type 0) where
  -- it is no refusal
  pub no_refusal : (s : Stop) → StopsLater f repeat old new wrote s → (e : Fault) → s ≡ stop.Refused e → ⊥
  no_refusal s stops e is = subst (λ (x : Stop). StopsLater f repeat old new wrote x) is stops

  -- what stops a pass that doesn't judge
  pub stops_as_change : (known : Option Verdict) (s : Stop) → StopsUnjudged repeat.number known (ReadFailed f old new) wrote s → ReadsFaulty f old new s → StopsLater f repeat old new wrote (as_change repeat.number s)
  stops_as_change known s h2 h3 = grind (arith, refuses_less)

  -- one that judges
  pub fault_as_change : (refused : Fault → Type 0) (s : Stop) → Caused refused (ReadFailed f old new) wrote unchanged s → ReadsFaulty f old new s → StopsLater f repeat old new wrote (as_change repeat.number s)
  fault_as_change refused s h2 h3 = grind (arith, refuses_less)

  -- all was read, and the digest is another
  pub digest_as_change : (digest : List ℕ) (holds : List ℕ → Type 0) (s : Stop) → GaveFile f old new (mark_by repeat.passes.check digest) holds → (s ≡ stop.Changed repeat.number) × (digest ≡ repeat.digest → ⊥) → StopsLater f repeat old new wrote s
  digest_as_change digest holds s given (is, other) = grind (arith, given.digest_is)

-- ---- of a call

-- in a pass that judges
pub never_changed : (refused : Fault → Type 0) (read wrote : Type 0) (changed : ℕ → Type 0) (s : Stop) → Caused refused read wrote unchanged s → IfChanged changed s
never_changed refused read wrote changed s h5 = grind arith

-- in a pass before
pub changed_before : (changed also : ℕ → Type 0) (s : Stop) → ((pass : ℕ) → changed pass → also pass) → IfChanged changed s → IfChanged also s
changed_before changed also s h3 h4 = grind arith
