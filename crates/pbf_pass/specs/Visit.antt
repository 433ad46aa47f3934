-- What a pass does that visits the frames of a file one after another, and why it stops.
use Rattle.std.specs.Prelude.{◌≡◌, ◌⊎◌, ℕ, List, [], ◌∷◌, Option, None, Some, Result, OnOk, length}
use Rattle.std.specs.Borrow.{GName}
use Rattle.pbf_frame.specs.declared.stop.Stop.{Stop}
use Rattle.pbf_frame.specs.Frames.{FrameSpec}
use Rattle.pbf_frame.specs.Verdict.{Verdict, with_first_known, VerdictAfter, Says}
use Rattle.pbf_pass.specs.Stops.{Caused, unchanged}

-- what a visitor does with a frame, by what it was before and what it is then
abbrev pub Takes : Type 0 → Type 1
Takes V = V → FrameSpec → V → Type 0

-- why it stops at one, and what it is then
abbrev pub StopRule : Type 0 → Type 1
StopRule V = V → FrameSpec → V → Stop → Type 0

-- it took these frames, one after another
abbrev pub Visited : {V : Type 0} → Takes V → V → List FrameSpec → V → Type 0
Visited took before [] now = now ≡ before
Visited {V} took before (f ∷ fs) now = (mid : V) × took before f mid × Visited took mid fs now

-- it took all frames of a verdict without a fault, of which there are so many
pub record VisitsAll {V : Type 0} (took : Takes V) (known : Option Verdict) (count : ℕ) (before now : V) : Type 0 where
  pub frames : List FrameSpec
  pub says : known ≡ Some (frames, None)
  pub counted : count ≡ length frames
  pub visited : Visited took before frames now

-- the reader stopped after frames that were taken, and nothing was done since: at the fault of what follows, or for a failed read
pub record StopsBehind {V : Type 0} (took : Takes V) (known : Option Verdict) (read : Type 0) (before now : V) (stop : Stop) : Type 0 where
  pub frames : List FrameSpec
  pub rest : Option Verdict
  pub gone : VerdictAfter known frames rest
  pub visited : Visited took before frames now
  pub caused : Caused (λ e. Says rest ([], Some e)) read ⊥ unchanged stop

-- the visitor stopped at the frame after them
pub record StopsWithin {V : Type 0} (took : Takes V) (failed : StopRule V) (known : Option Verdict) (before now : V) (stop : Stop) : Type 0 where
  pub frames : List FrameSpec
  pub frame : FrameSpec
  pub rest : Option Verdict
  pub gone : VerdictAfter known frames (with_first_known frame rest)
  pub mid : V
  pub visited : Visited took before frames mid
  pub failing : failed mid frame now stop

-- a pass over what has this verdict stopped
abbrev pub StopsVisit : {V : Type 0} → Takes V → StopRule V → Option Verdict → (read : Type 0) → (before now : V) → Stop → Type 0
StopsVisit took failed known read before now stop = StopsBehind took known read before now stop ⊎ StopsWithin took failed known before now stop

-- it stopped for these bytes, and no read failed
abbrev pub RefusesVisit : {V : Type 0} → Takes V → StopRule V → (List ℕ → Option Verdict) → (before now : V) → Stop → List ℕ → Type 0
RefusesVisit took failed judge before now stop bytes = StopsVisit took failed (judge bytes) ⊥ before now stop

-- what a call leaves of its visitor: it can take a frame if the call succeeds, and goes through the same references
pub record KeepsVisitor {V X E : Type 0} (can_take : V → Type 0) (goes_through : V → List GName) (before now : V) (result : Result X E) : Type 0 where
  pub ready : OnOk result (can_take now)
  pub lender : goes_through now ≡ goes_through before
