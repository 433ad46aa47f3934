-- What several visitors or gatherers do as one: each does what it does by itself.
use Rattle.std.specs.Prelude.{◌≡◌, ◌⊎◌, ℕ, List, ◌∷◌, Option, map}
use Rattle.std.specs.List.{AllZip}
use Rattle.osm_entity.specs.Entity.{EntitySpec}
use Rattle.pbf_frame.specs.declared.stop.Stop.{Stop}
use Rattle.pbf_frame.specs.Frames.{FrameSpec}
use Rattle.pbf_frame.specs.Verdict.{Verdict, VerdictAfter}
use Rattle.pbf_pass.specs.declared.pass.Pass.{Pass}
use Rattle.pbf_pass.specs.Pass.{TakesFile}
use Rattle.pbf_pass.specs.Visit.{Takes, StopRule, Visited, VisitsAll, StopsVisit}

-- ---- visitors

-- each of them took the frame
abbrev pub EachTook : {V : Type 0} → Takes V → List V → FrameSpec → List V → Type 0
EachTook took olds f news = AllZip (λ old new. took old f new) olds news

-- one of them stopped at the frame: those before it took the frame, and those after it are as they were
abbrev pub OneFailed : {V : Type 0} → Takes V → StopRule V → List V → FrameSpec → List V → Stop → Type 0
OneFailed took failed (old ∷ olds) f (new ∷ news) stop = (failed old f new stop × (news ≡ olds)) ⊎ (took old f new × OneFailed took failed olds f news stop)
OneFailed took failed _ f _ stop = ⊥

-- each of them took all frames of a verdict without a fault, of which there are so many
abbrev pub EachVisitsAll : {V : Type 0} → Takes V → Option Verdict → (count : ℕ) → (olds news : List V) → Type 0
EachVisitsAll took known count olds news = AllZip (VisitsAll took known count) olds news

-- a visitor took the first frames of this verdict
pub record VisitsFront {V : Type 0} (took : Takes V) (known : Option Verdict) (before now : V) : Type 0 where
  pub frames : List FrameSpec
  pub rest : Option Verdict
  pub gone : VerdictAfter known frames rest
  pub visited : Visited took before frames now

-- each of them stopped as in a pass of its own, or took the first frames before another one stopped
abbrev pub EachStops : {V : Type 0} → Takes V → StopRule V → Option Verdict → (read : Type 0) → (olds news : List V) → Stop → Type 0
EachStops took failed known read olds news stop = AllZip (λ old new. StopsVisit took failed known read old new stop ⊎ VisitsFront took known old new) olds news

-- ---- gatherers

-- each of them gathered an entity
abbrev pub each_gathered : {G : Type 0} → (G → EntitySpec → G) → List G → EntitySpec → List G
each_gathered gathered each e = map (λ g. gathered g e) each

-- each of them gathered all entities of a file without a fault, and the pass has its header and the numbers of its entities
abbrev pub EachTakesFile : {G : Type 0} → (G → EntitySpec → G) → Option Verdict → (befores nows : List G) → Pass → Type 0
EachTakesFile gathered known befores nows pass = AllZip (λ before now. TakesFile gathered known before now pass) befores nows
