-- What is said of each of several areas is what is said of a task that cuts out only that area.
use Rattle.std.proofs.Common.{◌≡◌, ℕ, ◌+◌, List, [], ◌∷◌, ◌++◌, length, map, take, drop, Result, Ok, Err, refl, arith}
use Rattle.std.specs.List.{AllZip}
use Rattle.osm_area.specs.Area.{AreaSpec}
use Rattle.osm_ways.specs.Selection.{all_parents, complete_ways}
use Rattle.pbf_frame.specs.declared.device.Drain as drain
use Rattle.pbf_frame.specs.declared.stop.Stop.TheVariants.{Write}
use Rattle.pbf_frame.specs.Devices.{IsFront}
use Rattle.pbf_pass.specs.declared.hashing.PassCheck.{PassCheck}
use Rattle.pbf_pass.specs.declared.receipt.Halt.{Halt}
use Rattle.pbf_pass.specs.declared.receipt.InputReceipt.{InputReceipt}
use Rattle.pbf_pass.specs.Refused.{stop_of}
use Rattle.pbfcut.specs.declared.carrying.AreaOutput.{AreaOutput}
use Rattle.pbfcut.specs.declared.carrying.EachReceipt.{EachReceipt}
use Rattle.pbfcut.specs.declared.extracting_each.EachStrategy.{EachStrategy}
use Rattle.pbfcut.specs.declared.extracting_each.EachStrategy.TheVariants as each
use Rattle.pbfcut.specs.Calls.{AllSupply, DrainUse, FailedDrain, FeedUse, drained, supply_of, taken_after, taken_before}
use Rattle.pbfcut.specs.EachReceipts.{ExtractsAreas, HaltsOutput, each_strategy, receipt_of}
use Rattle.pbfcut.specs.Receipts.{Extracts}
use Rattle.pbfcut.specs.Several.{AnyZip, KeepsOutput, OutputFailed}
use Rattle.pbfcut.specs.TaskCalls.{DoesPasses, DoesTask}
use Rattle.pbfcut.specs.Tasks.{Task, answer_of, extracting, spares_by}
use Rattle.pbfcut.proofs.SeveralLemmas.{zip_weaker}
use Rattle.pbfcut.proofs.TaskLemmas.{does_four, does_three}

-- one output of a call that halted: what a call for only its task says, if its own drain is the one that failed; and a prefix of what is to be written
pub record HaltsTask {D : Type 0} (task : Task) (feeds : List FeedUse) (out : DrainUse D) (check : PassCheck) (h : Halt) : Type 0 where
  pub alone : (stop_of h ≡ Write → FailedDrain out) → DoesTask task feeds out check (Err h)
  pub beginning : (b : List ℕ) → AllSupply b (map supply_of feeds) → IsFront (taken_before out) (taken_after out) (answer_of task b)

module _ {D : Type 0} (out : DrainUse D) (check : PassCheck) (area : AreaSpec) where
  does_area : (s : EachStrategy) (first : FeedUse) (later : List FeedUse) (result : Result InputReceipt Halt) → length later ≡ spares_by (each_strategy s) + 1
      → Extracts (each_strategy s) area first (take (spares_by (each_strategy s)) later) (drop (spares_by (each_strategy s)) later) out check result → DoesPasses (extracting (each_strategy s) area) first later out check result
  does_area each.CompleteWays first (a ∷ b ∷ []) result count x = does_three out check complete_ways area refl first a b result x
  does_area each.AllParents first (a ∷ b ∷ c ∷ []) result count x = does_four out check all_parents area refl first a b c result x
  does_area each.CompleteWays first [] result count x = (let bad : ⊥ = omega (arith, count) in absurd bad)
  does_area each.CompleteWays first (a ∷ []) result count x = (let bad : ⊥ = omega (arith, count) in absurd bad)
  does_area each.CompleteWays first (a ∷ b ∷ c ∷ more) result count x = (let bad : ⊥ = omega (arith, count) in absurd bad)
  does_area each.AllParents first [] result count x = (let bad : ⊥ = omega (arith, count) in absurd bad)
  does_area each.AllParents first (a ∷ []) result count x = (let bad : ⊥ = omega (arith, count) in absurd bad)
  does_area each.AllParents first (a ∷ b ∷ []) result count x = (let bad : ⊥ = omega (arith, count) in absurd bad)
  does_area each.AllParents first (a ∷ b ∷ c ∷ d ∷ more) result count x = (let bad : ⊥ = omega (arith, count) in absurd bad)

  halts_area : (s : EachStrategy) (first : FeedUse) (later : List FeedUse) (h : Halt) → length later ≡ spares_by (each_strategy s) + 1
      → HaltsOutput (each_strategy s) area first (take (spares_by (each_strategy s)) later) (drop (spares_by (each_strategy s)) later) out check h → HaltsTask (extracting (each_strategy s) area) (first ∷ later) out check h
  halts_area s first later h count x = record { alone = λ own. does_area s first later (Err h) count (x.alone own); beginning = front s later count x.beginning } where
    front : (s : EachStrategy) (later : List FeedUse) → length later ≡ spares_by (each_strategy s) + 1
        → ((b : List ℕ) → AllSupply b (map supply_of (first ∷ take (spares_by (each_strategy s)) later ++ drop (spares_by (each_strategy s)) later)) → IsFront (taken_before out) (taken_after out) (answer_of (extracting (each_strategy s) area) b))
        → (b : List ℕ) → AllSupply b (map supply_of (first ∷ later)) → IsFront (taken_before out) (taken_after out) (answer_of (extracting (each_strategy s) area) b)
    front each.CompleteWays (a ∷ more) count begun = begun
    front each.AllParents (a ∷ b ∷ more) count begun = begun
    front each.CompleteWays [] count begun = (let bad : ⊥ = omega (arith, count) in absurd bad)
    front each.AllParents [] count begun = (let bad : ⊥ = omega (arith, count) in absurd bad)
    front each.AllParents (a ∷ []) count begun = (let bad : ⊥ = omega (arith, count) in absurd bad)

module _ {A D : Type 0} (s : EachStrategy) (area : A → AreaSpec) (d : drain.Ghosts D) (check : PassCheck) (olds news : List (AreaOutput A D)) where
  pub each_does : (feeds : List FeedUse) (receipt : EachReceipt) → length feeds ≡ spares_by (each_strategy s) + 2 → ExtractsAreas (each_strategy s) area feeds d check olds news (Ok receipt)
      → AllZip (λ old new. DoesTask (extracting (each_strategy s) (area old.area)) feeds (drained d old.drain new.drain) check (Ok (receipt_of receipt new.counts))) olds news
  each_does [] receipt count x = absurd x
  each_does (first ∷ later) receipt count x = zip_weaker _ _ (λ old new one. does_area (drained d old.drain new.drain) check (area old.area) s first later (Ok (receipt_of receipt new.counts)) (omega (arith, count)) one) olds news x.each

  pub each_halts : (feeds : List FeedUse) (h : Halt) → length feeds ≡ spares_by (each_strategy s) + 2 → ExtractsAreas (each_strategy s) area feeds d check olds news (Err h)
      → AllZip (λ old new. HaltsTask (extracting (each_strategy s) (area old.area)) feeds (drained d old.drain new.drain) check h) olds news
  each_halts [] h count x = absurd x
  each_halts (first ∷ later) h count x = zip_weaker _ _ (λ old new one. halts_area (drained d old.drain new.drain) check (area old.area) s first later h (omega (arith, count)) one) olds news x.halted

  pub each_wrote : (feeds : List FeedUse) (h : Halt) → ExtractsAreas (each_strategy s) area feeds d check olds news (Err h) → stop_of h ≡ Write → AnyZip (OutputFailed d) olds news
  each_wrote [] h x = absurd x
  each_wrote (first ∷ later) h x = x.wrote

  pub each_outs : (feeds : List FeedUse) (result : Result EachReceipt Halt) → ExtractsAreas (each_strategy s) area feeds d check olds news result → AllZip (KeepsOutput d) olds news
  each_outs [] result x = absurd x
  each_outs (first ∷ later) result x = x.outs
