-- What a call says that writes several extracts of one file: of each area and its drain what a call for only this area says.
use Rattle.std.specs.Prelude.{◌≡◌, ℕ, List, [], ◌∷◌, ◌++◌, drop, map, take, Result, Ok, Err, IfOk, IfErr}
use Rattle.std.specs.List.{AllZip}
use Rattle.osm_area.specs.Area.{AreaSpec}
use Rattle.osm_ways.specs.Selection.{Strategy, all_parents, complete_ways}
use Rattle.pbf_block.specs.declared.counts.Counts.{Counts}
use Rattle.pbf_frame.specs.declared.device.Drain as drain
use Rattle.pbf_frame.specs.declared.stop.Stop.{Stop}
use Rattle.pbf_frame.specs.declared.stop.Stop.TheVariants.{Write}
use Rattle.pbf_frame.specs.Devices.{IsFront}
use Rattle.pbf_pass.specs.declared.hashing.PassCheck.{PassCheck}
use Rattle.pbf_pass.specs.declared.receipt.Halt.{Halt}
use Rattle.pbf_pass.specs.declared.receipt.InputReceipt.{InputReceipt}
use Rattle.pbf_pass.specs.Refused.{stop_of}
use Rattle.pbfcut.specs.declared.carrying.AreaOutput.{AreaOutput}
use Rattle.pbfcut.specs.declared.carrying.EachReceipt.{EachReceipt}
use Rattle.pbfcut.specs.declared.extracting_each.EachStrategy.{EachStrategy}
use Rattle.pbfcut.specs.declared.extracting_each.EachStrategy.TheVariants as each
use Rattle.pbfcut.specs.Calls.{AllSupply, DrainUse, FailedDrain, FeedUse, KeepsAll, drained, supply_of, taken_after, taken_before}
use Rattle.pbfcut.specs.Kept.{extract_of}
use Rattle.pbfcut.specs.Receipts.{Extracts}
use Rattle.pbfcut.specs.Tasks.{spares_by}
use Rattle.pbfcut.specs.Several.{AnyZip, KeepsOutput, OutputFailed}

-- the receipt of one of the outputs
abbrev pub receipt_of : EachReceipt → Counts → InputReceipt
receipt_of receipt counts = record { counts = counts; input = receipt.input; spared = receipt.spared }

-- the stop that a result stands for, if it halts
abbrev pub stop_result : {X : Type 0} → Result X Halt → Result X Stop
stop_result (Ok x) = Ok x
stop_result (Err h) = Err (stop_of h)

-- one output of a call that halted
pub record HaltsOutput {D : Type 0} (by : Strategy) (area : AreaSpec) (first : FeedUse) (spare later : List FeedUse) (out : DrainUse D) (check : PassCheck) (h : Halt) : Type 0 where
  -- what a call for only its area says that halts so; if a write failed, it is said of the outputs whose drain failed
  pub alone : (stop_of h ≡ Write → FailedDrain out) → Extracts by area first spare later out check (Err h)
  -- whichever drain failed: if all feeds supply these bytes, a prefix of its extract went out
  pub beginning : (b : List ℕ) → AllSupply b (map supply_of (first ∷ spare ++ later)) → IsFront (taken_before out) (taken_after out) (extract_of by area b)

-- all of them
pub record ExtractsEach {A D : Type 0} (by : Strategy) (area : A → AreaSpec) (first : FeedUse) (spare later : List FeedUse) (d : drain.Ghosts D) (check : PassCheck) (olds news : List (AreaOutput A D)) (result : Result EachReceipt Halt) : Type 0 where
  -- each drain took exactly the extract of its area, and has its counts: what a call for only this area says
  pub each : IfOk result (λ receipt. AllZip (λ old new. Extracts by (area old.area) first spare later (drained d old.drain new.drain) check (Ok (receipt_of receipt new.counts))) olds news)
  -- if it halts, each has what was its own by then
  pub halted : IfErr result (λ h. AllZip (λ old new. HaltsOutput by (area old.area) first spare later (drained d old.drain new.drain) check h) olds news)
  -- a write failed only if the drain of one of them did
  pub wrote : IfErr result (λ h. stop_of h ≡ Write → AnyZip (OutputFailed d) olds news)
  -- they come back in the same order, and keep their drains; and the feeds are kept
  pub outs : AllZip (KeepsOutput d) olds news
  pub feeds : KeepsAll (first ∷ spare ++ later)

-- ---- over a list of feeds, one for each pass

abbrev pub each_strategy : EachStrategy → Strategy
each_strategy each.CompleteWays = complete_ways
each_strategy each.AllParents = all_parents

-- the same, where those feeds after the first may be spared that the strategy spares
abbrev pub ExtractsAreas : {A D : Type 0} → Strategy → (area : A → AreaSpec) → List FeedUse → drain.Ghosts D → PassCheck → (olds news : List (AreaOutput A D)) → Result EachReceipt Halt → Type 0
ExtractsAreas by area [] d check olds news result = ⊥
ExtractsAreas by area (first ∷ later) d check olds news result = ExtractsEach by area first (take (spares_by by) later) (drop (spares_by by) later) d check olds news result
