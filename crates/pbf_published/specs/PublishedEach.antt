-- What a call says that writes several extracts of a published file: of each area and its drain what a call for only this area says.
use Rattle.std.specs.Prelude.{◌≡◌, List, Result, Ok, Err, IfOk, IfErr}
use Rattle.std.specs.List.{AllZip}
use Rattle.osm_area.specs.Area.{AreaSpec}
use Rattle.osm_ways.specs.Selection.{Strategy}
use Rattle.pbf_block.specs.declared.counts.Counts.{Counts}
use Rattle.pbf_frame.specs.declared.device.Drain as drain
use Rattle.pbf_frame.specs.declared.stop.Stop.TheVariants.{Write}
use Rattle.pbf_pass.specs.declared.hashing.PassCheck.{PassCheck}
use Rattle.pbfcut.specs.declared.carrying.AreaOutput.{AreaOutput}
use Rattle.pbfcut.specs.Calls.{DrainUse, FailedDrain, FeedUse, drained}
use Rattle.pbfcut.specs.Several.{AnyZip, KeepsOutput, OutputFailed}
use Rattle.pbfcut.specs.Tasks.{Task, answer_of, extracting}
use Rattle.pbf_published.specs.declared.input.PublishedHalt.{PublishedHalt}
use Rattle.pbf_published.specs.declared.input.PublishedInput.{PublishedInput}
use Rattle.pbf_published.specs.declared.running_each.PublishedDigests.{PublishedDigests}
use Rattle.pbf_published.specs.Published.{FrontUnlessChanged}
use Rattle.pbf_published.specs.PublishedTasks.{DoesPublished}

-- what is reported of one of the outputs
abbrev pub input_with : PublishedDigests → Counts → PublishedInput
input_with digests counts = record { counts = counts; input = digests.input; raw = digests.raw }

-- one output of a call that halted
pub record HaltsPublished {D : Type 0} (task : Task) (feeds : List FeedUse) (out : DrainUse D) (check : PassCheck) (h : PublishedHalt) : Type 0 where
  -- what a call for only its area says that halts so; if a write failed, it is said of the outputs whose drain failed
  pub alone : (h.stop ≡ Write → FailedDrain out) → DoesPublished task feeds out check (Err h)
  -- whichever drain failed, a prefix of its extract went out if all feeds mean this raw file, unless one has other bytes
  pub beginning : FrontUnlessChanged (answer_of task) feeds out h.stop

-- all of them
pub record DoesPublishedEach {A D : Type 0} (by : Strategy) (area : A → AreaSpec) (feeds : List FeedUse) (d : drain.Ghosts D) (check : PassCheck) (olds news : List (AreaOutput A D)) (result : Result PublishedDigests PublishedHalt) : Type 0 where
  -- each drain took exactly the extract of its area, and has its counts: what a call for only this area says
  pub each : IfOk result (λ digests. AllZip (λ old new. DoesPublished (extracting by (area old.area)) feeds (drained d old.drain new.drain) check (Ok (input_with digests new.counts))) olds news)
  -- if it halts, each has what was its own by then
  pub halted : IfErr result (λ h. AllZip (λ old new. HaltsPublished (extracting by (area old.area)) feeds (drained d old.drain new.drain) check h) olds news)
  -- a write failed only if the drain of one of them did
  pub wrote : IfErr result (λ h. h.stop ≡ Write → AnyZip (OutputFailed d) olds news)
  -- they come back in the same order, and keep their drains
  pub outs : AllZip (KeepsOutput d) olds news
