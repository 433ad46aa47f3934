-- What a run says that cuts several areas out of IN at once: of each area and its drain what a run for only this area says.
use Rattle.std.specs.Prelude.{◌≡◌, ℕ, List, [], map, None, Some, Result, Ok, Err}
use Rattle.std.specs.List.{AllZip}
use Rattle.osm_area.specs.Area.{AreaSpec}
use Rattle.osm_ways.specs.Selection.{Strategy}
use Rattle.pbf_block.specs.declared.counts.Counts.{Counts}
use Rattle.pbf_frame.specs.declared.device.Feed as feed
use Rattle.pbf_frame.specs.declared.device.Drain as drain
use Rattle.pbf_pass.specs.Refused.{stop_of}
use Rattle.pbf_pass.specs.declared.hashing.PassCheck.{PassCheck}
use Rattle.pbf_pass.specs.declared.receipt.Halt.{Halt}
use Rattle.pbf_published.specs.declared.input.PublishedHalt.{PublishedHalt}
use Rattle.pbf_published.specs.declared.running_each.PublishedDigests.{PublishedDigests}
use Rattle.pbfcut.specs.declared.carrying.AreaOutput.{AreaOutput}
use Rattle.pbfcut.specs.declared.carrying.EachReceipt.{EachReceipt}
use Rattle.pbfcut.specs.Several.{AnyZip, KeepsOutput, OutputFailed}
use Rattle.pbfcut.specs.Tasks.{Task, extracting}
use Rattle.pbfcut_cli.specs.declared.endings.Ending.TheVariants as ending
use Rattle.pbfcut_cli.specs.declared.programs.Program.TheVariants.{Pbfcutz}
use Rattle.pbfcut_program.specs.declared.engine.Halted.{Halted}
use Rattle.pbfcut_program.specs.declared.engine.Report.{Report}
use Rattle.pbfcut_program.specs.declared.several.InputDigests.{InputDigests}
use Rattle.pbfcut_program.specs.Devices.{AreFresh, Fronts, Wholes, Works}
use Rattle.pbfcut_program.specs.Fails.{EndsAsStop}
use Rattle.pbfcut_program.specs.Manner.{Manner, input_form, to_raw}

-- ---- what is reported

-- of one of the areas
abbrev pub report_with : InputDigests → Counts → Report
report_with digests counts = record { counts = counts; input = digests.input; raw = digests.raw }

-- what a call over raw files came to, and one over published files
abbrev pub ReportsRawEach : Result EachReceipt Halt → Result InputDigests Halted → Type 0
ReportsRawEach (Ok receipt) (Ok digests) = (digests.input ≡ receipt.input) × (digests.raw ≡ None)
ReportsRawEach (Err halt) (Err halted) = halted.ending ≡ ending.Stopped (stop_of halt)
ReportsRawEach _ _ = ⊥

abbrev pub ReportsPublishedEach : Result PublishedDigests PublishedHalt → Result InputDigests Halted → Type 0
ReportsPublishedEach (Ok receipt) (Ok digests) = (digests.input ≡ receipt.input) × (digests.raw ≡ Some receipt.raw)
ReportsPublishedEach (Err halt) (Err halted) = EndsAsStop Pbfcutz halt.stop halted.ending
ReportsPublishedEach _ _ = ⊥

-- what it came to, as it is reported of one of the areas
abbrev pub result_with : Result InputDigests Halted → Counts → Result Report Halted
result_with (Ok digests) counts = Ok (report_with digests counts)
result_with (Err halted) counts = Err halted

-- ---- a call of the engine

-- one area and its drain: what a run for only this area says (`RunsTask`), but that a write may have failed for this reason
pub record RunsArea {F D : Type 0} (m : Manner) (by : PassCheck) (f : feed.Ghosts F) (d : drain.Ghosts D) (task : Task) (olds news : List F) (failed : Type 0) (old new : D) (result : Result Report Halted) : Type 0 where
  pub works : AreFresh f olds → (log : ℕ) → d.has_taken old log [] → Works (to_raw m) by f task olds news (d.has_taken new log) failed result
  pub front : Fronts (input_form m.program) task (map f.remaining olds) (d.taken old) (d.taken new) result
  pub whole : Wholes (input_form m.program) task (map f.remaining olds) (d.taken old) (d.taken new) result

-- all of them: each drain took the extract of its area, and has its counts; or it has a prefix, and a write failed only if the drain of one of them did.
-- They come back in the same order, and keep their drains
pub record RunsEach {A F D : Type 0} (m : Manner) (by : PassCheck) (s : Strategy) (area : A → AreaSpec) (f : feed.Ghosts F) (d : drain.Ghosts D) (olds news : List F) (befores afters : List (AreaOutput A D)) (result : Result InputDigests Halted) : Type 0 where
  pub each : AllZip (λ old new. RunsArea m by f d (extracting s (area old.area)) olds news (AnyZip (OutputFailed d) befores afters) old.drain new.drain (result_with result new.counts)) befores afters
  pub outs : AllZip (KeepsOutput d) befores afters
