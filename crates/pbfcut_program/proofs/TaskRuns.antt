-- What each program's call of a task says of it.
use Rattle.std.proofs.Common.{◌≡◌, ℕ, List, length, Result, subst, sym}
use Rattle.pbf_frame.specs.declared.device.Feed as feed
use Rattle.pbf_frame.specs.declared.device.Drain as drain
use Rattle.pbf_pass.specs.declared.hashing.PassCheck.{PassCheck}
use Rattle.pbf_pass.specs.declared.receipt.Halt.{Halt}
use Rattle.pbf_pass.specs.declared.receipt.InputReceipt.{InputReceipt}
use Rattle.pbf_published.specs.declared.input.PublishedHalt.{PublishedHalt}
use Rattle.pbf_published.specs.declared.input.PublishedInput.{PublishedInput}
use Rattle.pbf_published.specs.PublishedTasks.{DoesPublished}
use Rattle.pbfcut.specs.Calls.{drained, used}
use Rattle.pbfcut.specs.TaskCalls.{DoesTask}
use Rattle.pbfcut.specs.Tasks.{Task}
use Rattle.pbfcut_cli.specs.declared.programs.Program.{Program}
use Rattle.pbfcut_cli.specs.declared.programs.Program.TheVariants.{Pbfcut, Pbfcutz}
use Rattle.pbfcut_program.specs.declared.engine.Engine.{Engine}
use Rattle.pbfcut_program.specs.declared.engine.Halted.{Halted}
use Rattle.pbfcut_program.specs.declared.engine.Report.{Report}
use Rattle.pbfcut_program.specs.Devices.{RunsTask}
use Rattle.pbfcut_program.specs.Manner.{check_in, manner, manner_of}
use Rattle.pbfcut_program.specs.Outcomes.{ReportsPublished, ReportsRaw}
use Rattle.pbfcut_program.proofs.FrontLemmas.{published_front, raw_front}
use Rattle.pbfcut_program.proofs.PublishedCalls.{published_works}
use Rattle.pbfcut_program.proofs.RawCalls.{raw_works}
use Rattle.pbfcut_program.proofs.WholeAnswers.{published_whole}

module _ {F D : Type 0} (f : feed.Ghosts F) (d : drain.Ghosts D) (engine : Engine) (key : ℕ) (by : PassCheck) (check : by ≡ check_in engine key) (task : Task) (olds news : List F) (many : length news ≡ length olds) (out out_now : D) (result : Result Report Halted) where
  runs_by : (program : Program) → engine.program ≡ program → RunsTask (manner program engine.packs engine.digests) by f d task olds news out out_now result → RunsTask (manner_of engine) (check_in engine key) f d task olds news out out_now result
  runs_by program is runs =
      subst (λ b. RunsTask (manner_of engine) b f d task olds news out out_now result) check (subst (λ p. RunsTask (manner p engine.packs engine.digests) by f d task olds news out out_now result) (sym is) runs)

  pub runs_raw : (outcome : Result InputReceipt Halt) → engine.program ≡ Pbfcut → DoesTask task (used f olds news) (drained d out out_now) by outcome → ReportsRaw outcome result → RunsTask (manner_of engine) (check_in engine key) f d task olds news out out_now result
  runs_raw outcome is does r = runs_by Pbfcut is (record {
    works = λ fresh log start. raw_works f d out out_now engine.digests by log start task olds news outcome result many does r fresh;
    front = raw_front f d out out_now by task result olds news outcome many does r;
    whole = tt;
  })

  pub runs_published : (outcome : Result PublishedInput PublishedHalt) → engine.program ≡ Pbfcutz → DoesPublished task (used f olds news) (drained d out out_now) by outcome → ReportsPublished outcome result → RunsTask (manner_of engine) (check_in engine key) f d task olds news out out_now result
  runs_published outcome is does r = runs_by Pbfcutz is (record {
    works = λ fresh log start. published_works f d out out_now engine.digests by log start task olds news outcome result many does r fresh;
    front = published_front f d out out_now by task result olds news outcome many does r;
    whole = published_whole f d out out_now by task olds news outcome result many does r;
  })
