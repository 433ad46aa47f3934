use Rattle.std.proofs.Common.{ap, arith, refl, subst, ◌∙◌}
use Rattle.std.proofs.lemmas.Result.{err_from_is_err_and}
use Rattle.pbfcut.specs.Calls.{drained, used}
use Rattle.pbfcut.specs.TaskCalls.{DoesTask}
use Rattle.pbf_published.specs.PublishedTasks.{DigestsDiffer, ShareDigest, below_of, skipped_of}
use Rattle.pbf_published.proofs.TaskLemmas.{few_passes, published, spares_are, task_changed, task_done, task_stopped}
use Rattle.pbf_published.proofs.running.run_published.Goals as goal

pub returns : goal.returns
returns g c =
    let task = g.T.FileTask.task c.args.task in
    let news = c.run-outcome.new.feeds in
    let out = drained g.D.Drain c.args.drain.now c.run-outcome.new.drain in
    let does = subst (λ by. DoesTask task (used (published g.F.Feed) c.args.feeds.now news) out by c.run-outcome.result) c.of_raw.ensures.check c.run-outcome.ensures in
    let skipped = c.skipped_of-skipped.ensures ∙ ap (skipped_of c.in_ok-receipt.receipt.spared) (spares_are task _ (c.run-outcome.auto.feeds ∙ c.requires.count)) in
    task_done g.F.Feed (published g.F.Feed) below_of c.args.passes.check out task c.run-outcome.result _ c.lacks_any-is_memory.result c.in_ok-receipt.ensures c.args.feeds.now news _ c.in_ok-receipt.receipt c.in_ok-input.input c.in_ok-input.ensures.below does refl c.requires.opened
    (subst (λ n. ShareDigest g.F.Feed (published g.F.Feed) below_of n c.in_ok-input.input news) skipped c.in_ok-input.ensures.same)

pub returns-in_err-receipt : goal.returns-in_err-receipt
returns-in_err-receipt g c =
    let p = err_from_is_err_and c.from_residual.result c.from_residual.ensures.1 in
    let task = g.T.FileTask.task c.args.task in
    let out = drained g.D.Drain c.args.drain.now c.run-outcome.new.drain in
    let does = subst (λ by. DoesTask task (used (published g.F.Feed) c.args.feeds.now c.run-outcome.new.feeds) out by c.run-outcome.result) c.of_raw.ensures.check c.run-outcome.ensures in
    rw (p.1, p.2) (task_stopped g.F.Feed (published g.F.Feed) below_of c.args.passes.check out task c.run-outcome.result _ c.lacks_any-is_memory.result c.in_err-receipt.ensures c.args.feeds.now c.run-outcome.new.feeds _ does refl c.requires.opened c.lacks_any-is_memory.ensures)

pub returns-in_err-input : goal.returns-in_err-input
returns-in_err-input g c =
    let p = err_from_is_err_and c.from_residual-in_err-input.result c.from_residual-in_err-input.ensures.1 in
    let task = g.T.FileTask.task c.args.task in
    let news = c.run-outcome.new.feeds in
    let out = drained g.D.Drain c.args.drain.now c.run-outcome.new.drain in
    let does = subst (λ by. DoesTask task (used (published g.F.Feed) c.args.feeds.now news) out by c.run-outcome.result) c.of_raw.ensures.check c.run-outcome.ensures in
    let skipped = c.skipped_of-skipped.ensures ∙ ap (skipped_of c.in_ok-receipt.receipt.spared) (spares_are task _ (c.run-outcome.auto.feeds ∙ c.requires.count)) in
    rw p.1 (task_changed g.F.Feed (published g.F.Feed) below_of c.args.passes.check out task c.run-outcome.result _ c.lacks_any-is_memory.result c.in_ok-receipt.ensures c.args.feeds.now news _ c.in_ok-receipt.receipt _ _ c.in_err-input.ensures.below does refl c.requires.opened c.run-outcome.auto.feeds
    (subst (λ n. DigestsDiffer g.F.Feed (published g.F.Feed) below_of n news c.in_err-input.field-0.0) skipped c.in_err-input.ensures.stops) p.2)

pub shared_digest-requires : goal.shared_digest-requires
shared_digest-requires g c = omega (arith, few_passes (g.T.FileTask.task c.args.task), c.requires.count, c.run-outcome.auto.feeds)
