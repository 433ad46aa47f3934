use Rattle.std.proofs.Common.{◌∙◌, ap, arith, subst}
use Rattle.pbfcut.specs.Calls.{used}
use Rattle.pbfcut.specs.EachReceipts.{ExtractsAreas, each_strategy}
use Rattle.pbfcut.specs.Tasks.{spares_by}
use Rattle.pbf_published.specs.PublishedTasks.{DigestsDiffer, ShareDigest, below_of, skipped_of}
use Rattle.pbf_published.proofs.EachLemmas.{cut_done, each_differs, each_done, each_stopped, few_feeds, some_changed, spares_each}
use Rattle.pbf_published.proofs.TaskLemmas.{published}
use Rattle.pbf_published.proofs.running_each.run_published_each.Goals as goal

pub returns-in-Err : goal.returns-in-Err
returns-in-Err g c =
    let by = each_strategy c.args.strategy in
    let news = c.extract-outputs.new.feeds in
    let outs = c.extract-outputs.result.0.items in
    let cut = subst (λ check. ExtractsAreas by g.A.Area.area (used (published g.F.Feed) c.args.feeds.now news) g.D.Drain check c.args.outputs.items outs c.extract-outputs.result.1) c.of_raw.ensures.check c.extract-outputs.ensures in
    each_stopped g.F.Feed (published g.F.Feed) below_of c.args.passes.check c.args.feeds.now news c.requires.opened c.args.strategy g.A.Area.area g.D.Drain c.args.outputs.items outs c.extract-outputs.auto.feeds c.requires.count
    c.extract-outputs.result.1 c.lacks_any-is_memory.result c.in-Err.halt c.in-Err.ensures cut c.lacks_any-is_memory.ensures

pub returns-in-Ok-shared_digest : goal.returns-in-Ok-shared_digest
returns-in-Ok-shared_digest g c =
    let by = each_strategy c.args.strategy in
    let news = c.extract-outputs.new.feeds in
    let outs = c.extract-outputs.result.0.items in
    let receipt = c.in-Ok.receipt in
    let cut = subst (λ check. ExtractsAreas by g.A.Area.area (used (published g.F.Feed) c.args.feeds.now news) g.D.Drain check c.args.outputs.items outs c.extract-outputs.result.1) c.of_raw.ensures.check c.extract-outputs.ensures in
    let skipped = c.skipped_of-skipped.ensures ∙ ap (skipped_of receipt.spared) (spares_each (spares_by by) _ (c.extract-outputs.auto.feeds ∙ c.requires.count)) in
    let done = cut_done g.F.Feed (published g.F.Feed) below_of c.args.passes.check c.args.feeds.now news c.requires.opened c.args.strategy g.A.Area.area g.D.Drain c.args.outputs.items outs c.extract-outputs.auto.feeds c.requires.count
    c.extract-outputs.result.1 receipt c.lacks_any-is_memory.result c.in-Ok.ensures cut in
    each_done g.F.Feed (published g.F.Feed) below_of c.args.passes.check c.args.feeds.now news c.requires.opened c.args.strategy g.A.Area.area g.D.Drain c.args.outputs.items outs c.extract-outputs.auto.feeds c.requires.count
    receipt _ c.in-Ok-shared_digest.input c.in-Ok-shared_digest.ensures.below done (subst (λ n. ShareDigest g.F.Feed (published g.F.Feed) below_of n c.in-Ok-shared_digest.input news) skipped c.in-Ok-shared_digest.ensures.same)

pub returns-in-Err-shared_digest : goal.returns-in-Err-shared_digest
returns-in-Err-shared_digest g c =
    let by = each_strategy c.args.strategy in
    let news = c.extract-outputs.new.feeds in
    let outs = c.extract-outputs.result.0.items in
    let receipt = c.in-Ok.receipt in
    let why = c.in-Err-shared_digest.stop in
    let many = c.extract-outputs.auto.feeds in
    let cut = subst (λ check. ExtractsAreas by g.A.Area.area (used (published g.F.Feed) c.args.feeds.now news) g.D.Drain check c.args.outputs.items outs c.extract-outputs.result.1) c.of_raw.ensures.check c.extract-outputs.ensures in
    let skipped = c.skipped_of-skipped.ensures ∙ ap (skipped_of receipt.spared) (spares_each (spares_by by) _ (many ∙ c.requires.count)) in
    let done = cut_done g.F.Feed (published g.F.Feed) below_of c.args.passes.check c.args.feeds.now news c.requires.opened c.args.strategy g.A.Area.area g.D.Drain c.args.outputs.items outs many c.requires.count
    c.extract-outputs.result.1 receipt c.lacks_any-is_memory.result c.in-Ok.ensures cut in
    let differ = subst (λ n. DigestsDiffer g.F.Feed (published g.F.Feed) below_of n news why) skipped c.in-Err-shared_digest.ensures.stops in
    each_differs g.F.Feed (published g.F.Feed) below_of c.args.passes.check c.args.feeds.now news c.requires.opened c.args.strategy g.A.Area.area g.D.Drain c.args.outputs.items outs many c.requires.count
    receipt _ why c.into.result c.in-Err-shared_digest.ensures.below done differ (some_changed g.F.Feed (published g.F.Feed) below_of _ news why (spares_by by) (many ∙ c.requires.count) differ) c.into.ensures

pub shared_digest-requires : goal.shared_digest-requires
shared_digest-requires g c = omega (arith, few_feeds c.args.strategy, c.requires.count, c.extract-outputs.auto.feeds)
