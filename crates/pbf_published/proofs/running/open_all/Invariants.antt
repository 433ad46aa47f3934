use Rattle.std.proofs.Common.{◌≡◌, map}
use Rattle.pbf_published.specs.PublishedTasks.{AreOpened, below_of}
use Rattle.pbf_published.proofs.TaskLemmas.{published}
use Rattle.pbf_published.proofs.running.open_all.Given as goal

abbrev pub invariant-feeds : goal.invariant-feeds
invariant-feeds g l = AreOpened g.F.Feed (published g.F.Feed) below_of l.fn.check l.opened.items × (map below_of l.opened.items ≡ l.yielded)
