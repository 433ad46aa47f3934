use Rattle.std.proofs.Common.{length}
use Rattle.pbf_published.proofs.running.+compare_later.Given as goal

abbrev pub decreases-compare_later : goal.decreases-compare_later
decreases-compare_later g l = length l.feeds.now
