use Rattle.std.proofs.Common.{length}
use Rattle.pbf_published.proofs.running.+lacks_any.Given as goal

abbrev pub decreases-lacks_any : goal.decreases-lacks_any
decreases-lacks_any g l = length l.feeds.now
