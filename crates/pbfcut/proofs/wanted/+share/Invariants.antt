use Rattle.std.proofs.Common.{length}
use Rattle.pbfcut.proofs.wanted.+share.Given as goal

abbrev pub decreases-share : goal.decreases-share
decreases-share t l = length l.lists.now
