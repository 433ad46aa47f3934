use Rattle.std.proofs.Common.{length}
use Rattle.pbfcut.proofs.writing_each.+begin_all.Given as goal

abbrev pub decreases-begin_all : goal.decreases-begin_all
decreases-begin_all g l = length l.writers.now
