use Rattle.std.proofs.Common.{length}
use Rattle.pbfcut.proofs.writing_each.+end_all.Given as goal

abbrev pub decreases-end_all : goal.decreases-end_all
decreases-end_all g l = length l.writers.now
