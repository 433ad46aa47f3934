use Rattle.std.proofs.Common.{length}
use Rattle.pbfcut.proofs.wanted.+count_chosen.Given as goal

abbrev pub decreases-count_chosen : goal.decreases-count_chosen
decreases-count_chosen l = length l.choices.now
