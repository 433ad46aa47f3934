use Rattle.std.proofs.Common.{length}
use Rattle.pbfcut.proofs.area_phase.+are_done.Given as goal

abbrev pub decreases-are_done : goal.decreases-are_done
decreases-are_done g l = length l.phases.now
