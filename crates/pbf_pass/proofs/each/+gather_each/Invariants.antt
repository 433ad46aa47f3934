use Rattle.std.proofs.Common.{length}
use Rattle.pbf_pass.proofs.each.+gather_each.Given as goal

abbrev pub decreases-gather_each : goal.decreases-gather_each
decreases-gather_each g l = length l.gatherers.now
