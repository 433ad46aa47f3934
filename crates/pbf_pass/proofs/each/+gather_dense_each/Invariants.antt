use Rattle.std.proofs.Common.{length}
use Rattle.pbf_pass.proofs.each.+gather_dense_each.Given as goal

abbrev pub decreases-gather_dense_each : goal.decreases-gather_dense_each
decreases-gather_dense_each g l = length l.gatherers.now
