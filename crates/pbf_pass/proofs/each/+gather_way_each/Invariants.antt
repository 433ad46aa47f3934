use Rattle.std.proofs.Common.{length}
use Rattle.pbf_pass.proofs.each.+gather_way_each.Given as goal

abbrev pub decreases-gather_way_each : goal.decreases-gather_way_each
decreases-gather_way_each g l = length l.gatherers.now
