use Rattle.std.proofs.Common.{length}
use Rattle.pbf_pass.proofs.way_strips.+add_each.Given as goal

abbrev pub decreases-add_each : goal.decreases-add_each
decreases-add_each g l = length l.members.now
