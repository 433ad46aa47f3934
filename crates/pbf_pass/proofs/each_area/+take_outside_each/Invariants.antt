use Rattle.std.proofs.Common.{length}
use Rattle.pbf_pass.proofs.each_area.+take_outside_each.Given as goal

abbrev pub decreases-take_outside_each : goal.decreases-take_outside_each
decreases-take_outside_each g l = length l.members.now
