use Rattle.std.proofs.Common.{length}
use Rattle.pbf_pass.proofs.way_strips.+count_inside.Given as goal

abbrev pub decreases-count_inside : goal.decreases-count_inside
decreases-count_inside g l = length l.members.now
