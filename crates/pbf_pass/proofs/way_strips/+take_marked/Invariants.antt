use Rattle.std.proofs.Common.{length}
use Rattle.pbf_pass.proofs.way_strips.+take_marked.Given as goal

abbrev pub decreases-take_marked : goal.decreases-take_marked
decreases-take_marked g l = length l.members.now
