use Rattle.std.proofs.Common.{length}
use Rattle.pbf_pass.proofs.each_area.+take_asked.Given as goal

abbrev pub decreases-take_asked : goal.decreases-take_asked
decreases-take_asked g l = length l.numbers.now
