use Rattle.std.proofs.Common.{length}
use Rattle.pbf_pass.proofs.each.+visit_each.Given as goal

abbrev pub decreases-visit_each : goal.decreases-visit_each
decreases-visit_each g l = length l.visitors.now
