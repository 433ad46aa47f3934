use Rattle.std.proofs.Common.{length}
use Rattle.pbfcut.proofs.writing_each.+pack_wanted_each.Given as goal

abbrev pub decreases-pack_wanted_each : goal.decreases-pack_wanted_each
decreases-pack_wanted_each g l = length l.writers.now
