use Rattle.std.proofs.Common.{length}
use Rattle.pbfcut.proofs.writing_each.+pack_payload_each.Given as goal

abbrev pub decreases-pack_payload_each : goal.decreases-pack_payload_each
decreases-pack_payload_each g l = length l.writers.now
