use Rattle.std.proofs.Common.{length}
use Rattle.pbf_wire.specs.Rising.{AreSingle}
use Rattle.pbf_wire.proofs.runs.after_single_blocks.Given as goal

abbrev pub invariant-many : goal.invariant-many
invariant-many l = AreSingle l.bytes l.rest

abbrev pub decreases-many : goal.decreases-many
decreases-many l = length l.rest
