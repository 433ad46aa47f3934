use Rattle.std.proofs.Common.{length}
use Rattle.pbf_wire.specs.Rising.{AreSingle}
use Rattle.pbf_wire.proofs.runs.after_singles.Given as goal

abbrev pub invariant-singles : goal.invariant-singles
invariant-singles l = AreSingle l.bytes l.rest

abbrev pub decreases-singles : goal.decreases-singles
decreases-singles l = length l.rest
