use Rattle.std.proofs.Common.{◌≡◌, length}
use Rattle.pbf_wire.specs.Cursors.{sums_left}
use Rattle.pbf_dense.specs.Within.{ids_within_left}
use Rattle.pbf_dense.proofs.within.IdsWithinIterator.next.Given as goal

abbrev pub invariant-nodes : goal.invariant-nodes
invariant-nodes l = ids_within_left l.self ≡ ids_within_left l.fn.self

abbrev pub decreases-nodes : goal.decreases-nodes
decreases-nodes l = length (sums_left l.self.lons)
