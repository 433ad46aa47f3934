use Rattle.std.proofs.Common.{false, length}
use Rattle.pbf_wire.specs.Cursors.{sums_left}
use Rattle.pbf_wire.specs.Spans.{ArePassed}
use Rattle.pbf_dense.proofs.within.reach.Given as goal

abbrev pub invariant-values : goal.invariant-values
invariant-values l = ArePassed l.span false (sums_left l.fn.values) (sums_left l.values) l.skipped

abbrev pub decreases-values : goal.decreases-values
decreases-values l = length (sums_left l.values)
