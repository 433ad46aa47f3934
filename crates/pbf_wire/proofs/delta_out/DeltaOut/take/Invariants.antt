use Rattle.pbf_wire.specs.Cursors.{sums_left}
use Rattle.pbf_wire.proofs.TakingLemmas.{HaveMoved}
use Rattle.pbf_wire.proofs.delta_out.DeltaOut.take.Given as goal

abbrev pub invariant-values : goal.invariant-values
invariant-values l = HaveMoved (sums_left l.fn.values) l.fn.self l.self (sums_left l.values) l.count l.run.left

abbrev pub decreases-values : goal.decreases-values
decreases-values l = l.run.left
