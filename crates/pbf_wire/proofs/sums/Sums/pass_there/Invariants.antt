use Rattle.pbf_wire.specs.Passing.{PassesSome}
use Rattle.pbf_wire.proofs.sums.Sums.pass_there.Given as goal

abbrev pub invariant-values : goal.invariant-values
invariant-values l = PassesSome l.fn.self l.self l.count l.left

abbrev pub decreases-values : goal.decreases-values
decreases-values l = l.left
