use Rattle.std.proofs.Common.{arith}
use Rattle.pbf_unpack.proofs.PackingLemmas.{whole_nothing, at_start}
use Rattle.pbf_unpack.proofs.below.Below.new.Goals as goal

pub invariant_of-result : goal.invariant_of-result
invariant_of-result g c = grind (arith, at_start, whole_nothing)
