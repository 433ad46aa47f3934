use Rattle.std.proofs.Common.{arith}
use Rattle.pbf_unpack.proofs.SupplyLemmas.{drop_past}
use Rattle.pbf_unpack.proofs.supply.copy_left.Goals as goal

pub returns-else-done-front-clause-bytes : goal.returns-else-done-front-clause-bytes
returns-else-done-front-clause-bytes c = grind (arith, drop_past)
