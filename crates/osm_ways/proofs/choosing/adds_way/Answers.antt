use Rattle.std.proofs.Common.{arith}
use Rattle.std.specs.Ordering.{int_cmp}
use Rattle.std.specs.FinSet as set
use Rattle.osm_ways.proofs.choosing.adds_way.Goals as goal

pub returns-in-None : goal.returns-in-None
returns-in-None c = grind (arith, set.contains-empty int_cmp)
