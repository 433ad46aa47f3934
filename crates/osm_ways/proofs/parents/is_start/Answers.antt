use Rattle.std.proofs.lemmas.Int.{ints}
use Rattle.std.proofs.Common.{arith}
use Rattle.std.specs.FinSet as set
use Rattle.osm_ways.proofs.parents.is_start.Goals as goal

pub returns : goal.returns
returns c = grind (arith, ints, set.members, c.keeps_relation.ensures)
