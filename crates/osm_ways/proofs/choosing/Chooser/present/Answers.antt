use Rattle.std.proofs.Common.{arith}
use Rattle.std.specs.FinSet as set
use Rattle.osm_ways.proofs.choosing.Chooser.present.Goals as goal

pub returns : goal.returns
returns c = λ id inside. grind (arith, set.members, c.self.view_is, c.present.ensures id inside)
