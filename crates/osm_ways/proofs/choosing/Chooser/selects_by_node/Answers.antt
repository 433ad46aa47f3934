use Rattle.std.proofs.Common.{arith, w64}
use Rattle.std.specs.FinSet as set
use Rattle.std.proofs.lemmas.Int.{to_z-of_z}
use Rattle.osm_ways.proofs.choosing.Chooser.selects_by_node.Goals as goal

pub returns-then-has : goal.returns-then-has
returns-then-has c = grind (arith, set.members, to_z-of_z w64 c.args.id c.ranges.id, c.has.ensures.found, c.if-has.true, c.self.view_is)

pub returns-else-has : goal.returns-else-has
returns-else-has c = grind (arith, set.members, to_z-of_z w64 c.args.id c.ranges.id, c.has.ensures.found, c.if-has.false, c.has-else-has.ensures.found, c.self.view_is)
