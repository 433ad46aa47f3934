use Rattle.std.proofs.Common.{arith}
use Rattle.std.specs.Ordering.{int_cmp}
use Rattle.std.specs.FinSet as set
use Rattle.osm_ways.proofs.choosing.Chooser.absent.Goals as goal

pub returns-in-None : goal.returns-in-None
returns-in-None c = λ id inside.
    let parts = c.common-span.ensures id inside in
    grind (arith, set.members, set.contains-empty int_cmp id, c.self.view_is, c.in-None.is, c.absent.ensures id parts.0, c.absent-2.ensures id parts.1)

pub returns-in-Some : goal.returns-in-Some
returns-in-Some c = λ id inside.
    let both = c.common.ensures id inside in
    let parts = c.common-span.ensures id both.0 in
    grind (arith, set.members, c.self.view_is, c.in-Some.is, c.absent.ensures id parts.0, c.absent-2.ensures id parts.1, c.absent-in-Some.ensures id both.1)
