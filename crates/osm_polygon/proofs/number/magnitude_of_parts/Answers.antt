use Rattle.std.proofs.Common.{arith, length}
use Rattle.osm_polygon.proofs.Numbers.{power_eight}
use Rattle.osm_polygon.proofs.number.magnitude_of_parts.Goals as goal

pub moved_digits-requires-clause-whole : goal.moved_digits-requires-clause-whole
moved_digits-requires-clause-whole c =
    omega (arith, c.in_ok-whole.ensures.below, power_eight (length c.halves.result.0.now) c.in_ok-whole.ensures.sized)
