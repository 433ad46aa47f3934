use Rattle.std.proofs.Common.{arith, rules}
use Rattle.std.proofs.lemmas.Int.{ints}
use Rattle.osm_area.proofs.StripLemmas.{ends_more}
use Rattle.osm_area.proofs.strips.ends_of.Goals as goal

pub boxes-preserved : goal.boxes-preserved
boxes-preserved c west east from to within =
    c.boxes.invariant west east (search rules) (search rules) (ends_more west east c.min-west.result c.max-east.result c.in-Some.bounds.now c.boxes.rest.now c.in-Some.later.now (search rules) (search rules) (search rules) (search rules) (search rules) within)
