use Rattle.std.proofs.Common.{rules}
use Rattle.osm_ways.proofs.WholeLemmas.{empty_wants}
use Rattle.osm_ways.proofs.whole.WholeTypes.none.Goals as goal

pub returns : goal.returns
returns c = empty_wants _ (search rules)
