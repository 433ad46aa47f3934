use Rattle.std.proofs.Common.{arith}
use Rattle.pbf_unpack.proofs.SupplyLemmas.{given}
use Rattle.pbf_unpack.proofs.feed.UnpackedFeed.give.Goals as goal

pub returns-clause-left : goal.returns-clause-left
returns-clause-left g c = grind (arith, given)
