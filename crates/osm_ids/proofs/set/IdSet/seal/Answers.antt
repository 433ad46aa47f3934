use Rattle.std.proofs.Common.{arith}
use Rattle.std.proofs.Common.{rules}
use Rattle.osm_ids.proofs.OrderLemmas.{empty_late}
use Rattle.osm_ids.proofs.set.IdSet.seal.Goals as goal

pub returns-then-is_empty-clause-ok : goal.returns-then-is_empty-clause-ok
returns-then-is_empty-clause-ok c = grind (arith, empty_late c.self.inside.pages c.self.inside.late.keys (search rules), c.self.view_is)
