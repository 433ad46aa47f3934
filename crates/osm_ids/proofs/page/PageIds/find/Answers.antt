use Rattle.std.proofs.Common.{arith, w64}
use Rattle.std.proofs.lemmas.Int.{to_z-of_z}
use Rattle.osm_ids.proofs.page.PageIds.find.Goals as goal

pub returns-clause-told : goal.returns-clause-told
returns-clause-told c = grind (arith, to_z-of_z w64 c.args.id c.ranges.id, c.round.ensures.there)
