use Rattle.std.proofs.Common.{arith}
use Rattle.osm_entity.specs.Sources.{tags_left}
use Rattle.osm_ways.proofs.WholeLemmas.{empty_typed}
use Rattle.osm_ways.proofs.whole.has_type.Goals as goal

pub returns-then-is_empty : goal.returns-then-is_empty
returns-then-is_empty c = grind (arith, c.is_empty.ensures, c.if-is_empty.true, empty_typed c.args.names.now (tags_left c.args.tags))
