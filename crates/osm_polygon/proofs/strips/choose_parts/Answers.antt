use Rattle.std.proofs.Common.{arith}
use Rattle.osm_polygon.proofs.StripLemmas.{one_strip}
use Rattle.osm_polygon.proofs.strips.choose_parts.Goals as goal

pub returns-then-count-lt-MANY_EDGES-clause-few : goal.returns-then-count-lt-MANY_EDGES-clause-few
returns-then-count-lt-MANY_EDGES-clause-few c = omega (arith, one_strip c.args.strip c.args.edges.now (omega (arith, c.requires.one)))

pub returns-clause-few : goal.returns-clause-few
returns-clause-few c = omega (arith, one_strip c.args.strip c.args.edges.now (omega (arith, c.requires.one)))
