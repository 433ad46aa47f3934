use Rattle.std.proofs.Common.{arith, rules}
use Rattle.osm_area.proofs.StripLemmas.{few_strips}
use Rattle.osm_area.proofs.strips.span_between.Goals as goal

pub returns-clause-few : goal.returns-clause-few
returns-clause-few c = search (rules, few_strips c.unsigned_abs-length.result)
