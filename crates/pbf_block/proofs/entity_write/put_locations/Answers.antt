use Rattle.std.proofs.Common.{rules, arith}
use Rattle.std.proofs.lemmas.Grind.{common_steps}
use Rattle.pbf_block.proofs.entity_write.put_locations.Goals as goal

pub loop-lat-preserved : goal.loop-lat-preserved
loop-lat-preserved c = record {
  can = tt;
  ends = tt;
  fits = search rules;
  lats = grind (arith, common_steps);
  lons = grind (arith, common_steps);
}
