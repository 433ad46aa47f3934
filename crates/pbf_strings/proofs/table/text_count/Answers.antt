use Rattle.std.proofs.Common.{arith, rules}
use Rattle.pbf_strings.proofs.TextsLemmas.{texts_few}
use Rattle.pbf_strings.proofs.table.text_count.Goals as goal

pub loop-field-init : goal.loop-field-init
loop-field-init c = record {
  can = tt;
  ends = tt;
  so_far = search rules;
  room = omega (arith, texts_few c.args.message.now, c.requires);
}
