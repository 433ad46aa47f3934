use Rattle.std.proofs.Common.{refl}
use Rattle.run_examples.proofs.ExtractLemmas.{no_other_is}
use Rattle.run_examples.proofs.on_disk.Goals as goal

pub returns : goal.returns
returns c = record {
  possible = λ key. (tt, (refl, (refl, (refl, (tt, (refl, (tt, (tt, (tt, (tt, (tt, tt)))))))))));
  moments = λ key. refl;
  output_has = λ key. refl;
  input_has = λ key. refl;
  no_other = no_other_is;
}
