use Rattle.std.proofs.Common.{refl}
use Rattle.run_examples.proofs.RefusedLemmas.{fault_is, run_is, settles_is}
use Rattle.run_examples.proofs.refused.Goals as goal

pub returns-clause-run : goal.returns-clause-run
returns-clause-run c = record { fault = fault_is; run = run_is; settles = settles_is }

pub returns-clause-on_disk : goal.returns-clause-on_disk
returns-clause-on_disk c = record {
  possible = λ key. (tt, (refl, (refl, (refl, (tt, (refl, (tt, (tt, (tt, (tt, (tt, (tt, tt))))))))))));
  output_has = λ key. refl;
  input_has = λ key. refl;
}
