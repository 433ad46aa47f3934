use Rattle.std.proofs.Common.{refl}
use Rattle.run_examples.proofs.NameLemmas.{which}
use Rattle.run_examples.proofs.PackedLemmas.{meant_is, no_other_is, run_is, same, settles_is, taken_is, values_are}
use Rattle.run_examples.proofs.packed.Goals as goal
use Rattle.run_examples.specs.Packed.{part}

pub returns-clause-typed : goal.returns-clause-typed
returns-clause-typed c = record { taken = taken_is; values = values_are; meant = meant_is }

pub returns-clause-happens : goal.returns-clause-happens
returns-clause-happens c = record { unpacked_same = same; run = run_is; settles = settles_is }

pub returns-clause-on_disk : goal.returns-clause-on_disk
returns-clause-on_disk c = record {
  possible = λ key. (tt, (refl, (refl, (refl, (tt, (refl, (tt, (tt, (tt, (tt, (refl, (tt, (tt, tt)))))))))))));
  moments = λ key. refl;
  output_has = λ key. refl;
  input_has = λ key. refl;
  no_other = λ key name. no_other_is key name (which name part);
}
