use Rattle.std.proofs.Common.{refl}
use Rattle.run_examples.proofs.DroppedLemmas.{as_before, run_is, same, settles_is}
use Rattle.run_examples.proofs.NameLemmas.{which}
use Rattle.run_examples.proofs.dropped.Goals as goal
use Rattle.run_examples.specs.Packed.{part}

pub returns-clause-run : goal.returns-clause-run
returns-clause-run c = record { unpacked_same = same; run = run_is; settles = settles_is }

pub returns-clause-on_disk : goal.returns-clause-on_disk
returns-clause-on_disk c = record {
  possible = λ key. (tt, (refl, (refl, (refl, (tt, (refl, (tt, (tt, (tt, (tt, (tt, (tt, (tt, tt)))))))))))));
  same = λ key name. as_before key name (which name part);
}
