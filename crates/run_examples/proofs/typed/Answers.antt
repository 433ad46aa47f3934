use Rattle.run_examples.proofs.ExtractLemmas.{degrees_are, meant_is, taken_is, values_are}
use Rattle.run_examples.proofs.typed.Goals as goal

pub returns : goal.returns
returns c = record { taken = taken_is; values = values_are; degrees = degrees_are; meant = meant_is }
