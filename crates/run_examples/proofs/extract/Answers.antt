use Rattle.run_examples.proofs.ExtractLemmas.{cut_is, extraction_is, line_is, run_is, settles_is, status_is}
use Rattle.run_examples.proofs.extract.Goals as goal

pub returns : goal.returns
returns c = record {
  cut = cut_is;
  extraction = extraction_is;
  line = line_is;
  run = run_is;
  status = status_is;
  settles = settles_is;
}
