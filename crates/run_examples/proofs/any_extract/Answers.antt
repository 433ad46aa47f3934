use Rattle.std.proofs.Common.{Some, refl, sym}
use Rattle.pbfcut_program.specs.Files.{put}
use Rattle.run_examples.proofs.AnyLemmas.{comes_to}
use Rattle.run_examples.proofs.FlagLemmas.{none_some}
use Rattle.run_examples.proofs.any_extract.Goals as goal
use Rattle.run_examples.specs.Extract.{disk, output}

pub returns : goal.returns
returns c = record {
  output_has = λ events run allowed. (comes_to disk events refl run allowed).0;
  none_over = λ bytes events run allowed. none_some (sym (comes_to (put output (Some bytes) disk) events refl run allowed).1);
}
