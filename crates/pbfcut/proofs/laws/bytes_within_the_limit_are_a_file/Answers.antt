use Rattle.pbfcut.proofs.KeptLaw.{same_as_a_file}
use Rattle.pbfcut.proofs.laws.bytes_within_the_limit_are_a_file.Goals as goal

pub returns : goal.returns
returns c = same_as_a_file
