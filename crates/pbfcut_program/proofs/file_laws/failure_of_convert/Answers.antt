use Rattle.pbfcut_program.proofs.FailureLemmas.{convert_left}
use Rattle.pbfcut_program.proofs.file_laws.failure_of_convert.Goals as goal

pub returns : goal.returns
returns c words rows events disk file e = convert_left words rows events disk file e
