use Rattle.pbfcut_program.proofs.FailureLemmas.{extract_left}
use Rattle.pbfcut_program.proofs.file_laws.failure_of_extract.Goals as goal

pub returns : goal.returns
returns c words rows events disk file plain e = extract_left words rows events disk file plain e
