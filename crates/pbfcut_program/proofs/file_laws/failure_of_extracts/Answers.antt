use Rattle.pbfcut_program.proofs.SeveralFailing.{extracts_left}
use Rattle.pbfcut_program.proofs.file_laws.failure_of_extracts.Goals as goal

pub returns : goal.returns
returns c words rows events disk file given e = extracts_left words rows given events disk file e
