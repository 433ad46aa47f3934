use Rattle.pbfcut.proofs.KeptLaw.{conversion_kept}
use Rattle.pbfcut.proofs.laws.converted_file_is_kept.Goals as goal

pub returns-clause-kept : goal.returns-clause-kept
returns-clause-kept c file sound = (conversion_kept file sound).conversion

pub returns-clause-again : goal.returns-clause-again
returns-clause-again c file sound = (conversion_kept file sound).again
