use Rattle.pbfcut_program.proofs.SettlingLemmas.{run_same}
use Rattle.pbfcut_program.proofs.file_laws.any_run.Goals as goal

pub returns : goal.returns
returns c = run_same
