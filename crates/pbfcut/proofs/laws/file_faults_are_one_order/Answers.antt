use Rattle.pbfcut.proofs.FaultLemmas.{file_first}
use Rattle.pbfcut.proofs.laws.file_faults_are_one_order.Goals as goal

pub returns : goal.returns
returns c = file_first
