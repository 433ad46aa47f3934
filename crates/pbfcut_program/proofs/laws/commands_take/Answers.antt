use Rattle.pbfcut_program.proofs.TakingLemmas.{converts_take, copies_take, extracts_take}
use Rattle.pbfcut_program.proofs.laws.commands_take.Goals as goal

pub returns-clause-extract : goal.returns-clause-extract
returns-clause-extract c = extracts_take

pub returns-clause-convert : goal.returns-clause-convert
returns-clause-convert c = converts_take

pub returns-clause-copy : goal.returns-clause-copy
returns-clause-copy c = copies_take
