use Rattle.pbfcut_program.specs.Program.{strategy_of}
use Rattle.pbfcut_program.proofs.RawAnswers.{conversion_raw, copy_raw, extract_raw}
use Rattle.pbfcut_program.proofs.laws.answers_are_raw_files.Goals as goal

pub returns-clause-convert : goal.returns-clause-convert
returns-clause-convert c = conversion_raw

pub returns-clause-copy : goal.returns-clause-copy
returns-clause-copy c = copy_raw

pub returns-clause-extract : goal.returns-clause-extract
returns-clause-extract c = λ by area. extract_raw (strategy_of by) area
