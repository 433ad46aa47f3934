use Rattle.pbfcut_program.proofs.FailureLemmas.{pack_left, unpack_left}
use Rattle.pbfcut_program.proofs.file_laws.failure_of_copy.Goals as goal

pub returns-clause-pack : goal.returns-clause-pack
returns-clause-pack c words rows events disk file e = pack_left words rows events disk file e

pub returns-clause-unpack : goal.returns-clause-unpack
returns-clause-unpack c words rows events disk file e = unpack_left words rows events disk file e
