use Rattle.std.proofs.Common.{arith}
use Rattle.std.proofs.lemmas.Result.{err_from_is_err_and}
use Rattle.pbf_pass.proofs.pass.Pass.take_header.Goals as goal

pub returns-in_err-read-clause-refused : goal.returns-in_err-read-clause-refused
returns-in_err-read-clause-refused c = λ fault e. grind (arith, err_from_is_err_and c.from_residual.result c.from_residual.ensures.1, c.in_err-read.ensures.refused fault)
