use Rattle.std.proofs.Common.{[]}
use Rattle.pbfcut_program.proofs.Logging.{then_none}
use Rattle.pbfcut_program.proofs.output.make_there.Goals as goal

pub returns-in_default-clause-err : goal.returns-in_default-clause-err
returns-in_default-clause-err g c = ([], then_none (g.H.Host.log c.args.host.now), (tt, tt))
