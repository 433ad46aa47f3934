use Rattle.std.proofs.Common.{[], refl}
use Rattle.pbfcut_program.proofs.Logging.{then_none}
use Rattle.pbfcut_program.proofs.output.name_whole.Goals as goal

pub returns-in-Pbfcut : goal.returns-in-Pbfcut
returns-in-Pbfcut g c = rw c.in-Pbfcut.is ([], then_none (g.H.Host.log c.args.host.now), refl)
