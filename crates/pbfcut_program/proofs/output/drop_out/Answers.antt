use Rattle.std.proofs.Common.{[], refl}
use Rattle.std.specs.Result.{result_err}
use Rattle.pbfcut_program.proofs.Logging.{then_none}
use Rattle.pbfcut_program.proofs.output.drop_out.Goals as goal

pub returns-in-None : goal.returns-in-None
returns-in-None g c =
    let closed = g.H.Host.log c.finish_screen.new.self in
    rw c.in-None.is (result_err c.finish_screen.result, closed, c.finish_screen.ensures, [], then_none closed, refl)
