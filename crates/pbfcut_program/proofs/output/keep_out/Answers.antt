use Rattle.std.proofs.Common.{[]}
use Rattle.std.specs.Result.{result_err}
use Rattle.pbfcut_program.proofs.Logging.{then_none}
use Rattle.pbfcut_program.proofs.OutLemmas.{screen_ends}
use Rattle.pbfcut_program.proofs.output.keep_out.Goals as goal

pub returns-in-None : goal.returns-in-None
returns-in-None g c =
    let closed = g.H.Host.log c.finish_screen.new.self in
    let place = c.args.place in
    rw c.in-None.is (result_err c.finish_screen.result, closed, c.finish_screen.ensures, [], then_none closed, screen_ends place.program place.overwrite place.path.now c.finish_screen.result)
