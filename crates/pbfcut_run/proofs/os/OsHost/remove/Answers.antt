-- The system reports nothing of what happens, so whatever came of it is one of the two.
use Rattle.std.proofs.Common.{inl, refl}
use Rattle.pbfcut_program.specs.Events.{removed}
use Rattle.pbfcut_run.proofs.os.OsHost.remove.Goals as goal

pub returns : goal.returns
returns c = (removed c.args.name.now, inl refl, refl)
