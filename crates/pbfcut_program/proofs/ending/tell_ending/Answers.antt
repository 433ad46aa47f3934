use Rattle.std.proofs.Common.{refl, inr, rules}
use Rattle.pbf_frame.specs.declared.stop.Stop.TheVariants as stop
use Rattle.pbfcut_cli.specs.declared.endings.Ending.TheVariants as ending
use Rattle.pbfcut_program.proofs.ending.tell_ending.Goals as goal

pub returns-in-Err : goal.returns-in-Err
returns-in-Err g c = (ending.Stopped stop.Memory, search rules, c.status-in-Err.ensures, inr refl)
