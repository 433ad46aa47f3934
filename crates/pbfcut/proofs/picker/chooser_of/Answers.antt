use Rattle.std.proofs.Common.{Some, ap}
use Rattle.pbfcut.proofs.picker.chooser_of.Goals as goal

pub returns-in-Some : goal.returns-in-Some
returns-in-Some c = rw c.in-Some.is (ap Some c.chooser.ensures)
