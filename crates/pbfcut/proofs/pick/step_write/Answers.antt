use Rattle.pbfcut.specs.Pick.{pick_of}
use Rattle.pbfcut.proofs.pick.step_write.Goals as goal

pub returns : goal.returns
unfolding pick_of
returns g c = record { steps = c.step_pack.ensures.steps }
