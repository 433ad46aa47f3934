use Rattle.std.proofs.Common.{arith}
use Rattle.pbf_pass.proofs.StepLemmas.{step_less}
use Rattle.pbf_pass.proofs.pass.step_count.Goals as goal

pub returns : goal.returns
returns g c = grind (arith, c.step_gather.ensures.steps, step_less g.F.Feed, c.step_gather.ensures.steps.limited, c.step_gather.ensures.steps.space)
