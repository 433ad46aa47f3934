use Rattle.pbfcut_program.specs.Jobs.{feeds_of, task_of}
use Rattle.pbfcut_program.proofs.Weaker.{works_weaker}
use Rattle.pbfcut_program.proofs.writing.run_into.Goals as goal

pub returns-else-engine-clause-works : goal.returns-else-engine-clause-works
returns-else-engine-clause-works g c = λ fresh.
    rw c.run_unhashed.ensures.unhashed (works_weaker c.args.engine.program c.args.engine.packs c.args.engine.digests _ g.F.Feed (task_of c.args.job.now) (feeds_of c.args.job.now) (feeds_of c.run_unhashed.new.job) _ _ _ _ c.run_unhashed.result.result
    (λ w t. ((t.0, tt), t.1)) (λ lost. lost) (c.run_unhashed.ensures.works fresh c.requires.fresh.0))
