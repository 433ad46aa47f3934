use Rattle.std.proofs.Common.{false}
use Rattle.pbfcut_program.specs.Jobs.{feeds_of, task_of}
use Rattle.pbfcut_program.proofs.Weaker.{works_weaker}
use Rattle.pbfcut_program.proofs.writing.run_raw_into.Goals as goal

pub returns-else-engine-clause-works : goal.returns-else-engine-clause-works
returns-else-engine-clause-works g c = λ fresh start.
    rw c.run_raw.ensures.unhashed.0 (works_weaker c.args.engine.program false c.args.engine.digests _ g.F.Feed (task_of c.args.job.now) (feeds_of c.args.job.now) (feeds_of c.run_raw.new.job) _ _ _ _ c.run_raw.result.result
    (λ w t. (t, tt)) (λ risen. risen) (c.run_raw.ensures.works fresh 0 start))
