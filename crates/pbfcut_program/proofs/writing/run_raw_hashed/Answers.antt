use Rattle.std.proofs.Common.{◌∙◌, ap, false}
use Rattle.pbfcut_program.specs.Jobs.{feeds_of, task_of}
use Rattle.pbfcut_program.proofs.Weaker.{works_weaker}
use Rattle.pbfcut_program.proofs.writing.run_raw_hashed.Goals as goal

pub returns-clause-works : goal.returns-clause-works
returns-clause-works g c = λ fresh start.
    let inner = ap (λ h. h.drain) c.into_inner-hashed.ensures in
    let same = c.into_inner.ensures.drain ∙ c.digest-digest.ensures.drain ∙ inner in
    works_weaker c.args.engine.program false c.args.engine.digests _ g.F.Feed (task_of c.args.job.now) (feeds_of c.args.job.now) (feeds_of c.run_raw-ran.new.job) _ _ _ _ c.run_raw-ran.result.result
    (λ w t. (rw same t.1, c.digest-digest.ensures.digest w (rw c.into_inner-hashed.ensures t.0)))
    (λ risen. rw same (rw (c.new-linked.ensures, c.new.ensures.drain) at risen))
    (c.run_raw-ran.ensures.works fresh 0 (rw (c.new-linked.ensures, c.new.ensures.drain) (c.new.ensures.hasher, start)))

pub returns-clause-front : goal.returns-clause-front
returns-clause-front g c =
    let inner = ap (λ h. h.drain) c.into_inner-hashed.ensures in
    let same = c.into_inner.ensures.drain ∙ c.digest-digest.ensures.drain ∙ inner in
    rw same (rw (c.new-linked.ensures, c.new.ensures.drain) at c.run_raw-ran.ensures.front)

pub returns-clause-whole : goal.returns-clause-whole
returns-clause-whole g c =
    let inner = ap (λ h. h.drain) c.into_inner-hashed.ensures in
    let same = c.into_inner.ensures.drain ∙ c.digest-digest.ensures.drain ∙ inner in
    rw same (rw (c.new-linked.ensures, c.new.ensures.drain) at c.run_raw-ran.ensures.whole)
