use Rattle.std.proofs.Common.{◌∙◌, ap}
use Rattle.pbfcut_program.specs.Jobs.{feeds_of, task_of}
use Rattle.pbfcut_program.proofs.Weaker.{works_weaker}
use Rattle.pbfcut_program.proofs.writing.run_hashed.Goals as goal

pub returns-clause-works : goal.returns-clause-works
returns-clause-works g c = λ fresh.
    let inner = ap (λ h. h.drain) c.into_inner-hashed.ensures in
    let same = c.into_inner.ensures.drain ∙ c.digest-digest.ensures.drain ∙ inner in
    works_weaker c.args.engine.program c.args.engine.packs c.args.engine.digests _ g.F.Feed (task_of c.args.job.now) (feeds_of c.args.job.now) (feeds_of c.run_unhashed-ran.new.job) _ _ _ _ c.run_unhashed-ran.result.result
    (λ w t. ((rw same t.0.1, c.digest-digest.ensures.digest w (rw c.into_inner-hashed.ensures t.0.0)), t.1))
    (λ lost. rw same lost)
    (c.run_unhashed-ran.ensures.works fresh (rw (c.new-linked.ensures, c.new.ensures.drain) (c.new.ensures.hasher, c.requires.fresh.0)))

pub returns-clause-front : goal.returns-clause-front
returns-clause-front g c =
    let inner = ap (λ h. h.drain) c.into_inner-hashed.ensures in
    let same = c.into_inner.ensures.drain ∙ c.digest-digest.ensures.drain ∙ inner in
    rw same c.run_unhashed-ran.ensures.front
