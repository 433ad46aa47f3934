use Rattle.std.proofs.Common.{map}
use Rattle.pbfcut_program.specs.Manner.{input_form}
use Rattle.pbfcut_program.specs.Jobs.{feeds_of, task_of}
use Rattle.pbfcut_program.proofs.LeavingLemmas.{raw_leads}
use Rattle.pbfcut_program.proofs.Weaker.{raw_failed, works_raw, works_weaker}
use Rattle.pbfcut_program.proofs.writing.run_unhashed.Goals as goal

pub returns-else-gives_packed-clause-works : goal.returns-else-gives_packed-clause-works
returns-else-gives_packed-clause-works g c = λ fresh start.
    let engine = c.args.engine in
    let job = feeds_of c.args.job.now in
    let works = works_raw engine.program engine.packs engine.digests _ g.F.Feed (task_of c.args.job.now) job (feeds_of c.run_raw.new.job) _ _ c.run_raw.result.result (c.gives_packed.ensures.raw c.if-gives_packed.false) (c.run_raw.ensures.works fresh 0 start) in
    rw c.run_raw.ensures.unhashed.1 (works_weaker engine.program engine.packs engine.digests _ g.F.Feed (task_of c.args.job.now) job (feeds_of c.run_raw.new.job) _ _ _ _ c.run_raw.result.result (λ w t. (t, tt)) (λ risen. raw_failed g.D.Drain _ (task_of c.args.job.now) (map g.F.Feed.remaining job) c.args.out c.run_raw.result.out (c.gives_packed.ensures.raw c.if-gives_packed.false) risen) works)

pub returns-else-gives_packed-clause-front : goal.returns-else-gives_packed-clause-front
returns-else-gives_packed-clause-front g c =
    rw (c.gives_packed.ensures.raw c.if-gives_packed.false) (raw_leads (task_of c.args.job.now) (map g.F.Feed.remaining (feeds_of c.args.job.now)) (input_form c.args.engine.program) (g.D.Drain.taken c.args.out) (g.D.Drain.taken c.run_raw.result.out) c.run_raw.result.result c.requires.fresh c.run_raw.ensures.front)
