use Rattle.std.proofs.Common.{arith, rules}
use Rattle.std.proofs.lemmas.Result.{IfErr-weaker, err_from_is_err_and, on_ok_weaker}
use Rattle.pbf_published.specs.PublishedTasks.{below_of}
use Rattle.pbf_published.proofs.TaskLemmas.{first_other, first_same, later_other}
use Rattle.pbf_published.proofs.running.+compare_later.Goals as goal

pub returns-in_err-compare-clause-stops : goal.returns-in_err-compare-clause-stops
returns-in_err-compare-clause-stops g t c =
    let p = err_from_is_err_and c.from_residual.result c.from_residual.ensures.1 in
    rw (p.1, p.2) (first_other g.F.Feed _ below_of c.args.digest c.args.feeds.now c.in-Some.later.now c.in-Some.first.now (search rules) c.packed_digest.result c.packed_digest.ensures.digest c.args.skipped (omega (arith, c.if-skipped-gt0.false)) c.args.number _ c.in_err-compare.ensures.stops.0 c.in_err-compare.ensures.stops.1)

pub returns-clause-same : goal.returns-clause-same
returns-clause-same g t c =
    on_ok_weaker c.compare_later-2.result (λ have. first_same g.F.Feed _ below_of c.args.digest c.args.feeds.now c.in-Some.later.now c.in-Some.first.now (search rules) c.packed_digest.result c.packed_digest.ensures.digest c.args.skipped (omega (arith, c.if-skipped-gt0.false)) c.in_ok-compare.ensures.same have) c.compare_later-2.ensures.same

pub returns-clause-stops : goal.returns-clause-stops
returns-clause-stops g t c =
    IfErr-weaker c.compare_later-2.result _ _ (λ s other. later_other g.F.Feed _ below_of c.args.digest c.args.feeds.now c.in-Some.later.now c.in-Some.first.now (search rules) c.packed_digest.result c.packed_digest.ensures.digest c.args.skipped (omega (arith, c.if-skipped-gt0.false)) c.args.number s other) c.compare_later-2.ensures.stops
