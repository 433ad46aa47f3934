use Rattle.std.proofs.Common.{rules}
use Rattle.std.proofs.lemmas.Result.{err_from_is_err_and}
use Rattle.pbf_published.specs.PublishedTasks.{below_of}
use Rattle.pbf_published.proofs.TaskLemmas.{all_share, one_differs}
use Rattle.pbf_published.proofs.running.shared_digest.Goals as goal

pub returns-in_err-compare_later-clause-stops : goal.returns-in_err-compare_later-clause-stops
returns-in_err-compare_later-clause-stops g c =
    let p = err_from_is_err_and c.from_residual-in_err-compare_later.result c.from_residual-in_err-compare_later.ensures.1 in
    rw (p.1, p.2) (one_differs g.F.Feed _ below_of c.in_ok-digest.digest c.args.feeds.now c.in-Some.later.now c.in-Some.first.now (search rules) c.packed_digest.result c.packed_digest.ensures.digest c.args.skipped _ c.in_ok-digest.ensures.there c.in_err-compare_later.ensures.stops)

pub returns-clause-same : goal.returns-clause-same
returns-clause-same g c =
    all_share g.F.Feed _ below_of c.in_ok-digest.digest c.args.feeds.now c.in-Some.later.now c.in-Some.first.now (search rules) c.packed_digest.result c.packed_digest.ensures.digest c.args.skipped c.in_ok-digest.ensures.there c.in_ok-compare_later.ensures.same
