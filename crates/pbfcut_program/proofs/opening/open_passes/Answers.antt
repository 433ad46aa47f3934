use Rattle.std.proofs.Common.{◌≡◌, [], ◌∷◌, ◌++◌, ◌+◌, arith, length, length-append, List, map}
use Rattle.std.proofs.lemmas.Result.{err_from_is_err_and}
use Rattle.pbfcut_program.specs.Events.{Event, opened, openings}
use Rattle.pbfcut_program.specs.Fails.{Calm}
use Rattle.pbfcut_program.proofs.Beginning.{calm_openings}
use Rattle.pbfcut_program.proofs.EventLemmas.{each_both}
use Rattle.pbfcut_program.proofs.FailLemmas.{opening_after}
use Rattle.pbfcut_program.proofs.Logging.{and_then}
use Rattle.pbfcut_program.proofs.OpeningLemmas.{fresh_more, opened_more}
use Rattle.pbfcut_program.proofs.opening.open_passes.Goals as goal

pub passes-preserved : goal.passes-preserved
passes-preserved g c =
    let so_far = c.passes.invariant in
    let feeds = c.passes.feeds.items in
    let feed = c.in_ok-feed.feed in
    let many : length (feeds ++ feed ∷ []) ≡ c.passes.pass + 1 = omega (arith, so_far.2, length-append feeds (feed ∷ [])) in
    let number : c.passes.pass + 1 ≡ 1 + length feeds = omega (arith, so_far.2) in
    rw c.in-Ok.ensures.items (opened_more g.H.In.Feed.remaining c.args.input.now.path.now _ _ _ feeds feed (c.passes.pass + 1) so_far.0 c.in_ok-feed.ensures.opened number, fresh_more g.H.In.Feed feeds feed so_far.1 c.in_ok-feed.ensures.fresh, many)

pub returns-in_err-feed-clause-failed : goal.returns-in_err-feed-clause-failed
returns-in_err-feed-clause-failed g c =
    let p = err_from_is_err_and c.from_residual-in_err-feed.result c.from_residual-in_err-feed.ensures.1 in
    let f = c.in_err-feed.ensures.failed in
    let path = c.args.input.now.path.now in
    let hs = map g.H.In.Feed.remaining c.passes.feeds.items in
    let before = openings path 1 hs in
    rw (p.1, p.2) (before ++ f.0 ∷ [], and_then _ _ _ before (f.0 ∷ []) c.passes.invariant.0 f.1, opening_after _ before (f.0 ∷ []) (calm_openings path 1 hs) f.2)

pub returns-in_default-clause-failed : goal.returns-in_default-clause-failed
returns-in_default-clause-failed g c =
    let path = c.args.input.now.path.now in
    let hs = map g.H.In.Feed.remaining c.passes.feeds.items in
    let before = openings path 1 hs in
    let last : List Event = opened path (c.passes.pass + 1) (g.H.In.Feed.remaining c.in_ok-feed.feed) ∷ [] in
    (before ++ last, and_then _ _ _ before last c.passes.invariant.0 c.in_ok-feed.ensures.opened, (each_both Calm before last (calm_openings path 1 hs) (tt, tt), tt))
