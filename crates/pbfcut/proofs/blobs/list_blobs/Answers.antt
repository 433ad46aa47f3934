use Rattle.std.proofs.Common.{◌≡◌, false, rules, ap, sym, ◌∙◌}
use Rattle.std.proofs.lemmas.Result.{err_from_is_err_and}
use Rattle.pbf_frame.specs.Devices.{prepend}
use Rattle.pbf_frame.specs.Verdict.{judged_known}
use Rattle.pbfcut.specs.Listing.{Lists}
use Rattle.pbf_pass.proofs.GivenLemmas.{tells_all}
use Rattle.pbfcut.proofs.ListingLemmas.{visits_file, lists_all, front_listed, stops_listed}
use Rattle.pbfcut.proofs.blobs.list_blobs.Goals as goal

pub returns-clause-listed : goal.returns-clause-listed
returns-clause-listed g c =
    let given = c.in_ok-outcome.ensures.visited in
    let remaining = g.F.Feed.remaining in
    let told : remaining c.args.feed.now ≡ prepend given.bytes (remaining c.visit_rest-outcome.new.reader.feed.now) = ap (λ r. remaining r.now) (sym c.new-reader.ensures.feed) ∙ given.supplied.gave.told in
    let tells = tells_all (remaining c.args.feed.now) (remaining c.visit_rest-outcome.new.reader.feed.now) given.bytes told given.supplied.end in
    let all = visits_file c.new-reader.result given.bytes _ _ _ c.visit_rest-outcome.new.visitor c.new-reader.ensures.had_header c.new-reader.ensures.place given.holding in
    let said : Lists g.D.Drain c.args.drain.now c.visit_rest-outcome.new.visitor.drain.now (judged_known false 0 (remaining c.args.feed.now)) c.in_ok-outcome.field-0 = lists_all g.D.Drain (λ v. v.drain.now) _ (λ old new f one. one) (remaining c.args.feed.now) given.bytes _ _ c.visit_rest-outcome.new.visitor tells all in
    search (rules, said)

pub returns-in_err-outcome-clause-beginning : goal.returns-in_err-outcome-clause-beginning
returns-in_err-outcome-clause-beginning g c =
    let p = err_from_is_err_and c.from_residual.result c.from_residual.ensures.1 in
    let said = front_listed g.D.Drain (λ v. v.drain.now) _ (λ old new f one. one) _ _ _ _ c.visit_rest-outcome.new.visitor _ (λ mid f s failing. failing) c.in_err-outcome.ensures.stops in
    rw p.1 (search (rules, said))

pub returns-in_err-outcome-clause-stops : goal.returns-in_err-outcome-clause-stops
returns-in_err-outcome-clause-stops g c =
    let p = err_from_is_err_and c.from_residual.result c.from_residual.ensures.1 in
    let said = stops_listed g.D.Drain (λ v. v.drain.now) _ (λ old new f one. one) _ _ _ _ c.visit_rest-outcome.new.visitor _ (λ mid f s failing. failing) c.in_err-outcome.ensures.stops in
    rw (p.1, p.2) (search (rules, said))
