use Rattle.std.proofs.Common.{◌∙◌, ap, rules, sym}
use Rattle.pbf_published.specs.PublishedTasks.{below_of}
use Rattle.pbf_published.proofs.PublishedLemmas.{published_of, outcome_receipt}
use Rattle.pbf_published.proofs.TaskLemmas.{behind, digest_behind, opened_behind, published}
use Rattle.pbf_published.proofs.checking.check_with_receipt.Goals as goal

pub returns-clause-receipt : goal.returns-clause-receipt
returns-clause-receipt g c =
    let from_first = outcome_receipt _ _ c.check_with_receipt-outcome.ensures.receipt _ _ c.in_ok-receipt.was _ c.published_outcome-outcome.ensures in
    let u = published (behind g.F.Feed) in
    let read = c.check_with_receipt-outcome.new.feed in
    let same = sym (ap (λ r. r.now) (c.close-feed.ensures.below ∙ c.packed_digest-digest.ensures.below)) in
    rw (sym c.of_raw.ensures.check) (published_of g.F.Feed c.args.feed.now _ from_first c.args.passes.check c.packed_digest-digest.result
    (opened_behind g.F.Feed u c.args.passes.check _ c.in_ok-input.input c.in_ok-input.ensures.opened)
    (digest_behind g.F.Feed u (below_of read) _ read c.packed_digest-digest.result (same ∙ search rules) c.packed_digest-digest.ensures.digest)
    c.in_ok-first_digest.field-0 c.in_ok-first_digest.ensures.there _ (λ file holds. holds))
