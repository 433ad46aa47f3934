use Rattle.std.proofs.Common.{[], Bool, rules, refl, subst}
use Rattle.std.proofs.lemmas.Result.{IfErr-weaker, on_ok_weaker}
use Rattle.pbf_frame.specs.Devices.{IsAtEnd}
use Rattle.pbf_frame.specs.Transfers.{Supplied}
use Rattle.pbf_pass.specs.Hashing.{IsDigestOf, below_log, hash_log, mark_by}
use Rattle.pbf_pass.specs.Stops.{WriteFailed}
use Rattle.pbf_pass.proofs.GivenLemmas.{below_from, below_to, digest_hashed, hashed_from, same_below, supplied_as}
use Rattle.pbfcut.specs.Copying.{IsAllOrLong}
use Rattle.pbfcut.proofs.ChangedLemmas.{digest_as_change}
use Rattle.pbfcut.proofs.CopyingLemmas.{first_as, too_long}
use Rattle.pbfcut.proofs.copying.copy_again.Goals as goal

pub returns-then-branch : goal.returns-then-branch
returns-then-branch g c =
    let copied = c.in_ok-outcome.ensures.copied.0 in
    let first = c.new-passing.result in
    let last = c.copy_rest-outcome.new.feed in
    let end : IsAtEnd (g.F.Feed.remaining c.copy_rest-outcome.new.feed.feed.now) = subst (λ (b : Bool). IsAllOrLong b (g.F.Feed.remaining c.copy_rest-outcome.new.feed.feed.now) copied.bytes) c.if-branch.true c.in_ok-outcome.ensures.copied.1 in
    let check = c.args.again.passes.check in
    let digest = c.digest-digest.result in
    let supplied : Supplied g.F.Feed c.args.feed.now copied.bytes c.feed-1.given.0 = supplied_as g.F.Feed c.new-passing.result.feed.now c.args.feed.now c.copy_rest-outcome.new.feed.feed.now c.feed-1.given.0 copied.bytes (search rules) (search rules) record {
      gave = record {
        told = copied.gave.told;
        logged = λ log b passed. below_to (g.F.Feed.has_passed last.feed.now) last.hasher last.count log _ (copied.gave.logged (below_log log) b (below_from (g.F.Feed.has_passed first.feed.now) first.hasher first.count log b passed));
      };
      end = end;
      lender = same_below _ _ _ _ c.in_ok-outcome.ensures.keeps.0.lender;
    } in
    let is_digest : IsDigestOf (mark_by check digest) copied.bytes = digest_hashed (g.F.Feed.has_passed last.feed.now) last.hasher last.count check digest copied.bytes c.digest-digest.ensures.digest (copied.gave.logged (hash_log check) [] (hashed_from (g.F.Feed.has_passed first.feed.now) first.hasher first.count check c.new-passing.ensures.check c.new-passing.ensures.hasher)) in
    let front = c.copy_rest-outcome.ensures.front in
    record {
      copied = on_ok_weaker c.compare.result (λ same. record {
        file = copied.bytes;
        supplied = supplied;
        digest_is = subst (λ d. IsDigestOf d copied.bytes) same is_digest;
        holding = record { written = copied.bytes; added = copied.took; holding = refl };
      }) c.compare.ensures.same;
      front = search (rules, front);
      stops = IfErr-weaker c.compare.result _ _ (λ s other. digest_as_change g.F.Feed c.args.again c.args.feed.now c.feed-1.given.0 (WriteFailed g.D.Drain c.args.drain.now c.copy_rest-outcome.new.drain) digest (λ file. Unit {0}) s (record { file = copied.bytes; supplied = supplied; digest_is = is_digest; holding = tt }) other) c.compare.ensures.other;
      feed = search rules;
      out = search rules;
    }

pub returns-else-branch : goal.returns-else-branch
returns-else-branch g c =
    let copied = c.in_ok-outcome.ensures.copied.0 in
    let first = c.new-passing.result in
    let last = c.copy_rest-outcome.new.feed in
    let long = subst (λ (b : Bool). IsAllOrLong b (g.F.Feed.remaining c.copy_rest-outcome.new.feed.feed.now) copied.bytes) c.if-branch.false c.in_ok-outcome.ensures.copied.1 in
    let front = c.copy_rest-outcome.ensures.front in
    record {
      copied = tt;
      front = search (rules, front);
      stops = too_long g.F.Feed c.args.again c.args.feed.now c.feed-1.given.0 (WriteFailed g.D.Drain c.args.drain.now c.copy_rest-outcome.new.drain) copied.bytes (first_as g.F.Feed c.new-passing.result.feed.now c.args.feed.now c.copy_rest-outcome.new.feed.feed.now c.feed-1.given.0 copied.bytes (search rules) (search rules) record {
        told = copied.gave.told;
        logged = λ log b passed. below_to (g.F.Feed.has_passed last.feed.now) last.hasher last.count log _ (copied.gave.logged (below_log log) b (below_from (g.F.Feed.has_passed first.feed.now) first.hasher first.count log b passed));
      }) long;
      feed = search rules;
      out = search rules;
    }
