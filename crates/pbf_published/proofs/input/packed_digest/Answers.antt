use Rattle.std.proofs.Common.{ap, sym, ◌∙◌}
use Rattle.std.proofs.lemmas.Option.{none-some}
use Rattle.pbf_unpack.specs.Unpacked.{Unpacked}
use Rattle.pbf_unpack.proofs.ReportLemmas.{all_supplied}
use Rattle.pbf_pass.specs.Hashing.{below_log, hash_log}
use Rattle.pbf_pass.proofs.GivenLemmas.{below_to, digest_hashed}
use Rattle.pbf_published.proofs.PublishedLemmas.{all_going, end_below, not_both}
use Rattle.pbf_published.proofs.TracedLemmas.{traced_all, traced_below}
use Rattle.pbf_published.specs.Published.{log_number}
use Rattle.pbf_published.proofs.input.packed_digest.Goals as goal

pub returns-then-has_given_all-clause-digest : goal.returns-then-has_given_all-clause-digest
returns-then-has_given_all-clause-digest g c =
    let hashed = c.args.feed.now.feed.feed in
    let all = sym c.has_given_all.ensures.value ∙ c.if-has_given_all.true in
    record {
      means = λ check start raw has.
          let gave = c.has_given_all.ensures.gave (log_number (hash_log check) (hash_log check) start) raw c.if-has_given_all.true has in
          let passed = (traced_below _ _ (hash_log check) (hash_log check) start gave.packed gave.passed).0 in
          record {
            packed = gave.packed;
            digest_is = digest_hashed (g.F.Feed.has_passed hashed.feed) hashed.hasher hashed.count check c.digest.result gave.packed c.digest.ensures.is passed;
            means = ap (λ (u : Unpacked). u.0) gave.means;
            told = λ ended. traced_all _ _ (hash_log check) (hash_log check) start gave.packed (gave.end ended) gave.passed;
            end = λ ended. end_below c.args.feed.now.state _ _ (all_going c.args.feed.now all) gave.end ended;
          };
      logged = λ check log start raw has.
          let gave = c.has_given_all.ensures.gave (log_number (hash_log check) (below_log log) start) raw c.if-has_given_all.true has in
          let passed = traced_below _ _ (hash_log check) (below_log log) start gave.packed gave.passed in
          record {
            packed = gave.packed;
            passed = below_to (g.F.Feed.has_passed hashed.feed) hashed.hasher hashed.count log gave.packed passed.1;
            digest_is = digest_hashed (g.F.Feed.has_passed hashed.feed) hashed.hasher hashed.count check c.digest.result gave.packed c.digest.ensures.is passed.0;
            means = ap (λ (u : Unpacked). u.0) gave.means;
            is_known = λ ended. traced_all _ _ (hash_log check) (below_log log) start gave.packed (gave.end ended) gave.passed;
          };
      there = λ ended none. none-some _ (sym none);
    }

pub returns-else-has_given_all-clause-digest : goal.returns-else-has_given_all-clause-digest
returns-else-has_given_all-clause-digest g c = record {
  means = λ check start raw has. tt;
  logged = λ check log start raw has. tt;
  there = λ ended none. not_both _ (c.has_given_all.ensures.value ∙ all_supplied (λ t. g.F.Feed.remaining t.feed.feed) c.args.feed.now ended) c.if-has_given_all.false;
}
