use Rattle.std.proofs.Common.{[], rules, sym}
use Rattle.pbf_pass.specs.Hashing.{below_log, hash_log}
use Rattle.pbf_pass.proofs.GivenLemmas.{below_from, hashed_from}
use Rattle.pbf_published.proofs.TracedLemmas.{traced_from}
use Rattle.pbf_published.proofs.input.open.Goals as goal

pub returns-clause-opened : goal.returns-clause-opened
returns-clause-opened g c =
    let fresh = c.new-2.result in
    let check = c.args.check in
    let hashed = hashed_from (g.F.Feed.has_passed fresh.feed) fresh.hasher fresh.count check c.new-2.ensures.check c.new-2.ensures.hasher in
    record {
      remaining = search rules;
      failures = search rules;
      hashed = c.new-3.ensures.supplied _ (rw (sym c.new-2.ensures.feed) (traced_from _ fresh (hash_log check) (hash_log check) hashed hashed));
      logged = λ log start. c.new-3.ensures.supplied _ (rw (sym c.new-2.ensures.feed) (traced_from _ fresh (hash_log check) (below_log log) hashed (below_from (g.F.Feed.has_passed fresh.feed) fresh.hasher fresh.count log [] (rw c.new-2.ensures.feed start))));
    }
