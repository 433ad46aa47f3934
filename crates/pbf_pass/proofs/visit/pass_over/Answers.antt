use Rattle.std.proofs.Common.{arith}
use Rattle.std.proofs.Common.{zero, [], false, Some, rules, ◌∙◌}
use Rattle.pbf_frame.proofs.Refusing.{faulty_as}
use Rattle.pbf_frame.specs.declared.stop.Stop.TheVariants.{Refused}
use Rattle.pbf_frame.specs.Verdict.{judged_known}
use Rattle.pbf_pass.specs.Given.{judged_from}
use Rattle.pbf_pass.specs.Hashing.{below_log, hash_log}
use Rattle.pbf_pass.specs.Refused.{RefusesRest}
use Rattle.pbf_pass.specs.Visit.{VisitsAll, RefusesVisit}
use Rattle.pbf_pass.proofs.GivenLemmas.{below_from, below_to, digest_hashed, hashed_from, supplied_as, same_below, holds_of_file}
use Rattle.pbf_pass.proofs.HaltingLemmas.{halts_of, rest_as, rest_of, stop_halted, refuses_bytes_as}
use Rattle.pbf_pass.proofs.visit.pass_over.Goals as goal

pub returns-in-Ok-clause-visited : goal.returns-in-Ok-clause-visited
returns-in-Ok-clause-visited g c =
    let given = c.in-Ok.ensures.visited in
    let first = c.new-reader.result.feed in
    let last = c.visit_rest-outcome.new.reader.feed in
    let check = rw (← c.new-reader.ensures.feed) at c.new.ensures.check in
    let hasher = rw (← c.new-reader.ensures.feed) at c.new.ensures.hasher in
    let count = rw (← c.new-reader.ensures.feed) at c.new.ensures.count in
    record {
      file = given.bytes;
      supplied = supplied_as g.F.Feed c.new-reader.result.feed.feed.now c.args.feed.now c.visit_rest-outcome.new.reader.feed.feed.now _ given.bytes (search rules) (search rules) record {
        gave = record {
          told = given.supplied.gave.told;
          logged = λ log b passed. below_to (g.F.Feed.has_passed last.feed.now) last.hasher last.count log _ (given.supplied.gave.logged (below_log log) b (below_from (g.F.Feed.has_passed first.feed.now) first.hasher first.count log b passed));
        };
        end = given.supplied.end;
        lender = same_below _ _ _ _ given.supplied.lender;
      };
      digest_is = digest_hashed (g.F.Feed.has_passed last.feed.now) last.hasher last.count c.args.passes.check _ given.bytes c.digest-digest.ensures.digest (given.supplied.gave.logged (hash_log c.args.passes.check) [] (hashed_from (g.F.Feed.has_passed first.feed.now) first.hasher first.count _ check hasher));
      holding = (
        c.count-count.ensures ∙ given.supplied.gave.logged zero [] count,
        holds_of_file c.new-reader.result given.bytes (λ known. VisitsAll g.V.Visit.took known c.in-Ok.frames c.args.visitor.now c.visit_rest-outcome.new.visitor) c.new-reader.ensures.had_header c.new-reader.ensures.place given.holding,
      );
    }

pub returns-in-Err-clause-refused : goal.returns-in-Err-clause-refused
returns-in-Err-clause-refused g c =
    let first = c.new-reader.result.feed in
    let last = c.visit_rest-outcome.new.reader.feed in
    let check = rw (← c.new-reader.ensures.feed) at c.new.ensures.check in
    let hasher = rw (← c.new-reader.ensures.feed) at c.new.ensures.hasher in
    let count = rw (← c.new-reader.ensures.feed) at c.new.ensures.count in
    rw c.new-in-Err.ensures (halts_of c.new-reader.result.feed c.visit_rest-outcome.new.reader.feed (RefusesVisit g.V.Visit.took g.V.Visit.failed (judged_from c.new-reader.result) c.args.visitor.now c.visit_rest-outcome.new.visitor) _ c.count-count.result c.digest-digest.result c.in-Err.stop c.visit_rest-outcome.ensures.keeps c.in-Err.ensures.refused (λ e rest.
    refuses_bytes_as g.F.Feed c.new-reader.result.feed.feed.now c.visit_rest-outcome.new.reader.feed.feed.now c.args.passes.check _ _ (λ x. RefusesVisit g.V.Visit.took g.V.Visit.failed (λ b. judged_known false 0 (Some b)) c.args.visitor.now c.visit_rest-outcome.new.visitor (Refused x)) _ (search rules) (search rules) record {
      bytes = record {
        read = rest.read;
        told = rest.told;
        logged = λ log b passed. below_to (g.F.Feed.has_passed last.feed.now) last.hasher last.count log _ (rest.logged (below_log log) b (below_from (g.F.Feed.has_passed first.feed.now) first.hasher first.count log b passed));
        faulty = faulty_as _ _ rest.read _ (λ b fault. holds_of_file c.new-reader.result b (λ known. RefusesVisit g.V.Visit.took g.V.Visit.failed (λ bytes. known) c.args.visitor.now c.visit_rest-outcome.new.visitor (Refused e) b) c.new-reader.ensures.had_header c.new-reader.ensures.place fault) rest.faulty;
      };
      counted = c.count-count.ensures ∙ rest.logged zero [] count;
      digest_is = digest_hashed (g.F.Feed.has_passed last.feed.now) last.hasher last.count c.args.passes.check _ rest.read c.digest-digest.ensures.digest (rest.logged (hash_log c.args.passes.check) [] (hashed_from (g.F.Feed.has_passed first.feed.now) first.hasher first.count _ check hasher));
    }))

pub returns-in-Err-clause-given : goal.returns-in-Err-clause-given
returns-in-Err-clause-given g c =
    let first = c.new-reader.result.feed in
    let last = c.visit_rest-outcome.new.reader.feed in
    let stops = RefusesVisit g.V.Visit.took g.V.Visit.failed (λ b. judged_known false 0 (Some b)) c.args.visitor.now c.visit_rest-outcome.new.visitor in
    let rest : RefusesRest g.F.Feed first.feed.now last.feed.now stops c.in-Err.stop = rest_of g.F.Feed first last first.feed.now last.feed.now _ stops c.in-Err.stop c.visit_rest-outcome.ensures.keeps c.in-Err.ensures.refused (λ t rest. record {
      read = rest.read;
      told = rest.told;
      logged = λ log b passed. below_to (g.F.Feed.has_passed last.feed.now) last.hasher last.count log _ (rest.logged (below_log log) b (below_from (g.F.Feed.has_passed first.feed.now) first.hasher first.count log b passed));
      faulty = faulty_as _ _ rest.read _ (λ b fault. holds_of_file c.new-reader.result b (λ known. RefusesVisit g.V.Visit.took g.V.Visit.failed (λ bytes. known) c.args.visitor.now c.visit_rest-outcome.new.visitor t b) c.new-reader.ensures.had_header c.new-reader.ensures.place fault) rest.faulty;
    }) in
    rw (c.new-in-Err.ensures, stop_halted c.in-Err.stop c.count-count.result c.digest-digest.result) (rest_as g.F.Feed first.feed.now last.feed.now _ _ stops c.in-Err.stop (search rules) (search rules) rest)

pub returns-in-Err-clause-stops : goal.returns-in-Err-clause-stops
returns-in-Err-clause-stops g c = grind (arith, c.new-in-Err.ensures, stop_halted c.in-Err.stop c.count-count.result c.digest-digest.result)
