use Rattle.std.proofs.Common.{rules, ◌≡◌, List, [], ℕ, Some, ap, sym, refl}
use Rattle.std.proofs.lemmas.Result.{err_from_is_err_and}
use Rattle.pbf_header.specs.Header.{header_of}
use Rattle.pbfcut.specs.Calls.{FailedDrain, RefusedFirst, drained, fed, supply_of, taken_after, taken_before}
use Rattle.pbfcut.specs.Ends.{TookNothing}
use Rattle.pbf_pass.specs.HeaderLimit.{header_limit, held_header, judged_writable}
use Rattle.pbf_pass.specs.Judged.{judged_file}
use Rattle.pbf_pass.specs.Pass.{as_it_was}
use Rattle.pbf_pass.specs.Stops.{Only, unchanged}
use Rattle.pbfcut.proofs.ConvertingLemmas.{nothing_out, passed, passed_sound, converted, converts_front}
use Rattle.pbf_pass.proofs.LimitLemmas.{limit_refused}
use Rattle.pbfcut.proofs.LaterLemmas.{last_changed, last_stops, stops_earlier}
use Rattle.pbf_pass.proofs.GivenLemmas.{tells_file, told_holds, takes_told}
use Rattle.pbf_pass.proofs.HaltingLemmas.{halts_first, halts_writing, limit_caused, limit_halts}
use Rattle.pbfcut.specs.declared.repeat.LaterPass.{LaterPass}
use Rattle.pbf_pass.specs.Refused.{stop_of}
use Rattle.pbfcut.proofs.ChangedLemmas.{no_refusal, never_changed}
use Rattle.pbfcut.proofs.converting.convert_with_receipt.Goals as goal

pub returns-in_err-judged-clause-ends : goal.returns-in_err-judged-clause-ends
returns-in_err-judged-clause-ends g c =
    let p = err_from_is_err_and c.from_residual.result c.from_residual.ensures.1 in
    rw (p.1, p.2) (record {
      refused = halts_first g.F.Feed _ _ _ g.D.Drain _ _ _ (halts_writing g.F.Feed _ _ _ _ c.in_err-judged.ensures.ends.refused);
      stops = search rules;
      changed = never_changed _ _ _ _ (stop_of c.in_err-judged.field-0.0) c.in_err-judged.ensures.ends.stops;
      feeds = search rules;
      out = search rules;
    })

pub returns-in_err-writable_header-clause-ends : goal.returns-in_err-writable_header-clause-ends
returns-in_err-writable_header-clause-ends g c =
    let p = err_from_is_err_and c.from_residual-in_err-writable_header.result c.from_residual-in_err-writable_header.ensures.1 in
    let one = c.in_ok-judged.ensures.judged in
    let first = g.F.Feed.remaining c.args.first.now in
    let old = g.D.Drain.taken c.args.drain.now in
    rw (p.1, p.2) (record {
      refused = halts_first g.F.Feed _ _ _ g.D.Drain _ _ _ (limit_halts g.F.Feed _ _ _ as_it_was _ _ c.in_ok-judged.judged _ c.in_ok-judged.ensures.judged c.in_err-writable_header.ensures.refused);
      stops = stops_earlier (Only (header_limit (held_header c.in_ok-judged.judged.pass))) (RefusedFirst (judged_writable first) old old) ⊥ _ _ unchanged _ _
          (λ e limit. (limit_refused as_it_was _ _ _ _ e (takes_told as_it_was first one.file _ _ _ (tells_file g.F.Feed _ _ _ _ one) one.holding.1) limit, refl)) (λ r. absurd r) (λ pass h. absurd h) (limit_caused c.in_ok-judged.judged _ c.in_err-writable_header.ensures.refused);
      changed = never_changed (Only (header_limit (held_header c.in_ok-judged.judged.pass))) ⊥ ⊥ _ _ (limit_caused c.in_ok-judged.judged _ c.in_err-writable_header.ensures.refused);
      feeds = search rules;
      out = search rules;
    })

pub returns-in_err-counts-clause-ends : goal.returns-in_err-counts-clause-ends
returns-in_err-counts-clause-ends g c =
    let p = err_from_is_err_and c.from_residual-in_err-counts.result c.from_residual-in_err-counts.ensures.1 in
    let one = c.in_ok-judged.ensures.judged in
    let first = fed g.F.Feed c.args.first.now c.judge.new.feed in
    let second = fed g.G.Feed c.args.second.now c.write.new.feed in
    let out = drained g.D.Drain c.args.drain.now c.write.new.drain in
    let last : LaterPass = record { number = 2; digest = c.in_ok-judged.judged.digest; passes = c.args.passes } in
    let stops = c.in_err-counts.ensures.stops in
    rw (p.1, p.2) (record {
      refused = no_refusal g.G.Feed last _ _ (FailedDrain out) _ stops;
      stops = last_stops first _ _ one one.holding.1.frames one.holding.1.says [] second last refl refl (taken_after out ≡ taken_before out) (RefusedFirst (judged_writable (supply_of first)) (taken_before out) (taken_after out)) (FailedDrain out) _ stops;
      changed = last_changed first _ _ one one.holding.1.frames one.holding.1.says [] second last refl refl (TookNothing out) (FailedDrain out) _ stops;
      feeds = search rules;
      out = search rules;
    })

pub returns-in_err-writable_header-clause-beginning : goal.returns-in_err-writable_header-clause-beginning
returns-in_err-writable_header-clause-beginning g c =
    let p = err_from_is_err_and c.from_residual-in_err-writable_header.result c.from_residual-in_err-writable_header.ensures.1 in
    rw p.1 (λ b supply. nothing_out _ _)

pub returns-in_err-counts-clause-beginning : goal.returns-in_err-counts-clause-beginning
returns-in_err-counts-clause-beginning g c =
    let p = err_from_is_err_and c.from_residual-in_err-counts.result c.from_residual-in_err-counts.ensures.1 in
    let pass = c.in_ok-judged.judged.pass in
    let header = c.in_ok-writable_header in
    let h = header_of header.field-0.now in
    rw p.1 (λ b supply.
    converts_front b pass h _ _ _ (ap judged_file supply.1.0) (passed as_it_was _ _ b pass h _ refl ((told_holds g.F.Feed _ _ _ _ b c.in_ok-judged.ensures.judged supply.0).1) header.ensures.header header.ensures.within) c.in_err-counts.ensures.beginning)

pub returns-clause-receipt : goal.returns-clause-receipt
returns-clause-receipt g c =
    let pass = c.in_ok-judged.judged.pass in
    let header = c.in_ok-writable_header in
    let h = header_of header.field-0.now in
    let one = c.in_ok-judged.ensures.judged in
    let two = c.in_ok-counts.ensures.packed in
    let took = two.holding in
    let p = passed as_it_was _ _ one.file pass h _ refl one.holding.1 header.ensures.header header.ensures.within in
    record {
      file = one.file;
      supplied = one.supplied;
      digest_is = one.digest_is;
      holding = (
        passed_sound one.file pass h p,
        record {
          file = two.file;
          supplied = two.supplied;
          digest_is = two.digest_is;
          holding = record {
            written = took.written;
            added = took.added;
            holding = λ same. converted one.file pass h c.in_ok-counts.counts _ took.written (ap (λ (l : List ℕ). judged_file (Some l)) (sym same)) p took.holding;
          };
        },
      );
    }
