use Rattle.std.proofs.Common.{rules, ◌≡◌, [], refl}
use Rattle.std.proofs.lemmas.Result.{err_from_is_err_and}
use Rattle.pbf_pass.specs.Judged.{judged_file}
use Rattle.pbf_pass.specs.Refused.{stop_of}
use Rattle.pbfcut.specs.Calls.{FailedDrain, RefusedFirst, drained, fed, supply_of, taken_after, taken_before}
use Rattle.pbfcut.specs.Ends.{TookNothing}
use Rattle.pbfcut.specs.declared.repeat.LaterPass.{LaterPass}
use Rattle.pbfcut.proofs.ChangedLemmas.{never_changed, no_refusal}
use Rattle.pbfcut.proofs.LaterLemmas.{last_changed, last_stops}
use Rattle.pbfcut.proofs.copying.copy_with_receipt.Goals as goal

pub returns-in_err-judged-clause-ends : goal.returns-in_err-judged-clause-ends
returns-in_err-judged-clause-ends g c =
    let p = err_from_is_err_and c.from_residual.result c.from_residual.ensures.1 in
    rw (p.1, p.2) (record {
      refused = search rules;
      stops = search rules;
      changed = never_changed _ _ _ _ (stop_of c.in_err-judged.field-0.0) c.in_err-judged.ensures.ends.stops;
      feeds = search rules;
      out = search rules;
    })

pub returns-in_err-copy_again-clause-ends : goal.returns-in_err-copy_again-clause-ends
returns-in_err-copy_again-clause-ends g c =
    let p = err_from_is_err_and c.from_residual-in_err-copy_again.result c.from_residual-in_err-copy_again.ensures.1 in
    let one = c.in_ok-judged.ensures.judged in
    let first = fed g.F.Feed c.args.first.now c.judge.new.feed in
    let second = fed g.G.Feed c.args.second.now c.copy_again.new.feed in
    let out = drained g.D.Drain c.args.drain.now c.copy_again.new.drain in
    let last : LaterPass = record { number = 2; digest = c.in_ok-judged.judged.digest; passes = c.args.passes } in
    let stops = c.in_err-copy_again.ensures.stops in
    rw (p.1, p.2) (record {
      refused = no_refusal g.G.Feed last _ _ (FailedDrain out) _ stops;
      stops = last_stops first _ _ one one.holding.1.frames one.holding.1.says [] second last refl refl (taken_after out ≡ taken_before out) (RefusedFirst (judged_file (supply_of first)) (taken_before out) (taken_after out)) (FailedDrain out) _ stops;
      changed = last_changed first _ _ one one.holding.1.frames one.holding.1.says [] second last refl refl (TookNothing out) (FailedDrain out) _ stops;
      feeds = search rules;
      out = search rules;
    })

pub returns-in_err-copy_again-clause-beginning : goal.returns-in_err-copy_again-clause-beginning
returns-in_err-copy_again-clause-beginning g c =
    let p = err_from_is_err_and c.from_residual-in_err-copy_again.result c.from_residual-in_err-copy_again.ensures.1 in
    rw p.1 (λ b supply. c.copy_again.ensures.front b supply.1.0)
