use Rattle.std.proofs.Common.{rules, List, [], ℕ, Option, refl, sym, subst}
use Rattle.std.proofs.lemmas.Result.{err_from_is_err_and}
use Rattle.pbf_pass.specs.Judged.{judged_file}
use Rattle.pbfcut.specs.Calls.{drained, fed}
use Rattle.pbfcut.specs.Ends.{TookNothing}
use Rattle.pbfcut.specs.Showing.{ShowsFront}
use Rattle.pbf_pass.proofs.GivenLemmas.{tells_file}
use Rattle.pbfcut.proofs.ShowingLemmas.{shown_front, shown_told}
use Rattle.pbfcut.specs.declared.repeat.LaterPass.{LaterPass}
use Rattle.pbf_pass.specs.Refused.{stop_of}
use Rattle.pbfcut.specs.Repeat.{as_change}
use Rattle.pbfcut.proofs.ChangedLemmas.{never_changed, digest_as_change, fault_as_change}
use Rattle.pbfcut.proofs.LaterLemmas.{last_changed}
use Rattle.pbfcut.proofs.showing.show_with_receipt.Goals as goal

pub returns-in_err-judged-clause-ends : goal.returns-in_err-judged-clause-ends
returns-in_err-judged-clause-ends g c =
    let p = err_from_is_err_and c.from_residual.result c.from_residual.ensures.1 in
    rw (p.1, p.2) (record {
      refused = search rules;
      stops = search rules;
      changed = never_changed _ _ _ _ (stop_of c.in_err-judged.field-0.0) c.in_err-judged.ensures.ends.stops;
      feeds = search rules;
      out = search rules;
    })

pub returns-in_err-compare-in-Ok-clause-ends : goal.returns-in_err-compare-in-Ok-clause-ends
returns-in_err-compare-in-Ok-clause-ends g c =
    let p = err_from_is_err_and c.from_residual-in_err-compare-in-Ok.result c.from_residual-in_err-compare-in-Ok.ensures.1 in
    let one = c.in_ok-judged.ensures.judged in
    let last : LaterPass = record { number = 2; digest = c.in_ok-judged.judged.digest; passes = c.args.passes } in
    let stops = digest_as_change g.G.Feed last c.args.second.now c.write_text.new.feed ⊥ c.in-Ok.digest _ _ c.in-Ok.ensures.shown c.in_err-compare-in-Ok.ensures.other in
    rw (p.1, p.2) (record {
      refused = search rules;
      stops = search rules;
      changed = last_changed (fed g.F.Feed c.args.first.now c.judge.new.feed) _ _ one one.holding.1.frames one.holding.1.says [] (fed g.G.Feed c.args.second.now c.write_text.new.feed) last refl refl (TookNothing (drained g.D.Drain c.args.drain.now c.write_text.new.drain)) ⊥ _ stops;
      feeds = search rules;
      out = search rules;
    })

pub returns-clause-ends : goal.returns-clause-ends
returns-clause-ends g c =
    let one = c.in_ok-judged.ensures.judged in
    let last : LaterPass = record { number = 2; digest = c.in_ok-judged.judged.digest; passes = c.args.passes } in
    let stops = fault_as_change g.G.Feed last c.args.second.now c.write_text.new.feed _ _ c.in-Err.stop c.in-Err.ensures.stops c.in-Err.ensures.faulty in
    record {
      refused = search rules;
      stops = search rules;
      changed = rw (c.from.ensures, c.changed.ensures) (last_changed (fed g.F.Feed c.args.first.now c.judge.new.feed) _ _ one one.holding.1.frames one.holding.1.says [] (fed g.G.Feed c.args.second.now c.write_text.new.feed) last refl refl (TookNothing (drained g.D.Drain c.args.drain.now c.write_text.new.drain)) _ (as_change 2 c.in-Err.stop) stops);
      feeds = search rules;
      out = search rules;
    }

pub returns-in_err-compare-in-Ok-clause-beginning : goal.returns-in_err-compare-in-Ok-clause-beginning
returns-in_err-compare-in-Ok-clause-beginning g c =
    let p = err_from_is_err_and c.from_residual-in_err-compare-in-Ok.result c.from_residual-in_err-compare-in-Ok.ensures.1 in
    let given = c.in-Ok.ensures.shown in
    let took = given.holding in
    rw p.1 (λ alike. subst (λ (o : Option (List ℕ)). ShowsFront c.args.dates (judged_file o) (g.D.Drain.taken c.args.drain.now) (g.D.Drain.taken c.write_text.new.drain)) (sym alike)
    (shown_front c.args.dates _ _ _ took.written (shown_told c.args.dates _ given.file took.written (tells_file g.G.Feed _ _ _ _ given) took.holding) took.added.told))
