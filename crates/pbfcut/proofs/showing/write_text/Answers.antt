use Rattle.std.proofs.Common.{Some, rules, false}
use Rattle.std.proofs.lemmas.Result.{err_from_is_err_and}
use Rattle.pbf_frame.specs.Verdict.{judged_known}
use Rattle.pbf_pass.specs.Given.{Took}
use Rattle.pbf_pass.specs.Judged.{judged_file}
use Rattle.pbf_pass.proofs.GivenLemmas.{gave_file_less}
use Rattle.pbfcut.specs.Showing.{Shown}
use Rattle.pbfcut.proofs.ShowingLemmas.{shows_file, shows_counts, front_shown, stops_shown, stopped_counts, faulty_shown}
use Rattle.pbfcut.proofs.showing.write_text.Goals as goal

pub returns-in_err-pass_over : goal.returns-in_err-pass_over
returns-in_err-pass_over g c =
    let p = err_from_is_err_and c.from_residual.result c.from_residual.ensures.1 in
    let said = front_shown g.D.Drain (λ v. v.drain.now) (λ v. v.lines.now.dates) _ (λ old new f one. one) _ _ _ _ c.pass_over.new.visitor _ (λ mid f s failing. failing) c.in_err-pass_over.ensures.stops in
    let counts = stopped_counts g.D.Drain (λ v. v.drain.now) (λ v. v.lines.now.dates) _ (λ old new f one. one) _ _ _ _ c.pass_over.new.visitor _ (λ mid f s failing. failing) c.in_err-pass_over.ensures.stops in
    rw (p.1, p.2) (record {
      shown = tt;
      beginning = search (rules, said);
      stops =
          let said = stops_shown g.D.Drain (λ v. v.drain.now) (λ v. v.lines.now.dates) _ (λ old new f one. one) _ _ _ _ c.pass_over.new.visitor _ (λ mid f s failing. failing) c.in_err-pass_over.ensures.stops in
          search (rules, said);
      faulty = faulty_shown g.D.Drain (λ v. v.drain.now) (λ v. v.lines.now.dates) _ (λ old new f one. one) g.F.Feed _ _ _ _ c.pass_over.new.visitor _ (λ mid f s failing. failing) c.in_err-pass_over.ensures.given;
      keeps = search rules;
      out = search (rules, counts);
    })

pub returns : goal.returns
returns g c =
    let said = gave_file_less g.F.Feed _ _ _ _ (λ file. Took g.D.Drain c.args.drain.now c.pass_over.new.visitor.drain.now (Shown c.args.dates (judged_file (Some file))))
    (λ file p. shows_file g.D.Drain (λ v. v.drain.now) (λ v. v.lines.now.dates) _ (λ old new f one. one) (judged_known false 0 (Some file)) _ _ c.pass_over.new.visitor p.1) c.in_ok-pass_over.ensures.visited in
    let counts = shows_counts g.D.Drain (λ v. v.drain.now) (λ v. v.lines.now.dates) _ (λ old new f one. one) (judged_known false 0 (Some c.in_ok-pass_over.ensures.visited.file)) _ _ c.pass_over.new.visitor c.in_ok-pass_over.ensures.visited.holding.1 in
    record {
      shown = search (rules, said);
      beginning = tt;
      stops = tt;
      faulty = tt;
      keeps = search rules;
      out = search (rules, counts);
    }
