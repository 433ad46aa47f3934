use Rattle.std.proofs.Common.{Some, rules, false}
use Rattle.std.proofs.lemmas.Result.{err_from_is_err_and}
use Rattle.pbf_frame.specs.declared.stop.Stop.TheVariants.{Refused}
use Rattle.pbf_frame.specs.Verdict.{judged_known}
use Rattle.pbf_pass.specs.Hashing.{IsLength}
use Rattle.pbf_pass.specs.Judged.{judged_file}
use Rattle.pbf_pass.specs.Pass.{TakesFile}
use Rattle.pbf_pass.proofs.GivenLemmas.{gave_file_less}
use Rattle.pbf_pass.proofs.HaltingLemmas.{halts_file}
use Rattle.pbf_pass.proofs.JudgingLemmas.{takes_file, stops_judging}
use Rattle.pbf_pass.proofs.pass.judge.Goals as goal

pub returns-in_err-count-clause-ends : goal.returns-in_err-count-clause-ends
returns-in_err-count-clause-ends g c =
    let p = err_from_is_err_and c.from_residual.result c.from_residual.ensures.1 in
    rw (p.1, p.2) (record {
      refused = halts_file g.F.Feed _ _ _ _ (λ b. judged_file (Some b)) _ (λ e b stops. stops_judging _ (λ old new f one. one.sound) _ (judged_known false 0 (Some b)) ⊥ ⊥ _ c.pass_over.new.visitor (Refused e) (λ fs mid f s visited failing. failing) stops) c.in_err-count.ensures.refused;
      stops = stops_judging _ (λ old new f one. one.sound) _ _ _ ⊥ _ c.pass_over.new.visitor _ (λ fs mid f s visited failing. failing) c.in_err-count.ensures.stops;
      keeps = search rules;
    })

pub returns-clause-judged : goal.returns-clause-judged
returns-clause-judged g c =
    let said = gave_file_less g.F.Feed _ _ _ _ (λ file. IsLength c.in_ok-count.field-0.count file × TakesFile g.G.Gather.gathered (judged_file (Some file)) c.args.gathering.now c.pass_over.new.visitor.gathering.now c.pass_over.new.visitor.pass.now)
    (λ file p. (p.0, takes_file g.G.Gather.gathered (λ v. v.pass.now) (λ v. v.gathering.now) _ (λ old new f one. one) (judged_known false 0 (Some file)) _ _ c.pass_over.new.visitor c.new-pass.ensures p.1)) c.in_ok-count.ensures.visited in
    search (rules, said)
