use Rattle.std.proofs.Common.{Some, ◌≤◌, ◌^◌, ◌-◌, refl, rules, false}
use Rattle.std.proofs.lemmas.Result.{err_from_is_err_and}
use Rattle.pbf_frame.specs.Verdict.{judged_known}
use Rattle.pbf_pass.proofs.GivenLemmas.{gave_file_less}
use Rattle.pbfcut.specs.Summary.{IsSummary}
use Rattle.pbfcut.proofs.SummaryLemmas.{summed, stops_summing}
use Rattle.pbfcut.proofs.summary.read_summary.Goals as goal

pub returns-clause-gave : goal.returns-clause-gave
returns-clause-gave g c =
    let few : c.in_ok-pass_over.field-0.frames ≤ 2 ^ 64 - 1 = search rules in
    let said = gave_file_less g.F.Feed _ _ _ _ (λ file. IsSummary (judged_known false 0 (Some file)) c.pass_over.new.visitor)
    (λ file p. summed (judged_known false 0 (Some file)) c.in_ok-pass_over.field-0.frames _ c.pass_over.new.visitor few (search rules) (search rules) refl refl refl p.1) c.in_ok-pass_over.ensures.visited in
    search (rules, said)

pub returns-in_err-pass_over-clause-stops : goal.returns-in_err-pass_over-clause-stops
returns-in_err-pass_over-clause-stops g c =
    let p = err_from_is_err_and c.from_residual.result c.from_residual.ensures.1 in
    rw (p.1, p.2) (stops_summing _ _ _ _ c.pass_over.new.visitor _ (λ mid f s failing. failing) c.in_err-pass_over.ensures.stops)
