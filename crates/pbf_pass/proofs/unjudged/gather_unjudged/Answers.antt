use Rattle.std.proofs.Common.{Some, rules, false}
use Rattle.std.proofs.lemmas.Result.{err_from_is_err_and}
use Rattle.pbf_frame.specs.Verdict.{judged_known}
use Rattle.pbf_pass.specs.Unjudged.{GathersFile, GathersSome}
use Rattle.pbf_pass.specs.Judged.{judged_file}
use Rattle.pbf_pass.proofs.UnjudgedLemmas.{gathers_file, some_visited, stops_visited, faulty_visited}
use Rattle.pbf_pass.proofs.GivenLemmas.{gave_file_less}
use Rattle.pbf_pass.proofs.unjudged.gather_unjudged.Goals as goal

pub returns-in_err-pass_over-clause-stops : goal.returns-in_err-pass_over-clause-stops
returns-in_err-pass_over-clause-stops g c =
    let p = err_from_is_err_and c.from_residual.result c.from_residual.ensures.1 in
    rw (p.1, p.2) (stops_visited (λ v. v.number) _ (λ old new f one. one.1) _ _ _ ⊥ _ c.pass_over.new.visitor _ (λ fs mid f s visited failing. failing) c.in_err-pass_over.ensures.stops)

pub returns-clause-gathered : goal.returns-clause-gathered
returns-clause-gathered g c =
    let said = gave_file_less g.F.Feed _ _ _ _ (λ file. GathersFile g.G.Gather.gathered (judged_file (Some file)) c.args.gathering.now c.pass_over.new.visitor.gathering.now)
    (λ file p. gathers_file g.G.Gather.gathered (λ v. v.gathering.now) _ (λ old new f one. one.0) (judged_known false 0 (Some file)) _ _ c.pass_over.new.visitor p.1) c.in_ok-pass_over.ensures.visited in
    search (rules, said)

pub returns-clause-some : goal.returns-clause-some
returns-clause-some g c =
    let visits = c.in_ok-pass_over.ensures.visited.holding.1 in
    let said : GathersSome g.G.Gather.gathered c.args.gathering.now c.pass_over.new.visitor.gathering.now = some_visited g.G.Gather.gathered (λ v. v.gathering.now) _ (λ old new f one. one.2) visits.frames _ _ visits.visited in
    search (rules, said)

pub returns-in_err-pass_over-clause-faulty : goal.returns-in_err-pass_over-clause-faulty
returns-in_err-pass_over-clause-faulty g c =
    let p = err_from_is_err_and c.from_residual.result c.from_residual.ensures.1 in
    rw (p.1, p.2) (faulty_visited (λ v. v.number) _ (λ old new f one. one.1) g.F.Feed _ _ _ ⊥ _ c.pass_over.new.visitor _ (λ fs mid f s visited failing. failing) c.in_err-pass_over.ensures.given)
