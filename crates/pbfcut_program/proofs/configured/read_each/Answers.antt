use Rattle.std.proofs.Common.{◌≡◌, ◌∷◌, [], ◌++◌, rules}
use Rattle.std.proofs.lemmas.Result.{err_from_is_err_and}
use Rattle.pbfcut_program.proofs.ConfiguredLemmas.{read_all, read_failed, read_more, read_none, read_stopped}
use Rattle.pbfcut_program.proofs.configured.read_each.Goals as goal

pub extracts-init : goal.extracts-init
extracts-init g c = rw c.new-outs.ensures.items (read_none (g.H.Host.log c.args.host.now) c.args.extracts.now)

pub extracts-preserved : goal.extracts-preserved
extracts-preserved g c =
    let rest : c.extracts.rest.now ≡ c.in-Some.first.now ∷ c.in-Some.more.now = search rules in
    let pushed : c.push.new.self.items ≡ c.extracts.outs.items ++ c.in_ok-out.out ∷ [] = search rules in
    rw pushed (read_more _ _ _ c.extracts.rest.now c.extracts.outs.items c.extracts.invariant _ c.in-Some.first.now c.in-Some.more.now c.in_ok-out.out
    c.in_ok-out.ensures.ok.0 rest c.in_ok-out.ensures.ok.1 c.in_ok-out.ensures.ok.2)

pub returns-in_err-out-clause-err : goal.returns-in_err-out-clause-err
returns-in_err-out-clause-err g c =
    let p = err_from_is_err_and c.from_residual.result c.from_residual.ensures.1 in
    let f = c.in_err-out.ensures.err in
    rw (p.1, p.2) (read_failed _ _ _ c.extracts.rest.now c.extracts.outs.items c.extracts.invariant _ _ f.0 f.1 f.2)

pub returns-then-is_err-clause-err : goal.returns-then-is_err-clause-err
returns-then-is_err-clause-err g c =
    let o = c.in_ok-out.ensures.ok in
    read_stopped _ _ _ c.extracts.rest.now c.extracts.outs.items c.extracts.invariant _ _ _ o.0 o.1 o.2

pub returns-clause-ok : goal.returns-clause-ok
returns-clause-ok g c = read_all _ _ c.args.extracts.now c.extracts.rest.now c.extracts.outs.items c.extracts.invariant (search rules)
