use Rattle.std.proofs.Common.{◌≡◌, Bool, false, true, ℕ, List, [], ◌∷◌, ◌++◌, map, refl, rules, subst}
use Rattle.std.specs.String.{string_bytes}
use Rattle.pbfcut_program.specs.declared.configured.OutputCut.{OutputCut}
use Rattle.pbfcut_program.specs.Events.{looked, then_all, then_one}
use Rattle.pbfcut_program.specs.SeveralFiles.{looks_each}
use Rattle.pbfcut_program.proofs.Logging.{then_none}
use Rattle.pbfcut_program.proofs.SeveralFileLemmas.{all_parts, found_one, looked_more, next_parts, step_parts}
use Rattle.pbfcut_program.proofs.several_files.refuse_existing_each.Goals as goal

abbrev path_of : OutputCut → List ℕ
path_of out = string_bytes out.output

pub outs-init : goal.outs-init
outs-init g c = record { done = []; parts = refl; is = then_none (g.H.Host.log c.args.host.now) }

pub outs-preserved : goal.outs-preserved
outs-preserved g c =
    let log = g.H.Host.log in
    let out = c.in-Some.out.now in
    let rest : c.outs.rest.now ≡ out ∷ c.in-Some.more.now = search rules in
    let u = c.outs.invariant in
    let none = subst (λ (b : Bool). log c.exists.new.self ≡ then_one (log c.outs.host) (looked c.as_str.result.now c.args.overwrite b)) c.if-exists.false c.exists.ensures in
    let here = subst (λ (p : List ℕ). log c.exists.new.self ≡ then_one (log c.outs.host) (looked p c.args.overwrite false)) c.as_str.ensures.value none in
    record {
      done = u.done ++ out ∷ [];
      parts = step_parts u.done c.args.outs.now c.outs.rest.now out c.in-Some.more.now rest u.parts;
      is = looked_more c.args.overwrite path_of u.done out (log c.args.host.now) (log c.outs.host) (log c.exists.new.self) u.is here;
    }

pub returns-then-exists-clause-err : goal.returns-then-exists-clause-err
returns-then-exists-clause-err g c =
    let log = g.H.Host.log in
    let out = c.in-Some.out.now in
    let rest : c.outs.rest.now ≡ out ∷ c.in-Some.more.now = search rules in
    let u = c.outs.invariant in
    let there = subst (λ (b : Bool). log c.exists.new.self ≡ then_one (log c.outs.host) (looked c.as_str.result.now c.args.overwrite b)) c.if-exists.true c.exists.ensures in
    let here = subst (λ (p : List ℕ). log c.exists.new.self ≡ then_one (log c.outs.host) (looked p c.args.overwrite true)) c.as_str.ensures.value there in
    found_one c.args.overwrite path_of c.args.outs.now u.done out c.in-Some.more.now (log c.args.host.now) (log c.outs.host) (log c.exists.new.self) (next_parts u.done c.args.outs.now c.outs.rest.now out c.in-Some.more.now rest u.parts) u.is here

pub returns-clause-ok : goal.returns-clause-ok
returns-clause-ok g c =
    let log = g.H.Host.log in
    let u = c.outs.invariant in
    subst (λ (outs : List OutputCut). log c.outs.host ≡ then_all (log c.args.host.now) (looks_each c.args.overwrite (map path_of outs))) (all_parts u.done c.args.outs.now c.outs.rest.now (search rules) u.parts) u.is
