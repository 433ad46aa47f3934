use Rattle.std.proofs.Common.{◌≡◌, ℕ, List, [], ◌∷◌, ◌++◌, Some, None, Err, ap, arith, length, length-append, refl, rules, subst}
use Rattle.std.specs.String.{string_bytes}
use Rattle.pbfcut_program.specs.declared.several_files.OutPart.{OutPart}
use Rattle.pbfcut_program.specs.Files.{EndsOut, IsKept}
use Rattle.pbfcut_program.specs.SeveralFiles.{DoesEach, KeepsPart}
use Rattle.pbfcut_program.proofs.SeveralFileLemmas.{all_parts, does_more, does_none, next_parts, step_parts}
use Rattle.pbfcut_program.proofs.several_files.name_each.Goals as goal

pub parts-init : goal.parts-init
parts-init g c = record { done = []; parts = refl; is = does_none (KeepsPart c.args.placing.program c.args.placing.overwrite) (g.H.Host.log c.args.host.now) }

pub parts-preserved : goal.parts-preserved
parts-preserved g c =
    let log = g.H.Host.log in
    let program = c.args.placing.program in
    let overwrite = c.args.placing.overwrite in
    let part = c.in-Some.part.now in
    let rest : c.parts.rest.now ≡ part ∷ c.in-Some.more.now = search rules in
    let u = c.parts.invariant in
    let n = c.in-Ok.ensures in
    let named = subst (λ (x : List ℕ). IsKept program overwrite c.as_str.result.now (Some x) n.0) c.as_str-in-Some.ensures.value n.2 in
    let kept = subst (λ (x : List ℕ). IsKept program overwrite x (Some (string_bytes part.name)) n.0) c.as_str.ensures.value named in
    record {
      done = u.done ++ part ∷ [];
      parts = step_parts u.done c.args.parts.now c.parts.rest.now part c.in-Some.more.now rest u.parts;
      is = does_more (KeepsPart program overwrite) u.done part (log c.args.host.now) (log c.parts.host) (log c.name_whole.new.host) n.0 u.is n.1 kept;
    }

pub overflow_sub-at : goal.overflow_sub-at
overflow_sub-at g c =
    let u = c.parts.invariant in
    omega (arith, ap length u.parts, length-append u.done c.parts.rest.now)

pub returns-in-Err : goal.returns-in-Err
returns-in-Err g c =
    let log = g.H.Host.log in
    let program = c.args.placing.program in
    let overwrite = c.args.placing.overwrite in
    let part = c.in-Some.part.now in
    let rest : c.parts.rest.now ≡ part ∷ c.in-Some.more.now = search rules in
    let u = c.parts.invariant in
    let e = c.in-Err.ensures in
    let named = subst (λ (x : List ℕ). EndsOut {A = Unit {0}} program overwrite c.as_str.result.now (Some x) None (Err c.in-Err.fault) e.0) c.as_str-in-Some.ensures.value e.2 in
    let ended = subst (λ (x : List ℕ). EndsOut {A = Unit {0}} program overwrite x (Some (string_bytes part.name)) None (Err c.in-Err.fault) e.0) c.as_str.ensures.value named in
    record {
      named = u.done;
      failed = part;
      later = c.in-Some.more.now;
      are = next_parts u.done c.args.parts.now c.parts.rest.now part c.in-Some.more.now rest u.parts;
      place = omega (arith, ap length u.parts, length-append u.done c.parts.rest.now);
      first = log c.parts.host;
      second = log c.name_whole.new.host;
      ends = e.0;
      keeps = u.is;
      log = e.1;
      ended = ended;
      drops = c.forget_each.ensures;
    }

pub returns : goal.returns
returns g c =
    let log = g.H.Host.log in
    let u = c.parts.invariant in
    subst (λ (ps : List OutPart). DoesEach (KeepsPart c.args.placing.program c.args.placing.overwrite) ps (log c.args.host.now) (log c.parts.host)) (all_parts u.done c.args.parts.now c.parts.rest.now (search rules) u.parts) u.is
