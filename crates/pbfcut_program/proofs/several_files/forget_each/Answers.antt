use Rattle.std.proofs.Common.{◌≡◌, [], ◌∷◌, ◌++◌, refl, rules, subst}
use Rattle.pbfcut_program.specs.Files.{Drops}
use Rattle.pbfcut_program.specs.SeveralFiles.{DoesEach, DropsPart}
use Rattle.pbfcut_program.proofs.SeveralFileLemmas.{all_parts, does_more, does_none, step_parts}
use Rattle.pbfcut_program.proofs.several_files.forget_each.Goals as goal

pub parts-init : goal.parts-init
parts-init g c = record { done = []; parts = refl; is = does_none (DropsPart c.args.program) (g.H.Host.log c.args.host.now) }

pub parts-preserved : goal.parts-preserved
parts-preserved g c =
    let log = g.H.Host.log in
    let part = c.in-Some.part.now in
    let rest : c.parts.rest.now ≡ part ∷ c.in-Some.more.now = search rules in
    let u = c.parts.invariant in
    let gone = c.forget.ensures in
    let drops = subst (λ n. Drops c.args.program n gone.0) c.as_str.ensures.value gone.2 in
    record {
      done = u.done ++ part ∷ [];
      parts = step_parts u.done c.args.parts.now c.parts.rest.now part c.in-Some.more.now rest u.parts;
      is = does_more (DropsPart c.args.program) u.done part (log c.args.host.now) (log c.parts.host) (log c.forget.new.host) gone.0 u.is gone.1 drops;
    }

pub returns : goal.returns
returns g c =
    let log = g.H.Host.log in
    let u = c.parts.invariant in
    subst (λ ps. DoesEach (DropsPart c.args.program) ps (log c.args.host.now) (log c.parts.host)) (all_parts u.done c.args.parts.now c.parts.rest.now (search rules) u.parts) u.is
