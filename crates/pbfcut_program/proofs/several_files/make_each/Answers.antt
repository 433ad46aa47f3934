use Rattle.std.proofs.Common.{◌≡◌, ◌∙◌, List, [], ◌∷◌, ◌++◌, ap, arith, length, length-append, refl, rules, subst}
use Rattle.pbfcut.proofs.SeveralLemmas.{zip_length}
use Rattle.pbfcut_program.specs.declared.configured.OutputCut.{OutputCut}
use Rattle.pbfcut_program.specs.declared.several_files.OutPart.{OutPart}
use Rattle.pbfcut_program.specs.SeveralFiles.{DropsEach, IsBegun, IsPartOf, MakesEach}
use Rattle.pbfcut_program.proofs.SeveralFileLemmas.{all_parts, made_more, made_until, next_parts, none_made, step_parts}
use Rattle.pbfcut_program.proofs.several_files.make_each.Goals as goal

pub outs-init : goal.outs-init
outs-init g c = record {
  made = record { done = []; parts = refl; is = none_made g.H.Out.Drain c.args.placing.program c.args.made.parts.items c.args.made.outputs.items (g.H.Host.log c.args.host.now) c.requires.parts.0 c.requires.outputs.0 };
  outputs_room = c.requires.outputs.1;
  parts_room = c.requires.parts.1;
}

pub with_file-longer-requires-clause-outputs : goal.with_file-longer-requires-clause-outputs
with_file-longer-requires-clause-outputs g c =
    let out = c.in-Some.out.now in
    let rest : c.outs.rest.now ≡ out ∷ c.in-Some.more.now = search rules in
    let u = c.outs.invariant.made in
    omega (arith, c.outs.invariant.outputs_room, zip_length (IsBegun g.H.Out.Drain) _ _ u.is.begun, ap length (next_parts u.done c.args.outs.now c.outs.rest.now out c.in-Some.more.now rest u.parts), length-append u.done (out ∷ c.in-Some.more.now))

pub with_file-longer-requires-clause-parts : goal.with_file-longer-requires-clause-parts
with_file-longer-requires-clause-parts g c =
    let out = c.in-Some.out.now in
    let rest : c.outs.rest.now ≡ out ∷ c.in-Some.more.now = search rules in
    let u = c.outs.invariant.made in
    omega (arith, c.outs.invariant.parts_room, zip_length IsPartOf _ _ u.is.paths, ap length (next_parts u.done c.args.outs.now c.outs.rest.now out c.in-Some.more.now rest u.parts), length-append u.done (out ∷ c.in-Some.more.now))

pub outs-preserved : goal.outs-preserved
outs-preserved g c =
    let log = g.H.Host.log in
    let out = c.in-Some.out.now in
    let rest : c.outs.rest.now ≡ out ∷ c.in-Some.more.now = search rules in
    let u = c.outs.invariant.made in
    let e = c.in-Ok.ensures.ok in
    let has = c.with_file-longer.ensures in
    record {
      made = record {
        done = u.done ++ out ∷ [];
        parts = step_parts u.done c.args.outs.now c.outs.rest.now out c.in-Some.more.now rest u.parts;
        is = made_more g.H.Out.Drain c.args.placing.program u.done out c.outs.made c.with_file-longer.result c.in-Ok.file (log c.args.host.now) (log c.outs.host) (log c.make_out_file.new.host) e.0 u.is e.1 e.2 (e.3 ∙ c.as_str.ensures.value) e.4 has;
      };
      outputs_room = omega (arith, c.outs.invariant.outputs_room, has.room.0);
      parts_room = omega (arith, c.outs.invariant.parts_room, has.room.1);
    }

pub drop_outs-requires : goal.drop_outs-requires
drop_outs-requires g c =
    let u = c.outs.invariant.made in
    omega (arith, zip_length (IsBegun g.H.Out.Drain) _ _ u.is.begun, zip_length IsPartOf _ _ u.is.paths, ap length c.as_slice.ensures.value)

pub returns-in-Err-clause-err : goal.returns-in-Err-clause-err
returns-in-Err-clause-err g c =
    let log = g.H.Host.log in
    let program = c.args.placing.program in
    let out = c.in-Some.out.now in
    let rest : c.outs.rest.now ≡ out ∷ c.in-Some.more.now = search rules in
    let u = c.outs.invariant.made in
    let e = c.in-Err.ensures.err in
    let outputs = c.outs.made.outputs.items in
    let drops = subst (λ (ps : List OutPart). DropsEach g.H.Out.Drain program ps outputs (log c.make_out_file.new.host) (log c.drop_outs.new.host)) c.as_slice.ensures.value c.drop_outs.ensures in
    made_until g.H.Out.Drain program c.args.outs.now u.done out c.in-Some.more.now c.outs.made.parts.items outputs c.in-Err.how e.0 (log c.args.host.now) (log c.outs.host) (log c.make_out_file.new.host) (log c.drop_outs.new.host)
    (next_parts u.done c.args.outs.now c.outs.rest.now out c.in-Some.more.now rest u.parts) u.is e.1 e.2 drops

pub returns-clause-ok : goal.returns-clause-ok
returns-clause-ok g c =
    let log = g.H.Host.log in
    let u = c.outs.invariant.made in
    subst (λ (outs : List OutputCut). MakesEach g.H.Out.Drain c.args.placing.program outs c.outs.made.parts.items c.outs.made.outputs.items (log c.args.host.now) (log c.outs.host)) (all_parts u.done c.args.outs.now c.outs.rest.now (search rules) u.parts) u.is
