use Rattle.std.proofs.Common.{◌≡◌, ◌∙◌, ap, length, rules, subst, sym}
use Rattle.std.proofs.lemmas.Result.{err_from_is_err_and}
use Rattle.pbfcut.specs.EachReceipts.{each_strategy}
use Rattle.pbfcut.proofs.SeveralLemmas.{zip_length}
use Rattle.pbfcut_program.specs.Inputs.{feeds_in}
use Rattle.pbfcut_program.specs.Manner.{check_in, manner_of}
use Rattle.pbfcut_program.specs.SeveralFiles.{DropsEach}
use Rattle.pbfcut_program.specs.SeveralOuts.{AnyFailedInto}
use Rattle.pbfcut_program.proofs.SayingLemmas.{refusal_still, silent_little}
use Rattle.pbfcut_program.proofs.SeveralEnding.{drops_return, halted_each, keep_lost, kept_at, kept_each, kept_return, lost_return, unkept_at}
use Rattle.pbfcut_program.proofs.several_writing.run_ready_each.Goals as goal

pub drop_outs-requires : goal.drop_outs-requires
drop_outs-requires g c =
    let same : c.as_slice.result.now ≡ c.args.ready.made.parts.items = search rules in
    ap (λ ps. length ps) same ∙ c.requires.parts ∙ sym (zip_length _ c.args.ready.made.outputs.items c.run_each_into-outputs.result.0.items c.run_each_into-outputs.ensures)

pub returns-in_err-outs-in-Ok-clause-err : goal.returns-in_err-outs-in-Ok-clause-err
returns-in_err-outs-in-Ok-clause-err g c =
    let p = err_from_is_err_and c.from_residual.result c.from_residual.ensures.1 in
    let engine = c.args.engine in
    let s = each_strategy c.args.run.strategy in
    let olds = feeds_in c.args.ready.inputs in
    let befores = c.args.ready.made.outputs.items in
    let ran = c.run_each_into-outputs in
    let afters = ran.result.0.items in
    let parts = c.args.ready.made.parts.items in
    let how = c.in_err-outs-in-Ok.field-0.0 in
    let first = g.H.Host.log c.args.host.now in
    let second = g.H.Host.log c.close_inputs.new.host in
    let after = g.H.Host.log c.keep_done.new.host in
    let at = c.placing-placing.ensures in
    let unkept = unkept_at g.H.Out.Drain parts afters c.placing-placing.result.program engine.program at.0 c.placing-placing.result.overwrite c.args.run.files.overwrite at.1 how second after c.in_err-outs-in-Ok.ensures in
    let lost = keep_lost (manner_of engine) (check_in engine c.args.ready.seed.key) s g.H.In.Feed g.H.Out.Drain olds (feeds_in ran.new.inputs) c.in-Ok.input (AnyFailedInto (manner_of engine) s g.H.In.Feed g.H.Out.Drain olds befores afters)
    parts befores afters first second c.requires.parts c.requires.feeds c.close_inputs.ensures (rw c.in-Ok.is at ran.ensures) c.args.run.files.overwrite how after unkept in
    rw (p.1, p.2) (lost.0, lost.1, lost.2, lost.3, silent_little engine.digests lost.0 lost.4)

pub returns-in_err-outs-in-Ok-clause-files : goal.returns-in_err-outs-in-Ok-clause-files
returns-in_err-outs-in-Ok-clause-files g c =
    let engine = c.args.engine in
    let ran = c.run_each_into-outputs in
    let afters = ran.result.0.items in
    let parts = c.args.ready.made.parts.items in
    let how = c.in_err-outs-in-Ok.field-0.0 in
    let first = g.H.Host.log c.args.host.now in
    let second = g.H.Host.log c.close_inputs.new.host in
    let after = g.H.Host.log c.keep_done.new.host in
    let at = c.placing-placing.ensures in
    let same = c.requires.parts ∙ sym (zip_length _ c.args.ready.made.outputs.items afters ran.ensures) in
    let unkept = unkept_at g.H.Out.Drain parts afters c.placing-placing.result.program engine.program at.0 c.placing-placing.result.overwrite c.args.run.files.overwrite at.1 how second after c.in_err-outs-in-Ok.ensures in
    lost_return g.H.In.Feed g.H.Out.Drain (feeds_in ran.new.inputs) engine.program c.args.run.files.overwrite parts afters first second same c.close_inputs.ensures how after unkept

pub returns-in_ok-outs-in-Ok-clause-ok : goal.returns-in_ok-outs-in-Ok-clause-ok
returns-in_ok-outs-in-Ok-clause-ok g c =
    let engine = c.args.engine in
    let s = each_strategy c.args.run.strategy in
    let olds = feeds_in c.args.ready.inputs in
    let befores = c.args.ready.made.outputs.items in
    let ran = c.run_each_into-outputs in
    let afters = ran.result.0.items in
    let parts = c.args.ready.made.parts.items in
    let first = g.H.Host.log c.args.host.now in
    let second = g.H.Host.log c.close_inputs.new.host in
    let after = g.H.Host.log c.keep_done.new.host in
    let at = c.placing-placing.ensures in
    let kept = c.in_ok-outs-in-Ok.ensures in
    let keeps = kept_at parts c.placing-placing.result.program engine.program at.0 c.placing-placing.result.overwrite c.args.run.files.overwrite at.1 kept.1 after kept.3 in
    kept_each (manner_of engine) (check_in engine c.args.ready.seed.key) s g.H.In.Feed g.H.Out.Drain olds (feeds_in ran.new.inputs) c.in-Ok.input (AnyFailedInto (manner_of engine) s g.H.In.Feed g.H.Out.Drain olds befores afters)
    parts befores afters first second c.requires.parts c.requires.feeds c.close_inputs.ensures (rw c.in-Ok.is at ran.ensures) c.args.run.files.overwrite c.in_ok-outs-in-Ok.outs.items kept.1 after kept.0 kept.2 keeps

pub returns-in_ok-outs-in-Ok-clause-files : goal.returns-in_ok-outs-in-Ok-clause-files
returns-in_ok-outs-in-Ok-clause-files g c =
    let engine = c.args.engine in
    let ran = c.run_each_into-outputs in
    let afters = ran.result.0.items in
    let parts = c.args.ready.made.parts.items in
    let first = g.H.Host.log c.args.host.now in
    let second = g.H.Host.log c.close_inputs.new.host in
    let after = g.H.Host.log c.keep_done.new.host in
    let at = c.placing-placing.ensures in
    let kept = c.in_ok-outs-in-Ok.ensures in
    let same = c.requires.parts ∙ sym (zip_length _ c.args.ready.made.outputs.items afters ran.ensures) in
    let keeps = kept_at parts c.placing-placing.result.program engine.program at.0 c.placing-placing.result.overwrite c.args.run.files.overwrite at.1 kept.1 after kept.3 in
    kept_return g.H.In.Feed g.H.Out.Drain (feeds_in ran.new.inputs) engine.program c.args.run.files.overwrite parts afters first second same c.close_inputs.ensures kept.1 after kept.2 keeps

pub returns-in-Err-clause-err : goal.returns-in-Err-clause-err
returns-in-Err-clause-err g c =
    let sliced : c.as_slice.result.now ≡ c.args.ready.made.parts.items = search rules in
    let engine = c.args.engine in
    let log = g.H.Host.log in
    let ran = c.run_each_into-outputs in
    let befores = c.args.ready.made.outputs.items in
    let afters = ran.result.0.items in
    let same = c.requires.parts ∙ sym (zip_length _ befores afters ran.ensures) in
    let drops = subst (λ ps. DropsEach g.H.Out.Drain engine.program ps afters (log c.close_inputs.new.host) (log c.drop_outs.new.host)) sliced c.drop_outs.ensures in
    halted_each engine.program engine.packs engine.digests (check_in engine c.args.ready.seed.key) (each_strategy c.args.run.strategy) g.H.In.Feed g.H.Out.Drain (feeds_in c.args.ready.inputs) (feeds_in ran.new.inputs) c.requires.feeds
    c.in-Err.halted c.tell_refusal.result c.args.ready.made.parts.items befores afters (log c.args.host.now) (log c.close_inputs.new.host) (log c.drop_outs.new.host) (log c.tell_refusal.new.host) same c.requires.some (rw c.in-Err.is at ran.ensures) c.close_inputs.ensures drops c.tell_refusal.ensures

pub returns-in-Err-clause-files : goal.returns-in-Err-clause-files
returns-in-Err-clause-files g c =
    let sliced : c.as_slice.result.now ≡ c.args.ready.made.parts.items = search rules in
    let engine = c.args.engine in
    let log = g.H.Host.log in
    let ran = c.run_each_into-outputs in
    let afters = ran.result.0.items in
    let same = c.requires.parts ∙ sym (zip_length _ c.args.ready.made.outputs.items afters ran.ensures) in
    let t = c.tell_refusal.ensures in
    let drops = subst (λ ps. DropsEach g.H.Out.Drain engine.program ps afters (log c.close_inputs.new.host) (log c.drop_outs.new.host)) sliced c.drop_outs.ensures in
    drops_return g.H.In.Feed g.H.Out.Drain (feeds_in ran.new.inputs) engine.program c.args.run.files.overwrite c.args.ready.made.parts.items afters (log c.args.host.now) (log c.close_inputs.new.host) same c.close_inputs.ensures t.events (log c.drop_outs.new.host) (log c.tell_refusal.new.host) drops t.log (refusal_still engine.digests t.events t.tells)
