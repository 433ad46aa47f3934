use Rattle.std.proofs.Common.{[], ◌∷◌, ◌∙◌, ap, length, map, Some, string_bytes}
use Rattle.std.proofs.lemmas.Result.{err_from_is_err_and}
use Rattle.pbf_frame.specs.declared.stop.Stop.TheVariants as stop
use Rattle.pbfcut_cli.specs.declared.endings.Ending.TheVariants as ending
use Rattle.pbfcut_program.specs.Events.{openings, seeded}
use Rattle.pbfcut_program.specs.SeveralFiles.{looks_each}
use Rattle.pbfcut_program.proofs.Beginning.{calm_openings}
use Rattle.pbfcut_program.proofs.SeveralBeginning.{begun_until, begun_without_memory, each_begun}
use Rattle.pbfcut_program.proofs.SeveralFileLemmas.{calm_looks_each}
use Rattle.pbfcut_program.proofs.several_writing.open_each.Goals as goal

pub returns-in_err-feeds-clause-err : goal.returns-in_err-feeds-clause-err
returns-in_err-feeds-clause-err g c =
    let log = g.H.Host.log in
    let p = err_from_is_err_and c.from_residual-in_err-feeds.result c.from_residual-in_err-feeds.ensures.1 in
    let files = c.args.run.files in
    let outputs = map (λ out. string_bytes out.output) c.args.outs.now in
    let looks = looks_each files.overwrite outputs in
    rw (p.1, p.2) (begun_until _ looks (log c.args.host.now) (log c.refuse_existing_each.new.host) (log c.open_passes.new.host) (calm_looks_each files.overwrite outputs) c.in_ok-refuse_existing_each.ensures.ok c.in_err-feeds.ensures.failed)

pub returns-in_err-seed-clause-err : goal.returns-in_err-seed-clause-err
returns-in_err-seed-clause-err g c =
    let log = g.H.Host.log in
    let p = err_from_is_err_and c.from_residual-in_err-seed.result c.from_residual-in_err-seed.ensures.1 in
    let files = c.args.run.files in
    let outputs = map (λ out. string_bytes out.output) c.args.outs.now in
    let has = map g.H.In.Feed.remaining c.in_ok-feeds.feeds.items in
    let looks = looks_each files.overwrite outputs in
    let opens = openings files.input.now 1 has in
    let fails = begun_until _ opens (log c.refuse_existing_each.new.host) (log c.open_passes.new.host) (log c.draw_seed.new.host) (calm_openings files.input.now 1 has) c.in_ok-feeds.ensures.opened c.in_err-seed.ensures.err in
    rw (p.1, p.2) (begun_until _ looks (log c.args.host.now) (log c.refuse_existing_each.new.host) (log c.draw_seed.new.host) (calm_looks_each files.overwrite outputs) c.in_ok-refuse_existing_each.ensures.ok fails)

pub returns-in_err-inputs-clause-err : goal.returns-in_err-inputs-clause-err
returns-in_err-inputs-clause-err g c =
    let log = g.H.Host.log in
    let p = err_from_is_err_and c.from_residual-in_err-inputs.result c.from_residual-in_err-inputs.ensures.1 in
    let files = c.args.run.files in
    let outputs = map (λ out. string_bytes out.output) c.args.outs.now in
    let has = map g.H.In.Feed.remaining c.in_ok-feeds.feeds.items in
    let looks = looks_each files.overwrite outputs in
    let opens = openings files.input.now 1 has in
    let memory = ending.Stopped stop.Memory in
    let last = log c.draw_seed.new.host in
    let drawn = begun_until memory (seeded (Some c.in_ok-seed.seed.key) ∷ []) (log c.open_passes.new.host) last last (tt, tt) c.in_ok-seed.ensures.ok (begun_without_memory last) in
    let opened = begun_until memory opens (log c.refuse_existing_each.new.host) (log c.open_passes.new.host) last (calm_openings files.input.now 1 has) c.in_ok-feeds.ensures.opened drawn in
    rw (p.1, p.2) (begun_until memory looks (log c.args.host.now) (log c.refuse_existing_each.new.host) last (calm_looks_each files.overwrite outputs) c.in_ok-refuse_existing_each.ensures.ok opened)

pub returns-clause-ok : goal.returns-clause-ok
returns-clause-ok g c =
    let log = g.H.Host.log in
    let files = c.args.run.files in
    let outputs = map (λ out. string_bytes out.output) c.args.outs.now in
    let has = map g.H.In.Feed.remaining c.in_ok-feeds.feeds.items in
    rw c.in_ok-inputs.ensures.feeds (each_begun files outputs has c.in_ok-seed.seed.key (log c.args.host.now) (log c.refuse_existing_each.new.host) (log c.open_passes.new.host) (log c.draw_seed.new.host) c.in_ok-refuse_existing_each.ensures.ok c.in_ok-feeds.ensures.opened c.in_ok-seed.ensures.ok)

pub returns-clause-count : goal.returns-clause-count
returns-clause-count g c = ap (λ fs. length fs) c.in_ok-inputs.ensures.feeds ∙ (c.in_ok-feeds.ensures.count ∙ c.passes.ensures)
