use Rattle.std.proofs.Common.{[], ◌∷◌, ◌++◌, ◌∙◌, ap, Bool, length, List, map, refl, Some, string_bytes, subst}
use Rattle.std.proofs.lemmas.Result.{err_from_is_err_and}
use Rattle.pbfcut_program.specs.Events.{Event, seeded, openings}
use Rattle.pbfcut_program.specs.Program.{looks}
use Rattle.std.specs.Option.{option_map}
use Rattle.pbfcut_program.proofs.Beginning.{Prepares, calm_looks, calm_openings}
use Rattle.pbfcut_program.proofs.OutLemmas.{made_at}
use Rattle.pbfcut_program.proofs.EventLemmas.{each_both}
use Rattle.pbfcut_program.proofs.FailLemmas.{opening_after}
use Rattle.pbfcut_program.proofs.Logging.{and_then}
use Rattle.pbfcut_program.proofs.writing.prepare.Goals as goal

pub returns-in_err-feeds-clause-err : goal.returns-in_err-feeds-clause-err
returns-in_err-feeds-clause-err g c =
    let p = err_from_is_err_and c.from_residual-in_err-feeds.result c.from_residual-in_err-feeds.ensures.1 in
    let f = c.in_err-feeds.ensures.failed in
    let first = looks c.is_screen-to_screen.result c.args.files.now in
    rw (p.1, p.2) (_, and_then (g.H.Host.log c.args.host.now) _ _ first f.0 c.in_ok-refuse_existing.ensures.ok f.1, opening_after _ first f.0 (calm_looks c.is_screen-to_screen.result c.args.files.now) f.2)

pub returns-in_err-seed-clause-err : goal.returns-in_err-seed-clause-err
returns-in_err-seed-clause-err g c =
    let log = g.H.Host.log c.args.host.now in
    let p = err_from_is_err_and c.from_residual-in_err-seed.result c.from_residual-in_err-seed.ensures.1 in
    let f = c.in_err-seed.ensures.err in
    let files = c.args.files.now in
    let input = c.args.files.now.input.now in
    let has = map g.H.In.Feed.remaining c.in_ok-feeds.feeds.items in
    let first = looks c.is_screen-to_screen.result files in
    let next = openings input 1 has in
    let before = and_then log _ _ first next c.in_ok-refuse_existing.ensures.ok c.in_ok-feeds.ensures.opened in
    rw (p.1, p.2) (_, and_then log _ _ (first ++ next) f.0 before f.1, opening_after _ (first ++ next) f.0 (each_both _ first next (calm_looks c.is_screen-to_screen.result files) (calm_openings input 1 has)) f.2)

pub returns-in_err-inputs-clause-err : goal.returns-in_err-inputs-clause-err
returns-in_err-inputs-clause-err g c =
    let log = g.H.Host.log c.args.host.now in
    let p = err_from_is_err_and c.from_residual-in_err-inputs.result c.from_residual-in_err-inputs.ensures.1 in
    let files = c.args.files.now in
    let input = c.args.files.now.input.now in
    let has = map g.H.In.Feed.remaining c.in_ok-feeds.feeds.items in
    let first = looks c.is_screen-to_screen.result files in
    let next = openings input 1 has in
    let seed : List Event = seeded (Some c.in_ok-seed.seed.key) ∷ [] in
    let before = and_then log _ _ first next c.in_ok-refuse_existing.ensures.ok c.in_ok-feeds.ensures.opened in
    let calm = each_both _ (first ++ next) seed (each_both _ first next (calm_looks c.is_screen-to_screen.result files) (calm_openings input 1 has)) (tt, tt) in
    rw (p.1, p.2) (_, and_then log _ _ (first ++ next) seed before c.in_ok-seed.ensures.ok, (calm, tt))

pub returns-in_err-out-clause-err : goal.returns-in_err-out-clause-err
returns-in_err-out-clause-err g c =
    let log = g.H.Host.log c.args.host.now in
    let p = err_from_is_err_and c.from_residual-in_err-out.result c.from_residual-in_err-out.ensures.1 in
    let f = c.in_err-out.ensures.err in
    let files = c.args.files.now in
    let input = c.args.files.now.input.now in
    let has = map g.H.In.Feed.remaining c.in_ok-feeds.feeds.items in
    let first = looks c.is_screen-to_screen.result files in
    let next = openings input 1 has in
    let seed : List Event = seeded (Some c.in_ok-seed.seed.key) ∷ [] in
    let before = and_then log _ _ first next c.in_ok-refuse_existing.ensures.ok c.in_ok-feeds.ensures.opened in
    let drawn = and_then log _ _ (first ++ next) seed before c.in_ok-seed.ensures.ok in
    rw (p.1, p.2) (_, and_then log _ _ ((first ++ next) ++ seed) f.0 drawn f.1, opening_after _ ((first ++ next) ++ seed) f.0 (each_both _ (first ++ next) seed (each_both _ first next (calm_looks c.is_screen-to_screen.result files) (calm_openings input 1 has)) (tt, tt)) f.2)

pub returns-clause-ok : goal.returns-clause-ok
returns-clause-ok g c =
    let log = g.H.Host.log c.args.host.now in
    let files = c.args.files.now in
    let input = files.input.now in
    let is = c.is_screen-to_screen.result in
    let made = c.in_ok-out.ensures.ok in
    let has = map g.H.In.Feed.remaining c.in_ok-feeds.feeds.items in
    let key = c.in_ok-seed.seed.key in
    let last = and_then _ _ _ (seeded (Some key) ∷ []) made.0 c.in_ok-seed.ensures.ok made.1 in
    let before = and_then log _ _ (looks is files) (openings input 1 has) c.in_ok-refuse_existing.ensures.ok c.in_ok-feeds.ensures.opened in
    let all = and_then log _ _ (looks is files ++ openings input 1 has) (seeded (Some key) ∷ made.0) before last in
    let at = c.place_of.ensures in
    rw c.in_ok-inputs.ensures.feeds (subst (λ (b : Bool). Prepares g.H.Host.log c.args.host.now c.make_out.new.host c.args.engine.program b files has key (option_map string_bytes c.in_ok-out.out.name)) c.is_screen-to_screen.ensures
    (made.0, all, made_at is _ c.args.engine.program at.0 _ files.output.now (ap (λ b. b.now) at.1) _ made.0 made.2))

pub returns-clause-planned : goal.returns-clause-planned
returns-clause-planned g c = (refl, ap (λ fs. length fs) c.in_ok-inputs.ensures.feeds ∙ c.in_ok-feeds.ensures.count)

pub returns-clause-ready : goal.returns-clause-ready
returns-clause-ready g c = record { count = ap (λ fs. length fs) c.in_ok-inputs.ensures.feeds ∙ c.in_ok-feeds.ensures.count; ready = c.in_ok-inputs.ensures.ready }
