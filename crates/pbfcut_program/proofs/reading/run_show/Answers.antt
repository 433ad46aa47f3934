use Rattle.std.proofs.Common.{◌≡◌, ◌∙◌, [], ◌∷◌, ◌++◌, List, OnOk, length, map, None, Option, true, is_ok, ap, subst, sym}
use Rattle.std.proofs.lemmas.Result.{err_from_is_err_and, IfErr-weaker, on_ok_weaker}
use Rattle.pbf_frame.specs.declared.stop.Stop.TheVariants as stop
use Rattle.pbf_pass.specs.Stops.{WriteFailed}
use Rattle.pbfcut_cli.specs.declared.endings.Ending.TheVariants as ending
use Rattle.pbfcut_program.specs.declared.engine.Report.{Report}
use Rattle.pbfcut_program.specs.declared.host.FinishFault.{FinishFault}
use Rattle.pbfcut_program.specs.Devices.{AreFresh}
use Rattle.pbfcut_program.specs.Events.{Reading, Writing, read, screened, wrote, then_all, openings}
use Rattle.pbfcut_program.specs.Fails.{Calm, Each, FailsOpening, Opens, Quiet, judging_for}
use Rattle.pbfcut_program.specs.Inputs.{feeds_in}
use Rattle.pbfcut_program.specs.Manner.{check_in, manner_of, to_raw}
use Rattle.pbfcut_program.specs.Readings.{IsWork}
use Rattle.pbfcut.specs.Tasks.{showing}
use Rattle.pbfcut_program.specs.Telling.{Silent}
use Rattle.pbfcut_program.specs.Program.{draws}
use Rattle.pbfcut_program.proofs.Beginning.{calm_draws, calm_openings, length_has, opens_openings, shown_events}
use Rattle.pbfcut_program.proofs.Closing.{if_done, text_fails}
use Rattle.pbfcut_program.proofs.EventLemmas.{each_both, quiet_of}
use Rattle.pbfcut_program.proofs.FailLemmas.{opened_fails, opening_after, opening_fails, opens_before, text_ok}
use Rattle.pbfcut_program.proofs.LeavingLemmas.{leaves_after, opening_leaves}
use Rattle.pbfcut_program.proofs.Logging.{and_then}
use Rattle.pbfcut_program.proofs.SayingLemmas.{silent_of}
use Rattle.pbfcut_program.proofs.SettlingLemmas.{calm_done, closed_still, one_still, screen_still, still_then}
use Rattle.pbfcut_program.proofs.reading.run_show.Goals as goal

pub returns-in_err-feeds-clause-err : goal.returns-in_err-feeds-clause-err
returns-in_err-feeds-clause-err g c =
    let p = err_from_is_err_and c.from_residual.result c.from_residual.ensures.1 in
    let f = c.in_err-feeds.ensures.failed in
    let m = to_raw (manner_of c.args.engine) in
    let how = c.in_err-feeds.field-0.0 in
    rw (p.1, p.2) (f.0, f.1, opening_fails m (judging_for (showing c.args.dates)) how f.0 f.2, opening_leaves m (showing c.args.dates) how f.0 f.2, silent_of f.0 f.2.0)

pub returns-in_err-key-clause-err : goal.returns-in_err-key-clause-err
returns-in_err-key-clause-err g c =
    let p = err_from_is_err_and c.from_residual-in_err-key.result c.from_residual-in_err-key.ensures.1 in
    let f = c.in_err-key.ensures.err in
    let input = c.args.input.now.path.now in
    let hs = map g.H.In.Feed.remaining c.in_ok-feeds.feeds.items in
    let first = openings input 1 hs in
    let how = c.in_err-key.field-0.0 in
    let m = to_raw (manner_of c.args.engine) in
    let fails = opening_after how first f.0 (calm_openings input 1 hs) f.2 in
    rw (p.1, p.2) (first ++ f.0, and_then (g.H.Host.log c.args.host.now) _ _ first f.0 c.in_ok-feeds.ensures.opened f.1, opening_fails m (judging_for (showing c.args.dates)) how (first ++ f.0) fails, opening_leaves m (showing c.args.dates) how (first ++ f.0) fails, silent_of (first ++ f.0) fails.0)

pub returns-in_err-inputs-clause-err : goal.returns-in_err-inputs-clause-err
returns-in_err-inputs-clause-err g c =
    let p = err_from_is_err_and c.from_residual-in_err-inputs.result c.from_residual-in_err-inputs.ensures.1 in
    let input = c.args.input.now.path.now in
    let hs = map g.H.In.Feed.remaining c.in_ok-feeds.feeds.items in
    let first = openings input 1 hs in
    let how = ending.Stopped stop.Memory in
    let m = to_raw (manner_of c.args.engine) in
    let drawn = draws c.args.engine.program c.in_ok-key.key in
    let before = and_then (g.H.Host.log c.args.host.now) _ _ first drawn c.in_ok-feeds.ensures.opened c.in_ok-key.ensures.ok in
    let begun = first ++ drawn in
    let fails : FailsOpening how begun = (each_both Calm first drawn (calm_openings input 1 hs) (calm_draws c.args.engine.program c.in_ok-key.key), tt) in
    rw (p.1, p.2) (begun, before, opening_fails m (judging_for (showing c.args.dates)) how begun fails, opening_leaves m (showing c.args.dates) how begun fails, silent_of begun fails.0)

pub returns-in_err-out-clause-err : goal.returns-in_err-out-clause-err
returns-in_err-out-clause-err g c =
    let p = err_from_is_err_and c.from_residual-in_err-out.result c.from_residual-in_err-out.ensures.1 in
    let f = c.in_err-out.ensures.failed in
    let input = c.args.input.now.path.now in
    let hs = map g.H.In.Feed.remaining c.in_ok-feeds.feeds.items in
    let first = openings input 1 hs in
    let how = c.in_err-out.field-0.0 in
    let m = to_raw (manner_of c.args.engine) in
    let drawn = draws c.args.engine.program c.in_ok-key.key in
    let before = and_then (g.H.Host.log c.args.host.now) _ _ first drawn c.in_ok-feeds.ensures.opened c.in_ok-key.ensures.ok in
    let begun = first ++ drawn in
    let fails = opening_after how begun f.0 (each_both Calm first drawn (calm_openings input 1 hs) (calm_draws c.args.engine.program c.in_ok-key.key)) f.2 in
    rw (p.1, p.2) (begun ++ f.0, and_then (g.H.Host.log c.args.host.now) _ _ begun f.0 before f.1, opening_fails m (judging_for (showing c.args.dates)) how (begun ++ f.0) fails, opening_leaves m (showing c.args.dates) how (begun ++ f.0) fails, silent_of (begun ++ f.0) fails.0)

pub returns-clause-ok : goal.returns-clause-ok
returns-clause-ok g c =
    let log = g.H.Host.log in
    let input = c.args.input.now.path.now in
    let olds = feeds_in c.in_ok-inputs.inputs in
    let news = feeds_in c.run_task-outcome.new.inputs in
    let same = sym c.in_ok-inputs.ensures.feeds in
    let fresh = subst (AreFresh g.H.In.Feed) same c.in_ok-feeds.ensures.fresh in
    let hs = map g.H.In.Feed.remaining olds in
    let old = c.in_ok-out.out in
    let out = c.run_task-outcome.new.drain in
    let drawn = draws c.args.engine.program c.in_ok-key.key in
    let last = drawn ++ screened true ∷ [] in
    let first = openings input 1 hs ++ last in
    let opened = subst (λ fs. log c.open_passes.new.host ≡ then_all (log c.args.host.now) (openings input 1 (map g.H.In.Feed.remaining fs))) same c.in_ok-feeds.ensures.opened in
    let begun = and_then (log c.args.host.now) _ _ (openings input 1 hs) last opened (and_then _ _ _ drawn (screened true ∷ []) c.in_ok-key.ensures.ok c.in_ok-out.ensures.opened.0) in
    let e = c.ended.ensures in
    let m = to_raw (manner_of c.args.engine) in
    let by = check_in c.args.engine c.in_ok-key.key in
    let done : OnOk c.ended.result ((report : Report) × (rs : List Reading) × (w : Writing) × (log c.ended.new.host ≡ then_all (log c.open_screen.new.host) (map (λ r. read r) rs ++ wrote w ∷ []))
    × (w.fault ≡ None) × IsWork m by (showing c.args.dates) hs rs w.bytes report.counts report.input report.raw) = text_ok e.0 c.run_task-outcome.result c.ended.result _ e.2 (λ went. subst (λ (fault : Option FinishFault). OnOk c.run_task-outcome.result ((report : Report) × (rs : List Reading) × (w : Writing) × (log c.ended.new.host ≡ then_all (log c.open_screen.new.host) (map (λ r. read r) rs ++ wrote w ∷ []))
    × (w.fault ≡ fault) × IsWork m by (showing c.args.dates) hs rs w.bytes report.counts report.input report.raw)) went (if_done g.H.In.Feed g.H.Out.Drain out None (is_ok c.run_task-outcome.result) e.0 m by (showing c.args.dates) (g.H.Out.Drain.has_taken out 0) (WriteFailed g.H.Out.Drain old out)
    (log c.open_screen.new.host) (log c.close_inputs.new.host) (log c.ended.new.host) olds news c.run_task-outcome.result fresh c.close_inputs.ensures e.1 (λ w t. t) (c.run_task-outcome.ensures.works fresh 0 c.in_ok-out.ensures.opened.1.0))) in
    on_ok_weaker c.ended.result (λ d. (
      _,
      and_then (log c.args.host.now) _ _ first _ begun d.3,
      record {
        has = hs;
        key = c.in_ok-key.key;
        rs = d.1;
        out = d.2;
        counts = d.0.counts;
        digest = d.0.input;
        raw = d.0.raw;
        happened = shown_events (openings input 1 hs) drawn (map (λ r. read r) d.1) (wrote d.2 ∷ []) (screened true);
        passes = length_has g.H.In.Feed.remaining olds ∙ ap (λ fs. length fs) c.in_ok-inputs.ensures.feeds ∙ c.in_ok-feeds.ensures.count ∙ c.requires;
        whole = d.4;
        work = d.5;
      },
    )) done

pub returns-clause-err : goal.returns-clause-err
returns-clause-err g c =
    let log = g.H.Host.log in
    let input = c.args.input.now.path.now in
    let olds = feeds_in c.in_ok-inputs.inputs in
    let news = feeds_in c.run_task-outcome.new.inputs in
    let same = sym c.in_ok-inputs.ensures.feeds in
    let feeds = subst (AreFresh g.H.In.Feed) same c.in_ok-feeds.ensures.fresh in
    let hs = map g.H.In.Feed.remaining olds in
    let drawn = draws c.args.engine.program c.in_ok-key.key in
    let last = drawn ++ screened true ∷ [] in
    let opening = openings input 1 hs in
    let first = opening ++ last in
    let opened = subst (λ fs. log c.open_passes.new.host ≡ then_all (log c.args.host.now) (openings input 1 (map g.H.In.Feed.remaining fs))) same c.in_ok-feeds.ensures.opened in
    let begun = and_then (log c.args.host.now) _ _ opening last opened (and_then _ _ _ drawn (screened true ∷ []) c.in_ok-key.ensures.ok c.in_ok-out.ensures.opened.0) in
    let e = c.ended.ensures in
    let fresh = c.in_ok-out.ensures.opened.1 in
    let m = to_raw (manner_of c.args.engine) in
    let calm = calm_openings input 1 hs in
    let quiet : Each Quiet first = each_both Quiet opening last (quiet_of opening calm) (each_both Quiet drawn (screened true ∷ []) (quiet_of drawn (calm_draws c.args.engine.program c.in_ok-key.key)) (tt, tt)) in
    let silent : Each Silent first = each_both Silent opening last (silent_of opening calm) (each_both Silent drawn (screened true ∷ []) (silent_of drawn (calm_draws c.args.engine.program c.in_ok-key.key)) (tt, tt)) in
    let opens : Opens input 1 hs first = opens_before input 1 hs opening last (opens_openings input 1 hs) in
    IfErr-weaker c.ended.result _ _ (λ how f. (
      _,
      and_then (log c.args.host.now) _ _ first f.0 begun f.1,
      opened_fails m (judging_for (showing c.args.dates)) hs how first f.0 quiet opens f.2,
      record { has = hs; opens = opens_before input 1 hs first f.0 opens; leaves = leaves_after m (showing c.args.dates) hs first f.0 quiet f.3 },
      each_both Silent first f.0 silent f.4,
    ))
    (text_fails c.args.engine.program c.args.engine.digests (check_in c.args.engine c.in_ok-key.key) g.H.In.Feed g.H.Out.Drain (showing c.args.dates) c.in_ok-out.out c.run_task-outcome.new.drain None e.0 (log c.open_screen.new.host) (log c.close_inputs.new.host) (log c.ended.new.host) olds news c.run_task-outcome.result c.ended.result
    fresh feeds c.close_inputs.ensures e.1 (c.run_task-outcome.ensures.works feeds 0 fresh.0) c.run_task-outcome.ensures.front e.2)

pub returns-in_err-feeds-clause-files : goal.returns-in_err-feeds-clause-files
returns-in_err-feeds-clause-files g c =
    let f = c.in_err-feeds.ensures.failed in
    calm_done _ _ f.0 f.1 f.2.0

pub returns-in_err-key-clause-files : goal.returns-in_err-key-clause-files
returns-in_err-key-clause-files g c =
    let f = c.in_err-key.ensures.err in
    still_then _ _ _ (calm_done _ _ _ c.in_ok-feeds.ensures.opened (calm_openings c.args.input.now.path.now 1 _)) (calm_done _ _ f.0 f.1 f.2.0)

pub returns-in_err-inputs-clause-files : goal.returns-in_err-inputs-clause-files
returns-in_err-inputs-clause-files g c =
    let program = c.args.engine.program in
    let key = c.in_ok-key.key in
    still_then _ _ _ (calm_done _ _ _ c.in_ok-feeds.ensures.opened (calm_openings c.args.input.now.path.now 1 _)) (calm_done _ _ (draws program key) c.in_ok-key.ensures.ok (calm_draws program key))

pub returns-in_err-out-clause-files : goal.returns-in_err-out-clause-files
returns-in_err-out-clause-files g c =
    let f = c.in_err-out.ensures.failed in
    let program = c.args.engine.program in
    let key = c.in_ok-key.key in
    let opened = still_then _ _ _ (calm_done _ _ _ c.in_ok-feeds.ensures.opened (calm_openings c.args.input.now.path.now 1 _)) (calm_done _ _ (draws program key) c.in_ok-key.ensures.ok (calm_draws program key)) in
    still_then _ _ _ opened (calm_done _ _ f.0 f.1 f.2.0)

pub returns-clause-files : goal.returns-clause-files
returns-clause-files g c =
    let program = c.args.engine.program in
    let key = c.in_ok-key.key in
    let opened = still_then _ _ _ (calm_done _ _ _ c.in_ok-feeds.ensures.opened (calm_openings c.args.input.now.path.now 1 _)) (calm_done _ _ (draws program key) c.in_ok-key.ensures.ok (calm_draws program key)) in
    let begun = still_then _ _ _ opened (one_still _ _ _ c.in_ok-out.ensures.opened.0 tt) in
    let closed = still_then _ _ _ begun (closed_still g.H.In.Feed (feeds_in c.run_task-outcome.new.inputs) _ _ c.close_inputs.ensures) in
    still_then _ _ _ closed (screen_still g.H.Out.Drain c.run_task-outcome.new.drain _ _ _ _ c.ended.ensures.1)
