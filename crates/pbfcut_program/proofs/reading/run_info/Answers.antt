use Rattle.std.proofs.Common.{◌≡◌, [], ◌∷◌, ◌++◌, List, None, OnOk, false, is_ok, true, refl, sym}
use Rattle.std.proofs.lemmas.Result.{err_from_is_err_and, on_ok_weaker}
use Rattle.pbf_published.specs.Showing.{TellsInfo}
use Rattle.pbfcut.specs.Summary.{judged_headings}
use Rattle.pbfcut_cli.specs.declared.programs.Program.TheVariants.{Pbfcutz}
use Rattle.pbfcut_program.specs.Events.{Event, Reading, Writing, opened, read, screened, wrote, then_all}
use Rattle.pbfcut_program.specs.Fails.{Each, FailsFor, judging}
use Rattle.pbfcut_program.specs.Manner.{manner}
use Rattle.pbfcut_program.specs.Telling.{Silent}
use Rattle.pbfcut_program.proofs.FailLemmas.{opening_after, opening_fails, text_err, text_ok}
use Rattle.pbfcut_program.proofs.Listings.{info_done, info_fails, listing_lost}
use Rattle.pbfcut_program.proofs.Logging.{and_then}
use Rattle.pbfcut_program.proofs.SayingLemmas.{silent_of}
use Rattle.pbfcut_program.proofs.SettlingLemmas.{calm_done, one_still, screen_still, still_then}
use Rattle.pbfcut_program.proofs.reading.run_info.Goals as goal

pub returns-in_err-pass-clause-err : goal.returns-in_err-pass-clause-err
returns-in_err-pass-clause-err g c =
    let p = err_from_is_err_and c.from_residual.result c.from_residual.ensures.1 in
    let f = c.in_err-pass.ensures.failed in
    rw (p.1, p.2) (f.0 ∷ [], f.1, opening_fails (manner Pbfcutz false c.args.engine.digests) (judging judged_headings (λ file. ⊥)) c.in_err-pass.field-0.0 (f.0 ∷ []) f.2, silent_of (f.0 ∷ []) f.2.0)

pub returns-in_err-out-clause-err : goal.returns-in_err-out-clause-err
returns-in_err-out-clause-err g c =
    let p = err_from_is_err_and c.from_residual-in_err-out.result c.from_residual-in_err-out.ensures.1 in
    let f = c.in_err-out.ensures.failed in
    let first : List Event = opened c.args.input.now.path.now 1 (g.H.In.Feed.remaining c.in_ok-pass.pass) ∷ [] in
    let how = c.in_err-out.field-0.0 in
    let fails = opening_after how first f.0 (tt, tt) f.2 in
    rw (p.1, p.2) (first ++ f.0, and_then (g.H.Host.log c.args.host.now) _ _ first f.0 c.in_ok-pass.ensures.opened f.1, opening_fails (manner Pbfcutz false c.args.engine.digests) (judging judged_headings (λ file. ⊥)) how (first ++ f.0) fails, silent_of (first ++ f.0) fails.0)

pub returns-clause-ok : goal.returns-clause-ok
returns-clause-ok g c =
    let log = g.H.Host.log in
    let input = c.args.input.now.path.now in
    let has = g.H.In.Feed.remaining c.in_ok-pass.pass in
    let first : List Event = opened input 1 has ∷ screened true ∷ [] in
    let begun = and_then (log c.args.host.now) _ _ (opened input 1 has ∷ []) (screened true ∷ []) c.in_ok-pass.ensures.opened c.in_ok-out.ensures.opened.0 in
    let e = c.ended.ensures in
    let done : OnOk c.ended.result ((r : Reading) × (w : Writing) × (log c.ended.new.host ≡ then_all (log c.open_screen.new.host) (read r ∷ wrote w ∷ [])) × (w.fault ≡ None) × TellsInfo c.args.json has w.bytes) =
    text_ok e.0 c.show_info-outcome.result c.ended.result _ e.2 (λ went. rw (sym went) (info_done g.H.In.Feed g.H.Out.Drain c.show_info-outcome.new.pass c.show_info-outcome.new.drain None (is_ok c.show_info-outcome.result) e.0 (log c.open_screen.new.host) (log c.close.new.self) (log c.ended.new.host) (c.close.ensures.some, c.close.ensures.logged) e.1 c.args.json has c.in_ok-out.out c.show_info-outcome.result c.in_ok-out.ensures.opened.1 c.show_info-outcome.ensures.shown)) in
    on_ok_weaker c.ended.result (λ d. (_, and_then (log c.args.host.now) _ _ first _ begun d.2, record { has = has; first = d.0; out = d.1; happened = refl; whole = d.3; lines = d.4 })) done

pub returns-clause-err : goal.returns-clause-err
returns-clause-err g c =
    let log = g.H.Host.log in
    let input = c.args.input.now.path.now in
    let has = g.H.In.Feed.remaining c.in_ok-pass.pass in
    let begun = and_then (log c.args.host.now) _ _ (opened input 1 has ∷ []) (screened true ∷ []) c.in_ok-pass.ensures.opened c.in_ok-out.ensures.opened.0 in
    let e = c.ended.ensures in
    text_err e.0 c.show_info-outcome.result c.ended.result (λ how. (events : List Event) × (log c.ended.new.host ≡ then_all (log c.args.host.now) events) × FailsFor c.args.input.now.path.now (manner Pbfcutz false c.args.engine.digests) (judging judged_headings (λ file. ⊥)) how events × Each Silent events) e.2
    (λ why gone. let f = listing_lost g.H.In.Feed g.H.Out.Drain c.show_info-outcome.new.pass c.show_info-outcome.new.drain None (is_ok c.show_info-outcome.result) e.0 (log c.open_screen.new.host) (log c.close.new.self) (log c.ended.new.host) (c.close.ensures.some, c.close.ensures.logged) e.1 (manner Pbfcutz false c.args.engine.digests) (judging judged_headings (λ file. ⊥)) (log c.args.host.now) input has begun why gone in (f.0, f.1, f.2, f.4))
    (info_fails g.H.In.Feed g.H.Out.Drain c.show_info-outcome.new.pass c.show_info-outcome.new.drain None (is_ok c.show_info-outcome.result) e.0 (log c.open_screen.new.host) (log c.close.new.self) (log c.ended.new.host) (c.close.ensures.some, c.close.ensures.logged) e.1 c.args.engine.digests c.in_ok-pass.pass c.in_ok-out.out c.show_info-outcome.result (log c.args.host.now) input c.in_ok-pass.ensures.fresh c.in_ok-out.ensures.opened.1 begun c.show_info-outcome.ensures.ends)

pub returns-in_err-pass-clause-files : goal.returns-in_err-pass-clause-files
returns-in_err-pass-clause-files g c =
    let f = c.in_err-pass.ensures.failed in
    calm_done _ _ (f.0 ∷ []) f.1 f.2.0

pub returns-in_err-out-clause-files : goal.returns-in_err-out-clause-files
returns-in_err-out-clause-files g c =
    let f = c.in_err-out.ensures.failed in
    still_then _ _ _ (one_still _ _ _ c.in_ok-pass.ensures.opened tt) (calm_done _ _ f.0 f.1 f.2.0)

pub returns-clause-files : goal.returns-clause-files
returns-clause-files g c =
    let opened = still_then _ _ _ (one_still _ _ _ c.in_ok-pass.ensures.opened tt) (one_still _ _ _ c.in_ok-out.ensures.opened.0 tt) in
    let closed = still_then _ _ _ opened (one_still _ _ _ c.close.ensures.some.1 tt) in
    still_then _ _ _ closed (screen_still g.H.Out.Drain c.show_info-outcome.new.drain _ _ _ _ c.ended.ensures.1)
