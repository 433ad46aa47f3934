use Rattle.std.proofs.Common.{◌≡◌, [], ◌∷◌, ◌++◌, List, None, OnOk, is_ok, true, refl, sym}
use Rattle.std.proofs.lemmas.Result.{IfErr-weaker, err_from_is_err_and, on_ok_weaker}
use Rattle.pbfcut_program.specs.Events.{Event, Reading, Writing, opened, read, screened, wrote, then_all}
use Rattle.pbfcut_program.specs.Fails.{Each, FailsFor, listing}
use Rattle.pbfcut_program.specs.Manner.{manner_of, to_raw}
use Rattle.pbfcut_program.specs.Leaving.{LeavesFor}
use Rattle.pbfcut_program.specs.Program.{IsListing}
use Rattle.pbfcut.specs.Tasks.{listing_frames}
use Rattle.pbfcut_program.specs.Telling.{Silent}
use Rattle.pbfcut_program.proofs.FailLemmas.{opening_after, opening_fails, text_err, text_ok}
use Rattle.pbfcut_program.proofs.LeavingLemmas.{opening_leaves}
use Rattle.pbfcut_program.proofs.Listings.{list_done, list_fails, list_front, listing_lost}
use Rattle.pbfcut_program.proofs.Logging.{and_then}
use Rattle.pbfcut_program.proofs.SayingLemmas.{silent_of}
use Rattle.pbfcut_program.proofs.SettlingLemmas.{calm_done, one_still, screen_still, still_then}
use Rattle.pbfcut_program.proofs.reading.run_blobs.Goals as goal

pub returns-in_err-pass-clause-err : goal.returns-in_err-pass-clause-err
returns-in_err-pass-clause-err g c =
    let p = err_from_is_err_and c.from_residual.result c.from_residual.ensures.1 in
    let f = c.in_err-pass.ensures.failed in
    rw (p.1, p.2) (f.0 ∷ [], f.1, opening_fails (manner_of c.args.engine) listing c.in_err-pass.field-0.0 (f.0 ∷ []) f.2, opening_leaves (to_raw (manner_of c.args.engine)) listing_frames c.in_err-pass.field-0.0 (f.0 ∷ []) f.2, silent_of (f.0 ∷ []) f.2.0)

pub returns-in_err-out-clause-err : goal.returns-in_err-out-clause-err
returns-in_err-out-clause-err g c =
    let p = err_from_is_err_and c.from_residual-in_err-out.result c.from_residual-in_err-out.ensures.1 in
    let f = c.in_err-out.ensures.failed in
    let first : List Event = opened c.args.input.now.path.now 1 (g.H.In.Feed.remaining c.in_ok-pass.pass) ∷ [] in
    let how = c.in_err-out.field-0.0 in
    let fails = opening_after how first f.0 (tt, tt) f.2 in
    let m = manner_of c.args.engine in
    rw (p.1, p.2) (first ++ f.0, and_then (g.H.Host.log c.args.host.now) _ _ first f.0 c.in_ok-pass.ensures.opened f.1, opening_fails m listing how (first ++ f.0) fails, opening_leaves (to_raw m) listing_frames how (first ++ f.0) fails, silent_of (first ++ f.0) fails.0)

pub returns-clause-ok : goal.returns-clause-ok
returns-clause-ok g c =
    let log = g.H.Host.log in
    let input = c.args.input.now.path.now in
    let has = g.H.In.Feed.remaining c.in_ok-pass.pass in
    let first : List Event = opened input 1 has ∷ screened true ∷ [] in
    let begun = and_then (log c.args.host.now) _ _ (opened input 1 has ∷ []) (screened true ∷ []) c.in_ok-pass.ensures.opened c.in_ok-out.ensures.opened.0 in
    let e = c.ended.ensures in
    let done : OnOk c.ended.result ((r : Reading) × (w : Writing) × (log c.ended.new.host ≡ then_all (log c.open_screen.new.host) (read r ∷ wrote w ∷ [])) × (w.fault ≡ None) × IsListing c.args.engine.program has w.bytes) =
    text_ok e.0 c.list_blobs-outcome.result c.ended.result _ e.2 (λ went. rw (sym went) (list_done g.H.In.Feed g.H.Out.Drain c.list_blobs-outcome.new.pass c.list_blobs-outcome.new.drain None (is_ok c.list_blobs-outcome.result) e.0 (log c.open_screen.new.host) (log c.close.new.self) (log c.ended.new.host) (c.close.ensures.some, c.close.ensures.logged) e.1 c.args.engine.program c.in_ok-pass.pass c.in_ok-out.out c.list_blobs-outcome.result c.in_ok-out.ensures.opened.1 c.list_blobs-outcome.ensures.lists)) in
    on_ok_weaker c.ended.result (λ d. (_, and_then (log c.args.host.now) _ _ first _ begun d.2, record { has = has; first = d.0; out = d.1; happened = refl; whole = d.3; lines = d.4 })) done

pub returns-clause-err : goal.returns-clause-err
returns-clause-err g c =
    let log = g.H.Host.log in
    let input = c.args.input.now.path.now in
    let has = g.H.In.Feed.remaining c.in_ok-pass.pass in
    let begun = and_then (log c.args.host.now) _ _ (opened input 1 has ∷ []) (screened true ∷ []) c.in_ok-pass.ensures.opened c.in_ok-out.ensures.opened.0 in
    let e = c.ended.ensures in
    let left = list_front g.H.In.Feed g.H.Out.Drain c.list_blobs-outcome.new.pass c.list_blobs-outcome.new.drain None (is_ok c.list_blobs-outcome.result) e.0 (log c.open_screen.new.host) (log c.close.new.self) (log c.ended.new.host) (c.close.ensures.some, c.close.ensures.logged) e.1 c.args.engine.program c.in_ok-pass.pass c.in_ok-out.out c.list_blobs-outcome.result c.in_ok-out.ensures.opened.1 c.list_blobs-outcome.ensures.lists c.list_blobs-outcome.ensures.front in
    text_err e.0 c.list_blobs-outcome.result c.ended.result (λ how. (events : List Event) × (log c.ended.new.host ≡ then_all (log c.args.host.now) events) × FailsFor c.args.input.now.path.now (manner_of c.args.engine) listing how events × LeavesFor c.args.input.now.path.now (to_raw (manner_of c.args.engine)) listing_frames events × Each Silent events) e.2
    (λ why gone. (let f = listing_lost g.H.In.Feed g.H.Out.Drain c.list_blobs-outcome.new.pass c.list_blobs-outcome.new.drain None (is_ok c.list_blobs-outcome.result) e.0 (log c.open_screen.new.host) (log c.close.new.self) (log c.ended.new.host) (c.close.ensures.some, c.close.ensures.logged) e.1 (manner_of c.args.engine) listing (log c.args.host.now) input has begun why gone in (f.0, f.1, f.2, f.3 left, f.4)))
    (IfErr-weaker c.list_blobs-outcome.result _ _ (λ halted f. (f.0, f.1, f.2, f.3 left, f.4)) (list_fails g.H.In.Feed g.H.Out.Drain c.list_blobs-outcome.new.pass c.list_blobs-outcome.new.drain None (is_ok c.list_blobs-outcome.result) e.0 (log c.open_screen.new.host) (log c.close.new.self) (log c.ended.new.host) (c.close.ensures.some, c.close.ensures.logged) e.1 (manner_of c.args.engine) c.in_ok-pass.pass c.in_ok-out.out c.list_blobs-outcome.result (log c.args.host.now) input begun c.list_blobs-outcome.ensures.lists))

pub returns-in_err-pass-clause-files : goal.returns-in_err-pass-clause-files
returns-in_err-pass-clause-files g c =
    let f = c.in_err-pass.ensures.failed in
    calm_done _ _ (f.0 ∷ []) f.1 f.2.0

pub returns-in_err-out-clause-files : goal.returns-in_err-out-clause-files
returns-in_err-out-clause-files g c =
    let f = c.in_err-out.ensures.failed in
    still_then _ _ _ (one_still _ _ _ c.in_ok-pass.ensures.opened tt) (calm_done _ _ f.0 f.1 f.2.0)

pub returns-clause-files : goal.returns-clause-files
returns-clause-files g c =
    let opened = still_then _ _ _ (one_still _ _ _ c.in_ok-pass.ensures.opened tt) (one_still _ _ _ c.in_ok-out.ensures.opened.0 tt) in
    let closed = still_then _ _ _ opened (one_still _ _ _ c.close.ensures.some.1 tt) in
    still_then _ _ _ closed (screen_still g.H.Out.Drain c.list_blobs-outcome.new.drain _ _ _ _ c.ended.ensures.1)
