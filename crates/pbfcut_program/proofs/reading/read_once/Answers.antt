use Rattle.std.proofs.Common.{[], ◌∷◌, ◌++◌, ◌≡◌, Err, List, inl, refl}
use Rattle.std.proofs.lemmas.Result.{err_from_is_err_and}
use Rattle.pbfcut_program.specs.Events.{Event, opened, read}
use Rattle.pbfcut_program.specs.Fails.{CauseOfWrite, judging_for}
use Rattle.pbfcut_program.specs.Manner.{manner_of, once_check, output_form}
use Rattle.pbfcut.specs.Tasks.{checking}
use Rattle.pbfcut_program.specs.Tasks.{GivesRaw}
use Rattle.pbfcut_program.proofs.Closing.{ends_with_none, work_fails, work_read_once}
use Rattle.pbfcut_program.proofs.FailLemmas.{opened_fails, opening_fails, told_fails}
use Rattle.pbfcut_program.proofs.LeavingLemmas.{returned_silent}
use Rattle.pbfcut_program.proofs.Logging.{and_then}
use Rattle.pbfcut_program.proofs.SayingLemmas.{little_after, opening_little, refusal_still}
use Rattle.pbfcut_program.proofs.SettlingLemmas.{calm_done, one_still, still_then}
use Rattle.pbfcut_program.proofs.Weaker.{works_weaker}
use Rattle.pbfcut_program.proofs.reading.read_once.Goals as goal

pub returns-in_err-pass-clause-err : goal.returns-in_err-pass-clause-err
returns-in_err-pass-clause-err g c =
    let p = err_from_is_err_and c.from_residual.result c.from_residual.ensures.1 in
    let f = c.in_err-pass.ensures.failed in
    rw (p.1, p.2) (f.0 ∷ [], f.1, opening_fails (manner_of c.args.engine) (judging_for checking) c.in_err-pass.field-0.0 (f.0 ∷ []) f.2, opening_little c.args.engine.digests c.in_err-pass.field-0.0 (f.0 ∷ []) f.2)

pub returns-in-Err-clause-err : goal.returns-in-Err-clause-err
returns-in-Err-clause-err g c =
    let log = g.H.Host.log in
    let one = c.in_ok-pass.pass in
    let now = c.check-outcome.new.pass in
    let has = g.H.In.Feed.remaining one in
    let engine = c.args.engine in
    let unwritten : Type 0 = CauseOfWrite (output_form engine.packs engine.program) (GivesRaw checking) (has ∷ []) ⊥ ⊥ in
    let works = works_weaker engine.program engine.packs engine.digests (once_check engine.digests) g.H.In.Feed checking (one ∷ []) (now ∷ []) (λ took. took ≡ []) (λ took. took ≡ []) ⊥ unwritten (Err c.in-Err.halted) (λ w t. t) (λ none. absurd none) (c.in-Err.ensures (c.in_ok-pass.ensures.fresh, tt)) in
    let fail = work_fails c.args.engine.program c.args.engine.packs c.args.engine.digests (once_check c.args.engine.digests) g.H.In.Feed checking (λ took. took ≡ []) ⊥ ⊥ (λ w. ⊥) (log c.open_pass.new.host) (log c.close.new.self) (log c.close.new.self)
    (one ∷ []) (now ∷ []) c.in-Err.halted (ends_with_none (log c.close.new.self) (λ took. took ≡ [])) (c.in_ok-pass.ensures.fresh, tt) (log c.close.new.self, (c.close.ensures.some, c.close.ensures.logged), refl) works in
    let m = manner_of c.args.engine in
    let told = told_fails m (judging_for checking) (has ∷ []) c.in-Err.halted.ending c.tell_refusal.result (log c.open_pass.new.host) (log c.close.new.self) (log c.tell_refusal.new.host) fail.0 fail.1 fail.2 c.tell_refusal.ensures in
    let begun : List Event = opened c.args.path.now 1 has ∷ [] in (
      begun ++ told.0,
      and_then (log c.args.host.now) (log c.open_pass.new.host) (log c.tell_refusal.new.host) begun told.0 c.in_ok-pass.ensures.opened told.1,
      opened_fails m (judging_for checking) (has ∷ []) c.tell_refusal.result begun told.0 (tt, tt) (inl (refl, refl, refl), tt) told.2,
      little_after c.args.engine.digests begun told.0 (tt, tt) (told.3 (returned_silent (λ w. ⊥) fail.0 fail.3)),
    )

pub returns-in-Ok-clause-ok : goal.returns-in-Ok-clause-ok
returns-in-Ok-clause-ok g c =
    let log = g.H.Host.log in
    let one = c.in_ok-pass.pass in
    let done = work_read_once g.H.In.Feed (manner_of c.args.engine) (once_check c.args.engine.digests) checking ⊥ (log c.open_pass.new.host) (log c.close.new.self) one c.check-outcome.new.pass c.in-Ok.report c.in_ok-pass.ensures.fresh (c.close.ensures.some, c.close.ensures.logged) (c.in-Ok.ensures (c.in_ok-pass.ensures.fresh, tt)) in
    (g.H.In.Feed.remaining one, done.0, and_then (log c.args.host.now) _ _ (opened c.args.path.now 1 (g.H.In.Feed.remaining one) ∷ []) (read done.0 ∷ []) c.in_ok-pass.ensures.opened done.1, done.2)

pub returns-in_err-pass-clause-files : goal.returns-in_err-pass-clause-files
returns-in_err-pass-clause-files g c =
    let f = c.in_err-pass.ensures.failed in
    calm_done _ _ (f.0 ∷ []) f.1 f.2.0

pub returns-in-Ok-clause-files : goal.returns-in-Ok-clause-files
returns-in-Ok-clause-files g c = still_then _ _ _ (one_still _ _ _ c.in_ok-pass.ensures.opened tt) (one_still _ _ _ c.close.ensures.some.1 tt)

pub returns-in-Err-clause-files : goal.returns-in-Err-clause-files
returns-in-Err-clause-files g c =
    let told = c.tell_refusal.ensures in
    still_then _ _ _ (still_then _ _ _ (one_still _ _ _ c.in_ok-pass.ensures.opened tt) (one_still _ _ _ c.close.ensures.some.1 tt)) (told.events, told.log, refusal_still c.args.engine.digests told.events told.tells)
