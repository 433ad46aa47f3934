use Rattle.std.proofs.Common.{◌++◌, append_assoc, inl, inr, refl, subst, sym}
use Rattle.std.proofs.lemmas.Result.{err_from_is_err_and}
use Rattle.pbfcut.specs.Receipts.{judge_by}
use Rattle.pbfcut_program.specs.Fails.{FailsFor, judging_for}
use Rattle.pbfcut_program.specs.Jobs.{area_of}
use Rattle.pbfcut_program.specs.Leaving.{LeavesFor}
use Rattle.pbfcut_program.specs.Program.{CutsRaw, RunsExtract, Writes, WritesCounts, advice, judging_cut, strategy_of}
use Rattle.pbfcut_program.specs.Manner.{manner_of}
use Rattle.pbfcut.specs.Tasks.{extracting}
use Rattle.pbfcut_program.specs.Tasks.{GivesRaw}
use Rattle.pbfcut_program.specs.Telling.{IsSaid}
use Rattle.pbfcut_program.proofs.Beginning.{calm_region, still_advice}
use Rattle.pbfcut_program.proofs.EventLemmas.{quiet_of}
use Rattle.pbfcut_program.proofs.FailLemmas.{failed_after, opening_fails, sound_fails}
use Rattle.pbfcut_program.proofs.Logging.{and_then}
use Rattle.pbfcut_program.proofs.SayingLemmas.{opening_little, said_in, silent_little, silent_of}
use Rattle.pbfcut_program.proofs.SettlingLemmas.{calm_done, settles_after, settles_before, still_settles}
use Rattle.pbfcut_program.proofs.writing.run_extract.Goals as goal

pub returns-in_err-cut-clause-err : goal.returns-in_err-cut-clause-err
returns-in_err-cut-clause-err g c =
    let p = err_from_is_err_and c.from_residual.result c.from_residual.ensures.1 in
    let f = c.in_err-cut.ensures.err in
    rw (p.1, p.2) (f.0, f.1, opening_fails (manner_of c.args.engine) (judging_cut c.args.region.now c.args.strategy f.0) c.in_err-cut.field-0.0 f.0 f.2, inl (quiet_of f.0 f.2.0), inl (opening_little c.args.engine.digests c.in_err-cut.field-0.0 f.0 f.2))

pub returns-in_err-plan-clause-err : goal.returns-in_err-plan-clause-err
returns-in_err-plan-clause-err g c =
    let p = err_from_is_err_and c.from_residual-in_err-plan.result c.from_residual-in_err-plan.ensures.1 in
    let d = c.in_ok-cut.ensures.ok in
    let calm = calm_region c.args.region.now d.0 (area_of c.in_ok-cut.cut) d.2 in
    rw (p.1, p.2) (d.0, d.1, opening_fails (manner_of c.args.engine) (judging_cut c.args.region.now c.args.strategy d.0) _ d.0 (calm, tt), inl (quiet_of d.0 calm), inl (silent_little c.args.engine.digests d.0 (silent_of d.0 calm)))

pub returns-in_err-counts-clause-err : goal.returns-in_err-counts-clause-err
returns-in_err-counts-clause-err g c =
    let log = g.H.Host.log c.args.host.now in
    let p = err_from_is_err_and c.from_residual-in_err-counts.result c.from_residual-in_err-counts.ensures.1 in
    let d = c.in_ok-cut.ensures.ok in
    let area = area_of c.in_ok-cut.cut in
    let f = c.in_err-counts.ensures.err in
    let how = c.in_err-counts.field-0.0 in
    let m = manner_of c.args.engine in
    let of = strategy_of c.args.strategy in
    let fails = sound_fails m (judge_by of) (GivesRaw (extracting of area)) (CutsRaw c.args.region.now c.args.strategy (d.0 ++ f.0)) how f.0 (λ file all. all area d.0 f.0 refl d.2) (subst (λ t. FailsFor c.args.files.now.input.now m (judging_for t) how f.0) c.in_ok-plan.ensures f.2) in
    let leaves = subst (λ t. LeavesFor c.args.files.now.input.now m t f.0) c.in_ok-plan.ensures f.3 in
    let by = c.args.strategy in
    let files = c.args.files.now in
    let task = extracting (strategy_of by) area in
    let said = subst (λ t. IsSaid m.digests (Writes m t files) how f.0) c.in_ok-plan.ensures f.4 in
    let calm = calm_region c.args.region.now d.0 area d.2 in
    rw (p.1, p.2) (
      d.0 ++ f.0,
      and_then log _ _ d.0 f.0 d.1 f.1,
      failed_after m (judging_cut c.args.region.now c.args.strategy (d.0 ++ f.0)) how d.0 f.0 (quiet_of d.0 calm) fails,
      inr (record { area = area; before = d.0; after = f.0; happened = refl; means = d.2; leaves = leaves }),
      said_in m.digests (Writes m task files) (RunsExtract m c.args.region.now by files) d.0 how f.0 (silent_of d.0 calm)
          (λ all w. (advice w.0, record { area = area; before = d.0; after = all; counts = w.0; happened = sym (append_assoc d.0 all (advice w.0)); means = d.2; writes = w.1 })) said,
    )

pub returns-clause-ok : goal.returns-clause-ok
returns-clause-ok g c =
    let log = g.H.Host.log c.args.host.now in
    let d = c.in_ok-cut.ensures.ok in
    let w = c.in_ok-counts.ensures.ok in
    let counts = c.in_ok-counts.counts in
    let area = area_of c.in_ok-cut.cut in
    let writes = subst (λ t. WritesCounts (manner_of c.args.engine) t c.args.files.now counts w.0) c.in_ok-plan.ensures w.2 in
    let both = and_then log _ _ d.0 w.0 d.1 w.1 in
    let all = and_then log _ _ (d.0 ++ w.0) (advice counts) both c.advise_empty.ensures in
    (d.0 ++ w.0 ++ advice counts, all, record { area = area; before = d.0; after = w.0; counts = counts; happened = refl; means = d.2; writes = writes })

pub returns-in_err-cut-clause-files : goal.returns-in_err-cut-clause-files
returns-in_err-cut-clause-files g c =
    let f = c.in_err-cut.ensures.err in
    still_settles c.args.engine.program c.args.files.now _ _ (calm_done _ _ f.0 f.1 f.2.0)

pub returns-in_err-plan-clause-files : goal.returns-in_err-plan-clause-files
returns-in_err-plan-clause-files g c =
    let d = c.in_ok-cut.ensures.ok in
    still_settles c.args.engine.program c.args.files.now _ _ (calm_done _ _ d.0 d.1 (calm_region c.args.region.now d.0 (area_of c.in_ok-cut.cut) d.2))

pub returns-in_err-counts-clause-files : goal.returns-in_err-counts-clause-files
returns-in_err-counts-clause-files g c =
    let d = c.in_ok-cut.ensures.ok in
    settles_after c.args.engine.program c.args.files.now _ _ _ (calm_done _ _ d.0 d.1 (calm_region c.args.region.now d.0 (area_of c.in_ok-cut.cut) d.2)) c.in_err-counts.ensures.files

pub returns-clause-files : goal.returns-clause-files
returns-clause-files g c =
    let d = c.in_ok-cut.ensures.ok in
    let program = c.args.engine.program in
    let files = c.args.files.now in
    let counts = c.in_ok-counts.counts in
    settles_before program files _ _ _ (settles_after program files _ _ _ (calm_done _ _ d.0 d.1 (calm_region c.args.region.now d.0 (area_of c.in_ok-cut.cut) d.2)) c.in_ok-counts.ensures.files) (advice counts, c.advise_empty.ensures, still_advice counts)
