use Rattle.std.proofs.Common.{◌≡◌, ◌∙◌, ◌∷◌, ◌++◌, List, append_assoc, inl, inr, map, ap, subst, sym}
use Rattle.std.proofs.lemmas.Result.{err_from_is_err_and}
use Rattle.pbfcut_program.specs.declared.host.Screen.{Screen}
use Rattle.pbfcut_program.specs.Events.{Event, read, wrote, then_all}
use Rattle.pbfcut_program.specs.Fails.{Fails, Quiet, judging_for}
use Rattle.pbfcut_program.specs.Jobs.{feeds_of, plan_of, task_of}
use Rattle.pbfcut_program.specs.Leaving.{Leaves}
use Rattle.pbfcut_program.specs.Program.{Writes, begun, is_screen, screen_of}
use Rattle.pbfcut_program.specs.Lines.{counts_text, done_lines, prints}
use Rattle.pbfcut_program.specs.Manner.{check_of, manner_of}
use Rattle.pbfcut_program.specs.Readings.{IsWork}
use Rattle.pbfcut_program.proofs.Beginning.{length_has, opens_begun, quiet_begun, quiet_makes, silent_begun, silent_makes}
use Rattle.pbfcut_program.proofs.FailLemmas.{broken_fails, opened_fails, opening_fails, opens_before}
use Rattle.pbfcut_program.proofs.LeavingLemmas.{leaves_after, opening_leaves}
use Rattle.pbfcut_program.proofs.EventLemmas.{each_both}
use Rattle.pbfcut_program.proofs.Logging.{and_then}
use Rattle.pbfcut_program.proofs.OutLemmas.{kept_quiet}
use Rattle.pbfcut_program.proofs.Printed.{quiet_prints, still_prints}
use Rattle.pbfcut_program.proofs.SayingLemmas.{broken_quiet, lines_in, little_after, opening_little}
use Rattle.pbfcut_program.proofs.SettlingLemmas.{calm_done, settles_before, still_settles, told_still, write_settles}
use Rattle.pbfcut_program.proofs.WritingLemmas.{writes_lines}
use Rattle.pbfcut_program.proofs.writing.write.Goals as goal

pub returns-in_err-ready-clause-err : goal.returns-in_err-ready-clause-err
returns-in_err-ready-clause-err g c =
    let p = err_from_is_err_and c.from_residual.result c.from_residual.ensures.1 in
    let f = c.in_err-ready.ensures.err in
    let m = manner_of c.args.engine in
    let how = c.in_err-ready.field-0.0 in
    rw (p.1, p.2) (f.0, f.1, opening_fails m (judging_for (plan_of c.args.plan)) how f.0 f.2, opening_leaves m (plan_of c.args.plan) how f.0 f.2, inl (opening_little m.digests how f.0 f.2))

pub returns-in_err-done-clause-err : goal.returns-in_err-done-clause-err
returns-in_err-done-clause-err g c =
    let log = g.H.Host.log c.args.host.now in
    let p = err_from_is_err_and c.from_residual-in_err-done.result c.from_residual-in_err-done.ensures.1 in
    let f = c.in_err-done.ensures.err in
    let how = c.in_err-done.field-0.0 in
    let files = c.args.files.now in
    let program = c.args.engine.program in
    let is = is_screen program files.output.now in
    let has = map g.H.In.Feed.remaining (feeds_of c.in_ok-ready.ready.job) in
    let key = c.in_ok-ready.ready.seed.key in
    let ready = c.in_ok-ready.ensures.ok in
    let m = manner_of c.args.engine in
    let fails = subst (λ t. Fails m (judging_for t) has how f.0) c.in_ok-ready.ensures.planned.0 f.2 in
    let leaves = subst (λ t. Leaves m t has f.0) c.in_ok-ready.ensures.planned.0 f.3 in
    let first = begun is files has key ready.0 in
    let quiet = quiet_begun is files has key ready.0 (quiet_makes program is files.output.now _ ready.0 ready.2) in
    let silent = silent_begun is files has key ready.0 (silent_makes program is files.output.now _ ready.0 ready.2) in
    let opens = opens_begun is files has key ready.0 in
    rw (p.1, p.2) (
      first ++ f.0,
      and_then log _ _ first f.0 ready.1 f.1,
      opened_fails m (judging_for (plan_of c.args.plan)) has how first f.0 quiet opens fails,
      record { has = has; opens = opens_before files.input.now 1 has first f.0 opens; leaves = leaves_after m (plan_of c.args.plan) has first f.0 quiet leaves },
      inl (little_after m.digests first f.0 silent f.4),
    )

pub returns-in_err-print_done-clause-err : goal.returns-in_err-print_done-clause-err
returns-in_err-print_done-clause-err g c =
    let log = g.H.Host.log c.args.host.now in
    let p = err_from_is_err_and c.from_residual-in_err-print_done.result c.from_residual-in_err-print_done.ensures.1 in
    let d = c.in_ok-done.ensures.ok in
    let files = c.args.files.now in
    let is = is_screen c.args.engine.program files.output.now in
    let has = map g.H.In.Feed.remaining (feeds_of c.in_ok-ready.ready.job) in
    let key = c.in_ok-ready.ready.seed.key in
    let ready = c.in_ok-ready.ensures.ok in
    let first = begun is files has key ready.0 in
    let rs : List Event = map (λ r. read r) d.0 in
    let out : List Event = wrote d.1 ∷ d.2 in
    let done = and_then log _ _ first (rs ++ out) ready.1 d.3 in
    let m = manner_of c.args.engine in
    let how = c.in_err-print_done.field-0.0 in
    let j = judging_for (plan_of c.args.plan) in
    let program = c.args.engine.program in
    let quiet = quiet_begun is files has key ready.0 (quiet_makes program is files.output.now _ ready.0 ready.2) in
    let before : List Event = first ++ (rs ++ out) in
    let r = c.in_ok-done.done in
    let report = r.report in
    let task = plan_of c.args.plan in
    let screen = c.screen_of-screen.result in
    let texts = counts_text report.counts ∷ done_lines r.output r.meaning report.input report.raw files.input.now files.output.now in
    let shown = prints screen texts in
    let same_screen = c.screen_of-screen.ensures ∙ ap screen_of c.is_screen.ensures in
    let passes = length_has g.H.In.Feed.remaining (feeds_of c.in_ok-ready.ready.job) ∙ c.in_ok-ready.ensures.planned.1 in
    let writes : Writes m task files (before ++ prints (screen_of is) texts) = (report.counts, writes_lines c.args.engine key (task_of c.in_ok-ready.ready.job) task files has d.0 d.1 r ready.0 d.2 _ c.in_ok-ready.ensures.planned.0 passes ready.2 d.4 d.5 d.6) in
    let well = subst (λ (s : Screen). Writes m task files (before ++ prints s texts)) (sym same_screen) writes in
    let lines = c.in_err-print_done.ensures in
    let broken = lines_in (Writes m task files) before shown how lines.0 well lines.2 in
    rw (p.1, p.2) (
      before ++ lines.0,
      and_then log _ _ before lines.0 done lines.1,
      broken_fails m j (Writes m task files) how (before ++ lines.0) broken,
      record {
        has = has;
        opens = opens_before files.input.now 1 has before lines.0 (opens_before files.input.now 1 has first (rs ++ out) (opens_begun is files has key ready.0));
        leaves = inr (record {
          before = first;
          rs = d.0;
          out = d.1;
          after = d.2 ++ lines.0;
          happened = append_assoc first (rs ++ out) lines.0 ∙ ap (λ es. first ++ es) (append_assoc rs out lines.0);
          quiet = (quiet, each_both Quiet d.2 lines.0 (kept_quiet program files.overwrite files.output.now d.1.name d.2 d.6) (broken_quiet shown how lines.0 (quiet_prints screen texts) lines.2));
          by = check_of m key;
          counts = report.counts;
          digest = report.input;
          raw = report.raw;
          work = subst (λ t. IsWork m (check_of m key) t has d.0 d.1.bytes report.counts report.input report.raw) c.in_ok-ready.ensures.planned.0 d.4.work;
        });
      },
      inr broken,
    )

pub returns-clause-ok : goal.returns-clause-ok
returns-clause-ok g c =
    let log = g.H.Host.log c.args.host.now in
    let d = c.in_ok-done.ensures.ok in
    let r = c.in_ok-done.done in
    let files = c.args.files.now in
    let is = is_screen c.args.engine.program files.output.now in
    let has = map g.H.In.Feed.remaining (feeds_of c.in_ok-ready.ready.job) in
    let key = c.in_ok-ready.ready.seed.key in
    let ready = c.in_ok-ready.ensures.ok in
    let first = begun is files has key ready.0 in
    let rs : List Event = map (λ r. read r) d.0 in
    let out : List Event = wrote d.1 ∷ d.2 in
    let lines = prints (screen_of is) (counts_text r.report.counts ∷ done_lines r.output r.meaning r.report.input r.report.raw files.input.now files.output.now) in
    let done = and_then log _ _ first (rs ++ out) ready.1 d.3 in
    let same_screen = c.screen_of-screen.ensures ∙ ap screen_of c.is_screen.ensures in
    let printed = subst (λ (s : Screen). g.H.Host.log c.print_done.new.host ≡ then_all (g.H.Host.log c.run_job.new.host) (prints s (counts_text r.report.counts ∷ done_lines r.output r.meaning r.report.input r.report.raw files.input.now files.output.now))) same_screen c.in_ok-print_done.ensures in
    let all = and_then log _ _ (first ++ (rs ++ out)) lines done printed in (
      (first ++ (rs ++ out)) ++ lines,
      all,
      writes_lines c.args.engine key (task_of c.in_ok-ready.ready.job) (plan_of c.args.plan) files has d.0 d.1 r ready.0 d.2 _ c.in_ok-ready.ensures.planned.0 (length_has g.H.In.Feed.remaining (feeds_of c.in_ok-ready.ready.job) ∙ c.in_ok-ready.ensures.planned.1) ready.2 d.4 d.5 d.6,
    )

pub returns-in_err-ready-clause-files : goal.returns-in_err-ready-clause-files
returns-in_err-ready-clause-files g c =
    let f = c.in_err-ready.ensures.err in
    still_settles c.args.engine.program c.args.files.now _ _ (calm_done _ _ f.0 f.1 f.2.0)

pub returns-in_err-done-clause-files : goal.returns-in_err-done-clause-files
returns-in_err-done-clause-files g c =
    let ready = c.in_ok-ready.ready in
    write_settles c.args.engine.program c.args.files.now (map g.H.In.Feed.remaining (feeds_of ready.job)) ready.seed.key _ _ _ _ c.in_ok-ready.ensures.ok c.in_err-done.ensures.files

pub returns-in_err-print_done-clause-files : goal.returns-in_err-print_done-clause-files
returns-in_err-print_done-clause-files g c =
    let ready = c.in_ok-ready.ready in
    let program = c.args.engine.program in
    let files = c.args.files.now in
    let done = c.in_ok-done.done in
    settles_before program files _ _ _ (write_settles program files (map g.H.In.Feed.remaining (feeds_of ready.job)) ready.seed.key _ _ _ _ c.in_ok-ready.ensures.ok c.in_ok-done.ensures.files) (told_still _ _ _ c.print_done.result c.print_done.ensures (still_prints c.screen_of-screen.result (counts_text done.report.counts ∷ done_lines done.output done.meaning done.report.input done.report.raw files.input.now files.output.now)))

pub returns-clause-files : goal.returns-clause-files
returns-clause-files g c =
    let ready = c.in_ok-ready.ready in
    let program = c.args.engine.program in
    let files = c.args.files.now in
    let done = c.in_ok-done.done in
    settles_before program files _ _ _ (write_settles program files (map g.H.In.Feed.remaining (feeds_of ready.job)) ready.seed.key _ _ _ _ c.in_ok-ready.ensures.ok c.in_ok-done.ensures.files) (told_still _ _ _ c.print_done.result c.print_done.ensures (still_prints c.screen_of-screen.result (counts_text done.report.counts ∷ done_lines done.output done.meaning done.report.input done.report.raw files.input.now files.output.now)))
