use Rattle.std.proofs.Common.{◌∙◌, [], ◌++◌, inl, map, string_bytes, subst, sym}
use Rattle.std.proofs.lemmas.Result.{IfErr-weaker, err_from_is_err_and, on_ok_weaker}
use Rattle.std.specs.List.{zip}
use Rattle.pbfcut.specs.EachReceipts.{each_strategy}
use Rattle.pbfcut.specs.Receipts.{judge_by}
use Rattle.pbfcut.proofs.SeveralLemmas.{zip_length}
use Rattle.pbfcut_program.specs.ConfiguredCuts.{output_area_of}
use Rattle.pbfcut_program.specs.declared.host.Screen.TheVariants as screen
use Rattle.pbfcut_program.specs.Fails.{Fails, Quiet, WroteNothing, judging}
use Rattle.pbfcut_program.specs.Inputs.{feeds_in}
use Rattle.pbfcut_program.specs.Leaving.{IsUnkept}
use Rattle.pbfcut_program.specs.Lines.{check_lines}
use Rattle.pbfcut_program.specs.Manner.{manner_of}
use Rattle.pbfcut_program.specs.SeveralEnds.{outs_lines}
use Rattle.pbfcut_program.specs.SeveralFiles.{UnmakesEach, MakesEach, flatten}
use Rattle.pbfcut_program.specs.SeveralWrites.{AllGiveRaw, AreLeft, areas_of, begun_each, paths_of}
use Rattle.pbfcut_program.specs.Telling.{Silent}
use Rattle.pbfcut_program.proofs.Beginning.{length_has}
use Rattle.pbfcut_program.proofs.EventLemmas.{each_both, each_quiet, nothing_in, quiet_of}
use Rattle.pbfcut_program.proofs.FailLemmas.{opened_fails, opening_fails, opens_before, tells_err, tells_ok}
use Rattle.pbfcut_program.proofs.LeavingLemmas.{quiet_unkept}
use Rattle.pbfcut_program.proofs.Logging.{and_then}
use Rattle.pbfcut_program.proofs.Printed.{still_prints}
use Rattle.pbfcut_program.proofs.SayingLemmas.{little_after, opening_little, silent_little, silent_of}
use Rattle.pbfcut_program.proofs.SettlingLemmas.{calm_done, still_of, told_still}
use Rattle.pbfcut_program.proofs.SeveralMaking.{all_fresh, areas_same, begun_calm, left_after, makes_quiet, makes_silent, returns_handled, some_begun, unmade}
use Rattle.pbfcut_program.proofs.SeveralSettling.{outs_after, outs_before}
use Rattle.pbfcut_program.proofs.SeveralTelling.{cause_fails, opens_first, printed_each, written_each}
use Rattle.pbfcut_program.proofs.several_writing.cut_out_each.Goals as goal

pub returns-in_err-opened-clause-err : goal.returns-in_err-opened-clause-err
returns-in_err-opened-clause-err g c =
    let p = err_from_is_err_and c.from_residual.result c.from_residual.ensures.1 in
    let f = c.in_err-opened.ensures.err in
    let how = c.in_err-opened.field-0.0 in
    let s = each_strategy c.args.run.strategy in
    let m = manner_of c.args.engine in
    let quiet = quiet_of f.0 f.2.0 in
    rw (p.1, p.2) (
      f.0,
      f.1,
      opening_fails m (judging (judge_by s) (AllGiveRaw s (areas_of (map output_area_of c.args.outs.now)))) how f.0 f.2,
      record { has = []; opens = tt; left = inl (nothing_in f.0 quiet, each_quiet IsUnkept quiet_unkept f.0 quiet) },
      inl (opening_little c.args.engine.digests how f.0 f.2),
    )

pub returns-in_err-opened-clause-files : goal.returns-in_err-opened-clause-files
returns-in_err-opened-clause-files g c =
    let f = c.in_err-opened.ensures.err in
    (f.0, f.1, inl (still_of f.0 f.2.0))

pub returns-in_err-made-clause-err : goal.returns-in_err-made-clause-err
returns-in_err-made-clause-err g c =
    let log = g.H.Host.log in
    let p = err_from_is_err_and c.from_residual-in_err-made.result c.from_residual-in_err-made.ensures.1 in
    let how = c.in_err-made.field-0.0 in
    let s = each_strategy c.args.run.strategy in
    let m = manner_of c.args.engine in
    let outs = c.args.outs.now in
    let files = c.args.run.files in
    let has = map g.H.In.Feed.remaining (feeds_in c.in_ok-opened.opened.inputs) in
    let key = c.in_ok-opened.opened.seed.key in
    let first = begun_each files (map (λ out. string_bytes out.output) outs) has key in
    let calm = begun_calm files (map (λ out. string_bytes out.output) outs) has key in
    let quiet = quiet_of first calm in
    let u = unmade m.program files.overwrite outs how (log c.open_each.new.host) (log c.make_outs.new.host) (subst (λ r. UnmakesEach r outs how (log c.open_each.new.host) (log c.make_outs.new.host)) c.placing.ensures.0 c.in_err-made.ensures.err) in
    let nothing = each_both WroteNothing first u.0 (nothing_in first quiet) u.2.nothing in
    let unkept = each_both IsUnkept first u.0 (each_quiet IsUnkept quiet_unkept first quiet) u.2.unkept in
    rw (p.1, p.2) (
      first ++ u.0,
      and_then (log c.args.host.now) (log c.open_each.new.host) (log c.make_outs.new.host) first u.0 c.in_ok-opened.ensures.ok u.1,
      cause_fails m (judging (judge_by s) (AllGiveRaw s (areas_of (map output_area_of outs)))) how first u.0 quiet u.2.cause u.2.nothing,
      record { has = []; opens = tt; left = inl (nothing, unkept) },
      inl (silent_little c.args.engine.digests (first ++ u.0) (each_both Silent first u.0 (silent_of first calm) u.2.silent)),
    )

pub returns-in_err-made-clause-files : goal.returns-in_err-made-clause-files
returns-in_err-made-clause-files g c =
    let log = g.H.Host.log in
    let how = c.in_err-made.field-0.0 in
    let outs = c.args.outs.now in
    let files = c.args.run.files in
    let program = c.args.engine.program in
    let has = map g.H.In.Feed.remaining (feeds_in c.in_ok-opened.opened.inputs) in
    let first = begun_each files (map (λ out. string_bytes out.output) outs) has c.in_ok-opened.opened.seed.key in
    let calm = begun_calm files (map (λ out. string_bytes out.output) outs) has c.in_ok-opened.opened.seed.key in
    let u = unmade program files.overwrite outs how (log c.open_each.new.host) (log c.make_outs.new.host) (subst (λ r. UnmakesEach r outs how (log c.open_each.new.host) (log c.make_outs.new.host)) c.placing.ensures.0 c.in_err-made.ensures.err) in
    outs_after program files.overwrite (paths_of (map output_area_of outs)) (log c.args.host.now) (log c.open_each.new.host) (log c.make_outs.new.host) (calm_done (log c.args.host.now) (log c.open_each.new.host) first c.in_ok-opened.ensures.ok calm) (u.0, u.1, u.2.files)

pub run_ready_each-requires : goal.run_ready_each-requires
run_ready_each-requires g c =
    let outs = c.args.outs.now in
    let made = c.in_ok-made.ensures.ok in
    let outputs = c.in_ok-made.made.outputs.items in
    let fresh = all_fresh g.H.Out.Drain outs outputs made.begun in
    record {
      feeds = c.in_ok-opened.ensures.fresh;
      count = c.in_ok-opened.ensures.count;
      opened = c.in_ok-opened.ensures.ready;
      some = some_begun g.H.Out.Drain outs outputs made.begun c.requires;
      parts = zip_length _ outs c.in_ok-made.made.parts.items made.paths ∙ sym (zip_length _ outs outputs made.begun);
      fresh = fresh.0;
      unhashed = fresh.1;
      unmeant = fresh.2;
    }

pub returns-in_err-done-clause-err : goal.returns-in_err-done-clause-err
returns-in_err-done-clause-err g c =
    let log = g.H.Host.log in
    let p = err_from_is_err_and c.from_residual-in_err-done.result c.from_residual-in_err-done.ensures.1 in
    let f = c.in_err-done.ensures.err in
    let how = c.in_err-done.field-0.0 in
    let s = each_strategy c.args.run.strategy in
    let m = manner_of c.args.engine in
    let outs = c.args.outs.now in
    let files = c.args.run.files in
    let has = map g.H.In.Feed.remaining (feeds_in c.in_ok-opened.opened.inputs) in
    let key = c.in_ok-opened.opened.seed.key in
    let paths = map (λ out. string_bytes out.output) outs in
    let begun = begun_each files paths has key in
    let made = c.in_ok-made.ensures.ok in
    let made_at = subst (λ r. MakesEach g.H.Out.Drain r outs c.in_ok-made.made.parts.items c.in_ok-made.made.outputs.items (log c.open_each.new.host) (log c.make_outs.new.host)) c.placing.ensures.0 made in
    let makes = flatten made_at.makes.0 in
    let first = begun ++ makes in
    let calm = begun_calm files paths has key in
    let quiet = each_both Quiet begun makes (quiet_of begun calm) (makes_quiet m.program c.in_ok-made.made.parts.items made_at.makes.0 made_at.makes.2) in
    let silent = each_both Silent begun makes (silent_of begun calm) (makes_silent m.program c.in_ok-made.made.parts.items made_at.makes.0 made_at.makes.2) in
    let before = and_then (log c.args.host.now) (log c.open_each.new.host) (log c.make_outs.new.host) begun makes c.in_ok-opened.ensures.ok made_at.makes.1 in
    let areas = areas_same g.H.Out.Drain outs c.in_ok-made.made.outputs.items made.begun in
    let opens = opens_first files paths has key makes in
    let fails = subst (λ a. Fails m (judging (judge_by s) (AllGiveRaw s a)) has how f.0) areas f.2 in
    let left = subst (λ a. AreLeft m s has a f.0) areas f.3 in
    rw (p.1, p.2) (
      first ++ f.0,
      and_then (log c.args.host.now) (log c.make_outs.new.host) (log c.run_ready_each.new.host) first f.0 before f.1,
      opened_fails m (judging (judge_by s) (AllGiveRaw s (areas_of (map output_area_of outs)))) has how first f.0 quiet opens fails,
      record { has = has; opens = opens_before files.input.now 1 has first f.0 opens; left = left_after m s has (areas_of (map output_area_of outs)) first f.0 quiet left },
      inl (little_after c.args.engine.digests first f.0 silent f.4),
    )

pub returns-in_err-done-clause-files : goal.returns-in_err-done-clause-files
returns-in_err-done-clause-files g c =
    let log = g.H.Host.log in
    let outs = c.args.outs.now in
    let files = c.args.run.files in
    let has = map g.H.In.Feed.remaining (feeds_in c.in_ok-opened.opened.inputs) in
    let key = c.in_ok-opened.opened.seed.key in
    let paths = map (λ out. string_bytes out.output) outs in
    let made_at = subst (λ r. MakesEach g.H.Out.Drain r outs c.in_ok-made.made.parts.items c.in_ok-made.made.outputs.items (log c.open_each.new.host) (log c.make_outs.new.host)) c.placing.ensures.0 c.in_ok-made.ensures.ok in
    returns_handled c.args.engine.program files.overwrite outs c.in_ok-made.made.parts.items made_at.makes.0 (begun_each files paths has key) (log c.args.host.now) (log c.open_each.new.host) (log c.make_outs.new.host) (log c.run_ready_each.new.host)
    made_at.paths made_at.makes.2 (still_of (begun_each files paths has key) (begun_calm files paths has key)) c.in_ok-opened.ensures.ok made_at.makes.1 c.in_err-done.ensures.files

pub returns-clause-ok : goal.returns-clause-ok
returns-clause-ok g c =
    let log = g.H.Host.log in
    let engine = c.args.engine in
    let outs = c.args.outs.now in
    let files = c.args.run.files in
    let has = map g.H.In.Feed.remaining (feeds_in c.in_ok-opened.opened.inputs) in
    let key = c.in_ok-opened.opened.seed.key in
    let made_at = subst (λ r. MakesEach g.H.Out.Drain r outs c.in_ok-made.made.parts.items c.in_ok-made.made.outputs.items (log c.open_each.new.host) (log c.make_outs.new.host)) c.placing.ensures.0 c.in_ok-made.ensures.ok in
    let done = c.in_ok-done.done in
    let passes = length_has g.H.In.Feed.remaining (feeds_in c.in_ok-opened.opened.inputs) ∙ c.in_ok-opened.ensures.count in
    on_ok_weaker c.print_done_each.result (λ printed. written_each g.H.Out.Drain (manner_of engine) (each_strategy c.args.run.strategy) files outs c.in_ok-made.made.parts.items c.in_ok-made.made.outputs.items has key done.input.input done.input.raw done.outs.items
    (log c.args.host.now) (log c.open_each.new.host) (log c.make_outs.new.host) (log c.run_ready_each.new.host) passes c.in_ok-opened.ensures.ok made_at c.in_ok-done.ensures.ok (log c.print_done_each.new.host) printed)
    (tells_ok _ _ _ c.print_done_each.result c.print_done_each.ensures)

pub returns-clause-err : goal.returns-clause-err
returns-clause-err g c =
    let log = g.H.Host.log in
    let engine = c.args.engine in
    let outs = c.args.outs.now in
    let files = c.args.run.files in
    let has = map g.H.In.Feed.remaining (feeds_in c.in_ok-opened.opened.inputs) in
    let key = c.in_ok-opened.opened.seed.key in
    let made_at = subst (λ r. MakesEach g.H.Out.Drain r outs c.in_ok-made.made.parts.items c.in_ok-made.made.outputs.items (log c.open_each.new.host) (log c.make_outs.new.host)) c.placing.ensures.0 c.in_ok-made.ensures.ok in
    let done = c.in_ok-done.done in
    let passes = length_has g.H.In.Feed.remaining (feeds_in c.in_ok-opened.opened.inputs) ∙ c.in_ok-opened.ensures.count in
    IfErr-weaker c.print_done_each.result _ _ (λ how told. printed_each g.H.Out.Drain (manner_of engine) (each_strategy c.args.run.strategy) files outs c.in_ok-made.made.parts.items c.in_ok-made.made.outputs.items has key done.input.input done.input.raw done.outs.items
    (log c.args.host.now) (log c.open_each.new.host) (log c.make_outs.new.host) (log c.run_ready_each.new.host) passes c.in_ok-opened.ensures.ok made_at c.in_ok-done.ensures.ok how (log c.print_done_each.new.host) told)
    (tells_err _ _ _ c.print_done_each.result c.print_done_each.ensures)

pub returns-clause-files : goal.returns-clause-files
returns-clause-files g c =
    let log = g.H.Host.log in
    let program = c.args.engine.program in
    let outs = c.args.outs.now in
    let files = c.args.run.files in
    let done = c.in_ok-done.done in
    let has = map g.H.In.Feed.remaining (feeds_in c.in_ok-opened.opened.inputs) in
    let key = c.in_ok-opened.opened.seed.key in
    let paths = map (λ out. string_bytes out.output) outs in
    let made_at = subst (λ r. MakesEach g.H.Out.Drain r outs c.in_ok-made.made.parts.items c.in_ok-made.made.outputs.items (log c.open_each.new.host) (log c.make_outs.new.host)) c.placing.ensures.0 c.in_ok-made.ensures.ok in
    let settled = returns_handled program files.overwrite outs c.in_ok-made.made.parts.items made_at.makes.0 (begun_each files paths has key) (log c.args.host.now) (log c.open_each.new.host) (log c.make_outs.new.host) (log c.run_ready_each.new.host)
    made_at.paths made_at.makes.2 (still_of (begun_each files paths has key) (begun_calm files paths has key)) c.in_ok-opened.ensures.ok made_at.makes.1 c.in_ok-done.ensures.files in
    let lines = check_lines c.args.engine.digests done.input.input done.input.raw files.input.now ++ outs_lines (zip outs done.outs.items) in
    outs_before program files.overwrite (paths_of (map output_area_of outs)) (log c.args.host.now) (log c.run_ready_each.new.host) (log c.print_done_each.new.host) settled (told_still _ _ _ c.print_done_each.result c.print_done_each.ensures (still_prints screen.Output lines))
