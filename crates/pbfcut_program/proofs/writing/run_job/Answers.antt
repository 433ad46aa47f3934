use Rattle.std.proofs.Common.{◌∙◌, ◌<◌, ◌++◌, ◌∷◌, [], List, ℕ, inr, map, refl, false, true, ap, subst, sym, append_assoc, string_bytes}
use Rattle.std.proofs.lemmas.Result.{IfErr-weaker, IfOk-weaker}
use Rattle.std.specs.Option.{is_some, option_map}
use Rattle.std.specs.Prelude.{IfSome}
use Rattle.pbf_unpack.specs.RawFrames.{IsNearLimit}
use Rattle.pbfcut_program.specs.Devices.{DrainFailed, MeansBy, TakenBy}
use Rattle.pbfcut_program.specs.Events.{Event, Writing, read, then_all, wrote}
use Rattle.pbfcut_program.specs.Fails.{judging_for}
use Rattle.pbfcut_program.specs.Files.{IsKept}
use Rattle.pbfcut_program.specs.Jobs.{feeds_of, task_of}
use Rattle.pbfcut_program.specs.Leaving.{IsUnkept, TookFront}
use Rattle.pbfcut_program.specs.Manner.{check_in, hashes_meaning, manner_of, of_output, output_form}
use Rattle.pbfcut_program.specs.Telling.{Silent}
use Rattle.pbfcut_program.proofs.Closing.{close_rest, ends_with_out, hashed_as, stops_leaving, work_done, work_fails}
use Rattle.pbfcut_program.proofs.EventLemmas.{each_both, each_quiet, has_after}
use Rattle.pbfcut_program.proofs.FailLemmas.{fails_before, file_stops, told_fails}
use Rattle.pbfcut_program.proofs.LeavingLemmas.{IsReturned, quiet_front, quiet_unkept, reads_return, returned_front, returned_silent, returned_unkept}
use Rattle.pbfcut_program.proofs.Logging.{and_then, then_none}
use Rattle.pbfcut_program.proofs.OutLemmas.{dropped_quiet, dropped_silent, ends_at, ends_kept, ends_quiet, ends_silent, ends_told}
use Rattle.pbfcut_program.proofs.SayingLemmas.{refusal_still, silent_little}
use Rattle.pbfcut_program.proofs.SettlingLemmas.{is_ended}
use Rattle.pbfcut_program.proofs.writing.run_job.Goals as goal

pub returns-in-Ok-clause-ok : goal.returns-in-Ok-clause-ok
returns-in-Ok-clause-ok g c =
    let log = g.H.Host.log in
    let engine = c.args.engine in
    let job = c.args.ready.job in
    let ran = c.run_into-result.result in
    let name = option_map string_bytes c.args.ready.out.name in
    let k = c.keep_out.ensures in
    let at = c.place_of.ensures in
    let closes = ends_at _ engine.program at.0 _ c.args.files.now.overwrite at.2 _ c.args.files.now.output.now (ap (λ b. b.now) at.1) name k.0 c.keep_out.result k.3 k.5 in
    let form = output_form engine.packs engine.program in
    let works = rw c.in-Ok.is at (c.run_into-result.ensures.works c.requires.fresh.0) in
    let done = work_done g.H.In.Feed g.H.Out.Drain ran.out name true k.0 (manner_of engine) (check_in engine c.args.ready.seed.key) (task_of job) (λ w. TakenBy g.H.Out.Drain ran.out ran.output w × MeansBy form ran.meaning w) (DrainFailed g.H.Out.Drain form (task_of job) (map g.H.In.Feed.remaining (feeds_of job)) ran.out)
    (log c.args.host.now) (log c.close_job.new.host) k.1 (feeds_of job) (feeds_of c.run_into-result.new.job) c.in-Ok.report c.requires.fresh.0 c.close_job.ensures k.2 (λ w t. t.0.0) works in
    let hashed = hashed_as engine.digests ran.output done.1.bytes done.4.0.1 c.run_into-result.ensures.hashed in
    let meaning = hashed_as (hashes_meaning form engine.digests) ran.meaning (of_output (manner_of engine) done.1.bytes) done.4.1 (rw c.in-Ok.is at c.run_into-result.ensures.meaning) in
    let rs : List Event = map (λ r. read r) done.0 in
    let all = and_then (log c.args.host.now) k.1 (log c.keep_out.new.host) (rs ++ wrote done.1 ∷ []) k.3 done.2 k.4 ∙ ap (λ es. then_all (log c.args.host.now) es) (append_assoc rs (wrote done.1 ∷ []) k.3) in
    let output = c.args.files.now.output.now in
    IfOk-weaker c.kept.result _ _ (λ d e.
    let ends = ends_kept engine.program c.args.files.now.overwrite output name k.0 c.keep_out.result k.3 closes e.1 in
    rw e.0 (done.0, done.1, k.3, all, record { kept = done.6; whole = done.3 ∙ ends.0; hashed = hashed; meaning_hashed = meaning; work = done.5 }, done.7, subst (λ n. IsKept engine.program c.args.files.now.overwrite output n k.3) (sym done.7) ends.1)) c.kept.ensures.ok

pub returns-in-Ok-clause-err : goal.returns-in-Ok-clause-err
returns-in-Ok-clause-err g c =
    let log = g.H.Host.log in
    let engine = c.args.engine in
    let job = c.args.ready.job in
    let ran = c.run_into-result.result in
    let report = c.in-Ok.report in
    let name = option_map string_bytes c.args.ready.out.name in
    let k = c.keep_out.ensures in
    let at = c.place_of.ensures in
    let closes = ends_at _ engine.program at.0 _ c.args.files.now.overwrite at.2 _ c.args.files.now.output.now (ap (λ b. b.now) at.1) name k.0 c.keep_out.result k.3 k.5 in
    let form = output_form engine.packs engine.program in
    let works = rw c.in-Ok.is at (c.run_into-result.ensures.works c.requires.fresh.0) in
    let done = work_done g.H.In.Feed g.H.Out.Drain ran.out name true k.0 (manner_of engine) (check_in engine c.args.ready.seed.key) (task_of job) (λ w. TakenBy g.H.Out.Drain ran.out ran.output w × MeansBy form ran.meaning w) (DrainFailed g.H.Out.Drain form (task_of job) (map g.H.In.Feed.remaining (feeds_of job)) ran.out)
    (log c.args.host.now) (log c.close_job.new.host) k.1 (feeds_of job) (feeds_of c.run_into-result.new.job) report c.requires.fresh.0 c.close_job.ensures k.2 (λ w t. t.0.0) works in
    let rs : List Event = map (λ r. read r) done.0 in
    let all = and_then (log c.args.host.now) k.1 (log c.keep_out.new.host) (rs ++ wrote done.1 ∷ []) k.3 done.2 k.4 ∙ ap (λ es. then_all (log c.args.host.now) es) (append_assoc rs (wrote done.1 ∷ []) k.3) in
    let last : List Event = wrote done.1 ∷ k.3 in
    IfErr-weaker c.kept.result _ _ (λ how e.
    let lost = ends_told engine.program c.args.files.now.overwrite c.args.files.now.output.now done.1 name k.0 c.keep_out.result k.3 e.0 done.7 done.3 closes e.1 in (
      rs ++ last,
      all,
      rw e.2 (file_stops (manner_of engine) (judging_for (task_of job)) (map g.H.In.Feed.remaining (feeds_of job)) e.0 (rs ++ last) (has_after _ rs last lost)),
      inr (record { before = []; rs = done.0; out = done.1; after = k.3; happened = refl; quiet = (tt, ends_quiet engine.program c.args.files.now.overwrite c.args.files.now.output.now name k.0 c.keep_out.result k.3 closes); by = check_in engine c.args.ready.seed.key; counts = report.counts; digest = report.input; raw = report.raw; work = done.5 }),
      silent_little engine.digests (rs ++ last) (each_both Silent rs last (returned_silent (λ w. Unit {0}) rs (reads_return (λ w. Unit {0}) done.0)) (tt, ends_silent engine.program c.args.files.now.overwrite c.args.files.now.output.now name k.0 c.keep_out.result k.3 closes)),
    )) c.kept.ensures.err

pub returns-in-Err-clause-err : goal.returns-in-Err-clause-err
returns-in-Err-clause-err g c =
    let log = g.H.Host.log in
    let taken = g.H.Out.Drain.taken in
    let engine = c.args.engine in
    let job = c.args.ready.job in
    let ran = c.run_into-result.result in
    let m = manner_of engine in
    let has = map g.H.In.Feed.remaining (feeds_of job) in
    let name = option_map string_bytes c.args.ready.out.name in
    let form = output_form engine.packs engine.program in
    let took : List ℕ → Type 0 = λ w. TakenBy g.H.Out.Drain ran.out ran.output w × MeansBy form ran.meaning w in
    let failed : Type 0 = 0 < g.H.Out.Drain.failures ran.out in
    let near : Type 0 = IfSome (taken ran.out) IsNearLimit in
    let gone = c.drop_out.ensures in
    let works = rw c.in-Err.is at (c.run_into-result.ensures.works c.requires.fresh.0) in
    let front = rw c.in-Err.is at c.run_into-result.ensures.front in
    let known = taken ran.out in
    let tail = ends_with_out g.H.Out.Drain ran.out name false gone.0 took failed near (log c.close_job.new.host) gone.1 (λ w t. t.0.0) (λ risen. risen) (λ full. full) gone.2 in
    let fail = work_fails engine.program engine.packs engine.digests (check_in engine c.args.ready.seed.key) g.H.In.Feed (task_of job) took failed near (IsReturned known false)
    (log c.args.host.now) (log c.close_job.new.host) gone.1 (feeds_of job) (feeds_of c.run_into-result.new.job) c.in-Err.halted tail c.requires.fresh.0 c.close_job.ensures works in
    let quiet = dropped_quiet engine.program name gone.3 gone.5 in
    let dropped = and_then (log c.args.host.now) gone.1 (log c.drop_out.new.host) fail.0 gone.3 fail.1 gone.4 in
    let fails = fails_before m (judging_for (task_of job)) has c.in-Err.halted.ending fail.0 gone.3 quiet fail.2 in
    let told = told_fails m (judging_for (task_of job)) has c.in-Err.halted.ending c.tell_refusal.result (log c.args.host.now) (log c.drop_out.new.host) (log c.tell_refusal.new.host) (fail.0 ++ gone.3) dropped fails c.tell_refusal.ensures in (
      told.0,
      told.1,
      told.2,
      stops_leaving m (task_of job) has known told.0
          (told.4 IsUnkept quiet_unkept (each_both IsUnkept fail.0 gone.3 (returned_unkept known fail.0 fail.3) (each_quiet IsUnkept quiet_unkept gone.3 quiet)))
          (λ answer x. told.4 (TookFront answer) (quiet_front answer) (each_both _ fail.0 gone.3 (returned_front known false answer x fail.0 fail.3) (each_quiet _ (quiet_front answer) gone.3 quiet))) front,
      told.3 (each_both Silent fail.0 gone.3 (returned_silent (IsReturned known false) fail.0 fail.3) (dropped_silent engine.program name gone.3 gone.5)),
    )

pub returns-in-Ok-clause-files : goal.returns-in-Ok-clause-files
returns-in-Ok-clause-files g c =
    let log = g.H.Host.log in
    let program = c.args.engine.program in
    let files = c.args.files.now in
    let out = c.run_into-result.result.out in
    let name = option_map string_bytes c.args.ready.out.name in
    let k = c.keep_out.ensures in
    let at = c.place_of.ensures in
    let rest = close_rest g.H.In.Feed (feeds_of c.run_into-result.new.job) (log c.args.host.now) (log c.close_job.new.host) c.close_job.ensures in
    let rs : List Event = map (λ r. read r) rest.0 in
    let w : Writing = record { name = name; bytes = k.2.0.0; reports = is_some (g.H.Out.Drain.taken out); failures = g.H.Out.Drain.failures out; kept = true; fault = k.0 } in
    let closed = and_then (log c.args.host.now) (log c.close_job.new.host) k.1 rs (wrote w ∷ []) rest.1 k.2.0.2 in
    let ended = and_then (log c.args.host.now) k.1 (log c.keep_out.new.host) (rs ++ wrote w ∷ []) k.3 closed k.4 ∙ ap (λ es. then_all (log c.args.host.now) es) (append_assoc rs (wrote w ∷ []) k.3) in
    let closes = ends_at _ program at.0 _ files.overwrite at.2 _ files.output.now (ap (λ b. b.now) at.1) name k.0 c.keep_out.result k.3 k.5 in
    (rest.0, w, k.3, [], and_then (log c.args.host.now) _ _ (rs ++ wrote w ∷ k.3) [] ended (then_none (log c.keep_out.new.host)), tt, refl, is_ended program files w c.keep_out.result k.3 refl closes)

pub returns-in-Err-clause-files : goal.returns-in-Err-clause-files
returns-in-Err-clause-files g c =
    let log = g.H.Host.log in
    let out = c.run_into-result.result.out in
    let name = option_map string_bytes c.args.ready.out.name in
    let gone = c.drop_out.ensures in
    let told = c.tell_refusal.ensures in
    let rest = close_rest g.H.In.Feed (feeds_of c.run_into-result.new.job) (log c.args.host.now) (log c.close_job.new.host) c.close_job.ensures in
    let rs : List Event = map (λ r. read r) rest.0 in
    let w : Writing = record { name = name; bytes = gone.2.0.0; reports = is_some (g.H.Out.Drain.taken out); failures = g.H.Out.Drain.failures out; kept = false; fault = gone.0 } in
    let closed = and_then (log c.args.host.now) (log c.close_job.new.host) gone.1 rs (wrote w ∷ []) rest.1 gone.2.0.2 in
    let ended = and_then (log c.args.host.now) gone.1 (log c.drop_out.new.host) (rs ++ wrote w ∷ []) gone.3 closed gone.4 ∙ ap (λ es. then_all (log c.args.host.now) es) (append_assoc rs (wrote w ∷ []) gone.3) in
    (rest.0, w, gone.3, told.events, and_then (log c.args.host.now) _ _ (rs ++ wrote w ∷ gone.3) told.events ended told.log, refusal_still c.args.engine.digests told.events told.tells, refl, inr gone.5)
