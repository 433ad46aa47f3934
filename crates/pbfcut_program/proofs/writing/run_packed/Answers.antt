use Rattle.std.proofs.Common.{map}
use Rattle.pbf_frame.specs.Devices.{HasRisen}
use Rattle.pbf_unpack.specs.Packing.{failures_of_drain, taken_raw}
use Rattle.pbfcut_cli.specs.declared.programs.Program.TheVariants.{Pbfcutz}
use Rattle.pbfcut_program.specs.Manner.{check_by, input_form, meant, packed_file}
use Rattle.pbfcut_program.specs.Jobs.{feeds_of, task_of}
use Rattle.pbfcut.specs.Tasks.{answer_of}
use Rattle.pbfcut_program.proofs.EventLemmas.{has_risen}
use Rattle.pbfcut_program.proofs.LeavingLemmas.{fresh_front, packed_leads}
use Rattle.pbfcut_program.proofs.Weaker.{works_packed}
use Rattle.pbfcut_program.proofs.writing.run_packed.Goals as goal

pub returns-clause-works : goal.returns-clause-works
returns-clause-works g c = rw c.requires.packs.0 (λ fresh start.
    let begun = c.new-packed.ensures.logged 0 start in
    let ran = c.run_raw_into-ran.result in
    let works = rw c.requires.packs.0 at (c.run_raw_into-ran.ensures.works fresh begun) in
    let front = rw c.requires.packs.0 at c.run_raw_into-ran.ensures.front in
    let whole = rw c.requires.packs.0 at c.run_raw_into-ran.ensures.whole in
    rw c.into_inner.ensures.drain (works_packed ran.out c.finish-result.new.drain (task_of c.args.job.now) (map g.F.Feed.remaining (feeds_of c.args.job.now)) (taken_raw c.new-packed.result) (rw c.new-packed.ensures.taken c.requires.fresh) c.finish-result.ensures.taken
    (HasRisen (failures_of_drain c.new-packed.result) (failures_of_drain ran.out)) (λ risen. has_risen _ _ risen)
    c.args.engine.digests (check_by c.args.engine.digests Pbfcutz c.args.seed.key) g.F.Feed ran.output (feeds_of c.args.job.now) (feeds_of c.run_raw_into-ran.new.job) c.args.engine.packs ran.result c.finish-result.result c.requires.packs.1 c.finish-result.ensures.ends front whole works))

pub returns-clause-front : goal.returns-clause-front
returns-clause-front g c =
    let ran = c.run_raw_into-ran in
    let has = map g.F.Feed.remaining (feeds_of c.args.job.now) in
    let front = rw c.requires.packs.0 at ran.ensures.front in
    let whole = rw c.requires.packs.0 at ran.ensures.whole in
    rw (c.requires.packs.0, c.into_inner.ensures.drain) (packed_leads (task_of c.args.job.now) has ran.result.out c.finish-result.new.drain (taken_raw c.new-packed.result) ran.result.result c.finish-result.result (rw c.new-packed.ensures.taken c.requires.fresh) c.finish-result.ensures.taken c.finish-result.ensures.ends front whole)

pub returns-in_default-clause-front : goal.returns-in_default-clause-front
returns-in_default-clause-front g c = λ bytes all. fresh_front (g.D.Drain.taken c.args.out) (packed_file, answer_of (task_of c.args.job.now) (meant (input_form c.args.engine.program) bytes)) c.requires.fresh
