use Rattle.std.proofs.Common.{◌≡◌, ◌∙◌, ap, arith, length, map, rules, subst, sym}
use Rattle.pbf_pass.proofs.EachLemmas.{all_back}
use Rattle.pbfcut.specs.Calls.{drained, used}
use Rattle.pbfcut.specs.TaskCalls.{DoesTask}
use Rattle.pbf_published.specs.PublishedTasks.{AreOpened, DoesPublished, below_of}
use Rattle.pbf_published.proofs.TaskLemmas.{published}
use Rattle.pbfcut_program.specs.Devices.{RunsTask}
use Rattle.pbfcut_program.specs.Manner.{check_in, manner_of}
use Rattle.pbfcut_program.proofs.Beginning.{length_has}
use Rattle.pbfcut_program.proofs.TaskRuns.{runs_published, runs_raw}
use Rattle.pbfcut_program.proofs.engine.run_task.Goals as goal

pub returns-in-Raw : goal.returns-in-Raw
returns-in-Raw g c =
    let engine = c.args.engine in
    let key = c.args.seed.key in
    let task = g.T.FileTask.task c.args.task in
    let out = drained g.D.Drain c.args.drain.now c.run.new.drain in
    let olds = c.in-Raw.feeds.items in
    let news = c.run.new.feeds in
    let same : c.deref_mut.result.now ≡ olds = search rules in
    let many : length news ≡ length olds = c.run.auto.feeds ∙ ap (λ l. length l) same in
    let does = subst (λ l. DoesTask task (used g.F.Feed l news) out c.many_passes-how.result.check c.run.result) same c.run.ensures in
    let back = all_back c.in-Raw.feeds.len olds news (omega (arith, c.in-Raw.feeds.ok.0)) many in
    rw c.in-Raw.is (subst (λ l. RunsTask (manner_of engine) (check_in engine key) g.F.Feed g.D.Drain task olds l c.args.drain.now c.run.new.drain c.reported.result) (sym back)
    (runs_raw g.F.Feed g.D.Drain engine key c.many_passes-how.result.check c.many_passes-how.ensures task olds news many c.args.drain.now c.run.new.drain c.reported.result
    c.run.result (rw c.in-Raw.is at c.requires.ready) does c.reported.ensures))

pub returns-in-Published : goal.returns-in-Published
returns-in-Published g c =
    let engine = c.args.engine in
    let key = c.args.seed.key in
    let task = g.T.FileTask.task c.args.task in
    let out = drained g.D.Drain c.args.drain.now c.run_published.new.drain in
    let olds = c.in-Published.feeds.items in
    let news = c.run_published.new.feeds in
    let same : c.deref_mut-in-Published.result.now ≡ olds = search rules in
    let count : length news ≡ length olds = c.run_published.auto.feeds ∙ ap (λ l. length l) same in
    let many = length_has below_of news ∙ count ∙ sym (length_has below_of olds) in
    let does = subst (λ l. DoesPublished task (used g.F.Feed (map below_of l) (map below_of news)) out c.many_passes-how.result.check c.run_published.result) same c.run_published.ensures in
    let back = all_back c.in-Published.feeds.len olds news (omega (arith, c.in-Published.feeds.ok.0)) count in
    rw c.in-Published.is (subst (λ l. RunsTask (manner_of engine) (check_in engine key) g.F.Feed g.D.Drain task (map below_of olds) (map below_of l) c.args.drain.now c.run_published.new.drain c.published.result) (sym back)
    (runs_published g.F.Feed g.D.Drain engine key c.many_passes-how.result.check c.many_passes-how.ensures task (map below_of olds) (map below_of news) many c.args.drain.now c.run_published.new.drain c.published.result
    c.run_published.result (rw c.in-Published.is at c.requires.ready).0 does c.published.ensures))

pub run_published-requires-clause-opened : goal.run_published-requires-clause-opened
run_published-requires-clause-opened g c =
    let same : c.deref_mut-in-Published.result.now ≡ c.in-Published.feeds.items = search rules in
    subst (λ by. AreOpened g.F.Feed (published g.F.Feed) below_of by c.deref_mut-in-Published.result.now) (sym c.many_passes-how.ensures) (subst (λ l. AreOpened g.F.Feed (published g.F.Feed) below_of (check_in c.args.engine c.args.seed.key) l) (sym same) (rw c.in-Published.is at c.requires.ready).1)
