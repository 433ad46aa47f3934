use Rattle.std.proofs.Common.{◌≡◌, ◌∙◌, ap, arith, length, map, rules, subst, sym}
use Rattle.pbf_pass.proofs.EachLemmas.{all_back}
use Rattle.pbfcut.specs.Calls.{used}
use Rattle.pbfcut.specs.EachReceipts.{ExtractsAreas, each_strategy}
use Rattle.pbf_published.specs.PublishedEach.{DoesPublishedEach}
use Rattle.pbf_published.specs.PublishedTasks.{AreOpened, below_of}
use Rattle.pbf_published.proofs.TaskLemmas.{published}
use Rattle.pbfcut_program.specs.Manner.{check_in, manner_of}
use Rattle.pbfcut_program.specs.Several.{RunsEach}
use Rattle.pbfcut_program.proofs.Beginning.{length_has}
use Rattle.pbfcut_program.proofs.SeveralRuns.{runs_each_published, runs_each_raw}
use Rattle.pbfcut_program.proofs.several.run_task_each.Goals as goal

pub returns-in-Raw : goal.returns-in-Raw
returns-in-Raw g c =
    let engine = c.args.engine in
    let key = c.args.seed.key in
    let by = each_strategy c.args.strategy in
    let check = c.many_passes-how.result.check in
    let befores = c.args.outputs.items in
    let afters = c.extract-outputs.result.0.items in
    let olds = c.in-Raw.feeds.items in
    let news = c.extract-outputs.new.feeds in
    let same : c.deref_mut.result.now ≡ olds = search rules in
    let many : length news ≡ length olds = c.extract-outputs.auto.feeds ∙ ap (λ l. length l) same in
    let cut = subst (λ l. ExtractsAreas by g.A.Area.area (used g.F.Feed l news) g.D.Drain check befores afters c.extract-outputs.result.1) same c.extract-outputs.ensures in
    let back = all_back c.in-Raw.feeds.len olds news (omega (arith, c.in-Raw.feeds.ok.0)) many in
    rw c.in-Raw.is (subst (λ l. RunsEach (manner_of engine) (check_in engine key) by g.A.Area.area g.F.Feed g.D.Drain olds l befores afters c.reported_each.result) (sym back)
    (runs_each_raw g.F.Feed g.D.Drain engine key check c.many_passes-how.ensures olds news many c.args.strategy g.A.Area.area (rw c.in-Raw.is at c.requires.count) befores afters
    c.extract-outputs.result.1 c.reported_each.result (rw c.in-Raw.is at c.requires.ready) cut c.reported_each.ensures))

pub returns-in-Published : goal.returns-in-Published
returns-in-Published g c =
    let engine = c.args.engine in
    let key = c.args.seed.key in
    let by = each_strategy c.args.strategy in
    let call = c.run_published_each-outputs in
    let check = c.many_passes-how.result.check in
    let befores = c.args.outputs.items in
    let afters = call.result.0.items in
    let olds = c.in-Published.feeds.items in
    let news = call.new.feeds in
    let same : c.deref_mut-in-Published.result.now ≡ olds = search rules in
    let long : length news ≡ length olds = call.auto.feeds ∙ ap (λ l. length l) same in
    let many = length_has below_of news ∙ long ∙ sym (length_has below_of olds) in
    let does = subst (λ l. DoesPublishedEach by g.A.Area.area (used g.F.Feed (map below_of l) (map below_of news)) g.D.Drain check befores afters call.result.1) same call.ensures in
    let back = all_back c.in-Published.feeds.len olds news (omega (arith, c.in-Published.feeds.ok.0)) long in
    rw c.in-Published.is (subst (λ l. RunsEach (manner_of engine) (check_in engine key) by g.A.Area.area g.F.Feed g.D.Drain (map below_of olds) (map below_of l) befores afters c.published_each.result) (sym back)
    (runs_each_published g.F.Feed g.D.Drain engine key check c.many_passes-how.ensures (map below_of olds) (map below_of news) many c.args.strategy g.A.Area.area (rw c.in-Published.is at c.requires.count) befores afters
    call.result.1 c.published_each.result (rw c.in-Published.is at c.requires.ready).0 does c.published_each.ensures))

pub run_published_each-outputs-requires-clause-opened : goal.run_published_each-outputs-requires-clause-opened
run_published_each-outputs-requires-clause-opened g c =
    let same : c.deref_mut-in-Published.result.now ≡ c.in-Published.feeds.items = search rules in
    subst (λ by. AreOpened g.F.Feed (published g.F.Feed) below_of by c.deref_mut-in-Published.result.now) (sym c.many_passes-how.ensures) (subst (λ l. AreOpened g.F.Feed (published g.F.Feed) below_of (check_in c.args.engine c.args.seed.key) l) (sym same) (rw c.in-Published.is at c.requires.ready).1)
