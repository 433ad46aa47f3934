use Rattle.std.proofs.Common.{◌≡◌, length, arith, refl}
use Rattle.osm_ways.specs.Selection.{all_parents}
use Rattle.pbfcut.specs.Calls.{drained}
use Rattle.pbfcut.specs.TaskCalls.{DoesTask}
use Rattle.pbfcut.specs.Tasks.{extracting}
use Rattle.pbfcut.proofs.TaskLemmas.{does_four, four_used}
use Rattle.pbfcut.proofs.extraction.AllParentsFileTask.run.Goals as goal

pub returns : goal.returns
returns g c =
    let one = c.split_at_mut-one in
    let two = c.split_at_mut-two in
    let three = c.split_at_mut-three in
    let call = c.extract_parents_sorted_with_receipt in
    let area = g.A.Area.area c.args.self.area in
    let out = drained g.D.Drain c.args.drain.now call.new.drain in
    let n : length c.args.feeds.now ≡ 4 = c.requires in
    let last : length three.result.1.now ≡ 1 = omega (arith, one.ensures.back_len, two.ensures.back_len, three.ensures.back_len, n) in
    four_used g.F.Feed (λ feeds. DoesTask (extracting all_parents area) feeds out c.args.passes.check call.result) c.args.feeds.now one.result.0.now one.result.1.now two.result.0.now two.result.1.now three.result.0.now three.result.1.now
    c.index-one-0.result c.index-two-0.result c.index-three-0.result c.index-four-0.result call.new.first call.new.second call.new.third call.new.fourth one.ensures.value two.ensures.value three.ensures.value one.ensures.front_len two.ensures.front_len three.ensures.front_len last
    (does_four out c.args.passes.check all_parents area refl _ _ _ _ call.result call.ensures)
