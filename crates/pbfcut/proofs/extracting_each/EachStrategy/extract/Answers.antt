use Rattle.std.proofs.Common.{◌≡◌, ◌+◌, length, arith, subst}
use Rattle.osm_ways.specs.Selection.{all_parents, complete_ways}
use Rattle.pbfcut.specs.EachReceipts.{ExtractsAreas, each_strategy}
use Rattle.pbfcut.specs.Tasks.{spares_by}
use Rattle.pbfcut.proofs.TaskLemmas.{four_used, three_used}
use Rattle.pbfcut.proofs.extracting_each.EachStrategy.extract.Goals as goal

pub returns-in-CompleteWays : goal.returns-in-CompleteWays
returns-in-CompleteWays g c =
    let one = c.split_at_mut-one in
    let two = c.split_at_mut-two in
    let call = c.extract_each in
    let n : length c.args.feeds.now ≡ 3 = subst (λ s. length c.args.feeds.now ≡ spares_by (each_strategy s) + 2) c.in-CompleteWays.is c.requires in
    let last : length two.result.1.now ≡ 1 = omega (arith, one.ensures.back_len, two.ensures.back_len, n) in
    rw c.in-CompleteWays.is (three_used g.F.Feed (λ feeds. ExtractsAreas complete_ways g.A.Area.area feeds g.D.Drain c.args.passes.check c.args.outputs.items call.result.0.items call.result.1) c.args.feeds.now one.result.0.now one.result.1.now two.result.0.now two.result.1.now
    c.index-one-0.result c.index-two-0.result c.index-rest-0.result call.new.first call.new.second call.new.third one.ensures.value two.ensures.value one.ensures.front_len two.ensures.front_len last call.ensures)

pub returns-in-AllParents : goal.returns-in-AllParents
returns-in-AllParents g c =
    let one = c.split_at_mut-one in
    let two = c.split_at_mut-two in
    let three = c.split_at_mut-three in
    let call = c.extract_parents_each in
    let n : length c.args.feeds.now ≡ 4 = subst (λ s. length c.args.feeds.now ≡ spares_by (each_strategy s) + 2) c.in-AllParents.is c.requires in
    let last : length three.result.1.now ≡ 1 = omega (arith, one.ensures.back_len, two.ensures.back_len, three.ensures.back_len, n) in
    rw c.in-AllParents.is (four_used g.F.Feed (λ feeds. ExtractsAreas all_parents g.A.Area.area feeds g.D.Drain c.args.passes.check c.args.outputs.items call.result.0.items call.result.1) c.args.feeds.now one.result.0.now one.result.1.now two.result.0.now two.result.1.now
    three.result.0.now three.result.1.now c.index-one-0.result c.index-two-0.result c.index-three-0.result c.index-four-0.result call.new.first call.new.second call.new.third call.new.fourth
    one.ensures.value two.ensures.value three.ensures.value one.ensures.front_len two.ensures.front_len three.ensures.front_len last call.ensures)
