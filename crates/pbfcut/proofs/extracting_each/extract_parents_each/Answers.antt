use Rattle.std.proofs.Common.{[], ◌∷◌, arith, refl, subst}
use Rattle.std.specs.List.{AllZip}
use Rattle.osm_ways.specs.Selection.{all_parents}
use Rattle.pbf_pass.specs.Hashing.{mark_by}
use Rattle.pbfcut.specs.Calls.{GaveBy, GaveOrNot, fed}
use Rattle.pbfcut.specs.ChoosingEach.{ChoseParents}
use Rattle.pbfcut.proofs.EachReceiptLemmas.{extracts_each, gave_parents_each, halts_each, parents_lengths, parents_one, parents_short}
use Rattle.pbfcut.proofs.LaterLemmas.{keeps_more}
use Rattle.pbfcut.proofs.extracting_each.extract_parents_each.Goals as goal

pub returns-in-Err : goal.returns-in-Err
returns-in-Err g c =
    let first = fed g.F.Feed c.args.first.now c.choose_parents_each.new.first in
    let second = fed g.G.Feed c.args.second.now c.choose_parents_each.new.second in
    let third = fed g.H.Feed c.args.third.now c.choose_parents_each.new.third in
    let fourth = fed g.I.Feed c.args.fourth.now c.args.fourth.now in
    halts_each all_parents g.A.Area.area first (second ∷ third ∷ []) fourth g.D.Drain c.args.passes.check c.args.outputs.items c.in-Err.halt c.in-Err.ensures.halts (keeps_more (first ∷ second ∷ third ∷ []) fourth c.choose_parents_each.ensures.feeds (record { counts = omega arith; lender = refl })) _ refl

pub write_chosen-requires-clause-same : goal.write_chosen-requires-clause-same
write_chosen-requires-clause-same g c =
    let choice = c.in-Ok.choice in
    let first = fed g.F.Feed c.args.first.now c.choose_parents_each.new.first in
    let second = fed g.G.Feed c.args.second.now c.choose_parents_each.new.second in
    let third = fed g.H.Feed c.args.third.now c.choose_parents_each.new.third in
    let digest = mark_by c.args.passes.check choice.next.digest in
    parents_lengths g.A.Area.area first second third choice.spared digest c.args.outputs.items choice.choices.items
    (subst (λ l. GaveBy first digest (λ b. GaveOrNot second choice.spared digest b (λ n. GaveOrNot third choice.spared digest b (λ e. AllZip (ChoseParents g.A.Area.area b n e) l choice.choices.items)))) c.deref.ensures.value c.in-Ok.ensures.chosen)

pub write_chosen-requires-clause-short : goal.write_chosen-requires-clause-short
write_chosen-requires-clause-short g c =
    let choice = c.in-Ok.choice in
    let first = fed g.F.Feed c.args.first.now c.choose_parents_each.new.first in
    let second = fed g.G.Feed c.args.second.now c.choose_parents_each.new.second in
    let third = fed g.H.Feed c.args.third.now c.choose_parents_each.new.third in
    parents_short g.A.Area.area first second third choice.spared (mark_by c.args.passes.check choice.next.digest) c.deref.result.now choice.choices.items c.in-Ok.ensures.chosen

pub returns : goal.returns
returns g c =
    let choice = c.in-Ok.choice in
    let first = fed g.F.Feed c.args.first.now c.choose_parents_each.new.first in
    let second = fed g.G.Feed c.args.second.now c.choose_parents_each.new.second in
    let third = fed g.H.Feed c.args.third.now c.choose_parents_each.new.third in
    let fourth = fed g.I.Feed c.args.fourth.now c.write_chosen.new.feed in
    let digest = mark_by c.args.passes.check choice.next.digest in
    let next = c.in-Ok.ensures.next in
    let area = g.A.Area.area in
    let olds = c.args.outputs.items in
    let feeds = c.choose_parents_each.ensures.feeds in
    let chosen = subst (λ l. GaveBy first digest (λ b. GaveOrNot second choice.spared digest b (λ n. GaveOrNot third choice.spared digest b (λ e. AllZip (ChoseParents area b n e) l choice.choices.items)))) c.deref.ensures.value c.in-Ok.ensures.chosen in
    extracts_each all_parents area first (second ∷ third ∷ []) fourth g.D.Drain c.args.passes.check choice.next choice.spared feeds _ (parents_one area first second third fourth g.D.Drain c.args.passes choice.next next.1 next.0 choice.spared feeds) choice.choices.items olds c.write_chosen.result.0.items
    (gave_parents_each first second third choice.spared digest (ChoseParents area) olds choice.choices.items chosen) c.write_chosen.result.1 c.write_chosen.ensures.receipt c.write_chosen.ensures.writes
