use Rattle.std.proofs.Common.{[], ◌∷◌, arith, refl, subst}
use Rattle.std.specs.List.{AllZip}
use Rattle.osm_ways.specs.Selection.{complete_ways}
use Rattle.pbf_pass.specs.Hashing.{mark_by}
use Rattle.pbfcut.specs.Calls.{GaveBy, GaveOrNot, fed}
use Rattle.pbfcut.specs.ChoosingEach.{ChoseWays}
use Rattle.pbfcut.proofs.EachReceiptLemmas.{all_short, extract_one, extracts_each, gave_each, halts_each, same_length}
use Rattle.pbfcut.proofs.LaterLemmas.{keeps_more}
use Rattle.pbfcut.proofs.extracting_each.extract_each.Goals as goal

pub returns-in-Err : goal.returns-in-Err
returns-in-Err g c =
    let first = fed g.F.Feed c.args.first.now c.choose_each.new.first in
    let second = fed g.G.Feed c.args.second.now c.choose_each.new.second in
    let third = fed g.H.Feed c.args.third.now c.args.third.now in
    halts_each complete_ways g.A.Area.area first (second ∷ []) third g.D.Drain c.args.passes.check c.args.outputs.items c.in-Err.halt c.in-Err.ensures.halts (keeps_more (first ∷ second ∷ []) third c.choose_each.ensures.feeds (record { counts = omega arith; lender = refl })) _ refl

pub write_chosen-requires-clause-same : goal.write_chosen-requires-clause-same
write_chosen-requires-clause-same g c =
    let choice = c.in-Ok.choice in
    let first = fed g.F.Feed c.args.first.now c.choose_each.new.first in
    let second = fed g.G.Feed c.args.second.now c.choose_each.new.second in
    let digest = mark_by c.args.passes.check choice.next.digest in
    same_length first second choice.spared digest (ChoseWays g.A.Area.area) c.args.outputs.items choice.choices.items
    (subst (λ l. GaveBy first digest (λ b. GaveOrNot second choice.spared digest b (λ e. AllZip (ChoseWays g.A.Area.area b e) l choice.choices.items))) c.deref.ensures.value c.in-Ok.ensures.chosen)

pub write_chosen-requires-clause-short : goal.write_chosen-requires-clause-short
write_chosen-requires-clause-short g c =
    let choice = c.in-Ok.choice in
    let first = fed g.F.Feed c.args.first.now c.choose_each.new.first in
    let second = fed g.G.Feed c.args.second.now c.choose_each.new.second in
    all_short g.A.Area.area first second choice.spared (mark_by c.args.passes.check choice.next.digest) c.deref.result.now choice.choices.items c.in-Ok.ensures.chosen

pub returns : goal.returns
returns g c =
    let choice = c.in-Ok.choice in
    let first = fed g.F.Feed c.args.first.now c.choose_each.new.first in
    let second = fed g.G.Feed c.args.second.now c.choose_each.new.second in
    let third = fed g.H.Feed c.args.third.now c.write_chosen.new.feed in
    let digest = mark_by c.args.passes.check choice.next.digest in
    let next = c.in-Ok.ensures.next in
    let area = g.A.Area.area in
    let olds = c.args.outputs.items in
    let chosen = subst (λ l. GaveBy first digest (λ b. GaveOrNot second choice.spared digest b (λ e. AllZip (ChoseWays area b e) l choice.choices.items))) c.deref.ensures.value c.in-Ok.ensures.chosen in
    extracts_each complete_ways area first (second ∷ []) third g.D.Drain c.args.passes.check choice.next choice.spared c.choose_each.ensures.feeds _ (extract_one area first second third g.D.Drain c.args.passes choice.next next.1 next.0 choice.spared c.choose_each.ensures.feeds) choice.choices.items olds c.write_chosen.result.0.items (gave_each first second choice.spared digest (ChoseWays area) olds choice.choices.items chosen) c.write_chosen.result.1 c.write_chosen.ensures.receipt c.write_chosen.ensures.writes
