use Rattle.std.proofs.Common.{rules, [], ◌∷◌, refl}
use Rattle.std.proofs.lemmas.Result.{err_from_is_err_and}
use Rattle.pbf_header.specs.Header.{header_of}
use Rattle.osm_ways.specs.Whole.{is_wanted}
use Rattle.pbf_pass.specs.SortedFile.{judged_sorted}
use Rattle.pbfcut.specs.Calls.{drained, fed}
use Rattle.pbfcut.proofs.ConvertingLemmas.{nothing_out}
use Rattle.pbfcut.proofs.ChosenLemmas.{smart_extracts}
use Rattle.pbfcut.proofs.LaterLemmas.{choosing_ends}
use Rattle.pbfcut.proofs.smart.extract_smart_with_receipt.Goals as goal

pub returns-in_err-choice : goal.returns-in_err-choice
returns-in_err-choice g c =
    let p = err_from_is_err_and c.from_residual.result c.from_residual.ensures.1 in
    rw (p.1, p.2) (record {
      receipt = tt;
      ends = choosing_ends judged_sorted _ (_ ∷ []) (fed g.H.Feed c.args.third.now c.args.third.now) c.args.passes.check _ c.in_err-choice.ensures.ends.halts g.D.Drain c.args.drain.now _ refl (search rules) (search rules);
      beginning = λ b supply. nothing_out _ _;
    })

pub returns : goal.returns
returns g c =
    let first = fed g.F.Feed c.args.first.now c.choose_members.new.first in
    let second = fed g.G.Feed c.args.second.now c.choose_members.new.second in
    let third = fed g.H.Feed c.args.third.now c.write.new.feed in
    let out = drained g.D.Drain c.args.drain.now c.write.new.drain in
    let choice = c.in_ok-choice.choice in
    let is = c.in_ok-choice.ensures.ends.next in
    smart_extracts first second third out (is_wanted c.args.types) (g.A.Area.area c.args.area) c.args.passes choice.next is.1 choice.chosen (header_of choice.header) choice.spared c.write.result c.write.ensures c.in_ok-choice.ensures.chosen is.0 c.in_ok-choice.ensures.ends.feeds
