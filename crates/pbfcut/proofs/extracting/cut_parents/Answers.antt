use Rattle.std.proofs.Common.{rules, [], ◌∷◌, List, ℕ, Some, None, refl, ap, ◌∙◌}
use Rattle.std.proofs.lemmas.Result.{IfOk-weaker, on_err_weaker, err_from_is_err_and}
use Rattle.pbf_header.specs.Header.{header_of}
use Rattle.osm_ways.specs.Selection.{all_parents}
use Rattle.pbf_frame.specs.Frames.{FrameSpec}
use Rattle.pbf_frame.specs.Verdict.{Says}
use Rattle.pbf_pass.specs.declared.receipt.Passes.{Passes}
use Rattle.pbf_pass.specs.Hashing.{mark_by}
use Rattle.pbf_pass.specs.HeaderLimit.{judged_writable}
use Rattle.pbf_pass.specs.Judged.{judged_file}
use Rattle.pbf_pass.proofs.GivenLemmas.{tells_file}
use Rattle.pbfcut.specs.Calls.{drained, fed}
use Rattle.pbfcut.proofs.ConvertingLemmas.{nothing_out}
use Rattle.pbfcut.proofs.ChosenLemmas.{wrote_front, parents_receipt}
use Rattle.pbfcut.proofs.ExtractingLemmas.{selects_parents}
use Rattle.pbfcut.proofs.LaterLemmas.{choosing_ends, writing_ends}
use Rattle.pbfcut.proofs.TheoremLemmas.{gave_or_not, told_or_not}
use Rattle.pbfcut.proofs.extracting.cut_parents.Goals as goal

pub returns-in_err-choice-clause-extracts : goal.returns-in_err-choice-clause-extracts
returns-in_err-choice-clause-extracts g c =
    let p = err_from_is_err_and c.from_residual.result c.from_residual.ensures.1 in
    rw (p.1, p.2) (record {
      receipt = tt;
      ends = choosing_ends judged_writable _ (_ ∷ _ ∷ []) (fed g.I.Feed c.args.fourth.now c.args.fourth.now) c.args.passes.check _ c.in_err-choice.ensures.ends.halts g.D.Drain c.args.drain.now _ refl (search rules) (search rules);
      beginning = λ b supply. nothing_out _ _;
    })

pub returns-clause-extracts : goal.returns-clause-extracts
returns-clause-extracts g c =
    let one = c.in_ok-choice.ensures.chosen in
    let is = c.in_ok-choice.ensures.ends.next in
    let choice = c.in_ok-choice.choice in
    let first = fed g.F.Feed c.args.first.now c.choose_parents.new.first in
    let second = fed g.G.Feed c.args.second.now c.choose_parents.new.second in
    let third = fed g.H.Feed c.args.third.now c.choose_parents.new.third in
    let fourth = fed g.I.Feed c.args.fourth.now c.write.new.feed in
    let out = drained g.D.Drain c.args.drain.now c.write.new.drain in
    let area = g.A.Area.area c.args.area in
    let h = header_of choice.header in
    let judged = λ (l : List ℕ). judged_file (Some l) in
    let said : (frames : List FrameSpec) × Says (judged_file (Some one.file)) (frames, None) =
    gave_or_not second _ choice.spared one.file _ _ (λ file three. gave_or_not third _ choice.spared one.file _ _ (λ more chosen. (chosen.chosen.chosen.frames, chosen.chosen.chosen.judged)) three) one.holding in
    record {
      receipt = parents_receipt first second fourth out area c.args.passes choice.next is.1 _ _ _ c.write.result c.write.ensures third one;
      ends = writing_ends first _ _ one said.0 said.1 (second ∷ third ∷ []) fourth choice.next is.0 (ap (λ (p : Passes). mark_by p.check choice.next.digest) is.1) out choice.chosen h choice.spared c.write.result c.write.ensures judged_writable c.args.passes.check c.in_ok-choice.ensures.ends.feeds;
      beginning = on_err_weaker c.write.result (λ front b supply.
          let tells = tells_file g.F.Feed _ _ _ _ one in
          let three = told_or_not second _ choice.spared _ one.file b _ tells supply.0 supply.1.0 one.holding in
          let chosen = told_or_not third _ choice.spared _ one.file b _ tells supply.0 supply.1.1.0 three in
          front b supply.1.1.1.0 (selects_parents choice.chosen area b _ _ _ h (ap judged (tells b supply.0)) refl refl chosen.chosen)) (wrote_front fourth out all_parents area choice.next choice.chosen h _ c.write.result c.write.ensures);
    }

pub returns-clause-spared : goal.returns-clause-spared
returns-clause-spared g c = IfOk-weaker c.write.result _ _ (λ receipt input never. input.1 ∙ c.in_ok-choice.ensures.spared never) c.write.ensures.input
