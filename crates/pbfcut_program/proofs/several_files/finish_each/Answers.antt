use Rattle.std.proofs.Common.{◌∙◌, [], ◌∷◌, arith, length-append, refl, subst}
use Rattle.std.proofs.lemmas.Iterator.{YieldsList-from_slice, YieldsList-from_zip}
use Rattle.std.proofs.lemmas.Iterator.Adapters.{YieldsList-from_vec}
use Rattle.std.proofs.lemmas.Iterator.Consumers.{YieldsList-at, YieldsList-end, YieldsList-turn}
use Rattle.std.proofs.lemmas.Slice.Zip.{length-zip}
use Rattle.pbfcut_program.specs.SeveralFiles.{FinishesEach}
use Rattle.pbfcut_program.proofs.SeveralFileLemmas.{finishes_mapped, out_of}
use Rattle.pbfcut_program.proofs.several_files.finish_each.Goals as goal

pub outs-init : goal.outs-init
outs-init g c = (refl, refl)

pub overflow_add-at : goal.overflow_add-at
overflow_add-at g c =
    let zip = c.zip-part-items.ensures in
    let gives = YieldsList-from_zip (YieldsList-at zip.first (YieldsList-from_slice c.args.parts.now c.iter.ensures.rest)) (YieldsList-from_vec c.args.outputs.items zip.second.0 (zip.second.1 ∙ c.args.outputs.ok.0)) in
    let turn = YieldsList-turn (YieldsList-at c.into_iter-part-iterator.ensures.into_iter_gives gives) c.outs.yielded c.outs.part-iterator c.outs.yielded_by c.next.result c.next.new.self (c.in-Some.part, c.in-Some.output) c.in-Some.is c.next.ensures.steps in
    omega (arith, c.outs.invariant.1, turn.0, length-zip c.args.parts.now c.args.outputs.items, zip.second.1, zip.second.2, c.args.outputs.ok.0)

pub outs-preserved : goal.outs-preserved
outs-preserved g c =
    let log = g.H.Host.log in (
      finishes_mapped g.H.Out.Drain out_of c.outs.yielded (c.in-Some.part, c.in-Some.output) c.outs.at c.outs.result c.finish_part-next.result (log c.args.host.now) (log c.outs.host) (log c.finish_part-next.new.host) c.outs.invariant.1 c.outs.invariant.0 c.finish_part-next.ensures,
      omega (arith, c.outs.invariant.1, length-append c.outs.yielded ((c.in-Some.part, c.in-Some.output) ∷ [])),
    )

pub returns : goal.returns
returns g c =
    let log = g.H.Host.log in
    let zip = c.zip-part-items.ensures in
    let gives = YieldsList-from_zip (YieldsList-at zip.first (YieldsList-from_slice c.args.parts.now c.iter.ensures.rest)) (YieldsList-from_vec c.args.outputs.items zip.second.0 (zip.second.1 ∙ c.args.outputs.ok.0)) in
    let end = YieldsList-end (YieldsList-at c.into_iter-part-iterator.ensures.into_iter_gives gives) c.outs.yielded c.outs.part-iterator c.outs.yielded_by c.next.result c.next.new.self c.in-None.is c.next.ensures.steps in
    subst (λ outs. FinishesEach g.H.Out.Drain c.outs.result outs (log c.args.host.now) (log c.outs.host)) end.0 c.outs.invariant.0
