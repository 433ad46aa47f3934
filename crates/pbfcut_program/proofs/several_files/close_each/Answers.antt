use Rattle.std.proofs.Common.{◌∙◌, subst}
use Rattle.std.proofs.lemmas.Iterator.{YieldsList-from_slice, YieldsList-from_zip}
use Rattle.std.proofs.lemmas.Iterator.Adapters.{YieldsList-from_vec}
use Rattle.std.proofs.lemmas.Iterator.Consumers.{YieldsList-at, YieldsList-end}
use Rattle.pbfcut_program.specs.SeveralFiles.{FinishesUnkept, OneByOne}
use Rattle.pbfcut_program.proofs.SeveralFileLemmas.{one_mapped, out_of}
use Rattle.pbfcut_program.proofs.several_files.close_each.Goals as goal

pub outs-preserved : goal.outs-preserved
outs-preserved g c =
    let log = g.H.Host.log in
    one_mapped c.outs.yielded out_of (FinishesUnkept g.H.Out.Drain) (c.in-Some.part, c.in-Some.output) (log c.args.host.now) (log c.outs.host) (log c.close_part.new.host) c.outs.invariant c.close_part.ensures

pub returns : goal.returns
returns g c =
    let log = g.H.Host.log in
    let zip = c.zip-part-items.ensures in
    let gives = YieldsList-from_zip (YieldsList-at zip.first (YieldsList-from_slice c.args.parts.now c.iter.ensures.rest)) (YieldsList-from_vec c.args.outputs.items zip.second.0 (zip.second.1 ∙ c.args.outputs.ok.0)) in
    let end = YieldsList-end (YieldsList-at c.into_iter-part-iterator.ensures.into_iter_gives gives) c.outs.yielded c.outs.part-iterator c.outs.yielded_by c.next.result c.next.new.self c.in-None.is c.next.ensures.steps in
    subst (λ outs. OneByOne (FinishesUnkept g.H.Out.Drain) outs (log c.args.host.now) (log c.outs.host)) end.0 c.outs.invariant
