use Rattle.std.proofs.Common.{◌≡◌, ◌+◌, [], ◌∷◌, ◌++◌, take, sym, ap, subst, ◌∙◌}
use Rattle.std.specs.List.{AllZip}
use Rattle.std.proofs.lemmas.List.{take_more}
use Rattle.pbfcut.specs.ChoosingEach.{IsFreshTaking}
use Rattle.pbfcut.proofs.SeveralLemmas.{zip_more}
use Rattle.pbfcut.proofs.choosing_each.begin_phases.Goals as goal

pub outputs-preserved : goal.outputs-preserved
outputs-preserved g c =
    let P = g.P.NodeTaker in
    let i = c.outputs.output-index in
    let all = c.args.outputs.now in
    let output = c.output-item.result in
    let next : take (i + 1) all ≡ take i all ++ output ∷ [] = take_more all i output c.outputs-test.true ∙ ap (λ x. take i all ++ x ∷ []) (sym c.output-item.is) in
    subst (λ l. AllZip (IsFreshTaking P.start P.step P.has_ways P.ended) l c.push.new.self.items) (sym next)
    (subst (λ l. AllZip (IsFreshTaking P.start P.step P.has_ways P.ended) (take i all ++ output ∷ []) l) (sym c.in_ok-push.ensures.items)
    (zip_more (IsFreshTaking P.start P.step P.has_ways P.ended) (take i all) c.outputs.takings.items output c.new.result c.outputs.invariant (record { area = c.new.ensures.area; types = c.new.ensures.types; start_is = c.new.ensures.start; takes = c.new.ensures.takes })))
