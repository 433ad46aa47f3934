use Rattle.std.proofs.Common.{◌≡◌, true, [], ◌∷◌, refl, subst, sym, ◌∙◌}
use Rattle.std.specs.List.{AllByRecursion, AllZip}
use Rattle.std.proofs.lemmas.Result.{err_from_is_err_and}
use Rattle.pbf_pass.specs.HeaderLimit.{judged_writable}
use Rattle.pbf_pass.specs.Stops.{FaultOf}
use Rattle.pbfcut.specs.Calls.{fed, supply_of}
use Rattle.pbfcut.specs.ChoosingEach.{BeginsParents, IsParentsChoice, IsRelationsOf}
use Rattle.pbfcut.specs.declared.repeat.LaterPass.{LaterPass}
use Rattle.pbfcut.proofs.ChangedLemmas.{no_refusal}
use Rattle.pbfcut.proofs.ChoosingParentsLemmas.{each_chose_parents}
use Rattle.pbfcut.proofs.LaterLemmas.{choosing_more, last_changed, last_stops}
use Rattle.pbfcut.proofs.choosing_parents_each.choose_parents_each.Goals as goal

pub returns-in_err-begun-clause-halts : goal.returns-in_err-begun-clause-halts
returns-in_err-begun-clause-halts g c =
    let p = err_from_is_err_and c.from_residual.result c.from_residual.ensures.1 in
    let second = fed g.G.Feed c.args.second.now c.args.second.now in
    let third = fed g.H.Feed c.args.third.now c.args.third.now in
    rw (p.1, p.2) (choosing_more judged_writable _ (second ∷ []) third _ _ (choosing_more judged_writable _ [] second _ _ c.in_err-begun.ensures.halts))

pub returns-in_err-gather_rest-clause-halts : goal.returns-in_err-gather_rest-clause-halts
returns-in_err-gather_rest-clause-halts g c =
    let p = err_from_is_err_and c.from_residual-in_err-gather_rest.result c.from_residual-in_err-gather_rest.ensures.1 in
    let one = c.in_ok-begun.ensures.begun in
    let first = fed g.F.Feed c.args.first.now c.begin_parents_each.new.feed in
    let second = fed g.G.Feed c.args.second.now c.gather_rest.new.feed in
    let again : LaterPass = record { number = 2; digest = c.in_ok-begun.begun.digest; passes = c.args.passes } in
    let stops = c.in_err-gather_rest.ensures.stops in
    rw (p.1, p.2) (choosing_more judged_writable _ (second ∷ []) (fed g.H.Feed c.args.third.now c.args.third.now) _ _ (record {
      refused = no_refusal g.G.Feed again _ _ ⊥ _ stops;
      stops = last_stops first _ _ one one.holding.0.frames one.holding.0.judged [] second again refl refl (Unit {0}) (FaultOf (judged_writable (supply_of first))) ⊥ _ stops;
      changed = last_changed first _ _ one one.holding.0.frames one.holding.0.judged [] second again refl refl (Unit {0}) ⊥ _ stops;
    }))

pub returns-in_err-gather_rest-2-clause-halts : goal.returns-in_err-gather_rest-2-clause-halts
returns-in_err-gather_rest-2-clause-halts g c =
    let p = err_from_is_err_and c.from_residual-in_err-gather_rest-2.result c.from_residual-in_err-gather_rest-2.ensures.1 in
    let one = c.in_ok-begun.ensures.begun in
    let first = fed g.F.Feed c.args.first.now c.begin_parents_each.new.feed in
    let second = fed g.G.Feed c.args.second.now c.gather_rest.new.feed in
    let third = fed g.H.Feed c.args.third.now c.gather_rest-2.new.feed in
    let again : LaterPass = record { number = 3; digest = c.in_ok-begun.begun.digest; passes = c.args.passes } in
    let stops = c.in_err-gather_rest-2.ensures.stops in
    rw (p.1, p.2) (record {
      refused = no_refusal g.H.Feed again _ _ ⊥ _ stops;
      stops = last_stops first _ _ one one.holding.0.frames one.holding.0.judged (second ∷ []) third again refl refl (Unit {0}) (FaultOf (judged_writable (supply_of first))) ⊥ _ stops;
      changed = last_changed first _ _ one one.holding.0.frames one.holding.0.judged (second ∷ []) third again refl refl (Unit {0}) ⊥ _ stops;
    })

pub returns-clause-chosen : goal.returns-clause-chosen
returns-clause-chosen g c =
    let one = c.in_ok-begun.ensures.begun in
    let P = g.P.NodeTaker in
    let found = g.P.RelationTaker.found in
    let area = g.A.Area.area in
    let outputs = c.args.outputs.now in
    let befores = c.new-each.result in
    let afters = c.gather_rest.new.gathering in
    let nexts = c.new-later.result in
    let lasts = c.gather_rest-2.new.gathering in
    let same = c.new-each.ensures in
    let choices = c.in_ok-choices.choices.items in
    let follows = subst (λ l. AllZip IsRelationsOf afters l) (sym c.new-later.ensures) (subst (λ l. AllZip IsRelationsOf l c.in_ok-relations_of.field-0.items) c.into_members.ensures c.in_ok-relations_of.ensures) in
    record {
      file = one.file;
      supplied = one.supplied;
      digest_is = one.digest_is;
      holding = each_chose_parents area P.start P.step P.has_ways P.ended found (fed g.G.Feed c.args.second.now c.gather_rest.new.feed) (fed g.H.Feed c.args.third.now c.gather_rest-2.new.feed) _ one.file outputs befores afters nexts lasts choices c.are_done-spared.result
          (subst (λ l. AllZip (BeginsParents area P.start P.step P.has_ways P.ended found one.file) outputs l) (sym same) one.holding.1) c.in_ok-gather_rest.ensures.gathered c.in_ok-gather_rest.ensures.some follows c.in_ok-gather_rest-2.ensures.gathered c.in_ok-gather_rest-2.ensures.some
          (λ done. subst (λ l. AllByRecursion (λ phase. phase.is_done ≡ true) l) (c.deref.ensures.value ∙ sym same) (c.are_done-spared.ensures done)) (subst (λ l. AllZip IsParentsChoice l choices) c.into_members-2.ensures c.in_ok-choices.ensures);
    }
