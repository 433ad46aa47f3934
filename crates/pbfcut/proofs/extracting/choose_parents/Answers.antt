use Rattle.std.proofs.Common.{rules, [], ◌∷◌, refl, ap}
use Rattle.std.proofs.lemmas.Result.{err_from_is_err_and}
use Rattle.pbf_pass.specs.HeaderLimit.{judged_writable}
use Rattle.pbf_pass.specs.Stops.{FaultOf}
use Rattle.pbfcut.specs.Calls.{fed, supply_of}
use Rattle.pbfcut.specs.declared.repeat.LaterPass.{LaterPass}
use Rattle.pbfcut.proofs.ChangedLemmas.{no_refusal}
use Rattle.pbfcut.proofs.ExtractingLemmas.{chooses_parents}
use Rattle.pbfcut.proofs.LaterLemmas.{choosing_more, last_changed, last_stops}
use Rattle.pbfcut.proofs.extracting.choose_parents.Goals as goal

pub returns-in_err-begun-clause-ends : goal.returns-in_err-begun-clause-ends
returns-in_err-begun-clause-ends g c =
    let p = err_from_is_err_and c.from_residual.result c.from_residual.ensures.1 in
    let second = fed g.G.Feed c.args.second.now c.args.second.now in
    let third = fed g.H.Feed c.args.third.now c.args.third.now in
    rw (p.1, p.2) (record { next = tt; halts = choosing_more judged_writable _ (second ∷ []) third _ _ (choosing_more judged_writable _ [] second _ _ c.in_err-begun.ensures.halts); feeds = search rules })

pub returns-in_err-gather_rest-clause-ends : goal.returns-in_err-gather_rest-clause-ends
returns-in_err-gather_rest-clause-ends g c =
    let p = err_from_is_err_and c.from_residual-in_err-gather_rest.result c.from_residual-in_err-gather_rest.ensures.1 in
    let one = c.in_ok-begun.ensures.begun in
    let first = fed g.F.Feed c.args.first.now c.begin.new.feed in
    let second = fed g.G.Feed c.args.second.now c.gather_rest.new.feed in
    let again : LaterPass = record { number = 2; digest = c.in_ok-begun.begun.digest; passes = c.args.passes } in
    let stops = c.in_err-gather_rest.ensures.stops in
    rw (p.1, p.2) (record {
      next = tt;
      halts = choosing_more judged_writable _ (second ∷ []) (fed g.H.Feed c.args.third.now c.args.third.now) _ _ (record {
        refused = no_refusal g.G.Feed again _ _ ⊥ _ stops;
        stops = last_stops first _ _ one one.holding.0.frames one.holding.0.judged [] second again refl refl (Unit {0}) (FaultOf (judged_writable (supply_of first))) ⊥ _ stops;
        changed = last_changed first _ _ one one.holding.0.frames one.holding.0.judged [] second again refl refl (Unit {0}) ⊥ _ stops;
      });
      feeds = search rules;
    })

pub returns-in_err-gather_rest-2-clause-ends : goal.returns-in_err-gather_rest-2-clause-ends
returns-in_err-gather_rest-2-clause-ends g c =
    let p = err_from_is_err_and c.from_residual-in_err-gather_rest-2.result c.from_residual-in_err-gather_rest-2.ensures.1 in
    let one = c.in_ok-begun.ensures.begun in
    let first = fed g.F.Feed c.args.first.now c.begin.new.feed in
    let second = fed g.G.Feed c.args.second.now c.gather_rest.new.feed in
    let third = fed g.H.Feed c.args.third.now c.gather_rest-2.new.feed in
    let again : LaterPass = record { number = 3; digest = c.in_ok-begun.begun.digest; passes = c.args.passes } in
    let stops = c.in_err-gather_rest-2.ensures.stops in
    rw (p.1, p.2) (record {
      next = tt;
      halts = record {
        refused = no_refusal g.H.Feed again _ _ ⊥ _ stops;
        stops = last_stops first _ _ one one.holding.0.frames one.holding.0.judged (second ∷ []) third again refl refl (Unit {0}) (FaultOf (judged_writable (supply_of first))) ⊥ _ stops;
        changed = last_changed first _ _ one one.holding.0.frames one.holding.0.judged (second ∷ []) third again refl refl (Unit {0}) ⊥ _ stops;
      };
      feeds = search rules;
    })

pub returns-in_err-end_relations-clause-ends : goal.returns-in_err-end_relations-clause-ends
returns-in_err-end_relations-clause-ends g c =
    let p = err_from_is_err_and c.from_residual-in_err-end_relations.result c.from_residual-in_err-end_relations.ensures.1 in
    rw (p.1, p.2) (record { next = tt; halts = record { refused = search rules; stops = tt; changed = tt }; feeds = search rules })

pub returns-clause-chosen : goal.returns-clause-chosen
returns-clause-chosen g c =
    let one = c.in_ok-begun.ensures.begun in
    let P = g.P.NodeTaker in
    record {
      file = one.file;
      supplied = one.supplied;
      digest_is = one.digest_is;
      holding = chooses_parents P.start P.step P.has_ways P.ended c.new-taking.ensures.takes (fed g.G.Feed c.args.second.now c.gather_rest.new.feed) _ (g.A.Area.area c.args.area) one.file _ _ _ _ _ _ _ c.new-taking.ensures.types _ (ap g.A.Area.area c.new-taking.ensures.area) one.holding.0 c.new-taking.ensures.start c.in_ok-ways.ensures.ways refl
          g.P.RelationTaker.found c.in_ok-ways.ensures.takes (fed g.H.Feed c.args.third.now c.gather_rest-2.new.feed) _ c.in_ok-ways.ensures.found _ _ c.in_ok-relations.ensures _ _ c.in_ok-end_relations.ensures.ways c.in_ok-end_relations.ensures.least c.in_ok-end_relations.ensures.added c.into_chosen-chosen.ensures
          c.has_all_ways-spared.result c.has_all_ways-spared.ensures c.in_ok-gather_rest.ensures.gathered c.in_ok-gather_rest-2.ensures.gathered;
    }
