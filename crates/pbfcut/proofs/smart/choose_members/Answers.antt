use Rattle.std.proofs.Common.{◌≡◌, true, false, arith, rules, [], refl, sym, ap, subst}
use Rattle.std.proofs.lemmas.Result.{err_from_is_err_and}
use Rattle.osm_ways.specs.Phases.{KeptSets}
use Rattle.osm_ways.specs.Sorted.{sorted_step, start_sorted}
use Rattle.osm_ways.specs.Whole.{is_wanted}
use Rattle.pbf_pass.specs.Hashing.{mark_by}
use Rattle.pbf_pass.specs.SortedFile.{judged_sorted}
use Rattle.pbf_pass.specs.Pass.{with_added_way}
use Rattle.pbf_pass.specs.Stops.{FaultOf}
use Rattle.pbfcut.specs.Calls.{fed, supply_of}
use Rattle.pbfcut.specs.declared.repeat.LaterPass.{LaterPass}
use Rattle.pbfcut.specs.Repeat.{GathersRest}
use Rattle.pbfcut.proofs.ChangedLemmas.{no_refusal}
use Rattle.pbfcut.proofs.ExtractingLemmas.{chooses_members}
use Rattle.pbfcut.proofs.LaterLemmas.{choosing_more, last_changed, last_stops}
use Rattle.pbfcut.proofs.SmartLemmas.{order_stops, stops_sorting}
use Rattle.pbfcut.proofs.smart.choose_members.Goals as goal

pub returns-in_err-begun-clause-ends : goal.returns-in_err-begun-clause-ends
returns-in_err-begun-clause-ends g c =
    let p = err_from_is_err_and c.from_residual.result c.from_residual.ensures.1 in
    let second = fed g.G.Feed c.args.second.now c.args.second.now in
    rw (p.1, p.2) (record { next = tt; halts = choosing_more judged_sorted _ [] second _ _ (stops_sorting _ [] _ _ c.in_err-begun.ensures.halts); feeds = search rules })

pub returns-then-not-has_all_ways-clause-ends : goal.returns-then-not-has_all_ways-clause-ends
returns-then-not-has_all_ways-clause-ends g c =
    let lost : c.begin.new.taking.phase.first.in_order ≡ false = grind (arith, c.has_all_ways.ensures, c.if-not-has_all_ways.true) in
    record { next = tt; halts = order_stops (fed g.F.Feed c.args.first.now c.begin.new.feed) _ c.args.passes.check _ _ _ _ _ _ _ c.in_ok-begun.ensures.begun c.wanting-taking.ensures.start lost; feeds = search rules }

pub returns-in_err-gather_rest-clause-ends : goal.returns-in_err-gather_rest-clause-ends
returns-in_err-gather_rest-clause-ends g c =
    let p = err_from_is_err_and c.from_residual-in_err-gather_rest.result c.from_residual-in_err-gather_rest.ensures.1 in
    let one = c.in_ok-begun.ensures.begun in
    let first = fed g.F.Feed c.args.first.now c.begin.new.feed in
    let second = fed g.G.Feed c.args.second.now c.gather_rest.new.feed in
    let again : LaterPass = record { number = 2; digest = c.in_ok-begun.begun.digest; passes = c.args.passes } in
    let stops = c.in_err-gather_rest.ensures.stops in
    rw (p.1, p.2) (record {
      next = tt;
      halts = record {
        refused = no_refusal g.G.Feed again _ _ ⊥ _ stops;
        stops = last_stops first _ _ one one.holding.0.frames one.holding.0.judged [] second again refl refl (Unit {0}) (FaultOf (judged_sorted (supply_of first))) ⊥ _ stops;
        changed = last_changed first _ _ one one.holding.0.frames one.holding.0.judged [] second again refl refl (Unit {0}) ⊥ _ stops;
      };
      feeds = search rules;
    })

pub returns-clause-chosen : goal.returns-clause-chosen
returns-clause-chosen g c =
    let one = c.in_ok-begun.ensures.begun in
    let kept : true ≡ c.begin.new.taking.phase.first.in_order = grind (arith, c.has_all_ways.ensures, c.if-not-has_all_ways.false) in
    let rest = subst (λ (s : KeptSets). GathersRest g.G.Feed with_added_way c.has_all_refs-spared.result c.args.second.now c.gather_rest.new.feed (mark_by c.args.passes.check c.in_ok-begun.begun.digest) c.in_ok-members.members s) (sym c.in_ok-chosen.ensures) c.in_ok-gather_rest.ensures.gathered in
    record {
      file = one.file;
      supplied = one.supplied;
      digest_is = one.digest_is;
      holding = chooses_members start_sorted sorted_step (λ s. s.first.in_order) (λ s. s.first.ways) (λ s. s.found) c.in_ok-ways.ensures.takes (fed g.G.Feed c.args.second.now c.gather_rest.new.feed) _ (is_wanted c.args.types) (g.A.Area.area c.args.area) one.file _ _ _ _ _ _ _ _
          _ (ap is_wanted c.wanting-taking.ensures.types) _ (ap g.A.Area.area c.wanting-taking.ensures.area) one.holding.0 c.wanting-taking.ensures.start kept c.in_ok-ways.ensures.ways c.in_ok-ways.ensures.found c.in_ok-end_with.ensures c.in_ok-members.ensures.least c.in_ok-members.ensures.begun
          c.has_all_refs-spared.result (λ e. c.has_all_refs-spared.ensures e) rest;
    }
