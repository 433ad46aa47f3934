use Rattle.std.proofs.Common.{◌≡◌, List, [], map, sym, ap, subst, refl, ◌∙◌, rules}
use Rattle.std.specs.List.{AllByRecursion, fold}
use Rattle.pbf_dense.specs.declared.places.Place.{Place}
use Rattle.pbf_dense.specs.Places.{node_place, places_left}
use Rattle.pbf_dense.specs.Cursors.{dense_left}
use Rattle.std.proofs.lemmas.List.{map-id}
use Rattle.osm_area.specs.Area.{AreaSpec}
use Rattle.osm_area.specs.Strips.{asked_at}
use Rattle.pbf_pass.specs.EachArea.{AreEnough, IsReady, member_areas, node_placed}
use Rattle.pbf_pass.proofs.EachAreaLemmas.{all_ready, areas_placed, place_more, placed_each}
use Rattle.pbf_pass.proofs.each_area.take_places_asked.Goals as goal

pub loop-place-preserved : goal.loop-place-preserved
loop-place-preserved g c =
    let so_far = c.loop-place.invariant in
    let area = g.A.Area.area in
    let step = g.P.NodeTaker.step in
    let p = c.in-Some.place in
    let olds = c.loop-place.members in
    let rest = places_left c.next.new.self in
    let stepped : c.take_asked.new.members ≡ map (λ of. node_placed area step of p) olds = search rules in
    record {
      can = so_far.can;
      ends = so_far.ends;
      ready = subst (AllByRecursion (IsReady step)) (sym stepped) (all_ready area step p olds so_far.ready);
      areas = ap (member_areas area) stepped ∙ areas_placed area step p olds ∙ so_far.areas;
      taken =
          ap (map (λ of. fold (node_placed area step) of rest)) stepped
          ∙ place_more area step p rest olds
          ∙ ap (λ (ps : List Place). map (λ of. fold (node_placed area step) of ps) olds) (sym c.in-Some.ensures.steps)
          ∙ so_far.taken;
    }

pub loop-place-init : goal.loop-place-init
loop-place-init g c =
    let w = node_placed g.A.Area.area g.P.NodeTaker.step in
    let are : places_left c.into_iter-place-iterator.result ≡ map node_place (dense_left c.args.dense.now) = search rules in
    record {
      can = tt;
      ends = tt;
      ready = c.requires.ready;
      areas = refl;
      taken = ap (λ (ps : List Place). map (λ of. fold w of ps) c.args.members.now) are;
    }

pub take_asked-requires-clause-asked : goal.take_asked-requires-clause-asked
take_asked-requires-clause-asked g c =
    let lon = c.in-Some.place.lon in
    let at : c.at.result.now ≡ asked_at c.args.strips.now lon = search rules in
    subst (λ (areas : List AreaSpec). AreEnough lon 0 areas c.at.result.now) (sym c.loop-place.invariant.areas)
    (subst (AreEnough lon 0 (member_areas g.A.Area.area c.args.members.now)) (sym at) (c.requires.asks lon))

pub returns : goal.returns
returns g c =
    let so_far = c.loop-place.invariant in
    let area = g.A.Area.area in
    let step = g.P.NodeTaker.step in
    let none : places_left c.loop-place.place-iterator ≡ [] = search rules in
    sym (map-id c.loop-place.members)
    ∙ ap (λ (ps : List Place). map (λ of. fold (node_placed area step) of ps) c.loop-place.members) (sym none)
    ∙ so_far.taken
    ∙ placed_each area step (dense_left c.args.dense.now) c.args.members.now
