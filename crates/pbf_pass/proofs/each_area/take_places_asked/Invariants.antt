use Rattle.std.proofs.Common.{◌≡◌, map}
use Rattle.std.specs.List.{AllByRecursion, fold}
use Rattle.pbf_dense.specs.Cursors.{dense_left}
use Rattle.pbf_dense.specs.Places.{node_place, places_left}
use Rattle.pbf_pass.specs.EachArea.{IsReady, member_areas, node_placed}
use Rattle.pbf_pass.proofs.each_area.take_places_asked.Given as goal

-- the places that are left give what all of the message give
abbrev pub invariant-loop-place : goal.invariant-loop-place
invariant-loop-place g l =
    let area = g.A.Area.area in
    let step = g.P.NodeTaker.step in
    record {
      can : (goal.iterator-loop-place g).can_next l.place-iterator;
      ends : (goal.iterator-loop-place g).is_finite l.place-iterator;
      ready : AllByRecursion (IsReady step) l.members;
      areas : member_areas area l.members ≡ member_areas area l.initial.members;
      taken : map (λ of. fold (node_placed area step) of (places_left l.place-iterator)) l.members
          ≡ map (λ of. fold (node_placed area step) of (map node_place (dense_left l.dense))) l.initial.members;
    }
