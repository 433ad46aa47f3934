use Rattle.std.proofs.Common.{◌≡◌, map}
use Rattle.std.specs.List.{fold}
use Rattle.pbf_dense.specs.Cursors.{dense_left}
use Rattle.pbf_dense.specs.Places.{node_place, places_left}
use Rattle.pbf_pass.specs.EachArea.{node_placed}
use Rattle.pbf_pass.proofs.in_area.take_each_place.Given as goal

-- the places that are left give what all of the message give
abbrev pub invariant-loop-place : goal.invariant-loop-place
invariant-loop-place g l = record {
  can : (goal.iterator-loop-place g).can_next l.place-iterator;
  ends : (goal.iterator-loop-place g).is_finite l.place-iterator;
  taken : fold (node_placed g.A.Area.area g.P.NodeTaker.step) l.taking (places_left l.place-iterator) ≡ fold (node_placed g.A.Area.area g.P.NodeTaker.step) l.initial.taking (map node_place (dense_left l.dense));
}
