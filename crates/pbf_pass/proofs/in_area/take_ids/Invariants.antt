use Rattle.std.proofs.Common.{◌≡◌}
use Rattle.std.specs.List.{fold}
use Rattle.pbf_dense.specs.Within.{ids_within_left}
use Rattle.pbf_pass.specs.Pass.{with_inside}
use Rattle.pbf_pass.proofs.in_area.take_ids.Given as goal

-- the ids that are left give what all of them give
abbrev pub invariant-loop-id : goal.invariant-loop-id
invariant-loop-id g l = record {
  can : (goal.iterator-loop-id g).can_next l.id-iterator;
  ends : (goal.iterator-loop-id g).is_finite l.id-iterator;
  taken : fold (with_inside g.P.NodeTaker.step) l.phase (ids_within_left l.id-iterator) ≡ fold (with_inside g.P.NodeTaker.step) l.initial.phase (ids_within_left l.ids);
}
