use Rattle.std.proofs.Common.{◌≡◌}
use Rattle.std.specs.List.{fold}
use Rattle.std.specs.FinSet as set
use Rattle.osm_entity.specs.Sources.{refs_left}
use Rattle.osm_ways.proofs.members.add_all.Given as goal

-- the ids so far and the refs that are left are all
abbrev pub invariant-loop-id : goal.invariant-loop-id
invariant-loop-id l = record {
  can : (goal.iterator-loop-id).can_next l.id-iterator;
  ends : (goal.iterator-loop-id).is_finite l.id-iterator;
  so_far : fold set.insert l.ids (refs_left l.id-iterator) ≡ fold set.insert l.fn.ids (refs_left l.fn.refs);
}
