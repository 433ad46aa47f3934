use Rattle.std.proofs.Common.{◌≡◌, ◌+◌, ◌-◌, ◌*◌, ◌^◌, ◌≤◌, min, length}
use Rattle.osm_entity.specs.Sources.{locations_left}
use Rattle.osm_entity.proofs.weight.locations_weight.Given as goal

abbrev pub invariant-loop-location : goal.invariant-loop-location
invariant-loop-location l = record {
  can : (goal.iterator-loop-location).can_next l._location-iterator;
  ends : (goal.iterator-loop-location).is_finite l._location-iterator;
  fits : l.weight ≤ 2 ^ 64 - 1;
  so_far : min (l.weight + 32 * length (locations_left l._location-iterator)) (2 ^ 64 - 1) ≡ min (32 * length (locations_left l.fn.locations)) (2 ^ 64 - 1);
}
