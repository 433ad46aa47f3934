use Rattle.std.proofs.Common.{◌≡◌, ◌+◌, ◌-◌, ◌*◌, ◌^◌, ◌≤◌, min, length}
use Rattle.osm_entity.specs.Sources.{refs_left}
use Rattle.osm_entity.proofs.weight.refs_weight.Given as goal

abbrev pub invariant-loop-reference : goal.invariant-loop-reference
invariant-loop-reference l = record {
  can : (goal.iterator-loop-reference).can_next l._reference-iterator;
  ends : (goal.iterator-loop-reference).is_finite l._reference-iterator;
  fits : l.weight ≤ 2 ^ 64 - 1;
  so_far : min (l.weight + 32 * length (refs_left l._reference-iterator)) (2 ^ 64 - 1) ≡ min (32 * length (refs_left l.fn.refs)) (2 ^ 64 - 1);
}
