use Rattle.std.proofs.Common.{◌≡◌, ◌↔◌, ◌+◌, ◌-◌, ◌*◌, ◌^◌, ◌≤◌, min, length}
use Rattle.std.specs.List.{AllByRecursion}
use Rattle.osm_entity.specs.Sources.{refs_left}
use Rattle.osm_entity.specs.Ranges.{IsStored}
use Rattle.osm_entity.proofs.weight.stored_refs_weight.Given as goal

-- all are in range exactly if those that are left are
abbrev pub invariant-loop-reference : goal.invariant-loop-reference
invariant-loop-reference l = record {
  can : (goal.iterator-loop-reference).can_next l.reference-iterator;
  ends : (goal.iterator-loop-reference).is_finite l.reference-iterator;
  fits : l.weight ≤ 2 ^ 64 - 1;
  stored : AllByRecursion IsStored (refs_left l.reference-iterator) ↔ AllByRecursion IsStored (refs_left l.fn.refs);
  weighed : min (l.weight + 32 * length (refs_left l.reference-iterator)) (2 ^ 64 - 1) ≡ min (32 * length (refs_left l.fn.refs)) (2 ^ 64 - 1);
}
