use Rattle.std.proofs.Common.{◌≡◌, ◌+◌, ◌-◌, ◌^◌, ◌≤◌, min}
use Rattle.osm_entity.specs.Sources.{tags_left}
use Rattle.osm_entity.specs.Weight.{tags_weight}
use Rattle.osm_entity.proofs.weight.tags_weight.Given as goal

-- the weight so far and that of the tags that are left is the weight of all
abbrev pub invariant-loop-key : goal.invariant-loop-key
invariant-loop-key l = record {
  can : (goal.iterator-loop-key).can_next l.key-iterator;
  ends : (goal.iterator-loop-key).is_finite l.key-iterator;
  fits : l.weight ≤ 2 ^ 64 - 1;
  so_far : min (l.weight + tags_weight (tags_left l.key-iterator)) (2 ^ 64 - 1) ≡ min (tags_weight (tags_left l.fn.tags)) (2 ^ 64 - 1);
}
