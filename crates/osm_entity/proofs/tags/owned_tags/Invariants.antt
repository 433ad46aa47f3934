use Rattle.std.proofs.Common.{◌≡◌, ◌++◌, map}
use Rattle.osm_entity.specs.Sources.{owned_tag, tags_left}
use Rattle.osm_entity.proofs.tags.owned_tags.Given as goal

-- the tags so far and those that are left are all
abbrev pub invariant-loop-key : goal.invariant-loop-key
invariant-loop-key l = record {
  can : (goal.iterator-loop-key).can_next l.key-iterator;
  ends : (goal.iterator-loop-key).is_finite l.key-iterator;
  so_far : map owned_tag l.owned.items ++ tags_left l.key-iterator ≡ tags_left l.fn.tags;
}
