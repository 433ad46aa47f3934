use Rattle.std.proofs.Common.{◌≡◌, map}
use Rattle.osm_entity.specs.Sources.{tags_left}
use Rattle.osm_ways.specs.Whole.{has_type, name_of}
use Rattle.osm_ways.proofs.whole.has_type.Given as goal

-- it depends on the tags that are left
abbrev pub invariant-loop-key : goal.invariant-loop-key
invariant-loop-key l = record {
  can : (goal.iterator-loop-key).can_next l.key-iterator;
  ends : (goal.iterator-loop-key).is_finite l.key-iterator;
  left : has_type (map name_of l.names) (tags_left l.key-iterator) ≡ has_type (map name_of l.names) (tags_left l.tags);
}
