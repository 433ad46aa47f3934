use Rattle.std.proofs.Common.{◌≡◌, ◌++◌}
use Rattle.std.specs.List.{flat_map}
use Rattle.osm_entity.specs.Sources.{tags_left}
use Rattle.osm_text.specs.EntityText.{tag_text}
use Rattle.osm_text.proofs.entity_text.put_tags.Given as goal

-- the text so far and that of the tags that are left is the text of all
abbrev pub invariant-loop-key : goal.invariant-loop-key
invariant-loop-key l = record {
  can : (goal.iterator-loop-key).can_next l.key-iterator;
  ends : (goal.iterator-loop-key).is_finite l.key-iterator;
  so_far : l.out.items ++ flat_map tag_text (tags_left l.key-iterator) ≡ l.fn.out.items ++ flat_map tag_text (tags_left l.fn.tags);
}
