use Rattle.std.proofs.Common.{◌≡◌, ◌++◌}
use Rattle.osm_entity.specs.Sources.{refs_left, nano_locations_left}
use Rattle.osm_text.specs.EntityText.{refs_text}
use Rattle.osm_text.proofs.entity_text.put_refs.Given as goal

-- the text so far and that of the refs that are left is the text of all
abbrev pub invariant-loop-id : goal.invariant-loop-id
invariant-loop-id l = record {
  can : (goal.iterator-loop-id).can_next l.id-iterator;
  ends : (goal.iterator-loop-id).is_finite l.id-iterator;
  so_far : l.out.items ++ refs_text (refs_left l.id-iterator) (nano_locations_left l.rest) ≡ l.fn.out.items ++ refs_text (refs_left l.fn.refs) (nano_locations_left l.fn.locations);
}
