use Rattle.std.proofs.Common.{◌≡◌, [], ℕ, List}
use Rattle.std.specs.List.{flat_map}
use Rattle.pbf_wire.specs.Faults.{found_in}
use Rattle.osm_entity.specs.declared.scale.Scale.{Scale}
use Rattle.pbf_block.specs.Group.{member_entities}
use Rattle.pbf_block.specs.Numbers.{counted_with, counts_of, counting}
use Rattle.pbf_block.specs.Runs.{group_members, group_fields_left}
use Rattle.pbf_block.proofs.counts.count_entities.Given as goal

abbrev pub invariant-loop-field : goal.invariant-loop-field
invariant-loop-field l = record {
  can : (goal.iterator-loop-field).can_next l.field-iterator;
  ends : (goal.iterator-loop-field).is_finite l.field-iterator;
  so_far : (table : List (List ℕ)) (scale : Scale) → counted_with l.counts (counts_of (flat_map (member_entities counting table scale) (group_fields_left l.field-iterator))) ≡ counts_of (flat_map (member_entities counting table scale) (flat_map group_members (found_in l.payload)));
  capped : counted_with l.counts (counts_of []) ≡ l.counts;
}
