use Rattle.std.proofs.Common.{◌≡◌, ◌++◌}
use Rattle.std.specs.List.{flat_map}
use Rattle.osm_entity.specs.Sources.{members_left}
use Rattle.osm_text.specs.EntityText.{member_text}
use Rattle.osm_text.proofs.entity_text.put_members.Given as goal

-- the text so far and that of the members that are left is the text of all
abbrev pub invariant-loop-member : goal.invariant-loop-member
invariant-loop-member l = record {
  can : (goal.iterator-loop-member).can_next l.member-iterator;
  ends : (goal.iterator-loop-member).is_finite l.member-iterator;
  so_far : l.out.items ++ flat_map member_text (members_left l.member-iterator) ≡ l.fn.out.items ++ flat_map member_text (members_left l.fn.members);
}
