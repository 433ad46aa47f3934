use Rattle.std.proofs.Common.{◌≡◌, ◌++◌, map}
use Rattle.osm_entity.specs.Sources.{owned_member, members_left}
use Rattle.osm_entity.proofs.member.owned_members.Given as goal

-- the members so far and those that are left are all
abbrev pub invariant-loop-member : goal.invariant-loop-member
invariant-loop-member l = record {
  can : (goal.iterator-loop-member).can_next l.member-iterator;
  ends : (goal.iterator-loop-member).is_finite l.member-iterator;
  so_far : map owned_member l.owned.items ++ members_left l.member-iterator ≡ members_left l.fn.members;
}
