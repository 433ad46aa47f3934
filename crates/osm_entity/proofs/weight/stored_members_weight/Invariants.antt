use Rattle.std.proofs.Common.{◌≡◌, ◌↔◌, ◌+◌, ◌-◌, ◌^◌, ◌≤◌, min}
use Rattle.std.specs.List.{AllByRecursion}
use Rattle.osm_entity.specs.Sources.{members_left}
use Rattle.osm_entity.specs.Weight.{members_weight}
use Rattle.osm_entity.specs.Ranges.{MemberFits}
use Rattle.osm_entity.proofs.weight.stored_members_weight.Given as goal

-- all are in range exactly if those that are left are, and the weight so far and that of the members that are left is the weight of all
abbrev pub invariant-loop-member : goal.invariant-loop-member
invariant-loop-member l = record {
  can : (goal.iterator-loop-member).can_next l.member-iterator;
  ends : (goal.iterator-loop-member).is_finite l.member-iterator;
  fits : l.weight ≤ 2 ^ 64 - 1;
  stored : AllByRecursion MemberFits (members_left l.member-iterator) ↔ AllByRecursion MemberFits (members_left l.fn.members);
  weighed : min (l.weight + members_weight (members_left l.member-iterator)) (2 ^ 64 - 1) ≡ min (members_weight (members_left l.fn.members)) (2 ^ 64 - 1);
}
