use Rattle.std.proofs.Common.{◌≡◌, map}
use Rattle.std.specs.List.{fold}
use Rattle.osm_entity.specs.Sources.{members_left}
use Rattle.osm_ways.specs.Added.{with_member}
use Rattle.osm_ways.specs.Seen.{seen_member}
use Rattle.osm_ways.proofs.members.AddedIds.add.Given as goal

-- what was added so far and the members that are left are all
abbrev pub invariant-loop-member : goal.invariant-loop-member
invariant-loop-member l = record {
  can : (goal.iterator-loop-member).can_next l.member-iterator;
  ends : (goal.iterator-loop-member).is_finite l.member-iterator;
  so_far : fold with_member (record { nodes = l.self-inside.nodes; ways = l.self-inside.ways }) (map seen_member (members_left l.member-iterator)) ≡ fold with_member l.fn.self (map seen_member (members_left l.fn.members));
}
