use Rattle.std.proofs.Common.{◌≡◌, map}
use Rattle.osm_entity.specs.Sources.{members_left}
use Rattle.osm_entity.specs.Views.{relation_of}
use Rattle.osm_ids.specs.Windows.{IsOf}
use Rattle.osm_ways.specs.Phases.{is_start, sets_of}
use Rattle.osm_ways.specs.Seen.{seen_member}
use Rattle.osm_ways.proofs.first.is_selected.Given as goal

-- it depends on the members that are left
abbrev pub invariant-loop-member : goal.invariant-loop-member
invariant-loop-member l = record {
  can : (goal.iterator-loop-member).can_next l.member-iterator;
  ends : (goal.iterator-loop-member).is_finite l.member-iterator;
  nodes : IsOf l.box_ids l.in_box;
  others : IsOf l.refs l.in_refs;
  ways : IsOf l.way_ids l.in_ways;
  left : is_start (sets_of l.box_ids l.refs l.way_ids) (map seen_member (members_left l.member-iterator)) ≡ is_start (sets_of l.box_ids l.refs l.way_ids) (map seen_member (relation_of l.relation).members);
}
