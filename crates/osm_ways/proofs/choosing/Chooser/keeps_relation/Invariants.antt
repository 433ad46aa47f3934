use Rattle.std.proofs.Common.{◌≡◌, map}
use Rattle.std.specs.List.{list_any}
use Rattle.std.specs.FinSet as set
use Rattle.osm_entity.specs.Sources.{members_left}
use Rattle.osm_entity.specs.Views.{relation_of}
use Rattle.osm_ways.specs.Selection.{is_selecting}
use Rattle.osm_ways.specs.Seen.{seen_member}
use Rattle.osm_ways.proofs.choosing.Chooser.keeps_relation.Given as goal

-- it depends on the members that are left
abbrev pub invariant-loop-member : goal.invariant-loop-member
invariant-loop-member l = record {
  can : (goal.iterator-loop-member).can_next l.member-iterator;
  ends : (goal.iterator-loop-member).is_finite l.member-iterator;
  same : l.self ≡ l.fn.self;
  left : list_any (is_selecting (set.contains l.fn.self.ways.node_ids) (set.contains l.fn.self.ways.way_ids) (set.contains l.fn.self.relation_ids)) (map seen_member (members_left l.member-iterator)) ≡ list_any (is_selecting (set.contains l.fn.self.ways.node_ids) (set.contains l.fn.self.ways.way_ids) (set.contains l.fn.self.relation_ids)) (map seen_member (relation_of l.relation).members);
}
