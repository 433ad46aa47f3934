use Rattle.std.proofs.Common.{map}
use Rattle.osm_entity.specs.Sources.{members_left}
use Rattle.osm_entity.specs.Views.{relation_of}
use Rattle.osm_ids.specs.Strips.{MarksNamed}
use Rattle.osm_ways.specs.ChoiceStrips.{names_member}
use Rattle.osm_ways.specs.Seen.{seen_member}
use Rattle.osm_ways.proofs.MarkingLemmas.{IsPassed}
use Rattle.osm_ways.proofs.choice_strips.ChoiceStrips.mark_relation.Given as goal

-- the choices are marked that are named for the members so far
abbrev pub invariant-loop-member : goal.invariant-loop-member
invariant-loop-member l = record {
  can : (goal.iterator-loop-member).can_next l.member-iterator;
  ends : (goal.iterator-loop-member).is_finite l.member-iterator;
  so_far : MarksNamed (IsPassed (names_member l.self) (map seen_member (relation_of l.relation).members) (map seen_member (members_left l.member-iterator))) l.fn.marks l.marks l.some;
}
