use Rattle.std.proofs.Common.{false, List, map, subst}
use Rattle.osm_entity.specs.Entity.{MemberSpec}
use Rattle.osm_entity.specs.Sources.{lent_member, members_left}
use Rattle.osm_entity.specs.Views.{relation_of}
use Rattle.osm_ids.specs.Strips.{MarksNamed}
use Rattle.osm_ways.specs.ChoiceStrips.{names_member}
use Rattle.osm_ways.specs.Seen.{seen_member}
use Rattle.osm_ways.proofs.ChoiceStripLemmas.{member_more, members_all}
use Rattle.osm_ways.proofs.MarkingLemmas.{IsPassed}
use Rattle.osm_ways.proofs.choice_strips.ChoiceStrips.mark_relation.Goals as goal

pub loop-member-preserved : goal.loop-member-preserved
loop-member-preserved c =
    let strips = c.args.self.now in
    let all = map seen_member (relation_of c.args.relation.now).members in
    let left = map seen_member (members_left c.next.new.self) in
    let l = c.loop-member in
    let member = seen_member (lent_member c.in-Some.member) in
    record {
      can = tt;
      ends = tt;
      so_far = member_more strips all left member c.args.marks.now l.marks c.mark_member-some.new.marks l.some c.mark_member-some.result
          (subst (λ (left : List MemberSpec). MarksNamed (IsPassed (names_member strips) all (map seen_member left)) c.args.marks.now l.marks l.some) c.in-Some.ensures.steps l.invariant.so_far)
          c.mark_member-some.ensures;
    }

pub returns : goal.returns
returns c =
    let l = c.loop-member in
    let strips = c.args.self.now in
    let relation = relation_of c.args.relation.now in
    let all = map seen_member relation.members in
    members_all strips all relation.id false c.args.marks.now l.marks l.some
    (subst (λ (left : List MemberSpec). MarksNamed (IsPassed (names_member strips) all (map seen_member left)) c.args.marks.now l.marks l.some) c.in-None.ensures.steps.0 l.invariant.so_far)
