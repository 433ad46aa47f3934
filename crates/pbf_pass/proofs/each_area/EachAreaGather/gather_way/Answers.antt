use Rattle.std.proofs.Common.{◌≡◌, ◌++◌, ◌∙◌, sym, ap, length, take, drop, map, subst, arith, rules}
use Rattle.osm_entity.specs.Entity.{way}
use Rattle.osm_ways.specs.Seen.{seen_way}
use Rattle.pbf_block.specs.Runs.{way_from}
use Rattle.pbf_pass.specs.Each.{each_gathered}
use Rattle.pbf_pass.specs.EachArea.{CanSkipEach, StripsFindAll}
use Rattle.pbf_pass.specs.Pass.{with_seen_in}
use Rattle.pbf_pass.proofs.EachLemmas.{all_back}
use Rattle.pbf_pass.proofs.EachAreaLemmas.{still_one}
use Rattle.pbf_pass.proofs.WayStripLemmas.{all_left_out, may_skip}
use Rattle.pbf_pass.proofs.each_area.EachAreaGather.gather_way.Goals as goal

pub take_way_each-requires : goal.take_way_each-requires
take_way_each-requires g c =
    let step = g.P.NodeTaker.step in
    let inside = g.P.NodeTaker.inside in
    let w = way_from c.args.unmade.now in
    let skip = may_skip step inside c.self.inside.members.items w.id w.refs c.self.inside.ways c.mark_way.new.self c.mark_way.ensures.marked c.self.invariant.1 in
    subst (λ l. CanSkipEach step inside (seen_way w) l c.replace-ways.result) (sym c.deref_mut.ensures.value)
    (subst (CanSkipEach step inside (seen_way w) c.self.inside.members.items) (sym c.replace-ways.ensures.value) skip)

pub invariant_of-self-2 : goal.invariant_of-self-2
invariant_of-self-2 g c =
    let area = g.A.Area.area in
    let step = g.P.NodeTaker.step in
    let e = way (way_from c.args.unmade.now) in
    let olds = c.self.inside.members.items in
    let news = c.take_way_each.new.members in
    let taken : news ≡ map (λ of. with_seen_in area step of e) olds = c.in_ok-self-inside.ensures.taken ∙ ap (map (λ of. with_seen_in area step of e)) c.deref_mut.ensures.value in
    let back : take c.self.inside.members.len (news ++ drop (length news) olds) ≡ news = all_back c.self.inside.members.len olds news (search rules) (search rules) in (
      still_one area step e olds (take c.self.inside.members.len (news ++ drop (length news) olds)) c.self.inside.strips c.take-strips.result (back ∙ taken) c.take-strips.ensures.value c.self.invariant.0,
      subst (λ l. StripsFindAll step g.P.NodeTaker.inside l c.in_ok-self-inside.field-0) (sym back) c.in_ok-self-inside.ensures.find,
    )

pub returns-then-not-mark_way : goal.returns-then-not-mark_way
returns-then-not-mark_way g c =
    let step = g.P.NodeTaker.step in
    let w = way_from c.args.unmade.now in
    all_left_out step g.P.NodeTaker.inside c.self.inside.members.items w.id w.refs c.self.inside.ways (c.mark_way.ensures.none (search rules)) c.self.invariant.1
    ∙ ap (λ l. each_gathered (with_seen_in g.A.Area.area step) l (way w)) c.self.view_is
