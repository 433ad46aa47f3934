use Rattle.std.proofs.Common.{◌≡◌, ◌∙◌, ◌++◌, List, length, take, drop, map, ap, sym, subst, rules}
use Rattle.osm_ways.specs.Phases.{Ids}
use Rattle.osm_ways.specs.Seen.{seen_refs}
use Rattle.pbf_pass.specs.EachArea.{CanSkip, NamesEachSet, member_ids}
use Rattle.pbf_pass.proofs.EachLemmas.{all_back}
use Rattle.pbf_pass.proofs.WayStripLemmas.{as_many_zipped}
use Rattle.pbf_pass.proofs.way_strips.take_named.Goals as goal

pub returns-clause-find : goal.returns-clause-find
returns-clause-find g c =
    let made = c.args.made in
    let olds = made.marks.items in
    let news = c.take_marked.new.marks in
    let back : take made.marks.len (news ++ drop (length news) olds) ≡ news = all_back made.marks.len olds news (search rules) (search rules) in
    let kept : length news ≡ length olds = search rules in
    let stayed : length c.take_marked.new.members ≡ length c.args.members.now = search rules in (
      c.in_ok-take_marked.ensures.skips,
      subst (λ (all : List Ids). NamesEachSet made.strips 0 all) (sym c.in_ok-take_marked.ensures.inside) c.requires.1,
      ap length back ∙ kept ∙ sym (as_many_zipped (CanSkip g.P.NodeTaker.step g.P.NodeTaker.inside (seen_refs c.args.way.now)) c.args.members.now olds c.requires.0) ∙ sym stayed,
    )
