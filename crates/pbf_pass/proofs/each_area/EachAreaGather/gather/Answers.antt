use Rattle.std.proofs.Common.{◌≡◌, ◌++◌, ◌∙◌, sym, ap, length, take, drop, map, arith, rules}
use Rattle.osm_entity.specs.Views.{entity_of}
use Rattle.pbf_pass.specs.Pass.{with_seen_in}
use Rattle.pbf_pass.proofs.EachLemmas.{all_back}
use Rattle.pbf_pass.proofs.EachAreaLemmas.{still_one}
use Rattle.pbf_pass.proofs.WayStripLemmas.{find_none}
use Rattle.pbf_pass.proofs.each_area.EachAreaGather.gather.Goals as goal

pub invariant_of-self-2 : goal.invariant_of-self-2
invariant_of-self-2 g c =
    let olds = c.self.inside.members.items in
    let news = c.gather_each.new.gatherers in
    let taken : news ≡ map (λ of. with_seen_in g.A.Area.area g.P.NodeTaker.step of (entity_of c.args.entity.now)) olds = search rules in
    let back : take c.self.inside.members.len (news ++ drop (length news) olds) ≡ news = all_back c.self.inside.members.len olds news (search rules) (search rules) in (
      still_one g.A.Area.area g.P.NodeTaker.step (entity_of c.args.entity.now) olds (take c.self.inside.members.len (news ++ drop (length news) olds)) c.self.inside.strips c.take-strips.result (back ∙ taken) (search rules) c.self.invariant.0,
      find_none g.P.NodeTaker.step g.P.NodeTaker.inside _ c.drop_made.new.self c.drop_made.ensures,
    )
