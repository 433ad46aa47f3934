use Rattle.std.proofs.Common.{◌≤◌, ◌∷◌, [], length, length-append, arith, ap, subst, rules, w64}
use mir.Val.{SFits}
use Rattle.std.specs.List.{filter}
use Rattle.std.proofs.lemmas.Int.{to_z-of_z}
use Rattle.osm_ids.specs.Links.{FollowsLinks, GrowsToLeast, is_of, to_follow}
use Rattle.osm_ids.proofs.LinkOrder.{contains-links}
use Rattle.osm_ids.proofs.Closing.{closing_start, closing_pop, closing_end}
use Rattle.osm_ids.proofs.links.Links.close.Goals as goal

pub loop-id-init : goal.loop-id-init
loop-id-init c = closing_start c.self.inside.links.keys c.args.start c.in_ok-work.work.items c.in_ok-work.ensures

-- the links of one id are followed
followed : (c : goal.In_ok-add_parents) → GrowsToLeast c.self.inside.links.keys [] c.args.start c.add_parents.new.ids c.add_parents.new.work.items × (to_follow c.self.inside.links.keys c.add_parents.new.ids c.add_parents.new.work.items ≤ to_follow c.self.inside.links.keys c.loop-id.ids c.pop.new.self.items)
followed c =
    let links = c.self.inside.links.keys in
    let l = c.loop-id in
    let id = c.in-Some.id in
    let rest = c.pop.new.self.items in
    let fits : SFits w64 id = search rules in
    let follows = subst (λ z. FollowsLinks links (filter (is_of z) links) [] l.ids rest c.add_parents.new.ids c.add_parents.new.work.items) (to_z-of_z w64 id fits) c.in_ok-add_parents.ensures in
    follows c.args.start (closing_pop links c.args.start l.ids rest id (subst (GrowsToLeast links [] c.args.start l.ids) c.in-Some.ensures.items l.invariant))

pub loop-id-preserved : goal.loop-id-preserved
loop-id-preserved c = (followed c).0

pub loop-id-smaller : goal.loop-id-smaller
loop-id-smaller c = omega (arith, (followed c).1, ap length c.in-Some.ensures.items, length-append c.pop.new.self.items (c.in-Some.id ∷ []))

pub returns : goal.returns
returns c = grind (arith, contains-links c.self.inside.links.keys, closing_end c.self.inside.links.keys c.args.start c.loop-id.ids c.loop-id.work.items c.loop-id.invariant)
