use Rattle.std.proofs.Common.{◌≡◌, ◌≤◌, ◌++◌, ◌∷◌, [], List, ℤ, true, false, ap, subst, sym, ◌∙◌, arith, rules, to_z, of_z, w64}
use mir.Val.{SFits}
use Rattle.std.specs.List.{filter}
use Rattle.std.specs.FinSet as set
use Rattle.std.specs.Map.Iter.{deref}
use Rattle.std.proofs.lemmas.Int.{to_z-of_z}
use Rattle.std.proofs.lemmas.Bool.{not-true, not-false}
use Rattle.std.proofs.lemmas.Map.Iter.{rest_more, rest_all}
use Rattle.osm_ids.specs.declared.links.Link.{Link}
use Rattle.osm_ids.specs.Links.{FollowsLinks, GrowsToLeast, to_follow, is_of}
use Rattle.osm_ids.proofs.Sets.{Ids}
use Rattle.osm_ids.proofs.Closing.{follow_same, follow_new, insert_same}
use Rattle.osm_ids.proofs.links.add_parents.Goals as goal

pub loop-link-preserved : goal.loop-link-preserved
loop-link-preserved c = λ start closing.
    let l = c.loop-link in
    let links = c.args.links.now.keys in
    let x = c.in-Some.link.now in
    let rest = c.next.new.self in
    let turn : l.link-iterator ≡ x ∷ rest = rest_more (deref {X = Link}) _ _ _ c.in-Some.link c.in-Some.is c.next.ensures.steps in
    let fits : SFits w64 x.parent = search rules in
    let same = to_z-of_z w64 x.parent fits in
    let none : set.contains l.ids x.parent ≡ false = ap (set.contains l.ids) (sym same) ∙ not-true _ (sym c.in_ok-is_new.ensures.new ∙ c.if-not-is_new.false) in
    let ids : c.add.new.self ≡ set.insert l.ids x.parent = c.in_ok-is_new.ensures.ok ∙ ap (set.insert l.ids) same in
    let work : c.push.new.self.items ≡ l.work.items ++ x.parent ∷ [] = c.in_ok-push.ensures.items ∙ ap (λ p. l.work.items ++ p ∷ []) same in
    let before = l.invariant start closing in
    let after = follow_new links rest x start l.ids l.work.items (subst (λ (r : List Link). GrowsToLeast links r start l.ids l.work.items) turn before.0) none in (
      subst (λ (s : Ids). GrowsToLeast links rest start s c.push.new.self.items) (sym ids)
          (subst (GrowsToLeast links rest start (set.insert l.ids x.parent)) (sym work) after.0),
      subst (λ (s : Ids). to_follow links s c.push.new.self.items ≤ to_follow links c.args.ids.now c.args.work.now.items) (sym ids)
          (subst (λ (w : List ℤ). to_follow links (set.insert l.ids x.parent) w ≤ to_follow links c.args.ids.now c.args.work.now.items) (sym work) (omega (arith, after.1, before.1))),
    )

pub loop-link-preserved-then-not-is_new : goal.loop-link-preserved-then-not-is_new
loop-link-preserved-then-not-is_new c =
    let l = c.loop-link in
    let links = c.args.links.now.keys in
    let x = c.in-Some.link.now in
    let rest = c.next.new.self in
    let turn : l.link-iterator ≡ x ∷ rest = rest_more (deref {X = Link}) _ _ _ c.in-Some.link c.in-Some.is c.next.ensures.steps in
    let fits : SFits w64 x.parent = search rules in
    let same = to_z-of_z w64 x.parent fits in
    let here : set.contains l.ids x.parent ≡ true = ap (set.contains l.ids) (sym same) ∙ not-false _ (sym c.in_ok-is_new.ensures.new ∙ c.if-not-is_new.true) in
    let ids : c.add.new.self ≡ l.ids = c.in_ok-is_new.ensures.ok ∙ ap (set.insert l.ids) same ∙ insert_same l.ids x.parent here in
    subst (λ (s : Ids). FollowsLinks links (filter (is_of (to_z w64 (of_z w64 c.args.id))) links) rest c.args.ids.now c.args.work.now.items s l.work.items) (sym ids)
    (λ start closing.
    let before = l.invariant start closing in
    (follow_same links rest x start l.ids l.work.items (subst (λ (r : List Link). GrowsToLeast links r start l.ids l.work.items) turn before.0) here, before.1))

pub returns : goal.returns
returns c =
    let l = c.loop-link in
    let links = c.args.links.now.keys in
    let none : l.link-iterator ≡ [] = rest_all (deref {X = Link}) _ _ _ c.in-None.is c.next.ensures.steps in
    subst (λ z. FollowsLinks links (filter (is_of z) links) [] c.args.ids.now c.args.work.now.items l.ids l.work.items) (to_z-of_z w64 c.args.id c.ranges.id)
    (subst (λ (r : List Link). FollowsLinks links (filter (is_of (to_z w64 (of_z w64 c.args.id))) links) r c.args.ids.now c.args.work.now.items l.ids l.work.items) none l.invariant)
