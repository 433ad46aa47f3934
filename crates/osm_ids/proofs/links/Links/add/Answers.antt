use Rattle.std.proofs.Common.{◌≡◌, arith, ap, subst, sym, ◌∙◌, to_z, of_z, w64}
use Rattle.std.specs.BTreeSet.{insert_key}
use Rattle.std.proofs.lemmas.Int.{to_z-of_z}
use Rattle.osm_ids.specs.declared.links.Link.{Link}
use Rattle.osm_ids.specs.Links.{link_cmp, ParentsFit}
use Rattle.osm_ids.proofs.LinkOrder.{contains-links, links-insert_key, fit_more}
use Rattle.osm_ids.proofs.links.Links.add.Goals as goal
use Rattle.osm_ids.proofs.links.Links.add.Goals.{In_ok-insert}

-- the link as the code has it
link_is : (c : In_ok-insert) → ◌≡◌ {A = Link} (record { member = to_z w64 (of_z w64 c.args.member); parent = to_z w64 (of_z w64 c.args.parent) }) (record { member = c.args.member; parent = c.args.parent })
link_is c = λ i. record { member = to_z-of_z w64 c.args.member c.ranges.member i; parent = to_z-of_z w64 c.args.parent c.ranges.parent i }

pub invariant_of-self-2 : goal.invariant_of-self-2
invariant_of-self-2 c =
    let new : Link = record { member = c.args.member; parent = c.args.parent } in
    subst ParentsFit (sym (c.in_ok-insert.ensures.keys ∙ ap (insert_key link_cmp c.self.inside.links.keys) (link_is c))) (fit_more c.self.inside.links.keys new c.self.invariant c.ranges.parent)

pub returns-clause-new : goal.returns-clause-new
returns-clause-new c = grind (arith, link_is c, c.in_ok-insert.ensures.added, contains-links c.self.inside.links.keys, c.self.view_is)

pub returns-clause-ok : goal.returns-clause-ok
returns-clause-ok c = grind (arith, link_is c, c.in_ok-insert.ensures.keys, links-insert_key c.self.inside.links.keys (record { member = c.args.member; parent = c.args.parent }), c.self.view_is)
