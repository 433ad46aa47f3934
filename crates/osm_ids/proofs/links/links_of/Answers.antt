use Rattle.std.proofs.Common.{ℤ, negsuc, pos, ◌≤ℤ◌, FitsSigned, ap, ◌∙◌, arith, to_z, of_z, w64}
use Rattle.std.specs.List.{filter}
use Rattle.std.specs.declared.ops.Bound.TheVariants.{Included}
use Rattle.std.specs.BTreeMap.Range.{range_contains}
use Rattle.std.proofs.lemmas.Int.{ints, to_z-of_z}
use Rattle.osm_ids.specs.declared.links.Link.{Link}
use Rattle.osm_ids.specs.Links.{link_cmp, is_of}
use Rattle.osm_ids.proofs.LinkOrder.{link_of, links_between}
use Rattle.osm_ids.proofs.links.links_of.Goals as goal

bounds : (p : ℤ) → FitsSigned w64 p → (negsuc 9223372036854775807 ≤ℤ p) × (p ≤ℤ pos 9223372036854775807)
bounds p fit = omega (arith, ints)

pub returns : goal.returns
returns c =
    let links = c.args.links.now.keys in
    let id = to_z w64 (of_z w64 c.args.id) in
    c.range.ensures.between c.new.ensures.exhausted
    ∙ ap (λ (a : Link). filter (range_contains link_cmp (Included a) (Included c.new.result.end)) links) c.new.ensures.start
    ∙ ap (λ (b : Link). filter (range_contains link_cmp (Included (link_of id (negsuc 9223372036854775807))) (Included b)) links) c.new.ensures.end
    ∙ links_between links id _ _ (λ l e. bounds l.parent (c.requires l e))
    ∙ ap (λ z. filter (is_of z) links) (to_z-of_z w64 c.args.id c.ranges.id)
