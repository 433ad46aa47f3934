use Rattle.std.proofs.Common.{◌≡◌, ◌∙◌, Bool, List, true, length, ap, sym, subst, rules}
use Rattle.std.specs.Prelude.{replicate}
use Rattle.std.specs.List.{AllZip}
use Rattle.osm_ways.specs.Seen.{seen_refs}
use Rattle.pbf_pass.specs.EachArea.{CanSkip}
use Rattle.pbf_pass.proofs.WayStripLemmas.{all_marked}
use Rattle.pbf_pass.proofs.way_strips.take_and_name.Goals as goal

pub take_marked-requires : goal.take_marked-requires
take_marked-requires g c =
    let step = g.P.NodeTaker.step in
    let inside = g.P.NodeTaker.inside in
    let members = c.args.members.now in
    let are : c.as_mut_slice.result.now ≡ replicate (length members) true = search rules in
    subst (λ (marks : List Bool). AllZip (CanSkip step inside (seen_refs c.args.way.now)) members marks) (sym are) (all_marked step inside (seen_refs c.args.way.now) members)
