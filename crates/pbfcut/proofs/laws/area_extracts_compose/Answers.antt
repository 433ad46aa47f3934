use Rattle.std.proofs.Common.{subst, rules}
use Rattle.osm_box.specs.declared.bounding_box.BoundingBox.{BoundingBox}
use Rattle.pbf_header.specs.WrittenHeader.{EdgesTyped, edges_of}
use Rattle.pbfcut.proofs.ExtractingLemmas.{edges_typed}
use Rattle.pbfcut.proofs.KeptLaw.{runs_compose}
use Rattle.pbfcut.proofs.laws.area_extracts_compose.Goals as goal

pub returns : goal.returns
returns g c narrow wide wider small h file part cut counts fewer low first second =
    let typed = subst (λ (b : BoundingBox). EdgesTyped (edges_of b)) c.bounds-bounds.ensures.value (edges_typed c.bounds-bounds.result (search rules) (search rules) (search rules) (search rules)) in
    runs_compose narrow wide wider (g.A.Area.area c.args.area.now) small typed h file part cut counts fewer low first second
