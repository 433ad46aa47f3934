use Rattle.std.proofs.Common.{rules, subst, ap, ◌∙◌}
use Rattle.osm_box.specs.declared.bounding_box.BoundingBox.{BoundingBox}
use Rattle.pbf_header.specs.Header.{header_of}
use Rattle.pbf_header.specs.WrittenHeader.{EdgesTyped, edges_of, header_out_for_box}
use Rattle.pbfcut.proofs.ExtractingLemmas.{edges_typed}
use Rattle.pbfcut.proofs.choosing_each.end_taking.Goals as goal

pub returns : goal.returns
returns g c =
    let bounds = c.bounds.result in
    record {
      ways = c.in_ok-gathering.ensures;
      done = c.has_all_ways-is_done.ensures;
      header_is = c.in_ok-header.ensures ∙ ap (λ (area : BoundingBox). header_out_for_box area (header_of c.args.header.now)) c.bounds.ensures.value;
      typed = subst (λ (area : BoundingBox). EdgesTyped (edges_of area)) c.bounds.ensures.value (edges_typed bounds (search rules) (search rules) (search rules) (search rules));
    }
