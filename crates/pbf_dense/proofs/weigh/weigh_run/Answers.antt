use Rattle.std.proofs.Common.{map, ap, sym, ◌∙◌, arith}
use Rattle.osm_entity.specs.Sources.{tag_of}
use Rattle.osm_entity.specs.Weight.{tags_weight}
use Rattle.pbf_dense.proofs.weigh.weigh_run.Goals as goal

pub tags-preserved : goal.tags-preserved
tags-preserved c =
    let inv = c.tags.invariant in
    let e = c.in-Some.ensures in
    let whole = ap (λ pairs. tags_weight (map (tag_of c.args.table.now) pairs)) e.pair in
    record {
      fits = omega (arith, c.saturating_add-weight.ensures);
      so_far = omega (arith, whole, inv.so_far, inv.fits, c.saturating_add.ensures, c.saturating_add-in-Some.ensures, c.saturating_add-weight.ensures, c.text_length.ensures, c.text_length-in-Some.ensures);
      rest = sym e.rest ∙ inv.rest;
    }
