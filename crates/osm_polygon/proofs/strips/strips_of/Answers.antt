use Rattle.std.proofs.Common.{◌≡◌, ◌∙◌, ◌+◌, ◌++◌, [], ◌∷◌, take, rules, arith}
use Rattle.std.proofs.lemmas.List.{take_more}
use Rattle.osm_polygon.specs.Edges.{is_in_strip}
use Rattle.osm_polygon.proofs.StripLemmas.{strips_with, spans_more, same_number}
use Rattle.osm_polygon.proofs.strips.strips_of.Goals as goal

pub loop-edge-preserved : goal.loop-edge-preserved
loop-edge-preserved c =
    let so_far = c.loop-edge.invariant in
    let axis = c.args.cut.axis in
    let shift = c.args.cut.shift in
    let edges = c.args.edges.now in
    let i = c.loop-edge.edge-index in
    let e = c.edge-item.result in
    let more : take (i + 1) edges ≡ take i edges ++ e ∷ [] = search (rules, take_more edges i e) in
    rw more (record {
      number = same_number (λ n. is_in_strip axis shift n e) e c.args.cut.first _ _ c.in_ok-add_edge.ensures.with ∙ so_far.number;
      are = rw c.in_ok-add_edge.ensures.with (strips_with _ axis shift c.args.cut.first (take i edges) e so_far.are);
      few = omega (arith, c.in_ok-add_edge.ensures.few, so_far.few, spans_more c.args.cut (take i edges) e);
    })
