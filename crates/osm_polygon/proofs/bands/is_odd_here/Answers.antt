use Rattle.std.proofs.Common.{◌≡◌, ◌+◌, ◌++◌, ◌∷◌, [], ◌∙◌, ap₂, sym, take, rules}
use Rattle.std.proofs.lemmas.List.{take_more}
use Rattle.osm_polygon.specs.Bands.{differ, crosses_border, is_last}
use Rattle.osm_polygon.proofs.Counting.{odd_push}
use Rattle.osm_polygon.proofs.bands.is_odd_here.Goals as goal

pub loop-edge-preserved : goal.loop-edge-preserved
loop-edge-preserved c =
    let test = is_last c.args.shift c.args.cell (crosses_border c.args.border) in
    let edges = c.args.edges.now in
    let i = c.loop-edge.edge-index in
    let e = c.edge-item.result in
    let more : take (i + 1) edges ≡ take i edges ++ e ∷ [] = search (rules, take_more edges i e) in
    rw more (c.differ-is_odd.ensures ∙ ap₂ differ c.loop-edge.invariant c.is_last.ensures ∙ sym (odd_push test (take i edges) e))
