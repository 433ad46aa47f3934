use Rattle.std.proofs.Common.{◌≡◌, ◌+◌, ◌++◌, [], ◌∷◌, take, rules}
use Rattle.std.proofs.lemmas.List.{take_more}
use Rattle.osm_polygon.proofs.StripLemmas.{within_wider, within_more}
use Rattle.osm_polygon.proofs.strips.ends.Goals as goal

pub loop-edge-preserved : goal.loop-edge-preserved
loop-edge-preserved c =
    let so_far = c.loop-edge.invariant in
    let axis = c.args.axis in
    let edges = c.args.edges.now in
    let i = c.loop-edge.edge-index in
    let e = c.edge-item.result in
    let more : take (i + 1) edges ≡ take i edges ++ e ∷ [] = search (rules, take_more edges i e) in
    let first = c.min-first.result in
    let last = c.max-last.result in
    let wider = within_wider axis 0 c.loop-edge.first (c.loop-edge.last + 1) first (last + 1) (take i edges) so_far.within (search rules) (search rules) in
    rw more (record {
      within = within_more axis 0 first (last + 1) (take i edges) e wider (search rules) (search rules);
      small = search rules;
    })
