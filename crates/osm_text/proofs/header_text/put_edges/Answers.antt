use Rattle.std.proofs.Common.{◌≡◌, ◌++◌, rules}
use Rattle.osm_text.specs.EntityText.{spaced_pair}
use Rattle.osm_text.proofs.TextLemmas.{part_then}
use Rattle.osm_text.proofs.header_text.put_edges.Goals as goal

pub returns : goal.returns
returns c =
    let box = c.args.edges in
    let low : c.put_spaced_pair.new.out.items ≡ c.args.out.now.items ++ spaced_pair box.left box.bottom = search rules in
    let high : c.put_spaced_pair-2.new.out.items ≡ c.put_spaced_pair.new.out.items ++ spaced_pair box.right box.top = search rules in
    part_then _ _ _ (spaced_pair box.left box.bottom) (spaced_pair box.right box.top) low high
