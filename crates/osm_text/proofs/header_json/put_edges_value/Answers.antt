use Rattle.std.proofs.Common.{◌≡◌, ◌++◌, rules}
use Rattle.osm_text.specs.HeaderJson.{number_pair}
use Rattle.osm_text.proofs.JsonLemmas.{five_parts}
use Rattle.osm_text.proofs.header_json.put_edges_value.Goals as goal

pub returns : goal.returns
returns c =
    let box = c.args.edges in
    let low : c.put_number_pair.new.out.items ≡ c.push.new.self.items ++ number_pair box.left box.bottom = search rules in
    let high : c.put_number_pair-2.new.out.items ≡ c.push-2.new.self.items ++ number_pair box.right box.top = search rules in
    five_parts _ _ _ _ _ _ _ _ _ _ _ c.in_ok-push.ensures.items low c.in_ok-push-2.ensures.items high c.in_ok-push-3.ensures.items
