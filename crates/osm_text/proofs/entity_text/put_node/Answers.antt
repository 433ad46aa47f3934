use Rattle.std.proofs.Common.{◌≡◌, [], ◌∷◌, ◌++◌, rules}
use Rattle.osm_entity.specs.Entity.{meta_in_millis}
use Rattle.osm_entity.specs.Scale.{nano_lat, nano_lon}
use Rattle.osm_entity.specs.Views.{node_of}
use Rattle.osm_text.specs.EntityText.{start_text, common_text, spaced_pair}
use Rattle.osm_text.proofs.TextLemmas.{four_parts, common_of_entity}
use Rattle.osm_text.proofs.entity_text.put_node.Goals as goal

pub returns : goal.returns
returns c =
    let n = node_of c.args.view.now in
    let start : c.put_start.new.out.items ≡ c.args.out.now.items ++ start_text 78 n.id = search rules in
    let place : c.put_spaced_pair.new.out.items ≡ c.put_start.new.out.items ++ spaced_pair (nano_lat n.scale n.lat) (nano_lon n.scale n.lon) = search rules in
    let common = common_of_entity c.args.dates _ _ _ _ _ _ _ _ _ c.scale.ensures c.meta.ensures c.tags.ensures c.in_ok-put_meta.ensures c.in_ok-put_tags.ensures in
    four_parts _ _ _ _ _ (start_text 78 n.id) (spaced_pair (nano_lat n.scale n.lat) (nano_lon n.scale n.lon)) (common_text c.args.dates (meta_in_millis n.scale n.meta) n.tags) (10 ∷ []) start place common c.in_ok-push.ensures.items
