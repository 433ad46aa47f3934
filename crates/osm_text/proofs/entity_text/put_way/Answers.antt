use Rattle.std.proofs.Common.{◌≡◌, [], ◌∷◌, ◌++◌, map, rules}
use Rattle.osm_entity.specs.Entity.{nano_location, meta_in_millis}
use Rattle.osm_entity.specs.Views.{way_of}
use Rattle.osm_text.specs.EntityText.{start_text, common_text, refs_text}
use Rattle.osm_text.proofs.TextLemmas.{four_parts, common_of_entity}
use Rattle.osm_text.proofs.entity_text.put_way.Goals as goal

pub returns : goal.returns
returns c =
    let w = way_of c.args.view.now in
    let start : c.put_start.new.out.items ≡ c.args.out.now.items ++ start_text 87 w.id = search rules in
    let common = common_of_entity c.args.dates _ _ _ _ _ _ _ _ _ c.scale.ensures c.meta.ensures c.tags.ensures c.in_ok-put_meta.ensures c.in_ok-put_tags.ensures in
    let refs : c.put_refs.new.out.items ≡ c.put_tags.new.out.items ++ refs_text w.refs (map (nano_location w.scale) w.locations) = search rules in
    four_parts _ _ _ _ _ (start_text 87 w.id) (common_text c.args.dates (meta_in_millis w.scale w.meta) w.tags) (refs_text w.refs (map (nano_location w.scale) w.locations)) (10 ∷ []) start common refs c.in_ok-push.ensures.items
