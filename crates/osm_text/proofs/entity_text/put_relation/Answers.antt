use Rattle.std.proofs.Common.{◌≡◌, [], ◌∷◌, ◌++◌, rules}
use Rattle.std.specs.List.{flat_map}
use Rattle.osm_entity.specs.Entity.{meta_in_millis}
use Rattle.osm_entity.specs.Views.{relation_of}
use Rattle.osm_text.specs.EntityText.{start_text, common_text, member_text}
use Rattle.osm_text.proofs.TextLemmas.{four_parts, common_of_entity}
use Rattle.osm_text.proofs.entity_text.put_relation.Goals as goal

pub returns : goal.returns
returns c =
    let r = relation_of c.args.view.now in
    let start : c.put_start.new.out.items ≡ c.args.out.now.items ++ start_text 82 r.id = search rules in
    let common = common_of_entity c.args.dates _ _ _ _ _ _ _ _ _ c.scale.ensures c.meta.ensures c.tags.ensures c.in_ok-put_meta.ensures c.in_ok-put_tags.ensures in
    let members : c.put_members.new.out.items ≡ c.put_tags.new.out.items ++ flat_map member_text r.members = search rules in
    four_parts _ _ _ _ _ (start_text 82 r.id) (common_text c.args.dates (meta_in_millis r.scale r.meta) r.tags) (flat_map member_text r.members) (10 ∷ []) start common members c.in_ok-push.ensures.items
