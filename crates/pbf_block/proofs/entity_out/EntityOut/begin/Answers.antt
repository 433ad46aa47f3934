use Rattle.std.proofs.Common.{w64, ◌∙◌, []}
use Rattle.std.specs.Option.{option_to_list}
use Rattle.osm_entity.specs.EntityTexts.{tag_texts}
use Rattle.osm_entity.specs.Sources.{tags_left}
use Rattle.osm_entity.specs.Views.{meta_of}
use Rattle.pbf_strings.specs.TableOut.{texts_after}
use Rattle.pbf_wire.proofs.WritingLemmas.{one_more, last_slot}
use Rattle.std.proofs.lemmas.Int.{to_z-of_z}
use Rattle.pbf_block.proofs.EntityLemmas.{begun}
use Rattle.pbf_block.proofs.LengthLaw.{begun_held}
use Rattle.pbf_strings.proofs.UsedTexts.{room_left, used_both}
use Rattle.pbf_block.proofs.entity_out.EntityOut.begin.Goals as goal

pub index_if_some-requires : goal.index_if_some-requires
index_if_some-requires g c = room_left _ _ _ _ c.in_ok-put_tag_fields.ensures.texts c.requires

pub returns-clause-texts : goal.returns-clause-texts
returns-clause-texts g c = used_both c.args.table.now c.put_tag_fields.new.table c.index_if_some.new.self (tag_texts (tags_left c.args.tags)) (option_to_list (meta_of c.args.meta.now).user) c.in_ok-put_tag_fields.ensures.texts c.in_ok-user.ensures.texts

pub returns-clause-begun : goal.returns-clause-begun
returns-clause-begun g c = λ used.
    let head = one_more _ _ _ _ _ c.in_ok-put_number.ensures (one_more _ _ _ _ _ (c.in_ok-put_column.ensures _ c.bytes.ensures) (one_more _ _ _ _ _ (c.in_ok-put_column-2.ensures _ c.bytes-2.ensures) (last_slot _ _ _ c.in_ok-put_unless_empty.ensures))) in
    let info = c.in_ok-put_info.ensures (texts_after c.index_if_some.new.self used) (c.in_ok-user.ensures.index used) in
    rw (c.clear-2.ensures.items, c.deref.ensures.value, c.sign_extended.ensures, to_z-of_z w64 c.args.id c.ranges.id) at head ∙ begun c.put_tag_fields.new.table c.index_if_some.new.self (option_to_list (meta_of c.args.meta.now).user) used c.args.id (meta_of c.args.meta.now) (tags_left c.args.tags) _ _ _ c.in_ok-user.ensures.texts c.in_ok-put_tag_fields.ensures.keys c.in_ok-put_tag_fields.ensures.values (rw c.clear.ensures.items at info)

pub returns-clause-held : goal.returns-clause-held
returns-clause-held g c =
    begun_held (texts_after c.put_tag_fields.new.table []) (texts_after c.index_if_some.new.self []) (tags_left c.args.tags) (meta_of c.args.meta.now) _ _ _ (c.in_ok-put_tag_fields.ensures.keys []) (c.in_ok-put_tag_fields.ensures.values [])
    (rw c.clear.ensures.items at (c.in_ok-put_info.ensures (texts_after c.index_if_some.new.self []) (c.in_ok-user.ensures.index [])))
