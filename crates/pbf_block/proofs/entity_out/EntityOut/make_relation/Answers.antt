use Rattle.std.proofs.Common.{rules, w64, to_z, of_z, ap, ◌∙◌, map, length, List, ◌++◌, []}
use Rattle.pbf_wire.specs.Message.{message}
use Rattle.osm_entity.specs.Sources.{tags_left, members_left}
use Rattle.osm_entity.specs.Views.{meta_of, relation_of}
use Rattle.pbf_strings.specs.TableOut.{texts_after}
use Rattle.pbf_block.specs.WrittenEntity.{role_index, kind_number, entity_slots}
use Rattle.std.proofs.lemmas.Int.{to_z-of_z}
use Rattle.pbf_block.proofs.EntityLemmas.{relation_made, roles_used, role_room}
use Rattle.pbf_block.proofs.LengthLaw.{relation_held}
use Rattle.osm_entity.specs.Entity.{TagSpec}
use Rattle.pbf_strings.proofs.UsedTexts.{used_later}
use Rattle.pbf_block.proofs.entity_out.EntityOut.make_relation.Goals as goal

pub put_member_fields-requires-clause-room : goal.put_member_fields-requires-clause-room
put_member_fields-requires-clause-room g c = role_room _ _ (relation_of c.args.relation.now) _ _ _ c.meta.ensures c.tags.ensures c.members.ensures c.in_ok-begin.ensures.texts c.requires.room

pub returns-clause-texts : goal.returns-clause-texts
returns-clause-texts g c = roles_used _ _ _ (relation_of c.args.relation.now) _ _ _ c.meta.ensures c.tags.ensures c.members.ensures c.in_ok-begin.ensures.texts c.in_ok-put_member_fields.ensures.texts

pub returns-clause-made : goal.returns-clause-made
returns-clause-made g c = λ used.
    let roles = map (λ m. m.role) (members_left c.members.result) in
    let made = relation_made (texts_after c.put_member_fields.new.table used) (relation_of c.args.relation.now) (to_z w64 (of_z w64 c.id.result)) _ _ _ _ _ _ _ _ _ (to_z-of_z w64 c.id.result (search rules) ∙ c.id.ensures) c.meta.ensures c.tags.ensures
    (c.in_ok-put_member_fields.ensures.roles used ∙ ap (map (role_index (texts_after c.put_member_fields.new.table used))) c.members.ensures)
    (c.in_ok-put_member_fields.ensures.ids ∙ ap (map (λ m. m.id)) c.members.ensures) (c.in_ok-put_member_fields.ensures.kinds ∙ ap (map (λ m. kind_number m.kind)) c.members.ensures)
    (c.in_ok-begin.ensures.begun (roles ++ used) ∙ ap (λ ts. message (entity_slots ts (to_z w64 (of_z w64 c.id.result)) (meta_of c.meta.result) (tags_left c.tags.result) [])) (used_later c.begin.new.table c.put_member_fields.new.table roles used c.in_ok-put_member_fields.ensures.texts)) (c.in_ok-put_column.ensures _ c.bytes.ensures) (c.in_ok-put_column-2.ensures _ c.bytes-2.ensures) (c.in_ok-put_column-3.ensures _ c.bytes-3.ensures) in
    made

pub returns-clause-held : goal.returns-clause-held
returns-clause-held g c = λ none.
    let made = returns-clause-made g c in
    relation_held c.args.self.now c.begin.new.self _ _ _ _ (texts_after c.put_member_fields.new.table []) (relation_of c.args.relation.now) _ none c.in_ok-begin.ensures.held (ap (λ (ts : List TagSpec). length ts) c.tags.ensures) c.in_ok-begin.ensures.columns
    (c.in_ok-put_member_fields.ensures.roles [] ∙ ap (map (role_index (texts_after c.put_member_fields.new.table []))) c.members.ensures)
    (c.in_ok-put_member_fields.ensures.ids ∙ ap (map (λ m. m.id)) c.members.ensures) (c.in_ok-put_member_fields.ensures.kinds ∙ ap (map (λ m. kind_number m.kind)) c.members.ensures) (made [])
