use Rattle.std.proofs.Common.{rules, w64, to_z, of_z, ap, ◌∙◌, map, length, List, []}
use Rattle.osm_entity.specs.Views.{way_of}
use Rattle.pbf_strings.specs.TableOut.{texts_after}
use Rattle.std.proofs.lemmas.Int.{to_z-of_z}
use Rattle.pbf_block.proofs.EntityLemmas.{way_made}
use Rattle.pbf_block.proofs.LengthLaw.{way_held}
use Rattle.osm_entity.specs.Entity.{TagSpec}
use Rattle.pbf_block.proofs.entity_out.EntityOut.make_way.Goals as goal

pub returns-clause-made : goal.returns-clause-made
returns-clause-made g c = λ used.
    let made = way_made (texts_after c.begin.new.table used) (way_of c.args.way.now) (to_z w64 (of_z w64 c.id.result)) _ _ _ _ _ _ _ _ _ (to_z-of_z w64 c.id.result (search rules) ∙ c.id.ensures) c.meta.ensures c.tags.ensures (c.in_ok-put_ref_fields.ensures ∙ c.refs.ensures)
    (c.in_ok-put_locations.ensures.lats ∙ ap (map (λ l. l.0)) c.locations.ensures) (c.in_ok-put_locations.ensures.lons ∙ ap (map (λ l. l.1)) c.locations.ensures)
    (c.in_ok-begin.ensures.begun used) (c.in_ok-put_column.ensures _ c.bytes.ensures) (c.in_ok-put_column-2.ensures _ c.bytes-2.ensures) (c.in_ok-put_column-3.ensures _ c.bytes-3.ensures) in
    made

pub returns-clause-held : goal.returns-clause-held
returns-clause-held g c = λ none.
    let made = returns-clause-made g c in
    way_held c.args.self.now c.begin.new.self _ _ _ _ (texts_after c.begin.new.table []) (way_of c.args.way.now) _ none c.in_ok-begin.ensures.held (ap (λ (ts : List TagSpec). length ts) c.tags.ensures) c.in_ok-begin.ensures.columns
    (c.in_ok-put_ref_fields.ensures ∙ c.refs.ensures) (c.in_ok-put_locations.ensures.lats ∙ ap (map (λ l. l.0)) c.locations.ensures) (c.in_ok-put_locations.ensures.lons ∙ ap (map (λ l. l.1)) c.locations.ensures) (made [])
