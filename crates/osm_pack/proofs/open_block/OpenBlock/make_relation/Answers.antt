use Rattle.std.proofs.Common.{refl, []}
use Rattle.osm_entity.specs.Entity.{relation}
use Rattle.osm_entity.specs.Views.{relation_of}
use Rattle.pbf_strings.specs.TableOut.{texts_after}
use Rattle.pbf_block.proofs.LengthLaw.{relation_beside}
use Rattle.osm_pack.proofs.OpenLemmas.{room_held, entity_held}
use Rattle.osm_pack.proofs.open_block.OpenBlock.make_relation.Goals as goal

pub make_relation-requires-clause-room : goal.make_relation-requires-clause-room
make_relation-requires-clause-room g c =
    let was = c.requires.«open» in
    room_held c.args.self.now was.entities (relation (relation_of c.args.view.now)) was.held (c.requires.joins was.entities was.held)

pub returns-clause-made : goal.returns-clause-made
returns-clause-made g c = record {
  likeness = refl;
  count = refl;
  weight = refl;
  texts = c.in_ok-make_relation.ensures.texts;
  nodes = refl;
  group = refl;
}

pub returns-clause-room : goal.returns-clause-room
returns-clause-room g c =
    let was = c.requires.«open» in
    entity_held c.args.self.now was.entities (relation (relation_of c.args.view.now)) _ _ c.make_relation.new.table _ c.make_relation.new.self was.held (c.requires.joins was.entities was.held) c.in_ok-make_relation.ensures.texts
    (c.in_ok-make_relation.ensures.made []) (relation_beside (texts_after c.make_relation.new.table []) (relation_of c.args.view.now)) (c.in_ok-make_relation.ensures.held was.held.writer)
