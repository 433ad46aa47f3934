use Rattle.std.proofs.Common.{refl, []}
use Rattle.osm_entity.specs.Entity.{way}
use Rattle.osm_entity.specs.Views.{way_of}
use Rattle.pbf_strings.specs.TableOut.{texts_after}
use Rattle.pbf_block.proofs.LengthLaw.{way_beside}
use Rattle.osm_pack.proofs.OpenLemmas.{room_held, entity_held}
use Rattle.osm_pack.proofs.open_block.OpenBlock.make_way.Goals as goal

pub make_way-requires-clause-room : goal.make_way-requires-clause-room
make_way-requires-clause-room g c =
    let was = c.requires.«open» in
    room_held c.args.self.now was.entities (way (way_of c.args.view.now)) was.held (c.requires.joins was.entities was.held)

pub returns-clause-made : goal.returns-clause-made
returns-clause-made g c = record {
  likeness = refl;
  count = refl;
  weight = refl;
  texts = c.in_ok-make_way.ensures.texts;
  nodes = refl;
  group = refl;
}

pub returns-clause-room : goal.returns-clause-room
returns-clause-room g c =
    let was = c.requires.«open» in
    entity_held c.args.self.now was.entities (way (way_of c.args.view.now)) _ _ c.make_way.new.table _ c.make_way.new.self was.held (c.requires.joins was.entities was.held) c.in_ok-make_way.ensures.texts
    (c.in_ok-make_way.ensures.made []) (way_beside (texts_after c.make_way.new.table []) (way_of c.args.view.now)) (c.in_ok-make_way.ensures.held was.held.writer)
