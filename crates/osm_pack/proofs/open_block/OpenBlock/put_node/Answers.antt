use Rattle.std.proofs.Common.{refl}
use Rattle.osm_entity.specs.Entity.{node}
use Rattle.osm_entity.specs.Views.{node_of}
use Rattle.osm_pack.proofs.OpenLemmas.{room_held, node_encoded}
use Rattle.osm_pack.proofs.open_block.OpenBlock.put_node.Goals as goal

pub push-requires-clause-room : goal.push-requires-clause-room
push-requires-clause-room g c =
    let was = c.requires.«open» in
    room_held c.args.self.now was.entities (node (node_of c.args.view.now)) was.held (c.requires.joins was.entities was.held)

pub returns : goal.returns
returns g c = λ es h. node_encoded _ _ es _ h (record { likeness = refl; count = refl; weight = refl }) c.in_ok-push.ensures.texts c.in_ok-push.ensures.pushed refl refl
