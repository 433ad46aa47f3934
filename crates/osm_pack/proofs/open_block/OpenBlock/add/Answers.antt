use Rattle.std.proofs.Common.{arith}
use Rattle.osm_pack.specs.View.{entity_shown}
use Rattle.osm_pack.proofs.OpenLemmas.{joined, bounds}
use Rattle.osm_pack.proofs.open_block.OpenBlock.add.Goals as goal

pub count_joined-requires-clause-few : goal.count_joined-requires-clause-few
count_joined-requires-clause-few g c =
    let was = c.requires.may.«open» in
    let n = (bounds c.args.self.now was.entities (entity_shown c.args.entity) was.held (c.requires.may.joins was.entities was.held)).0 in
    omega (arith, n, (c.in_ok-put.ensures was.entities was.held).count)

pub count_joined-requires-clause-light : goal.count_joined-requires-clause-light
count_joined-requires-clause-light g c =
    let was = c.requires.may.«open» in
    let n = (bounds c.args.self.now was.entities (entity_shown c.args.entity) was.held (c.requires.may.joins was.entities was.held)).1 in
    omega (arith, n, (c.in_ok-put.ensures was.entities was.held).weight, c.requires.is.weight)

pub returns : goal.returns
returns g c = λ es h. joined c.args.self.now c.put.new.self _ es (entity_shown c.args.entity) c.args.joining h (c.requires.may.joins es h) (c.in_ok-put.ensures es h) c.requires.is c.count_joined.ensures
