use Rattle.std.proofs.Common.{◌≡◌, ◌∙◌, ap, arith}
use Rattle.osm_pack.specs.Open.{block_held}
use Rattle.osm_pack.specs.Packing.{packer_held}
use Rattle.osm_pack.proofs.OpenLemmas.{held_bounded}
use Rattle.osm_pack.proofs.packer.Packer.held.Goals as goal

pub returns-clause-value : goal.returns-clause-value
returns-clause-value g c =
    let all : c.held.result ≡ block_held c.self.inside.block = omega (arith, c.held.ensures, held_bounded c.self.inside.block c.self.invariant) in
    all ∙ ap packer_held c.self.view_is

pub returns-clause-bound : goal.returns-clause-bound
returns-clause-bound g c = omega (arith, c.held.ensures, held_bounded c.self.inside.block c.self.invariant)
