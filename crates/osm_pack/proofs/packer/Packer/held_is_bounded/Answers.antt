use Rattle.std.proofs.Common.{◌≤◌, subst}
use Rattle.osm_pack.specs.declared.open_block.TheConstants.{MOST_HELD}
use Rattle.osm_pack.specs.Packing.{packer_held}
use Rattle.osm_pack.proofs.OpenLemmas.{held_bounded}
use Rattle.osm_pack.proofs.packer.Packer.held_is_bounded.Goals as goal

pub returns : goal.returns
returns g c = subst (λ p. packer_held p ≤ MOST_HELD) c.self.view_is (held_bounded c.self.inside.block c.self.invariant)
