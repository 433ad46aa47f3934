use Rattle.std.proofs.Common.{[], ◌∷◌, ap}
use Rattle.osm_entity.specs.Entity.{NodeSpec, node}
use Rattle.pbfcut.specs.Pick.{picks_of}
use Rattle.pbfcut.proofs.PackingLemmas.{each_as}
use Rattle.pbfcut.proofs.pick.EntityPacker.pack_single.Goals as goal

pub returns : goal.returns
returns g c = each_as g.D.Drain (picks_of c.args.self.now.picker) _ _ _ _ _ _ _ (ap (λ (x : NodeSpec). node x ∷ []) c.node.ensures) c.pack_entity.ensures
