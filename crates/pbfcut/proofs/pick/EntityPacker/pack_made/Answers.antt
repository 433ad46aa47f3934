use Rattle.std.proofs.Common.{[], ◌∷◌, ap}
use Rattle.osm_entity.specs.Entity.{WaySpec, way}
use Rattle.pbfcut.specs.Pick.{everything}
use Rattle.pbfcut.proofs.PackingLemmas.{each_as}
use Rattle.pbfcut.proofs.pick.EntityPacker.pack_made.Goals as goal

pub returns : goal.returns
returns g c = each_as g.D.Drain everything _ _ _ _ _ _ _ (ap (λ (w : WaySpec). way w ∷ []) c.way.ensures) c.pack.ensures
