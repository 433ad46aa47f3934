-- Nodes of a dense message that are packed many at a time.
use Rattle.std.specs.Prelude.{◌≡◌, ◌≤◌, ◌<◌, ℕ, List, ◌∷◌, ◌++◌, length, map, Result, OnOk}
use Rattle.std.specs.List.{AllByRecursion}
use Rattle.osm_entity.specs.Entity.{NodeSpec, node}
use Rattle.osm_entity.specs.Scale.{ScaleFits}
use Rattle.osm_pack.specs.declared.likeness.Likeness.{Likeness}
use Rattle.osm_pack.specs.Likenesses.{likeness_of}
use Rattle.osm_pack.specs.Packing.{Packing}
use Rattle.pbf_frame.specs.declared.device.Drain as drain
use Rattle.pbf_frame.specs.declared.stop.Stop.{Stop}
use Rattle.pbfcut.specs.declared.pick.EntityPacker.{EntityPacker}
use Rattle.pbfcut.specs.Pick.{picks_of, PacksEach}

-- all are alike, and of a scale that can be written
pub record AreOneKind (ns : List NodeSpec) : Type 0 where
  pub likeness : Likeness
  pub same : AllByRecursion (λ n. likeness_of (node n) ≡ likeness) ns
  pub scaled : ScaleFits likeness.scale

-- so many are known to be alike: then all are; or nothing is known
pub record AreEven (alike : ℕ) (ns : List NodeSpec) : Type 0 where
  pub counted : alike ≤ length ns
  pub kind : 0 < alike → AreOneKind ns

-- the same of those that come after a node
pub record AreEvenAfter (n : NodeSpec) (alike : ℕ) (ns : List NodeSpec) : Type 0 where
  pub counted : alike ≤ length ns
  pub kind : 0 < alike → AreOneKind (n ∷ ns)

-- of these nodes some were packed and counted, and the others are left
pub record PacksSome {D S H X : Type 0} (d : drain.Ghosts D) (ns left : List NodeSpec) (before now : EntityPacker) (old new : Packing D S H) (result : Result X Stop) : Type 0 where
  pub gone : List NodeSpec
  pub others : List NodeSpec
  pub split : gone ++ others ≡ ns
  pub rest : OnOk result (left ≡ others)
  pub each : PacksEach d (picks_of before.picker) (map node gone) before now old new result
