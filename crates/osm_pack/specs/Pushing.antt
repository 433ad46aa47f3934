-- How room is made for an entity in the open block.
use Rattle.std.specs.Prelude.{ℕ, List, [], ◌∷◌, ◌++◌, Result, OnOk, if◌then◌else◌}
use Rattle.osm_entity.specs.Entity.{EntitySpec}
use Rattle.pbf_frame.specs.declared.device.Drain as drain
use Rattle.pbf_frame.specs.declared.stop.Stop.{Stop}
use Rattle.pbf_frame.specs.Devices.{IsFront}
use Rattle.pbf_frame.specs.Transfers.{Added}
use Rattle.pbf_block.specs.WrittenBlock.{is_block}
use Rattle.osm_pack.specs.Cuts.{then_written}
use Rattle.osm_pack.specs.Open.{Holds, JoinsBlock}
use Rattle.osm_pack.specs.declared.open_block.OpenBlock.{OpenBlock}

-- these bytes are written; of a call that stops, a prefix of them
pub record WritesOrStops {D X : Type 0} (d : drain.Ghosts D) (bytes : List ℕ) (old new : D) (result : Result X Stop) : Type 0 where
  pub written : OnOk result (Added d old bytes new)
  pub front : IsFront (d.taken old) (d.taken new) bytes

-- there is room for an entity: what the block held went out if the entity could not join it
pub record MakesRoom {D S H X : Type 0} (d : drain.Ghosts D) (e : EntitySpec) (drained now : D) (old new : OpenBlock S H) (result : Result X Stop) : Type 0 where
  pub joins : OnOk result (JoinsBlock new e)
  pub pending : (es : List EntitySpec) → Holds old es → OnOk result (Holds new (if is_block (es ++ e ∷ []) then es else []))
  pub writes : (es : List EntitySpec) → Holds old es → WritesOrStops d (then_written es e) drained now result
