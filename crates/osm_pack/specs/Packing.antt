-- A packer, as contracts see it.
use Rattle.std.specs.Prelude.{◌≡◌, ◌≤◌, ◌++◌, ℕ, Bool, true, List, Option, Some, None, Result, Err, OnOk, IfOk, IfErr, map, take, drop}
use Rattle.osm_entity.specs.Entity.{EntitySpec, NodeSpec, node}
use Rattle.pbf_frame.specs.declared.device.Drain as drain
use Rattle.pbf_frame.specs.declared.stop.Stop.{Stop}
use Rattle.pbf_frame.specs.Devices.{IsFront}
use Rattle.pbf_frame.specs.Keeps.{KeepsDrain}
use Rattle.pbf_frame.specs.Transfers.{Added}
use Rattle.osm_pack.specs.Cuts.{then_pending, then_written}
use Rattle.osm_pack.specs.Open.{Holds, block_held}
use Rattle.osm_pack.specs.Stops.{IsPackStop}
use Rattle.osm_pack.specs.declared.open_block.OpenBlock.{OpenBlock}

-- the drain after the frames that are written, the block that is open, whether a header was put, and why it stopped
pub record Packing (D S H : Type 0) : Type 0 where
  pub drain : D
  pub block : OpenBlock S H
  pub begun : Bool
  pub stop : Option Stop

-- the entities that wait for their block to be closed are these
abbrev pub Pending : {D S H : Type 0} → Packing D S H → List EntitySpec → Type 0
Pending packer es = Holds packer.block es

-- it goes on
abbrev pub IsPacking : {D S H : Type 0} → Packing D S H → Type 0
IsPacking packer = packer.stop ≡ None

-- it is spent, by this stop
abbrev pub HasStopped : {D S H : Type 0} → Packing D S H → Stop → Type 0
HasStopped packer stop = packer.stop ≡ Some stop

-- whether a header was put
abbrev pub has_header : {D S H : Type 0} → Packing D S H → Bool
has_header packer = packer.begun

-- the bytes that it holds: those of its block, since no other field of its own has any
abbrev pub packer_held : {D S H : Type 0} → Packing D S H → ℕ
packer_held packer = block_held packer.block

-- what each call that writes promises, whatever it writes: after a stop, which has its cause, it is spent, and returns its stop again while the
-- drain is as it was; the drain's count of failures doesn't fall, and it keeps its references
pub record UsesPacker {D S H X : Type 0} (d : drain.Ghosts D) (old new : Packing D S H) (result : Result X Stop) : Type 0 where
  pub stopped : IfErr result (HasStopped new)
  pub stops : IsPacking old → IfErr result (IsPackStop (d.failures old.drain) (d.failures new.drain))
  pub keeps : KeepsDrain d old.drain new.drain
  pub spent : (stop : Stop) → HasStopped old stop → (result ≡ Err stop) × (new.drain ≡ old.drain)

-- what a call that adds some of these nodes, at most so many, promises
pub record PushesNodes {D S H : Type 0} (d : drain.Ghosts D) (most : ℕ) (ns left : List NodeSpec) (old new : Packing D S H) (result : Result ℕ Stop) : Type 0 where
  -- there is a header still
  pub header : has_header new ≡ true
  pub few : IfOk result (λ count. count ≤ most)
  -- so many of the nodes wait with the others, in whose block they may be; the rest of them are left
  pub pending : (es : List EntitySpec) → Pending old es → IfOk result (λ count. Pending new (es ++ map node (take count ns)))
  pub rest : IfOk result (λ count. left ≡ drop count ns)
  -- nothing went out
  pub kept : new.drain ≡ old.drain
  -- the packer goes on
  pub packing : OnOk result (IsPacking old × IsPacking new)
  pub uses : UsesPacker d old new result

-- what a call that adds an entity promises
pub record Pushes {D S H X : Type 0} (d : drain.Ghosts D) (e : EntitySpec) (old new : Packing D S H) (result : Result X Stop) : Type 0 where
  -- there is a header still
  pub header : has_header new ≡ true
  -- it waits with the others if they may be in one block, otherwise by itself
  pub pending : (es : List EntitySpec) → Pending old es → OnOk result (Pending new (then_pending es e))
  -- if it does not fit the block of those that wait, these went out as a block, by what the drain reports and by each log; otherwise nothing did
  pub written : (es : List EntitySpec) → Pending old es → OnOk result (Added d old.drain (then_written es e) new.drain)
  -- the packer goes on
  pub packing : OnOk result (IsPacking old × IsPacking new)
  -- what went out is a prefix of what was to be written
  pub front : IsPacking old → (es : List EntitySpec) → Pending old es → IsFront (d.taken old.drain) (d.taken new.drain) (then_written es e)
  pub uses : UsesPacker d old new result
