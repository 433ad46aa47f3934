-- Entities that are picked, on their way into the drain.
use Rattle.std.specs.Prelude.{◌≡◌, ◌≤◌, ◌⊎◌, ◌+◌, ℕ, ℤ, List, [], ◌++◌, Bool, true, false, Option, Some, None, Result, Err, OnOk, IfErr}
use Rattle.std.specs.Borrow.{Bor}
use Rattle.std.specs.List.{AllByRecursion, filter}
use Rattle.std.specs.Option.{option_map}
use Rattle.osm_entity.specs.Entity.{EntitySpec, node, way, relation}
use Rattle.osm_entity.specs.Ranges.{EntityFits}
use Rattle.osm_ways.specs.Phases.{KeptSets, is_chosen, is_taken, keeps_id}
use Rattle.osm_ways.specs.Selection.{Seen}
use Rattle.osm_ways.specs.Seen.{seen_way, seen_relation}
use Rattle.osm_pack.specs.declared.open_block.TheConstants.{MOST_HELD}
use Rattle.osm_pack.specs.Cuts.{written_entities, pending_after, written_after}
use Rattle.osm_pack.specs.Packing.{Packing, Pending, IsPacking, HasStopped, has_header, packer_held}
use Rattle.pbf_frame.specs.declared.device.Feed as feed
use Rattle.pbf_frame.specs.declared.device.Drain as drain
use Rattle.pbf_frame.specs.declared.frame.TheConstants.{FILE_LIMIT}
use Rattle.pbf_frame.specs.declared.reader.FrameReader.{FrameReader}
use Rattle.pbf_frame.specs.declared.reader.TheConstants.{MOST_BUFFERED}
use Rattle.pbf_frame.specs.Next.{place_of, held_by}
use Rattle.pbf_frame.specs.declared.stop.Stop.{Stop}
use Rattle.pbf_frame.specs.Devices.{IsFront}
use Rattle.pbf_frame.specs.Transfers.{Added}
use Rattle.pbf_frame.specs.Frames.{FrameSpec}
use Rattle.pbf_wire.specs.declared.fault.Fault.{Fault}
use Rattle.pbf_pass.specs.declared.pass.Pass.{Pass}
use Rattle.osm_ways.specs.declared.phases.Chosen.{Chosen}
use Rattle.pbfcut.specs.declared.pick.EntityPacker.{EntityPacker}
use Rattle.pbfcut.specs.declared.picker.Picker.{Picker}
use Rattle.pbf_block.specs.declared.counts.Counts.{Counts}
use Rattle.pbf_pass.specs.Counting.{entities_in, counts_of}
use Rattle.pbf_pass.specs.Judged.{fault_in}
use Rattle.pbf_pass.specs.Pass.{IsStep, TakesSome}
use Rattle.pbf_pass.specs.Payload.{Payload, payload_of}
use Rattle.pbf_pass.specs.Stops.{Caused, Only, unchanged, WriteFailed}
use Rattle.pbf_frame.specs.Keeps.{KeepsDrain}

-- ---- which are picked

abbrev pub Pick : Type 0
Pick = EntitySpec → Bool

abbrev pub everything : Pick
everything e = true

-- nodes by the sets' ids, ways and relations by a test
abbrev pub kept_by : (KeptSets → Seen → Bool) → KeptSets → Pick
kept_by test sets (node n) = keeps_id sets n.id
kept_by test sets (way w) = test sets (seen_way w)
kept_by test sets (relation r) = test sets (seen_relation r)

-- what the sets keep
abbrev pub picked_by : KeptSets → Pick
picked_by = kept_by is_chosen

-- by the sets that were chosen, or all if none were
abbrev pub picked_by_some : Option KeptSets → Pick
picked_by_some None = everything
picked_by_some (Some sets) = picked_by sets

unfoldable pub pick_of : Option (Bor Chosen) → Pick
pick_of chosen = picked_by_some (option_map (λ c. c.now) chosen)

-- the same in the file that the sets were chosen from, where a kept way's id is in them
abbrev pub taken_by : KeptSets → Pick
taken_by = kept_by is_taken

abbrev pub taken_by_some : Option KeptSets → Pick
taken_by_some None = everything
taken_by_some (Some sets) = taken_by sets

unfoldable pub take_of : Option (Bor Chosen) → Pick
take_of chosen = taken_by_some (option_map (λ c. c.now) chosen)

-- of ways by their ids first, or only by their refs
abbrev pub picks_by : (by_ids : Bool) → Option KeptSets → Pick
picks_by true sets = taken_by_some sets
picks_by false sets = picked_by_some sets

unfoldable pub picks_of : Picker → Pick
picks_of picker = picks_by picker.by_ids picker.chooser

-- which nodes are, by their id
abbrev pub id_picked : Option KeptSets → ℤ → Bool
id_picked None id = true
id_picked (Some sets) id = keeps_id sets id

unfoldable pub picks_id : Picker → ℤ → Bool
picks_id picker id = id_picked picker.chooser id

-- ---- entities on their way

-- since the drain was at the start these entities were packed: the closed blocks went out, and the others wait
pub record HasPacked {D S H : Type 0} (d : drain.Ghosts D) (start : D) (done : List EntitySpec) (packer : Packing D S H) : Type 0 where
  pub fits : AllByRecursion EntityFits done
  pub added : Added d start (written_after [] done) packer.drain
  pub pending : Pending packer (pending_after [] done)

-- whatever comes after these entities, what went out is a prefix of what is written for all
abbrev pub BeginsAll : Option (List ℕ) → List EntitySpec → Option (List ℕ) → Type 0
BeginsAll start done taken = (rest : List EntitySpec) → IsFront start taken (written_entities (done ++ rest))

-- these entities were packed after those that were
pub record Packs {D S H : Type 0} (d : drain.Ghosts D) (old new : Packing D S H) (es : List EntitySpec) : Type 0 where
  pub packed : (start : D) (done : List EntitySpec) → HasPacked d start done old → HasPacked d start (done ++ es) new

-- of these entities, after those that were, a prefix went out
pub record BeginsPacking {D S H : Type 0} (d : drain.Ghosts D) (old new : Packing D S H) (es : List EntitySpec) : Type 0 where
  pub begun : (start : D) (done : List EntitySpec) → HasPacked d start done old → BeginsAll (d.taken start) (done ++ es) (d.taken new.drain)

-- ---- what a call does to a packer

-- a payload without a fault was packed, and the packer can go on
pub record PacksAll {D S H : Type 0} (d : drain.Ghosts D) (fault : Option Fault) (es : List EntitySpec) (old new : Packing D S H) : Type 0 where
  pub sound : fault ≡ None
  pub packs : Packs d old new es
  pub going : IsPacking new

-- a call stopped: for the fault, then nothing went out; otherwise a prefix of these entities did
pub record StopsPacking {D S H : Type 0} (d : drain.Ghosts D) (fault : Option Fault) (es : List EntitySpec) (old new : Packing D S H) (stop : Stop) : Type 0 where
  pub cause : Caused (Only fault) ⊥ (WriteFailed d old.drain new.drain) unchanged stop
  pub front : (d.taken new.drain ≡ d.taken old.drain) ⊎ ((fault ≡ None) × BeginsPacking d old new es)

-- the same of entities of which some are picked: one of them can't be written; or a write failed, or memory was refused
pub record StopsAmong {D S H : Type 0} (d : drain.Ghosts D) (number : ℕ) (pick : Pick) (es : List EntitySpec) (old new : Packing D S H) (stop : Stop) : Type 0 where
  pub cause : Caused (λ e. ⊥) ⊥ (WriteFailed d old.drain new.drain) (λ pass. (pass ≡ number) × (AllByRecursion EntityFits es → ⊥)) stop
  pub begins : BeginsPacking d old new (filter pick es)

-- of these entities those that are picked were packed, and counted with those before them
pub record PacksPicked {D S H : Type 0} (d : drain.Ghosts D) (pick : Pick) (es : List EntitySpec) (old new : Packing D S H) (before now : Counts) : Type 0 where
  pub packs : Packs d old new (filter pick es)
  pub going : IsPacking new
  pub counted : (done : List EntitySpec) → before ≡ counts_of done → now ≡ counts_of (done ++ filter pick es)

-- whatever a call returns
pub record KeepsPacker {D S H : Type 0} (d : drain.Ghosts D) (old new : Packing D S H) : Type 0 where
  pub header : has_header new ≡ true
  pub drain_kept : KeepsDrain d old.drain new.drain

-- what a call does that packs those of these entities that are picked, one after another, and counts them
pub record PacksEach {D S H X : Type 0} (d : drain.Ghosts D) (pick : Pick) (es : List EntitySpec) (before now : EntityPacker) (old new : Packing D S H) (result : Result X Stop) : Type 0 where
  pub packed : OnOk result (PacksPicked d pick es old new before.counts now.counts)
  pub stopped : IfErr result (StopsAmong d before.number pick es old new)
  pub keeps : KeepsPacker d old new
  pub same : (now.picker ≡ before.picker) × (now.number ≡ before.number)

-- a packer that has its header, and goes on
abbrev pub IsReadyToPack : {D S H : Type 0} → Packing D S H → Type 0
IsReadyToPack packer = (has_header packer ≡ true) × IsPacking packer

-- a packer that was just made
pub record IsFreshPacker {D S H : Type 0} (packer : Packing D S H) : Type 0 where
  pub no_header : has_header packer ≡ false
  pub packing : IsPacking packer
  pub none : Pending packer []

-- ---- one frame

-- what is picked of a payload
abbrev pub picked_in : Pick → Payload → List EntitySpec
picked_in pick p = filter pick (entities_in p)

-- a pass took the header of a payload, or counted what is picked of it
abbrev pub TakesPicked : Pick → Payload → Pass → Pass → Type 0
TakesPicked pick p old new = TakesSome p (picked_in pick p) old new

-- what is picked of a payload was packed, and counted
pub record PacksPayload {D S H : Type 0} (d : drain.Ghosts D) (pick : Pick) (p : Payload) (old new : Packing D S H) (before now : Pass) : Type 0 where
  pub packed : PacksAll d (fault_in p) (picked_in pick p) old new
  pub taken : TakesPicked pick p before now

-- a call stopped at a payload
abbrev pub FailsToPackPayload : {D S H : Type 0} → drain.Ghosts D → Pick → Payload → Packing D S H → Packing D S H → Stop → Type 0
FailsToPackPayload d pick p old new stop = StopsPacking d (fault_in p) (picked_in pick p) old new stop

-- the same of a frame
abbrev pub PacksFrame : {D S H : Type 0} → drain.Ghosts D → Pick → Packing D S H → Packing D S H → Pass → Pass → FrameSpec → Type 0
PacksFrame d pick old new before now f = PacksPayload d pick (payload_of f) old new before now

abbrev pub FailsToPack : {D S H : Type 0} → drain.Ghosts D → Pick → Packing D S H → Packing D S H → FrameSpec → Stop → Type 0
FailsToPack d pick old new f stop = FailsToPackPayload d pick (payload_of f) old new stop

-- ---- one step

-- what a step does that judges the next frame and packs what is picked of it
pub record JudgesAndPacks {F D S H : Type 0} (f : feed.Ghosts F) (reader reader_now : FrameReader F) (d : drain.Ghosts D) (pick : Pick) (old new : Packing D S H) (before now : Pass) (result : Result Bool Stop) : Type 0 where
  -- on `true` exactly the next frame's bytes are gone, it has no fault of any phase, its entities that are picked were packed in order, and the
  -- pass counts these. On a refusal the drain took nothing in this step; on another stop nothing, or a prefix of what these entities make. A
  -- reader at its end returns `false`, a spent one its stop, and nothing else changes
  pub step : IsPacking old → IsStep f reader reader_now (PacksFrame d pick old new before now) (FailsToPack d pick old new) ((now ≡ before) × (new ≡ old)) result
  -- a spent packer returns its stop again, and the reader is as it was
  pub spent : (stop : Stop) → HasStopped old stop → (result ≡ Err stop) × (reader_now ≡ reader)
  -- the packer keeps its header, the drain its references, and its count of failures doesn't fall
  pub keeps : KeepsPacker d old new
  -- the place is within the limit of a file
  pub limited : place_of reader_now ≤ FILE_LIMIT
  -- reader and packer together hold at most so many bytes, whatever is returned
  pub space : held_by reader_now + packer_held new ≤ MOST_BUFFERED + MOST_HELD
