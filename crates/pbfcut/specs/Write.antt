-- The pass that writes, over payloads that it doesn't judge: what is written is stated for files without a fault.
use Rattle.std.specs.Prelude.{Bool, ◌≡◌, ℕ, List, ◌++◌, Option, Some, None, Result, OnOk, OnErr, IfOk, IfErr}
use Rattle.std.specs.List.{filter}
use Rattle.osm_entity.specs.Entity.{EntitySpec}
use Rattle.osm_ways.specs.Phases.{KeptSets}
use Rattle.osm_pack.specs.Cuts.{written_file}
use Rattle.osm_pack.specs.Packing.{Packing, IsPacking}
use Rattle.pbf_header.specs.Header.{HeaderSpec, header_of}
use Rattle.pbf_block.specs.declared.counts.Counts.{Counts}
use Rattle.pbf_frame.specs.declared.device.Drain as drain
use Rattle.pbf_frame.specs.declared.stop.Stop.{Stop}
use Rattle.pbf_frame.specs.Devices.{IsFront}
use Rattle.pbf_frame.specs.Frames.{FrameSpec}
use Rattle.pbf_frame.specs.Verdict.{Verdict}
use Rattle.pbf_pass.specs.declared.receipt.Halt.{Halt}
use Rattle.pbf_pass.specs.declared.receipt.InputReceipt.{InputReceipt}
use Rattle.pbf_pass.specs.Unjudged.{ReadsFaulty, StopsAtPayload, StopsUnjudged}
use Rattle.pbf_pass.specs.Hashing.{mark_by}
use Rattle.pbf_pass.specs.Counting.{counts_of, stored_entities}
use Rattle.pbf_pass.specs.Judged.{fault_in, judged_file}
use Rattle.pbf_pass.specs.Payload.{Payload, payload_of}
use Rattle.pbf_pass.specs.Refused.{stop_of}
use Rattle.pbf_pass.specs.Stops.{WriteFailed}
use Rattle.pbfcut.specs.Calls.{DrainUse, FailedDrain, FailedFeed, FeedUse, GaveBy, KeepsDrained, KeepsFed, TookBy, supply_of, taken_after, taken_before}
use Rattle.pbfcut.specs.declared.repeat.LaterPass.{LaterPass}
use Rattle.pbfcut.specs.declared.write.OutputPlan.{OutputPlan}
use Rattle.pbfcut.specs.declared.pick.EntityPacker.{EntityPacker}
use Rattle.pbfcut.specs.Pick.{Pick, Packs, BeginsPacking, KeepsPacker, take_of, picked_in, taken_by, picks_of}
use Rattle.pbfcut.specs.Repeat.{StopsLater, digest_of}

-- ---- one payload, and one frame

-- entities were packed, and counted with those before them; of a payload without a fault they are those that are picked
pub record PacksUnjudgedPayload {D S H : Type 0} (d : drain.Ghosts D) (pick : Pick) (p : Payload) (old new : Packing D S H) (before now : Counts) : Type 0 where
  pub es : List EntitySpec
  pub are : fault_in p ≡ None → es ≡ picked_in pick p
  pub packs : Packs d old new es
  pub going : IsPacking new
  pub counted : (done : List EntitySpec) → before ≡ counts_of done → now ≡ counts_of (done ++ es)

-- a call stopped at a payload: it has a fault, which says that the bytes changed since they were judged; or a write failed, or memory was
-- refused. If it has none, a prefix of what is picked of it went out
pub record FailsAtUnjudgedPayload {D S H : Type 0} (d : drain.Ghosts D) (number : ℕ) (pick : Pick) (p : Payload) (old new : Packing D S H) (stop : Stop) : Type 0 where
  pub cause : StopsAtPayload number (WriteFailed d old.drain new.drain) p stop
  pub begins : fault_in p ≡ None → BeginsPacking d old new (picked_in pick p)

-- what a call does at a payload that it doesn't judge
pub record PacksUnjudged {D S H X : Type 0} (d : drain.Ghosts D) (p : Payload) (before now : EntityPacker) (old new : Packing D S H) (result : Result X Stop) : Type 0 where
  pub packed : OnOk result (PacksUnjudgedPayload d (picks_of before.picker) p old new before.counts now.counts)
  pub stopped : IfErr result (FailsAtUnjudgedPayload d before.number (picks_of before.picker) p old new)
  pub keeps : KeepsPacker d old new
  pub same : (now.picker ≡ before.picker) × (now.number ≡ before.number)

-- the same of a frame
abbrev pub PacksUnjudgedFrame : {D S H : Type 0} → drain.Ghosts D → Pick → (old new : Packing D S H) → (before now : Counts) → FrameSpec → Type 0
PacksUnjudgedFrame d pick old new before now f = PacksUnjudgedPayload d pick (payload_of f) old new before now

abbrev pub FailsAtFrame : {D S H : Type 0} → drain.Ghosts D → ℕ → Pick → Packing D S H → Packing D S H → FrameSpec → Stop → Type 0
FailsAtFrame d number pick old new f stop = FailsAtUnjudgedPayload d number pick (payload_of f) old new stop

-- what a visitor does that packs
pub record PacksNext {D S H : Type 0} (d : drain.Ghosts D) (pick : Pick) (old new : Packing D S H) (before now : Counts) (f : FrameSpec) : Type 0 where
  pub packs : PacksUnjudgedFrame d pick old new before now f
  pub keeps : KeepsPacker d old new

pub record FailsAtNext {D S H : Type 0} (d : drain.Ghosts D) (number : ℕ) (pick : Pick) (old new : Packing D S H) (f : FrameSpec) (stop : Stop) : Type 0 where
  pub fails : FailsAtFrame d number pick old new f stop
  pub keeps : KeepsPacker d old new

-- ---- a file

-- these bytes are the header and what is picked of the entities of these frames, and these are the numbers of those
pub record IsPickedFile (pick : Pick) (h : HeaderSpec) (counts : Counts) (frames : List FrameSpec) (written : List ℕ) : Type 0 where
  pub counted : counts ≡ counts_of (filter pick (stored_entities frames))
  pub is : written ≡ written_file h (filter pick (stored_entities frames))

-- if the file has no fault, they are those of its frames
abbrev pub Packed : Pick → HeaderSpec → Counts → Option Verdict → List ℕ → Type 0
Packed pick h counts known written = (frames : List FrameSpec) → known ≡ Some (frames, None) → IsPickedFile pick h counts frames written

-- if the file has no fault, a prefix of the header and of what is picked went out
abbrev pub PacksFront : Pick → HeaderSpec → Option Verdict → (old new : Option (List ℕ)) → Type 0
PacksFront pick h known old new = (frames : List FrameSpec) → known ≡ Some (frames, None) → IsFront old new (written_file h (filter pick (stored_entities frames)))

abbrev pub PacksFrontOf : {D : Type 0} → FeedUse → DrainUse D → Pick → HeaderSpec → Type 0
PacksFrontOf source drain pick h = PacksFront pick h (judged_file (supply_of source)) (taken_before drain) (taken_after drain)

-- ---- the pass that writes, whose bytes aren't compared yet

-- the feed gave a file, and the drain took its header and what is picked of it; or a prefix of that, if the pass stopped: at a fault, since the
-- bytes changed, or for a device
pub record WritesUnjudged {D : Type 0} (source : FeedUse) (drain : DrainUse D) (plan : OutputPlan) (result : Result InputReceipt Stop) : Type 0 where
  pub packed : IfOk result (λ wrote. GaveBy source (mark_by plan.pass.passes.check wrote.input) (λ file. TookBy drain (Packed (take_of plan.chosen) (header_of plan.header.now) wrote.counts (judged_file (Some file)))))
  pub beginning : OnErr result (PacksFrontOf source drain (take_of plan.chosen) (header_of plan.header.now))
  pub faulty : IfErr result (ReadsFaulty source.ghosts source.old source.new)
  pub stops : IfErr result (StopsUnjudged plan.pass.number (judged_file (supply_of source)) (FailedFeed source) (FailedDrain drain))
  pub keeps : KeepsFed source
  pub out : KeepsDrained drain

-- the same once they are: it has to be the first pass's file
pub record WritesAgain {D : Type 0} (source : FeedUse) (drain : DrainUse D) (plan : OutputPlan) (result : Result Counts Stop) : Type 0 where
  pub packed : IfOk result (λ counts. GaveBy source (digest_of plan.pass) (λ file. TookBy drain (Packed (take_of plan.chosen) (header_of plan.header.now) counts (judged_file (Some file)))))
  pub beginning : OnErr result (PacksFrontOf source drain (take_of plan.chosen) (header_of plan.header.now))
  pub stops : IfErr result (StopsLater source.ghosts plan.pass source.old source.new (FailedDrain drain))
  pub keeps : KeepsFed source
  pub out : KeepsDrained drain

-- ---- after passes that chose

-- the feed gave a file of the first pass's digest, and the drain took its header and what is picked of it; or a prefix of that, if the pass
-- stopped, which is no refusal
pub record WritesChoice {D : Type 0} (source : FeedUse) (drain : DrainUse D) (again : LaterPass) (sets : KeptSets) (h : HeaderSpec) (spared : Bool) (result : Result InputReceipt Halt) : Type 0 where
  pub input : IfOk result (λ receipt. (receipt.input ≡ again.digest) × (receipt.spared ≡ spared))
  pub packed : IfOk result (λ receipt. GaveBy source (digest_of again) (λ file. TookBy drain (Packed (taken_by sets) h receipt.counts (judged_file (Some file)))))
  pub front : OnErr result (PacksFrontOf source drain (taken_by sets) h)
  pub stops : IfErr result (λ halt. StopsLater source.ghosts again source.old source.new (FailedDrain drain) (stop_of halt))
  pub keeps : KeepsFed source
  pub out : KeepsDrained drain
