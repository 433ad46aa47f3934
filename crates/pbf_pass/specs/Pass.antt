-- What one frame does to a pass, and what a pass is after all frames.
use Rattle.std.specs.Prelude.{◌≡◌, ◌≤◌, ℕ, ℤ, List, [], ◌∷◌, Bool, true, false, Option, Some, None, Result, Ok, Err}
use Rattle.std.specs.List.{flat_map, fold, last_or}
use Rattle.std.specs.Option.{option_map}
use Rattle.osm_entity.specs.Entity.{EntitySpec, TagSpec, node, way, relation}
use Rattle.osm_area.specs.Area.{AreaSpec, box_area}
use Rattle.osm_box.specs.declared.bounding_box.BoundingBox.{BoundingBox}
use Rattle.osm_ways.specs.declared.in_area.InArea.{InArea}
use Rattle.osm_ways.specs.Selection.{Seen, a_node}
use Rattle.osm_ways.specs.Phases.{Ids, WaySets, RelationSets, KeptSets, node_step, way_step, relation_step, member_step}
use Rattle.osm_ways.specs.Seen.{seen_as, seen_node, seen_relation, seen_way}
use Rattle.osm_ways.specs.Whole.{is_wanted}
use Rattle.pbf_header.specs.Header.{HeaderSpec, header_of, header_in}
use Rattle.pbf_block.specs.declared.counts.Counts.{Counts}
use Rattle.pbf_frame.specs.declared.device.Feed as feed
use Rattle.pbf_frame.specs.declared.frame.TheConstants.{FILE_LIMIT}
use Rattle.pbf_frame.specs.declared.reader.FrameReader.{FrameReader}
use Rattle.pbf_frame.specs.declared.reader.TheConstants.{MOST_BUFFERED}
use Rattle.pbf_frame.specs.declared.stop.Stop.{Stop}
use Rattle.pbf_frame.specs.Frames.{FrameSpec}
use Rattle.pbf_frame.specs.Next.{IsNext, place_of, held_by}
use Rattle.pbf_frame.specs.Verdict.{Verdict, Says}
use Rattle.pbf_pass.specs.declared.pass.Pass.{Pass}
use Rattle.pbf_pass.specs.Counting.{counted_with, counts_of, entities_in, stored_entities}
use Rattle.pbf_pass.specs.Judged.{fault_in, payload_fault}
use Rattle.pbf_pass.specs.Payload.{Payload, header_block, primitive_block, unknown, payload_of}
use Rattle.pbf_pass.specs.Stops.{Caused, Only, unchanged}

-- ---- one step of a loop over frames

-- what a step does after the reader returned: a frame is taken, or something failed at it; at the end of the input, and of a reader
-- that is spent, all stays the same
abbrev pub Follows : (took : FrameSpec → Type 0) (failed : FrameSpec → Stop → Type 0) (same : Type 0) → Result (Option FrameSpec) Stop → Result Bool Stop → Type 0
Follows took failed same (Ok (Some f)) (Ok true) = took f
Follows took failed same (Ok (Some f)) (Ok false) = ⊥
Follows took failed same (Ok (Some f)) (Err stop) = failed f stop
Follows took failed same (Ok None) result = (result ≡ Ok false) × same
Follows took failed same (Err stop) result = (result ≡ Err stop) × same

-- the reader is called once, and this follows what it returns
pub record IsStep {F : Type 0} (g : feed.Ghosts F) (old new : FrameReader F) (took : FrameSpec → Type 0) (failed : FrameSpec → Stop → Type 0) (same : Type 0) (result : Result Bool Stop) : Type 0 where
  pub answer : Result (Option FrameSpec) Stop
  pub next : IsNext g.remaining g.failures g.lender g.has_passed old answer new
  pub follows : Follows took failed same answer result

-- what a step does, and where its reader is then, whatever is returned
pub record Steps {F : Type 0} (g : feed.Ghosts F) (old new : FrameReader F) (took : FrameSpec → Type 0) (failed : FrameSpec → Stop → Type 0) (same : Type 0) (result : Result Bool Stop) : Type 0 where
  -- on `true` exactly the next frame's bytes are gone, its place has risen, and it was taken. A reader at its end returns `false`, a spent one
  -- its stop, and nothing else changes
  pub step : IsStep g old new took failed same result
  -- the place is at most 2^62
  pub limited : place_of new ≤ FILE_LIMIT
  -- the reader holds at most 33,620,990 bytes
  pub space : held_by new ≤ MOST_BUFFERED

-- what failed at a frame is that its payload has a fault, or that memory was refused
abbrev pub FailsToJudge : FrameSpec → Stop → Type 0
FailsToJudge f stop = Caused (Only (payload_fault f)) ⊥ ⊥ unchanged stop

-- ---- what a pass takes of a frame

-- a pass that has had none
abbrev pub IsFresh : Pass → Type 0
IsFresh pass = (pass.header ≡ None) × (pass.header_at ≡ 0) × (pass.counts ≡ counts_of [])

-- a pass took the header of a payload, or counts these entities of it; or left it
abbrev pub TakesSome : Payload → List EntitySpec → Pass → Pass → Type 0
TakesSome (header_block at message) es old new = (option_map header_of new.header ≡ Some (header_in at message)) × (new.header_at ≡ at) × (new.counts ≡ old.counts)
TakesSome (primitive_block at message) es old new = (new.header ≡ old.header) × (new.header_at ≡ old.header_at) × (new.counts ≡ counted_with old.counts (counts_of es))
TakesSome unknown es old new = new ≡ old

-- it counts all of them
abbrev pub TakesPayload : Payload → Pass → Pass → Type 0
TakesPayload p old new = TakesSome p (entities_in p) old new

-- ---- what a pass gathers of an entity

-- nothing
abbrev pub as_it_was : {S : Type 0} → S → EntitySpec → S
as_it_was sets e = sets

-- what a phase takes of entities, by what is seen of them in an area, and by which relations are wanted whole
abbrev pub with_seen : {S : Type 0} → (List TagSpec → Bool) → AreaSpec → (S → Seen → S) → S → EntitySpec → S
with_seen whole area step sets (node n) = step sets (seen_node area n)
with_seen whole area step sets (way w) = step sets (seen_way w)
with_seen whole area step sets (relation r) = step sets (seen_as (whole r.tags) r)

-- the same beside its area and its types
abbrev pub with_seen_in : {A S : Type 0} → (A → AreaSpec) → (S → Seen → S) → InArea A S → EntitySpec → InArea A S
with_seen_in area step of e = record of { phase = with_seen (is_wanted of.types) (area of.area) step of.phase e }

-- only the id of a node that lies in it
abbrev pub with_inside : {S : Type 0} → (S → Seen → S) → S → ℤ → S
with_inside step sets id = step sets (a_node id true)

-- the nodes in the box
abbrev pub with_node : InArea BoundingBox Ids → EntitySpec → InArea BoundingBox Ids
with_node = with_seen_in box_area node_step

-- the ways that are kept, and their refs
abbrev pub with_way : WaySets → EntitySpec → WaySets
with_way sets (way w) = way_step sets (seen_way w)
with_way sets _ = sets

-- the relations that nodes and ways select, and the links between relations
abbrev pub with_relation : RelationSets → EntitySpec → RelationSets
with_relation sets (relation r) = relation_step sets (seen_relation r)
with_relation sets _ = sets

-- the refs of the ways that were added
abbrev pub with_added_way : KeptSets → EntitySpec → KeptSets
with_added_way sets (way w) = member_step sets (seen_way w)
with_added_way sets _ = sets

-- ---- of a payload, and of a frame

-- a payload without a fault was taken, and its entities were gathered
pub record TakesAll {S : Type 0} (gathered : S → EntitySpec → S) (p : Payload) (old new : Pass) (before now : S) : Type 0 where
  pub sound : fault_in p ≡ None
  pub taken : TakesPayload p old new
  pub gathered_all : now ≡ fold gathered before (entities_in p)

abbrev pub TakesFrame : {S : Type 0} → (S → EntitySpec → S) → Pass → Pass → S → S → FrameSpec → Type 0
TakesFrame gathered old new before now f = TakesAll gathered (payload_of f) old new before now

-- the same if nothing is gathered
abbrev pub CountsFrame : Pass → Pass → FrameSpec → Type 0
CountsFrame old new f = (payload_fault f ≡ None) × TakesPayload (payload_of f) old new

-- the header of a payload, with its place
abbrev pub headers_in : Payload → List (ℕ × HeaderSpec)
headers_in (header_block at message) = (at, header_in at message) ∷ []
headers_in _ = []

abbrev pub frame_headers : FrameSpec → List (ℕ × HeaderSpec)
frame_headers f = headers_in (payload_of f)

-- the file's header; a file without a fault has one
abbrev pub file_header : List FrameSpec → Option (ℕ × HeaderSpec)
file_header frames = last_or None (flat_map frame_headers frames)

-- a pass holds this header
abbrev pub HoldsHeader : Option (ℕ × HeaderSpec) → Pass → Type 0
HoldsHeader None pass = pass.header ≡ None
HoldsHeader (Some header) pass = (option_map header_of pass.header ≡ Some header.1) × (pass.header_at ≡ header.0)

-- ---- all frames

-- a file without a fault: the pass has its header and the numbers of its entities, and they were gathered
pub record TakesFile {S : Type 0} (gathered : S → EntitySpec → S) (known : Option Verdict) (before now : S) (pass : Pass) : Type 0 where
  pub frames : List FrameSpec
  pub says : Says known (frames, None)
  pub counted : pass.counts ≡ counts_of (stored_entities frames)
  pub header : HoldsHeader (file_header frames) pass
  pub gathered_all : now ≡ fold gathered before (stored_entities frames)

-- the counts are those of the entities of a file without a fault
abbrev pub CountsFile : Option Verdict → Counts → Type 0
CountsFile known counts = (frames : List FrameSpec) × Says known (frames, None) × (counts ≡ counts_of (stored_entities frames))
