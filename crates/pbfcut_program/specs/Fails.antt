-- Why a command fails, by what happened.
use Rattle.std.specs.Prelude.{◌≡◌, ◌⊎◌, ℕ, ◌+◌, ◌<◌, List, [], ◌∷◌, ◌++◌, length, true, false, Option, None, Some, Err}
use Rattle.osm_config.specs.Paths.{extracts_of_text}
use Rattle.osm_config.specs.Readings.{fault_spec_of}
use Rattle.osm_config.specs.declared.fault.ConfigFault.{ConfigFault}
use Rattle.osm_polygon.specs.declared.fault.PolyFault.{PolyFault}
use Rattle.osm_polygon.specs.Texts.{polygons_of_text}
use Rattle.pbf_wire.specs.declared.fault.Fault.{Fault}
use Rattle.pbf_frame.specs.Devices.{IsAtEnd}
use Rattle.pbf_frame.specs.Verdict.{Verdict, judged_known}
use Rattle.pbf_frame.specs.declared.stop.Stop.{Stop}
use Rattle.pbf_frame.specs.declared.stop.Stop.TheVariants as stop
use Rattle.pbf_pass.specs.Stops.{Caused, FaultOf, unchanged}
use Rattle.pbf_published.specs.Published.{PassChanged}
use Rattle.pbf_unpack.specs.RawFrames.{IsNearLimit}
use Rattle.pbf_unpack.specs.Unpacked.{unpacked}
use Rattle.pbfcut.specs.Calls.{AllSupply}
use Rattle.pbfcut_cli.specs.declared.endings.Ending.{Ending}
use Rattle.pbfcut_cli.specs.declared.endings.Ending.TheVariants as ending
use Rattle.pbfcut_cli.specs.declared.programs.Program.{Program}
use Rattle.pbfcut_cli.specs.declared.programs.Program.TheVariants.{Pbfcut, Pbfcutz}
use Rattle.pbfcut_program.specs.declared.host.CreateFault.TheVariants as creating
use Rattle.pbfcut_program.specs.declared.host.FinishFault.{FinishFault}
use Rattle.pbfcut_program.specs.declared.host.FinishFault.TheVariants as finishing
use Rattle.pbfcut_program.specs.declared.host.NameFault.TheVariants as naming
use Rattle.pbfcut_program.specs.declared.host.OpenFault.TheVariants as opening
use Rattle.pbfcut_program.specs.declared.host.PrintFault.TheVariants as line
use Rattle.pbfcut_program.specs.Events.{Event, Logs, Reading, text_read, text_not_read, looked, opened, not_opened, seeded, made, not_made, linked, moved, renamed, removed, stays, not_named, not_synced, read, wrote, printed, told, advised}
use Rattle.pbfcut_program.specs.Manner.{Form, Manner, input_form, meant_known, output_form, packed_file, raw_file}
use Rattle.pbfcut_program.specs.Readings.{ShowsFault, IsOther}
use Rattle.pbfcut.specs.Tasks.{Task, judge_of}
use Rattle.pbfcut_program.specs.Tasks.{GivesRaw}

-- ---- events

abbrev pub Has : (Event → Type 0) → List Event → Type 0
Has p [] = ⊥
Has p (e ∷ es) = p e ⊎ Has p es

abbrev pub Each : (Event → Type 0) → List Event → Type 0
Each p [] = Unit {0}
Each p (e ∷ es) = p e × Each p es

-- nothing was written, as far as this goes
abbrev pub WroteNothing : Event → Type 0
WroteNothing (wrote w) = w.bytes ≡ []
WroteNothing _ = Unit {0}

-- neither IN nor OUT is returned
abbrev pub Quiet : Event → Type 0
Quiet (read r) = ⊥
Quiet (wrote w) = ⊥
Quiet _ = Unit {0}

-- the same, no file is changed, and nothing is said
abbrev pub Calm : Event → Type 0
Calm (read r) = ⊥
Calm (wrote w) = ⊥
Calm (made name) = ⊥
Calm (linked from to) = ⊥
Calm (moved from to) = ⊥
Calm (renamed from to) = ⊥
Calm (removed name) = ⊥
Calm (stays name) = ⊥
Calm (printed screen text fault) = ⊥
Calm (told text) = ⊥
Calm advised = ⊥
Calm _ = Unit {0}

abbrev pub FailsToOpen : Event → Type 0
FailsToOpen (text_not_read path) = Unit {0}
FailsToOpen (not_opened path opening.Failed) = Unit {0}
FailsToOpen (not_made name fault) = Unit {0}
FailsToOpen (seeded key) = key ≡ None
FailsToOpen _ = ⊥

abbrev pub FailsAsPipe : Event → Type 0
FailsAsPipe (not_opened path opening.Pipe) = Unit {0}
FailsAsPipe _ = ⊥

-- OUT was there, or it was there when it was to be made
abbrev pub FailsAsThere : Event → Type 0
FailsAsThere (looked path overwrite there) = there ≡ true
FailsAsThere (not_made name creating.Exists) = Unit {0}
FailsAsThere _ = ⊥

-- the text that was read is no polygon, by this fault
abbrev pub FailsAsPolygon : PolyFault → Event → Type 0
FailsAsPolygon fault (text_read path text) = polygons_of_text text ≡ Err fault
FailsAsPolygon fault _ = ⊥

-- the text that was read is no configuration, by this fault, for some folder
abbrev pub FailsAsConfig : ConfigFault → Event → Type 0
FailsAsConfig fault (text_read path text) = (folder : Option (List ℕ)) × (extracts_of_text path folder text ≡ Err (fault_spec_of fault))
FailsAsConfig fault _ = ⊥

abbrev pub FailsToRead : Event → Type 0
FailsToRead (read r) = 0 < r.failures
FailsToRead _ = ⊥

-- not all of OUT went out, for this
abbrev pub FailsToFinish : FinishFault → Event → Type 0
FailsToFinish fault (wrote w) = w.fault ≡ Some fault
FailsToFinish finishing.Exists (not_named from to naming.Exists) = Unit {0}
FailsToFinish finishing.Failed (not_named from to naming.Failed) = Unit {0}
FailsToFinish finishing.Failed (not_synced name) = Unit {0}
FailsToFinish fault _ = ⊥

abbrev pub FailsToWrite : Event → Type 0
FailsToWrite (wrote w) = (0 < w.failures) ⊎ ((w.fault ≡ Some finishing.Failed) ⊎ (w.fault ≡ Some finishing.Closed))
FailsToWrite (not_named from to naming.Failed) = Unit {0}
FailsToWrite (not_synced name) = Unit {0}
FailsToWrite (printed screen text fault) = fault ≡ Some line.Failed
FailsToWrite _ = ⊥

-- nobody reads standard output any more
abbrev pub FailsAsClosed : Event → Type 0
FailsAsClosed (wrote w) = w.fault ≡ Some finishing.Closed
FailsAsClosed (printed screen text fault) = fault ≡ Some line.Closed
FailsAsClosed _ = ⊥

-- what the passes read, in order
abbrev pub readings : List Event → List Reading
readings [] = []
readings (read r ∷ es) = r ∷ readings es
readings (_ ∷ es) = readings es

-- ---- refusals and changes

-- the first pass was refused for this fault, and nothing was written
pub record IsRefused (judge : Option (List ℕ) → Option Verdict) (fault : Fault) (events : List Event) : Type 0 where
  pub first : Reading
  pub later : List Reading
  pub are : readings events ≡ first ∷ later
  pub faulty : ShowsFault judge fault first.bytes first.left
  pub nothing : Each WroteNothing events

-- the first pass read all of IN, and the pass of this number other bytes. Unless that was the last, nothing was written
pub record IsChanged (pass : ℕ) (events : List Event) : Type 0 where
  pub first : Reading
  pub between : List Reading
  pub other : Reading
  pub later : List Reading
  pub are : readings events ≡ first ∷ between ++ other ∷ later
  pub pass_is : pass ≡ length between + 2
  pub whole : IsAtEnd first.left
  pub differs : IsOther first.bytes other.bytes other.left
  pub last : (later ≡ []) ⊎ Each WroteNothing events

-- the raw file that IN means has this fault first, as far as the host reports what IN has for the first pass
abbrev pub FirstFault : Form → (Option (List ℕ) → Option Verdict) → Fault → (has : List (Option (List ℕ))) → Type 0
FirstFault form judge fault [] = ⊥
FirstFault form judge fault (first ∷ later) = FaultOf (judge (meant_known form first)) fault

-- what a refusal says: of pbfcut by what was read, of pbfcutz by what IN has; and nothing was written
abbrev pub IsRefusedBy : Program → (Option (List ℕ) → Option Verdict) → (has : List (Option (List ℕ))) → Fault → List Event → Type 0
IsRefusedBy Pbfcut judge has fault events = IsRefused judge fault events
IsRefusedBy Pbfcutz judge has fault events = FirstFault packed_file judge fault has × Each WroteNothing events

-- what a change says: of pbfcut by what was read; of pbfcutz by what IN has for the passes, and not what was written
abbrev pub IsChangedBy : Program → (has : List (Option (List ℕ))) → ℕ → List Event → Type 0
IsChangedBy Pbfcut has pass events = IsChanged pass events
IsChangedBy Pbfcutz has pass events = PassChanged has pass

-- ---- why

-- before IN was read
abbrev pub CauseOfOpening : Ending → List Event → Type 0
CauseOfOpening ending.CannotOpen events = Has FailsToOpen events
CauseOfOpening ending.IsPipe events = Has FailsAsPipe events
CauseOfOpening ending.OutExists events = Has FailsAsThere events
CauseOfOpening (ending.Polygon fault) events = Has (FailsAsPolygon fault) events
CauseOfOpening (ending.Config fault) events = Has (FailsAsConfig fault) events
CauseOfOpening (ending.Stopped stop.Memory) events = Unit {0}
CauseOfOpening _ events = ⊥

abbrev pub FailsOpening : Ending → List Event → Type 0
FailsOpening how events = Each Calm events × CauseOfOpening how events

-- between these two reports that happened, and nothing else
abbrev pub StopsOpening : (before after : Option (List Event)) → Ending → Type 0
StopsOpening before after how = Logs before after (FailsOpening how)

-- OUT has nearly as many bytes as a file may have, if it reports what it took
abbrev pub NearsLimit : Event → Type 0
NearsLimit (wrote w) = w.reports ≡ true → IsNearLimit w.bytes
NearsLimit _ = ⊥

-- why a write failed: one of OUT did; or zlib blobs are near the limit of a file. Of zlib blobs it is said if IN has the same bytes for each pass, and a raw file is to be written
-- for what they mean
abbrev pub CauseOfWrite : Form → (sound : List ℕ → Type 0) → (has : List (Option (List ℕ))) → (failed near : Type 0) → Type 0
CauseOfWrite raw_file sound has failed near = failed
CauseOfWrite packed_file sound has failed near = (bytes : List ℕ) → AllSupply bytes has → sound (unpacked bytes) → failed ⊎ near

-- what a command does with IN until it is refused
pub data Judging : Type 1 where
  -- it judges it so before anything is written; and for these files a raw file is to be written
  judging : (judge : Option (List ℕ) → Option Verdict) → (sound : List ℕ → Type 0) → Judging
  -- it writes the lines of frames until one has a fault
  listing : Judging
  -- `help`: it prints a text
  printing : Judging

-- by what its task does
abbrev pub judging_for : Task → Judging
judging_for task = judging (judge_of task) (GivesRaw task)

-- each stop has its cause
abbrev pub Stops : Manner → Judging → (has : List (Option (List ℕ))) → List Event → Stop → Type 0
Stops m (judging judge sound) has events s =
    let unwritten = CauseOfWrite (output_form m.packs m.program) sound has (Has FailsToWrite events) (Has NearsLimit events) in
    Caused (λ fault. IsRefusedBy m.program judge has fault events) (Has FailsToRead events) unwritten (λ pass. IsChangedBy m.program has pass events) s
Stops m listing has events s = Caused (λ fault. FirstFault (input_form m.program) (judged_known false 0) fault has) (Has FailsToRead events) (Has FailsToWrite events) unchanged s
Stops m printing has events s = Caused (λ fault. ⊥) ⊥ (Has FailsToWrite events) unchanged s

-- an ending is that of a stop: the stop, or the refusal of a published file for the reason of its fault
abbrev pub EndsAsStop : Program → Stop → Ending → Type 0
EndsAsStop program s (ending.Stopped t) = t ≡ s
EndsAsStop program s (ending.RefusedPacked refusal) = (program ≡ Pbfcutz) × (fault : Fault) × (s ≡ stop.Refused fault) × (refusal.reason ≡ fault.reason)
EndsAsStop program s _ = ⊥

-- a command ends so, and IN has this for the passes that it was opened for
abbrev pub Fails : Manner → Judging → (has : List (Option (List ℕ))) → Ending → List Event → Type 0
Fails m j has ending.CannotOpen events = Has FailsToOpen events × Each WroteNothing events
Fails m j has ending.IsPipe events = Has FailsAsPipe events × Each WroteNothing events
Fails m j has ending.OutExists events = (Has FailsAsThere events × Each WroteNothing events) ⊎ Has (FailsToFinish finishing.Exists) events
Fails m j has ending.Closed events = Has FailsAsClosed events
Fails m j has (ending.Polygon fault) events = Has (FailsAsPolygon fault) events × Each WroteNothing events
Fails m j has (ending.Config fault) events = Has (FailsAsConfig fault) events × Each WroteNothing events
Fails m j has how events = (s : Stop) × EndsAsStop m.program s how × Stops m j has events s

-- IN, by its path, is opened for this pass, and has this, if the host reports it
abbrev pub OpensFor : (input : List ℕ) → ℕ → (has : Option (List ℕ)) → Event → Type 0
OpensFor input pass has (opened path number known) = (path ≡ input) × (number ≡ pass) × (known ≡ has)
OpensFor input pass has _ = ⊥

-- the same for each pass from this one on
abbrev pub Opens : (input : List ℕ) → ℕ → (has : List (Option (List ℕ))) → List Event → Type 0
Opens input pass [] events = Unit {0}
Opens input pass (has ∷ later) events = Has (OpensFor input pass has) events × Opens input (pass + 1) later events

-- a command failed: IN has this for the passes, and by it the ending has its cause
pub record FailsFor (input : List ℕ) (m : Manner) (j : Judging) (how : Ending) (events : List Event) : Type 0 where
  pub has : List (Option (List ℕ))
  pub opens : Opens input 1 has events
  pub why : Fails m j has how events
