-- What went through the devices of a command, before they are returned to the host.
use Rattle.std.specs.Prelude.{◌≡◌, ◌⊎◌, ℕ, zero, suc, ◌+◌, ◌-◌, ◌<◌, List, [], ◌∷◌, ◌++◌, length, map, Bool, true, false, Option, Some, None, Result, Ok, Err, IfSome, OnErr, OnOk}
use Rattle.std.specs.Option.{is_some}
use Rattle.pbf_frame.specs.declared.device.Feed as feed
use Rattle.pbf_frame.specs.declared.device.Drain as drain
use Rattle.pbf_frame.specs.declared.stop.Stop.{Stop}
use Rattle.pbf_frame.specs.declared.stop.Stop.TheVariants as stop
use Rattle.pbf_frame.specs.Devices.{IsAtEnd, IsFront, append}
use Rattle.pbf_frame.specs.Verdict.{Verdict}
use Rattle.pbf_pass.specs.Stops.{Caused, WriteFailed}
use Rattle.pbf_published.specs.Published.{PassChanged}
use Rattle.pbf_unpack.specs.declared.drain.PackedDrain.{PackedDrain}
use Rattle.pbf_unpack.specs.Packing.{GaveAll, failures_of_drain, taken_raw}
use Rattle.pbf_unpack.specs.RawFrames.{IsNearLimit, IsRawFile}
use Rattle.pbf_wire.specs.declared.fault.Fault.{Fault}
use Rattle.pbf_pass.specs.declared.hashing.PassCheck.{PassCheck}
use Rattle.pbfcut.specs.Calls.{AllSupply, AnyFailed, used}
use Rattle.sha2.specs.Sha256.{sha256}
use Rattle.pbfcut_cli.specs.declared.endings.Ending.{Ending}
use Rattle.pbfcut_cli.specs.declared.endings.Ending.TheVariants as ending
use Rattle.pbfcut_cli.specs.declared.programs.Program.{Program}
use Rattle.pbfcut_cli.specs.declared.programs.Program.TheVariants.{Pbfcut, Pbfcutz}
use Rattle.pbfcut_program.specs.declared.engine.Report.{Report}
use Rattle.pbfcut_program.specs.declared.engine.Halted.{Halted}
use Rattle.pbfcut_program.specs.declared.host.FinishFault.{FinishFault}
use Rattle.pbfcut_program.specs.Events.{Event, read, wrote, then_one}
use Rattle.pbfcut_program.specs.Fails.{CauseOfWrite, EndsAsStop, FirstFault}
use Rattle.pbfcut_program.specs.Leaving.{IsFrontAs}
use Rattle.pbfcut_program.specs.Manner.{AreDigests, Form, Manner, input_form, meant, of_input, of_output, packed_file, raw_file, to_raw}
use Rattle.pbfcut_program.specs.Readings.{ShowsFault, IsOther}
use Rattle.pbfcut.specs.Tasks.{Task, TaskHolds, answer_of, judge_of, spares}
use Rattle.pbfcut_program.specs.Tasks.{GivesRaw}

-- ---- devices of which nothing was read, and that took nothing

abbrev pub IsFreshFeed : {F : Type 0} → feed.Ghosts F → F → Type 0
IsFreshFeed f one = f.has_passed one 0 [] × (f.failures one ≡ 0)

abbrev pub AreFresh : {F : Type 0} → feed.Ghosts F → List F → Type 0
AreFresh f [] = Unit {0}
AreFresh f (one ∷ more) = IsFreshFeed f one × AreFresh f more

abbrev pub IsFreshOut : {D : Type 0} → drain.Ghosts D → D → Type 0
IsFreshOut d out = d.has_taken out 0 [] × IfSome (d.taken out) (λ taken. taken ≡ []) × (d.failures out ≡ 0)

-- ---- devices that are returned

abbrev pub Closes : {F : Type 0} → feed.Ghosts F → F → Option (List Event) → Option (List Event) → Type 0
Closes f now before after =
    ((bytes : List ℕ) × (after ≡ then_one before (read (record { bytes = bytes; left = f.remaining now; failures = f.failures now }))))
    × ((bytes : List ℕ) → f.has_passed now 0 bytes → after ≡ then_one before (read (record { bytes = bytes; left = f.remaining now; failures = f.failures now })))

-- OUT, by its name if it is a file, to be kept or not, of which all went out, or not, by this fault
abbrev pub Finishes : {D : Type 0} → drain.Ghosts D → D → (name : Option (List ℕ)) → (kept : Bool) → Option FinishFault → Option (List Event) → Option (List Event) → Type 0
Finishes d now name kept fault before after =
    ((bytes : List ℕ) × IfSome (d.taken now) (λ taken. bytes ≡ taken) × (after ≡ then_one before (wrote (record { name = name; bytes = bytes; reports = is_some (d.taken now); failures = d.failures now; kept = kept; fault = fault }))))
    × ((bytes : List ℕ) → d.has_taken now 0 bytes → after ≡ then_one before (wrote (record { name = name; bytes = bytes; reports = is_some (d.taken now); failures = d.failures now; kept = kept; fault = fault })))

-- one feed after the other
abbrev pub CloseAll : {F : Type 0} → feed.Ghosts F → List F → Option (List Event) → Option (List Event) → Type 0
CloseAll f [] before after = after ≡ before
CloseAll f (now ∷ more) before after = (between : Option (List Event)) × Closes f now before between × CloseAll f more between after

-- ---- what feeds gave

-- a feed gave this file, to its end, of which this is known
pub record GivesToEnd {F : Type 0} (f : feed.Ghosts F) (known : List ℕ → Type 0) (now : F) (file : List ℕ) : Type 0 where
  pub passed : f.has_passed now 0 file
  pub end : IsAtEnd (f.remaining now)
  pub is_known : known file

-- it did, and that is what it had, if it reports it
abbrev pub GivesIts : {F : Type 0} → feed.Ghosts F → (List ℕ → Type 0) → (old now : F) → List ℕ → Type 0
GivesIts f known old now file = GivesToEnd f known now file × IfSome (f.remaining old) (λ all. all ≡ file)

-- a later one did; or it was spared, as so many of those that follow may be
abbrev pub GivesOrNot : {F : Type 0} → feed.Ghosts F → (List ℕ → Type 0) → ℕ → (first : List ℕ) → (old now : F) → List ℕ → Type 0
GivesOrNot f known may first old now file = GivesIts f known old now file ⊎ ((0 < may) × (now ≡ old) × (file ≡ first))

abbrev pub GiveLater : {F : Type 0} → feed.Ghosts F → (List ℕ → Type 0) → ℕ → (first : List ℕ) → (olds news : List F) → List (List ℕ) → Type 0
GiveLater f known may first [] [] [] = Unit {0}
GiveLater f known may first (old ∷ olds) (now ∷ news) (b ∷ bs) = GivesOrNot f known may first old now b × GiveLater f known (may - 1) first olds news bs
GiveLater f known may first _ _ _ = ⊥

abbrev pub GiveAll : {F : Type 0} → feed.Ghosts F → (List ℕ → Type 0) → ℕ → (olds news : List F) → List (List ℕ) → Type 0
GiveAll f known may (old ∷ olds) (now ∷ news) (b ∷ bs) = GivesIts f known old now b × GiveLater f known may b olds news bs
GiveAll f known may _ _ _ = ⊥

-- ---- why a call stops

-- a feed gave faulty bytes
pub record GivesFaulty {F : Type 0} (f : feed.Ghosts F) (judge : Option (List ℕ) → Option Verdict) (fault : Fault) (now : F) : Type 0 where
  pub bytes : List ℕ
  pub passed : f.has_passed now 0 bytes
  pub faulty : ShowsFault judge fault bytes (f.remaining now)

abbrev pub FirstGivesFaulty : {F : Type 0} → feed.Ghosts F → (Option (List ℕ) → Option Verdict) → Fault → (olds news : List F) → Type 0
FirstGivesFaulty f judge fault (old ∷ olds) (now ∷ news) = GivesFaulty f judge fault now
FirstGivesFaulty f judge fault _ _ = ⊥

-- a feed gave other bytes than this file
pub record GivesOther {F : Type 0} (f : feed.Ghosts F) (file : List ℕ) (now : F) : Type 0 where
  pub bytes : List ℕ
  pub passed : f.has_passed now 0 bytes
  pub other : IsOther file bytes (f.remaining now)

-- the feed at this place did
abbrev pub GivesOtherAt : {F : Type 0} → feed.Ghosts F → (file : List ℕ) → ℕ → (olds news : List F) → Type 0
GivesOtherAt f file zero (old ∷ olds) (now ∷ news) = GivesOther f file now
GivesOtherAt f file (suc at) (old ∷ olds) (now ∷ news) = GivesOtherAt f file at olds news
GivesOtherAt f file _ _ _ = ⊥

-- the first feed gave a file, and that of this pass another; unless it is the last pass, nothing went out
pub record ChangeIn {F : Type 0} (f : feed.Ghosts F) (nothing : Type 0) (pass : ℕ) (now : F) (olds news : List F) : Type 0 where
  pub file : List ℕ
  pub first : GivesToEnd f (λ _. Unit {0}) now file
  pub at : ℕ
  pub pass_is : pass ≡ at + 2
  pub other : GivesOtherAt f file at olds news
  pub last : (length news ≡ at + 1) ⊎ nothing

abbrev pub Change : {F : Type 0} → feed.Ghosts F → (nothing : Type 0) → ℕ → (olds news : List F) → Type 0
Change f nothing pass (old ∷ olds) (now ∷ news) = ChangeIn f nothing pass now olds news
Change f nothing pass _ _ = ⊥

-- what a refusal says by a program: of pbfcut by what was read, of pbfcutz by what its first feed has
abbrev pub RefusesBy : {F : Type 0} → Program → feed.Ghosts F → (Option (List ℕ) → Option Verdict) → Fault → (olds news : List F) → Type 0
RefusesBy Pbfcut f judge fault olds news = FirstGivesFaulty f judge fault olds news
RefusesBy Pbfcutz f judge fault olds news = FirstFault packed_file judge fault (map f.remaining olds)

-- the same of a change
abbrev pub ChangesBy : {F : Type 0} → Program → feed.Ghosts F → (nothing : Type 0) → ℕ → (olds news : List F) → Type 0
ChangesBy Pbfcut f nothing pass olds news = Change f nothing pass olds news
ChangesBy Pbfcutz f nothing pass olds news = PassChanged (map f.remaining olds) pass

abbrev pub StopsFor : {F : Type 0} → Program → feed.Ghosts F → (Option (List ℕ) → Option Verdict) → (olds news : List F) → (nothing failed : Type 0) → Stop → Type 0
StopsFor program f judge olds news nothing failed s = Caused (λ fault. RefusesBy program f judge fault olds news × nothing) (AnyFailed (used f olds news)) failed (λ pass. ChangesBy program f nothing pass olds news) s

abbrev pub EndsFor : {F : Type 0} → Program → feed.Ghosts F → (Option (List ℕ) → Option Verdict) → (olds news : List F) → (nothing failed : Type 0) → Ending → Type 0
EndsFor program f judge olds news nothing failed how = (s : Stop) × EndsAsStop program s how × StopsFor program f judge olds news nothing failed s

-- ---- a call of the engine

-- what it reports of what went through its devices: its feeds gave files, of one digest by its check; its drain took these bytes, and what the task means holds of the raw files
-- that they mean
pub record Reports {F : Type 0} (f : feed.Ghosts F) (m : Manner) (by : PassCheck) (task : Task) (olds news : List F) (took : List ℕ → Type 0) (report : Report) : Type 0 where
  pub files : List (List ℕ)
  pub written : List ℕ
  pub gave : GiveAll f (AreDigests m by report.input report.raw) (spares task) olds news files
  pub took_them : took written
  pub holds : TaskHolds task (map (of_input m) files) report.counts (of_output m written)

abbrev pub Works : {F : Type 0} → Manner → PassCheck → feed.Ghosts F → Task → (olds news : List F) → (took : List ℕ → Type 0) → (failed : Type 0) → Result Report Halted → Type 0
Works m by f task olds news took failed (Ok report) = Reports f m by task olds news took report
Works m by f task olds news took failed (Err halted) = EndsFor m.program f (judge_of task) olds news (took []) failed halted.ending

-- if nothing was read of the feeds: by each log by which the drain had taken nothing
abbrev pub WorksOn : {F D : Type 0} → Manner → PassCheck → feed.Ghosts F → drain.Ghosts D → Task → (olds news : List F) → (old new : D) → Result Report Halted → Type 0
WorksOn m by f d task olds news old new result = AreFresh f olds → (log : ℕ) → d.has_taken old log [] → Works m by f task olds news (d.has_taken new log) (WriteFailed d old new) result

-- a call stopped: if its feeds had the same bytes, a prefix of what the task makes of the raw file that they mean went out
abbrev pub Fronts : {A : Type 0} → Form → Task → (has : List (Option (List ℕ))) → (before after : Option (List ℕ)) → Result A Halted → Type 0
Fronts form task has before after result = OnErr result ((bytes : List ℕ) → AllSupply bytes has → IsFront before after (answer_of task (meant form bytes)))

-- what OUT took when a call stopped: if its feeds had the same bytes, a prefix of what the task makes of the raw file that they mean, in blobs of this form
abbrev pub Leads : {A : Type 0} → Form → (input : Form) → Task → (has : List (Option (List ℕ))) → (after : Option (List ℕ)) → Result A Halted → Type 0
Leads form input task has after result = OnErr result ((bytes : List ℕ) → AllSupply bytes has → IfSome after (IsFrontAs (form, answer_of task (meant input bytes))))

-- a call of pbfcutz ended well: if its feeds had the same bytes, what the task makes of the raw file that they mean went out
abbrev pub Wholes : {A : Type 0} → Form → Task → (has : List (Option (List ℕ))) → (before after : Option (List ℕ)) → Result A Halted → Type 0
Wholes raw_file task has before after result = Unit {0}
Wholes packed_file task has before after result = OnOk result ((bytes : List ℕ) → AllSupply bytes has → after ≡ append before (answer_of task (meant packed_file bytes)))

-- what a call of the engine says that does a task, in raw blobs: what it reports, or why it stopped; and what went out, if its feeds had the same bytes
pub record RunsTask {F D : Type 0} (m : Manner) (by : PassCheck) (f : feed.Ghosts F) (d : drain.Ghosts D) (task : Task) (olds news : List F) (old new : D) (result : Result Report Halted) : Type 0 where
  pub works : WorksOn (to_raw m) by f d task olds news old new result
  pub front : Fronts (input_form m.program) task (map f.remaining olds) (d.taken old) (d.taken new) result
  pub whole : Wholes (input_form m.program) task (map f.remaining olds) (d.taken old) (d.taken new) result

-- ---- drains between a call and OUT

-- the logs of a drain that links the first two of the one below: by its first log both took the same bytes
abbrev pub HasLinked : {D : Type 0} → drain.Ghosts D → D → ℕ → List ℕ → Type 0
HasLinked d below zero bytes = d.has_taken below 0 bytes × d.has_taken below 1 bytes
HasLinked d below (suc log) bytes = d.has_taken below log bytes

-- why a write failed of a drain that gets blobs of this form: one of its own did, or it is near the limit of a file
abbrev pub DrainFailed : {D : Type 0} → drain.Ghosts D → Form → Task → (has : List (Option (List ℕ))) → D → Type 0
DrainFailed d form task has out = CauseOfWrite form (GivesRaw task) has (0 < d.failures out) (IfSome (d.taken out) IsNearLimit)

-- the same of one that packs, if a raw file is what it took, and these bytes after that
abbrev pub PackingFailed : {D : Type 0} {d : drain.Ghosts D} → PackedDrain D d → (rest : List ℕ) → Type 0
PackingFailed {d = d} p rest = IfSome (taken_raw p) (λ raw. IsRawFile (raw ++ rest)) → (0 < d.failures p.below.drain) ⊎ IfSome (d.taken p.below.drain) IsNearLimit

-- an ending is shown as it is; or as refused memory, which it is if a write failed for that
abbrev pub IsShownAs : (of_drain : Option Stop) → (how shown : Ending) → Type 0
IsShownAs of_drain how shown = (shown ≡ ending.Stopped stop.Memory) ⊎ ((shown ≡ how) × (how ≡ ending.Stopped stop.Write → of_drain ≡ Some stop.Memory → ⊥))

-- what a call came to, and what that comes to once its drain, which packs, is finished
abbrev pub FinishesPacked : {A D : Type 0} {d : drain.Ghosts D} → (old new : PackedDrain D d) → (returned result : Result A Halted) → Type 0
FinishesPacked old new (Ok report) (Ok same) = (same ≡ report) × GaveAll old new
FinishesPacked old new (Ok report) (Err halted) = (halted.ending ≡ ending.Stopped stop.Memory) ⊎ ((halted.ending ≡ ending.Stopped stop.Write) × PackingFailed new [])
FinishesPacked old new (Err halted) (Err same) = (new ≡ old)
    × ((same.ending ≡ ending.Stopped stop.Memory)
    ⊎ ((same.ending ≡ halted.ending) × (halted.ending ≡ ending.Stopped stop.Write → 0 < failures_of_drain old → (rest : List ℕ) → PackingFailed new rest)))
FinishesPacked old new (Err halted) (Ok report) = ⊥

-- ---- OUT

-- OUT took these bytes, and this is their digest, if there is one
abbrev pub TakenBy : {D : Type 0} → drain.Ghosts D → D → (digest : Option (List ℕ)) → List ℕ → Type 0
TakenBy d out digest written = d.has_taken out 0 written × IfSome digest (λ known. known ≡ sha256 written)

-- and this is the digest of the raw file that they mean, if there is one
abbrev pub MeansBy : Form → (digest : Option (List ℕ)) → List ℕ → Type 0
MeansBy form digest written = IfSome digest (λ known. known ≡ sha256 (meant form written))

-- there is a digest if it is wanted
abbrev pub IsAsked : Bool → Option (List ℕ) → Type 0
IsAsked true (Some digest) = Unit {0}
IsAsked false None = Unit {0}
IsAsked _ _ = ⊥
