-- What a call of the engine came to, as the program reports it.
use Rattle.std.specs.Prelude.{◌≡◌, ℕ, false, Option, Some, None, Result, Ok, Err}
use Rattle.pbf_frame.specs.declared.device.Feed as feed
use Rattle.pbf_frame.specs.declared.device.Drain as drain
use Rattle.pbf_frame.specs.declared.stop.Stop.{Stop}
use Rattle.pbf_frame.specs.declared.stop.Stop.TheVariants as stop
use Rattle.pbf_frame.specs.Verdict.{judged_known}
use Rattle.pbf_pass.specs.Stops.{Caused, FaultOf, ReadFailed, WriteFailed, unchanged}
use Rattle.pbf_published.specs.declared.input.PublishedHalt.{PublishedHalt}
use Rattle.pbf_published.specs.declared.input.PublishedInput.{PublishedInput}
use Rattle.pbfcut.specs.Listing.{Lists}
use Rattle.pbfcut_cli.specs.declared.endings.Ending.{Ending}
use Rattle.pbfcut_cli.specs.declared.programs.Program.{Program}
use Rattle.pbfcut_cli.specs.declared.programs.Program.TheVariants.{Pbfcutz}
use Rattle.pbf_pass.specs.declared.receipt.Halt.{Halt}
use Rattle.pbf_pass.specs.declared.receipt.InputReceipt.{InputReceipt}
use Rattle.pbf_pass.specs.Refused.{stop_of}
use Rattle.pbfcut_cli.specs.declared.endings.Ending.TheVariants as ending
use Rattle.pbfcut_program.specs.declared.engine.Report.{Report}
use Rattle.pbfcut_program.specs.declared.engine.Halted.{Halted}
use Rattle.pbfcut_program.specs.declared.host.CreateFault.{CreateFault}
use Rattle.pbfcut_program.specs.declared.host.CreateFault.TheVariants as creating
use Rattle.pbfcut_program.specs.declared.host.FinishFault.{FinishFault}
use Rattle.pbfcut_program.specs.declared.host.FinishFault.TheVariants as fault
use Rattle.pbfcut_program.specs.declared.host.NameFault.{NameFault}
use Rattle.pbfcut_program.specs.declared.host.NameFault.TheVariants as naming
use Rattle.pbfcut_program.specs.Fails.{EndsAsStop}
use Rattle.pbfcut_program.specs.Manner.{input_form, meant_known}

abbrev pub ReportsRaw : Result InputReceipt Halt → Result Report Halted → Type 0
ReportsRaw (Ok receipt) (Ok report) = (report.counts ≡ receipt.counts) × (report.input ≡ receipt.input) × (report.raw ≡ None)
ReportsRaw (Err halt) (Err halted) = halted.ending ≡ ending.Stopped (stop_of halt)
ReportsRaw _ _ = ⊥

abbrev pub ReportsPublished : Result PublishedInput PublishedHalt → Result Report Halted → Type 0
ReportsPublished (Ok receipt) (Ok report) = (report.counts ≡ receipt.counts) × (report.input ≡ receipt.input) × (report.raw ≡ Some receipt.raw)
ReportsPublished (Err halt) (Err halted) = EndsAsStop Pbfcutz halt.stop halted.ending
ReportsPublished _ _ = ⊥

-- a listing ends as a stop that has its cause
abbrev pub EndsListing : {F D : Type 0} → Program → feed.Ghosts F → drain.Ghosts D → (old now : F) → (before after : D) → Ending → Type 0
EndsListing program f d old now before after how = (s : Stop) × EndsAsStop program s how
    × Caused (FaultOf (judged_known false 0 (meant_known (input_form program) (f.remaining old)))) (ReadFailed f old now) (WriteFailed d before after) unchanged s

-- a listing has the lines of all frames of the raw file that the bytes mean
abbrev pub ListsBy : {F D : Type 0} → Program → feed.Ghosts F → drain.Ghosts D → (old now : F) → (before after : D) → Result ℕ Halted → Type 0
ListsBy program f d old now before after (Ok count) = Lists d before after (judged_known false 0 (meant_known (input_form program) (f.remaining old))) count
ListsBy program f d old now before after (Err halted) = EndsListing program f d old now before after halted.ending

-- OUT can't be made: by its name, and by another one
abbrev pub unmade : CreateFault → Ending
unmade creating.Failed = ending.CannotOpen
unmade creating.Long = ending.CannotOpen
unmade creating.Exists = ending.OutExists
unmade creating.Memory = ending.Stopped stop.Memory

abbrev pub unmade_part : CreateFault → Ending
unmade_part creating.Failed = ending.CannotOpen
unmade_part creating.Long = ending.CannotOpen
unmade_part creating.Exists = ending.CannotOpen
unmade_part creating.Memory = ending.Stopped stop.Memory

-- a file that doesn't get OUT's name
abbrev pub finish_fault_of : NameFault → FinishFault
finish_fault_of naming.Failed = fault.Failed
finish_fault_of naming.Exists = fault.Exists

-- how a command ends if not all of OUT went out
abbrev pub ending_of_file : FinishFault → Ending
ending_of_file fault.Failed = ending.Stopped stop.Write
ending_of_file fault.Exists = ending.OutExists
ending_of_file fault.Closed = ending.Stopped stop.Write

-- the same of a command whose text goes to standard output
abbrev pub ending_of_text : FinishFault → Ending
ending_of_text fault.Failed = ending.Stopped stop.Write
ending_of_text fault.Exists = ending.OutExists
ending_of_text fault.Closed = ending.Closed

-- a text was written, and all of it went out, or not: then it is that which failed
abbrev pub EndsAfterText : {A B : Type 0} → Option FinishFault → Result A Halted → Result B Ending → Type 0
EndsAfterText None (Ok _) (Ok _) = Unit {0}
EndsAfterText None (Err halted) (Err how) = how ≡ halted.ending
EndsAfterText (Some why) outcome (Err how) = how ≡ ending_of_text why
EndsAfterText _ _ _ = ⊥
