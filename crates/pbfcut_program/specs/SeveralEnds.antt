-- How the OUTs of a run for several areas end.
use Rattle.std.specs.Prelude.{◌≡◌, ◌⊎◌, ℕ, ◌+◌, List, [], ◌++◌, length, map, Bool, true, Option, Some, None, Result, Ok, Err}
use Rattle.std.specs.List.{AllByRecursion, AllZip, flat_map, zip}
use Rattle.std.specs.String.{string_bytes}
use Rattle.std.specs.Global.{Vec}
use Rattle.osm_area.specs.Area.{AreaSpec}
use Rattle.osm_ways.specs.Selection.{Strategy}
use Rattle.pbf_frame.specs.declared.device.Drain as drain
use Rattle.pbf_frame.specs.declared.device.Feed as feed
use Rattle.pbf_frame.specs.declared.stop.Stop.TheVariants as stop
use Rattle.pbf_pass.specs.declared.hashed.PassFeed.{PassFeed}
use Rattle.pbf_pass.specs.declared.hashing.PassCheck.{PassCheck}
use Rattle.pbf_published.specs.declared.traced.TracedFeed.{TracedFeed}
use Rattle.pbf_unpack.specs.declared.feed.UnpackedFeed.{UnpackedFeed}
use Rattle.pbfcut.specs.Several.{AllThree}
use Rattle.pbfcut.specs.Tasks.{extracting, spares_by}
use Rattle.pbfcut.specs.declared.carrying.AreaOutput.{AreaOutput}
use Rattle.pbfcut_cli.specs.declared.endings.Ending.{Ending}
use Rattle.pbfcut_cli.specs.declared.endings.Ending.TheVariants as ending
use Rattle.pbfcut_cli.specs.declared.programs.Program.{Program}
use Rattle.pbfcut_program.specs.declared.configured.OutputCut.{OutputCut}
use Rattle.pbfcut_program.specs.declared.engine.Engine.{Engine}
use Rattle.pbfcut_program.specs.declared.several.OutputArea.{OutputArea}
use Rattle.pbfcut_program.specs.declared.several_files.MadeOuts.{MadeOuts}
use Rattle.pbfcut_program.specs.declared.several_files.NotKept.{NotKept}
use Rattle.pbfcut_program.specs.declared.several_files.OutPart.{OutPart}
use Rattle.pbfcut_program.specs.declared.several_files.Placing.{Placing}
use Rattle.pbfcut_program.specs.declared.several_writing.DoneOut.{DoneOut}
use Rattle.pbfcut_program.specs.declared.several_writing.ReadyEach.{ReadyEach}
use Rattle.pbfcut_program.specs.Devices.{AreFresh, IsFreshOut}
use Rattle.pbfcut_program.specs.Events.{Event, Reading, Writing, read, wrote, then_all}
use Rattle.pbfcut_program.specs.Fails.{CauseOfOpening, Each, WroteNothing}
use Rattle.pbfcut_program.specs.Files.{IsDropped, IsKept, Still}
use Rattle.pbfcut_program.specs.Inputs.{AreReady, feeds_in}
use Rattle.pbfcut_program.specs.Leaving.{IsUnkept}
use Rattle.pbfcut_program.specs.Lines.{digest_if_asked, out_lines}
use Rattle.pbfcut_program.specs.Manner.{Manner, check_in, hashes_meaning, of_output, output_form}
use Rattle.pbfcut_program.specs.Outcomes.{ending_of_file}
use Rattle.pbfcut_program.specs.Readings.{IsWork}
use Rattle.pbfcut_program.specs.SeveralChanges.{HandlesEach}
use Rattle.pbfcut_program.specs.SeveralFiles.{DoesEach, DropsEach, FinishesWhole, KeepsEach, KeepsPart, OneByOne}
use Rattle.pbfcut_program.specs.SeveralOuts.{cut_into}
use Rattle.pbfcut_program.specs.Telling.{Silent}

-- ---- they can't all be made

-- nothing was written, kept or said, and the command fails for this cause
pub record FailsMaking (program : Program) (overwrite : Bool) (outputs : List (List ℕ)) (how : Ending) (events : List Event) : Type 0 where
  pub cause : CauseOfOpening how events
  pub nothing : Each WroteNothing events
  pub unkept : Each IsUnkept events
  pub silent : Each Silent events
  pub files : Each Still events ⊎ HandlesEach program overwrite outputs events

-- ---- they are ready

abbrev pub areas_into : {D : Type 0} → List (AreaOutput OutputArea D) → List AreaSpec
areas_into outputs = map (λ o. cut_into o.area) outputs

-- IN has a feed for each pass, of which nothing was read; there are OUTs, each with its file, and they took nothing
pub record IsReadyEach {F D S : Type 0} (f : feed.Ghosts F) (u : feed.Ghosts (UnpackedFeed (TracedFeed (PassFeed F)))) (d : drain.Ghosts D) (engine : Engine) (s : Strategy) (key : ℕ) (ready : ReadyEach F D S) : Type 0 where
  pub feeds : AreFresh f (feeds_in ready.inputs)
  pub count : length (feeds_in ready.inputs) ≡ spares_by s + 2
  pub opened : AreReady f u engine.program (check_in engine key) ready.inputs
  pub some : ready.made.outputs.items ≡ [] → ⊥
  pub parts : length ready.made.parts.items ≡ length ready.made.outputs.items
  pub fresh : AllByRecursion (λ out. IsFreshOut d out.drain) ready.made.outputs.items
  pub unhashed : AllByRecursion (λ out. out.area.output ≡ None) ready.made.outputs.items
  pub unmeant : AllByRecursion (λ out. out.area.meaning ≡ None) ready.made.outputs.items

-- what was done of an OUT
abbrev pub done_of : {D : Type 0} → AreaOutput OutputArea D → DoneOut
done_of out = record { counts = out.counts; output = out.area.output; meaning = out.area.meaning }

-- all areas were cut out: the OUTs are kept, and this is what was done; or they are dropped for a lack of memory; or not all can be kept
abbrev pub KeepsDone : {D : Type 0} → drain.Ghosts D → Placing → MadeOuts D → Result (Vec DoneOut) Ending → (before after : Option (List Event)) → Type 0
KeepsDone d placing made (Ok dones) before after = (dones.items ≡ map done_of made.outputs.items)
    × (closed : Option (List Event)) × OneByOne (FinishesWhole d) (zip made.parts.items made.outputs.items) before closed × DoesEach (KeepsPart placing.program placing.overwrite) made.parts.items closed after
KeepsDone d placing made (Err how) before after = ((how ≡ ending.Stopped stop.Memory) × DropsEach d placing.program made.parts.items made.outputs.items before after)
    ⊎ ((lost : NotKept) × (how ≡ ending_of_file lost.fault) × KeepsEach {X = Unit {0}} d placing.program placing.overwrite (Err lost) made.parts.items made.outputs.items before after)

-- ---- they ended well

-- an OUT that has ended: what the passes read for it, what it took, and what was done to its file
pub record Ended : Type 0 where
  pub readings : List Reading
  pub out : Writing
  pub ends : List Event

-- it took the extract of its area, all of that went out, and it is kept
pub record EndsKept {D : Type 0} (m : Manner) (by : PassCheck) (s : Strategy) (overwrite : Bool) (has : List (Option (List ℕ))) (digest : List ℕ) (raw : Option (List ℕ)) (of : OutPart × AreaOutput OutputArea D) (done : DoneOut) (one : Ended) : Type 0 where
  pub name : one.out.name ≡ Some (string_bytes of.0.name)
  pub kept : one.out.kept ≡ true
  pub whole : one.out.fault ≡ None
  pub named : KeepsPart m.program overwrite of.0 one.ends
  pub hashed : done.output ≡ digest_if_asked m.digests one.out.bytes
  pub meaning_hashed : done.meaning ≡ digest_if_asked (hashes_meaning (output_form m.packs m.program) m.digests) (of_output m one.out.bytes)
  pub work : IsWork m by (extracting s (cut_into of.1.area)) has one.readings one.out.bytes done.counts digest raw

-- all of them: IN was returned, then the OUTs, and then each got its name
pub record EndsEach {D : Type 0} (m : Manner) (by : PassCheck) (s : Strategy) (overwrite : Bool) (has : List (Option (List ℕ))) (digest : List ℕ) (raw : Option (List ℕ)) (parts : List OutPart) (outputs : List (AreaOutput OutputArea D)) (dones : List DoneOut) (before after : Option (List Event)) : Type 0 where
  pub rs : List Reading
  pub ones : List Ended
  pub log : after ≡ then_all before (map (λ r. read r) rs ++ (map (λ one. wrote one.out) ones ++ flat_map (λ one. one.ends) ones))
  pub each : AllThree (EndsKept m by s overwrite has digest raw) (zip parts outputs) dones ones

-- ---- however they ended

-- what was done to the file of an OUT that took this: it is kept, if all of it went out; or it is dropped
pub record IsEndedPart (program : Program) (overwrite : Bool) (part : OutPart) (one : Ended) : Type 0 where
  pub name : one.out.name ≡ Some (string_bytes part.name)
  pub ended : ((one.out.kept ≡ true) × (one.out.fault ≡ None) × IsKept program overwrite (string_bytes part.path) one.out.name one.ends) ⊎ IsDropped program one.out.name one.ends

-- IN was returned, and then all OUTs, which ended so
pub record ReturnsEach (program : Program) (overwrite : Bool) (parts : List OutPart) (before after : Option (List Event)) : Type 0 where
  pub rs : List Reading
  pub ones : List Ended
  pub last : List Event
  pub log : after ≡ then_all before (map (λ r. read r) rs ++ (map (λ one. wrote one.out) ones ++ (flat_map (λ one. one.ends) ones ++ last)))
  pub still : Each Still last
  pub each : AllZip (IsEndedPart program overwrite) parts ones

-- ---- what is printed

abbrev pub outs_lines : List (OutputCut × DoneOut) → List (List ℕ)
outs_lines outs = flat_map (λ one. out_lines one.1.counts one.1.output one.1.meaning (string_bytes one.0.output)) outs
