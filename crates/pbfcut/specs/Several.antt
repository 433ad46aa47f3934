-- Several drains that one call writes to: what it does to each of them, and why it stops.
use Rattle.std.specs.Prelude.{◌≡◌, ◌⊎◌, ⊤, ℕ, List, [], ◌∷◌, Option, None, Some, Result, Ok, Err, OnOk, OnErr, IfOk, IfErr}
use Rattle.std.specs.List.{AllByRecursion, AllZip}
use Rattle.osm_pack.specs.Cuts.{at_end, header_frame}
use Rattle.osm_pack.specs.Packing.{Pending}
use Rattle.osm_pack.specs.Stops.{IsPackStop}
use Rattle.osm_entity.specs.Entity.{EntitySpec}
use Rattle.pbf_frame.specs.declared.device.Drain as drain
use Rattle.pbf_frame.specs.declared.stop.Stop.{Stop}
use Rattle.pbf_frame.specs.Devices.{IsFront}
use Rattle.pbf_frame.specs.Keeps.{KeepsDrain}
use Rattle.pbf_frame.specs.Transfers.{Added}
use Rattle.pbf_frame.specs.Verdict.{Verdict}
use Rattle.pbf_header.specs.Header.{header_of}
use Rattle.pbf_pass.specs.Counting.{counts_of}
use Rattle.pbf_pass.specs.Each.{EachTook, OneFailed}
use Rattle.pbf_pass.specs.Given.{Took}
use Rattle.pbf_pass.specs.HeaderLimit.{HasShortTexts}
use Rattle.pbf_pass.specs.Hashing.{mark_by}
use Rattle.pbf_pass.specs.Judged.{judged_file}
use Rattle.pbf_pass.specs.Payload.{Payload}
use Rattle.pbf_pass.specs.Stops.{WriteFailed}
use Rattle.pbf_pass.specs.Unjudged.{ReadsFaulty, StopsUnjudged}
use Rattle.pbf_pass.specs.Visit.{StopRule as Fails, Takes}
use Rattle.pbfcut.specs.declared.carrying.AreaChoice.{AreaChoice}
use Rattle.pbfcut.specs.declared.carrying.AreaOutput.{AreaOutput}
use Rattle.pbfcut.specs.declared.repeat.LaterPass.{LaterPass}
use Rattle.pbfcut.specs.declared.writing_each.AreaWriter.{AreaWriter}
use Rattle.pbfcut.specs.declared.writing_each.EachWriter.{EachWriter}
use Rattle.pbfcut.specs.Calls.{FailedFeed, FeedUse, GaveBy, KeepsFed, supply_of}
use Rattle.osm_ways.specs.declared.choice_strips.ChoiceStrips.{ChoiceStrips}
use Rattle.osm_ways.specs.ChoiceStrips.{NamesChoice}
use Rattle.pbfcut.specs.Pick.{IsFreshPacker, IsReadyToPack, PacksEach, picks_of, taken_by}
use Rattle.pbfcut.specs.Repeat.{StopsLater, digest_of}
use Rattle.pbfcut.specs.Wanted.{AllFrom}
use Rattle.pbfcut.specs.Write.{FailsAtNext, Packed, PacksFront, PacksNext, PacksUnjudged}

-- ---- lists that go together

-- the lists have one length, and this holds of the elements at each index
abbrev pub AllThree : {X Y Z : Type 0} → (X → Y → Z → Type 0) → List X → List Y → List Z → Type 0
AllThree R [] [] [] = Unit {0}
AllThree R (x ∷ xs) (y ∷ ys) (z ∷ zs) = R x y z × AllThree R xs ys zs
AllThree R _ _ _ = ⊥

-- this holds of the elements at one place
abbrev pub AnyZip : {X Y : Type 0} → (X → Y → Type 0) → List X → List Y → Type 0
AnyZip R (x ∷ xs) (y ∷ ys) = R x y ⊎ AnyZip R xs ys
AnyZip R _ _ = ⊥

-- one of them stopped: those before it did this, and those after it are as they were
abbrev pub OneStopped : {V : Type 0} → (did stopped : V → V → Type 0) → List V → List V → Type 0
OneStopped did stopped (old ∷ olds) (new ∷ news) = (stopped old new × (news ≡ olds)) ⊎ (did old new × OneStopped did stopped olds news)
OneStopped did stopped _ _ = ⊥

-- ---- a writer

-- the count of failures of its drain rose
abbrev pub WriterFailed : {A D S H : Type 0} → drain.Ghosts D → AreaWriter A D S H → AreaWriter A D S H → Type 0
WriterFailed d old new = WriteFailed d old.packer.drain new.packer.drain

-- it is that of the same area, and its drain is kept
pub record KeepsWriter {A D S H : Type 0} (d : drain.Ghosts D) (old new : AreaWriter A D S H) : Type 0 where
  pub area : new.area ≡ old.area
  pub choice : new.choice.now ≡ old.choice.now
  pub drain : KeepsDrain d old.packer.drain new.packer.drain

-- one that was made for an output and a choice, in the pass of this number
pub record IsWriterOf {A D S H : Type 0} (number : ℕ) (choice : AreaChoice) (output : AreaOutput A D) (writer : AreaWriter A D S H) : Type 0 where
  pub area : writer.area ≡ output.area
  pub drain : writer.packer.drain ≡ output.drain
  pub chosen : writer.choice.now ≡ choice
  pub picks : picks_of writer.entities.picker ≡ taken_by choice.chosen
  pub number_is : writer.entities.number ≡ number
  pub counts : writer.entities.counts ≡ counts_of []
  pub fresh : IsFreshPacker writer.packer

-- what is left of it is the output
abbrev pub IsOutputOf : {A D S H : Type 0} → AreaWriter A D S H → AreaOutput A D → Type 0
IsOutputOf writer output = output ≡ record { area = writer.area; drain = writer.packer.drain; counts = writer.entities.counts }

-- a header can be put, which can be written
abbrev pub CanBegin : {A D S H : Type 0} → AreaWriter A D S H → Type 0
CanBegin writer = IsFreshPacker writer.packer × HasShortTexts (header_of writer.choice.now.header)

-- nothing was counted yet, in the pass of this number
pub record IsFreshWriter {A D S H : Type 0} (number : ℕ) (writer : AreaWriter A D S H) : Type 0 where
  pub begins : CanBegin writer
  pub number_is : writer.entities.number ≡ number
  pub counts : writer.entities.counts ≡ counts_of []

-- it put the header
pub record PutsHeader {A D S H : Type 0} (d : drain.Ghosts D) (old new : AreaWriter A D S H) : Type 0 where
  pub written : Added d old.packer.drain (header_frame (header_of old.choice.now.header)) new.packer.drain
  pub none : Pending new.packer []
  pub ready : IsReadyToPack new.packer
  pub entities : new.entities ≡ old.entities
  pub keeps : KeepsWriter d old new

-- it stopped, and a prefix of the header went out
pub record StopsAtHeader {A D S H : Type 0} (d : drain.Ghosts D) (stop : Stop) (old new : AreaWriter A D S H) : Type 0 where
  pub front : IsFront (d.taken old.packer.drain) (d.taken new.packer.drain) (header_frame (header_of old.choice.now.header))
  pub cause : IsPackStop (d.failures old.packer.drain) (d.failures new.packer.drain) stop
  pub keeps : KeepsWriter d old new

-- it took a frame, and counted what it packed of it
abbrev pub WriterTakes : {A D S H : Type 0} → drain.Ghosts D → Takes (AreaWriter A D S H)
WriterTakes d old f new = PacksNext d (picks_of old.entities.picker) old.packer new.packer old.entities.counts new.entities.counts f × (new.entities.picker ≡ old.entities.picker) × (new.entities.number ≡ old.entities.number) × (new.area ≡ old.area) × (new.choice.now ≡ old.choice.now)

-- it stopped at a frame
abbrev pub WriterFails : {A D S H : Type 0} → drain.Ghosts D → Fails (AreaWriter A D S H)
WriterFails d old f new stop = FailsAtNext d old.entities.number (picks_of old.entities.picker) old.packer new.packer f stop × (new.area ≡ old.area) × (new.choice.now ≡ old.choice.now)

-- it wrote what waited
pub record WritesLast {A D S H : Type 0} (d : drain.Ghosts D) (old new : AreaWriter A D S H) : Type 0 where
  pub written : (es : List EntitySpec) → Pending old.packer es → Added d old.packer.drain (at_end es) new.packer.drain
  pub entities : new.entities ≡ old.entities
  pub keeps : KeepsWriter d old new

-- it stopped, and a prefix of what waited went out
pub record StopsAtLast {A D S H : Type 0} (d : drain.Ghosts D) (stop : Stop) (old new : AreaWriter A D S H) : Type 0 where
  pub front : (es : List EntitySpec) → Pending old.packer es → IsFront (d.taken old.packer.drain) (d.taken new.packer.drain) (at_end es)
  pub cause : IsPackStop (d.failures old.packer.drain) (d.failures new.packer.drain) stop
  pub keeps : KeepsWriter d old new

-- ---- a file

-- its drain took the header and what is picked of a file with this verdict
abbrev pub WriterTook : {A D S H : Type 0} → drain.Ghosts D → Option Verdict → AreaWriter A D S H → AreaWriter A D S H → Type 0
WriterTook d known old new = Took d old.packer.drain new.packer.drain (Packed (picks_of old.entities.picker) (header_of old.choice.now.header) new.entities.counts known)

-- or a prefix of that
abbrev pub WriterBegan : {A D S H : Type 0} → drain.Ghosts D → Option Verdict → AreaWriter A D S H → AreaWriter A D S H → Type 0
WriterBegan d known old new = PacksFront (picks_of old.entities.picker) (header_of old.choice.now.header) known (d.taken old.packer.drain) (d.taken new.packer.drain)

-- the feed gave a file, and each drain took its header and what is picked of it; or a prefix of that, if the pass stopped: at a fault, since
-- the bytes changed, or for a device
pub record WritesEachUnjudged {A D S H : Type 0} (source : FeedUse) (d : drain.Ghosts D) (pass : LaterPass) (olds news : List (AreaWriter A D S H)) (result : Result (List ℕ) Stop) : Type 0 where
  pub packed : IfOk result (λ digest. GaveBy source (mark_by pass.passes.check digest) (λ file. AllZip (WriterTook d (judged_file (Some file))) olds news))
  pub beginning : OnErr result (AllZip (WriterBegan d (judged_file (supply_of source))) olds news)
  pub faulty : IfErr result (ReadsFaulty source.ghosts source.old source.new)
  pub stops : IfErr result (StopsUnjudged pass.number (judged_file (supply_of source)) (FailedFeed source) (AnyZip (WriterFailed d) olds news))
  pub keeps : KeepsFed source
  pub outs : AllZip (KeepsWriter d) olds news

-- the drain of one of the outputs failed
abbrev pub OutputFailed : {A D : Type 0} → drain.Ghosts D → AreaOutput A D → AreaOutput A D → Type 0
OutputFailed d old new = WriteFailed d old.drain new.drain

-- it is that of the same area, and its drain is kept
pub record KeepsOutput {A D : Type 0} (d : drain.Ghosts D) (old new : AreaOutput A D) : Type 0 where
  pub area : new.area ≡ old.area
  pub drain : KeepsDrain d old.drain new.drain

-- what one choice's drain took of a file with this verdict, and what it is if the pass stopped
abbrev pub OutputTook : {A D : Type 0} → drain.Ghosts D → Option Verdict → AreaChoice → AreaOutput A D → AreaOutput A D → Type 0
OutputTook d known choice old new = Took d old.drain new.drain (Packed (taken_by choice.chosen) (header_of choice.header) new.counts known)

abbrev pub OutputBegan : {A D : Type 0} → drain.Ghosts D → Option Verdict → AreaChoice → AreaOutput A D → AreaOutput A D → Type 0
OutputBegan d known choice old new = PacksFront (taken_by choice.chosen) (header_of choice.header) known (d.taken old.drain) (d.taken new.drain)

-- the same once the bytes are compared: it has to be the first pass's file
pub record WritesEach {A D : Type 0} (source : FeedUse) (d : drain.Ghosts D) (again : LaterPass) (choices : List AreaChoice) (olds news : List (AreaOutput A D)) {X : Type 0} (result : Result X Stop) : Type 0 where
  pub packed : OnOk result (GaveBy source (digest_of again) (λ file. AllThree (OutputTook d (judged_file (Some file))) choices olds news))
  pub beginning : OnErr result (AllThree (OutputBegan d (judged_file (supply_of source))) choices olds news)
  pub stops : IfErr result (StopsLater source.ghosts again source.old source.new (AnyZip (OutputFailed d) olds news))
  pub keeps : KeepsFed source
  pub outs : AllZip (KeepsOutput d) olds news

-- ---- what several writers take of a block

abbrev pub IsReadyWriter : {A D S H : Type 0} → AreaWriter A D S H → Type 0
IsReadyWriter writer = IsReadyToPack writer.packer

-- its choice is named by strips with this number, and it picks what that keeps
pub record IsNamedWriter {A D S H : Type 0} (strips : ChoiceStrips) (number : ℕ) (writer : AreaWriter A D S H) : Type 0 where
  pub named : NamesChoice strips number writer.choice.now.chosen
  pub picks : picks_of writer.entities.picker ≡ taken_by writer.choice.now.chosen

-- all of them are, by their places, if there are strips
abbrev pub AreNamed : {A D S H : Type 0} → Option ChoiceStrips → List (AreaWriter A D S H) → Type 0
AreNamed None writers = ⊤
AreNamed (Some strips) writers = AllFrom (IsNamedWriter strips) 0 writers

-- they can write
pub record CanPackEach {A D S H : Type 0} (strips : Option ChoiceStrips) (writers : List (AreaWriter A D S H)) : Type 0 where
  pub each : AllByRecursion IsReadyWriter writers
  pub named : AreNamed strips writers

-- it is that of the same area and choice
abbrev pub IsSameWriter : {A D S H : Type 0} → AreaWriter A D S H → AreaWriter A D S H → Type 0
IsSameWriter old new = (new.area ≡ old.area) × (new.choice.now ≡ old.choice.now)

-- it packed what it picks of these entities, and counted that; or it stopped
abbrev pub WriterPacks : {A D S H : Type 0} → drain.Ghosts D → List EntitySpec → AreaWriter A D S H → AreaWriter A D S H → Type 0
WriterPacks d es old new = PacksEach {X = Unit {0}} d (picks_of old.entities.picker) es old.entities new.entities old.packer new.packer (Ok tt) × IsSameWriter old new

abbrev pub WriterStops : {A D S H : Type 0} → drain.Ghosts D → List EntitySpec → Stop → AreaWriter A D S H → AreaWriter A D S H → Type 0
WriterStops d es stop old new = PacksEach {X = Unit {0}} d (picks_of old.entities.picker) es old.entities new.entities old.packer new.packer (Err stop) × IsSameWriter old new

-- the same of a payload that isn't judged
abbrev pub WriterTakesPayload : {A D S H : Type 0} → drain.Ghosts D → Payload → AreaWriter A D S H → AreaWriter A D S H → Type 0
WriterTakesPayload d p old new = PacksUnjudged {X = Unit {0}} d p old.entities new.entities old.packer new.packer (Ok tt) × IsSameWriter old new

abbrev pub WriterFailsAtPayload : {A D S H : Type 0} → drain.Ghosts D → Payload → Stop → AreaWriter A D S H → AreaWriter A D S H → Type 0
WriterFailsAtPayload d p stop old new = PacksUnjudged {X = Unit {0}} d p old.entities new.entities old.packer new.packer (Err stop) × IsSameWriter old new

-- one of them stopped, each with an element of this list: those before it did this, and those after it are as they were
abbrev pub OneStoppedWith : {L V : Type 0} → (did stopped : L → V → V → Type 0) → List L → List V → List V → Type 0
OneStoppedWith did stopped (l ∷ ls) (old ∷ olds) (new ∷ news) = (stopped l old new × (news ≡ olds)) ⊎ (did l old new × OneStoppedWith did stopped ls olds news)
OneStoppedWith did stopped _ _ _ = ⊥

-- all of them took a frame, or one of them stopped at it
abbrev pub WritersTake : {A D S H : Type 0} → drain.Ghosts D → Takes (EachWriter A D S H)
WritersTake d old f new = EachTook (WriterTakes d) old.writers.items f new.writers.items × (new.strips ≡ old.strips)

abbrev pub WritersFail : {A D S H : Type 0} → drain.Ghosts D → Fails (EachWriter A D S H)
WritersFail d old f new stop = OneFailed (WriterTakes d) (WriterFails d) old.writers.items f new.writers.items stop
