-- What `next` of a reader does.
use Rattle.std.specs.Prelude.{◌≡◌, ℕ, ◌+◌, ◌<◌, ◌≤◌, List, [], Bool, ◌||◌, true, Option, Some, None, Result, Ok, Err, length}
use Rattle.std.specs.Borrow.{GName}
use Rattle.pbf_frame.specs.declared.frame.Frame.{Frame}
use Rattle.pbf_frame.specs.declared.frame_parts.BufferedFrame.{BufferedFrame}
use Rattle.pbf_frame.specs.declared.reader.FrameReader.{FrameReader}
use Rattle.pbf_frame.specs.declared.reader.State.TheVariants.{Reading, Ended, Stopped}
use Rattle.pbf_frame.specs.declared.stop.Stop.{Stop}
use Rattle.pbf_frame.specs.declared.stop.Stop.TheVariants.{Refused, Read, Write, Memory, Changed}
use Rattle.pbf_frame.specs.Devices.{IsAtEnd, Passes, prepend}
use Rattle.pbf_frame.specs.Frames.{FrameSpec, is_header, frame_kind, frame_name, frame_bytes, frame_end, frame_payload, frame_payload_at, next_of}
use Rattle.pbf_frame.specs.Verdict.{Verdict, judged_known, with_first_known, Says}
use Rattle.pbf_frame.specs.Refusals.{RefusedBy}
use Rattle.pbf_frame.specs.Reads.{IsReaderStop, IsSeen}
use Rattle.pbf_frame.specs.Sound.{IsFrame}

-- ---- a reader

-- the end of the last frame given
abbrev pub place_of : {F : Type 0} → FrameReader F → ℕ
place_of reader = reader.place

-- whether a header was given
abbrev pub had_header_of : {F : Type 0} → FrameReader F → Bool
had_header_of reader = reader.had_header

-- it is neither at its end nor spent
abbrev pub IsReading : {F : Type 0} → FrameReader F → Type 0
IsReading reader = reader.state ≡ Reading

-- it has reached the end of its input
abbrev pub HasEnded : {F : Type 0} → FrameReader F → Type 0
HasEnded reader = reader.state ≡ Ended

-- it is spent, by this stop
abbrev pub ReaderHasStopped : {F : Type 0} → FrameReader F → Stop → Type 0
ReaderHasStopped reader stop = reader.state ≡ Stopped stop

-- the bytes held
abbrev pub held_by : {F : Type 0} → FrameReader F → ℕ
held_by reader = length reader.header.items + length reader.blob.items

-- the verdict on what the reader has still to give
abbrev pub verdict : {F : Type 0} → (F → Option (List ℕ)) → FrameReader F → Option Verdict
verdict remaining reader = judged_known reader.had_header reader.place (remaining reader.feed)

-- ---- what is lent

-- the lent frame shows this frame of the file
pub record Shows (frame : Frame) (f : FrameSpec) : Type 0 where
  pub offset : frame.offset ≡ f.offset
  pub kind : frame.kind ≡ frame_kind f
  pub name : frame.name.now ≡ frame_name f
  pub size : frame.size ≡ length f.blob
  pub payload_at : frame.payload_at ≡ frame_payload_at f
  pub payload : frame.payload.now ≡ frame_payload f

abbrev pub ShowsAnswer : Result (Option Frame) Stop → Result (Option FrameSpec) Stop → Type 0
ShowsAnswer (Ok (Some frame)) (Ok (Some f)) = Shows frame f
ShowsAnswer (Ok (Some frame)) (Ok None) = ⊥
ShowsAnswer (Ok (Some frame)) (Err stop) = ⊥
ShowsAnswer (Ok None) answer = answer ≡ Ok None
ShowsAnswer (Err stop) answer = answer ≡ Err stop

-- the same of what lies in the reader's buffers
abbrev pub SeesAnswer : List ℕ → List ℕ → Result (Option BufferedFrame) Stop → Result (Option FrameSpec) Stop → Type 0
SeesAnswer header blob (Ok (Some seen)) (Ok (Some f)) = IsSeen header blob seen f
SeesAnswer header blob (Ok (Some seen)) (Ok None) = ⊥
SeesAnswer header blob (Ok (Some seen)) (Err stop) = ⊥
SeesAnswer header blob (Ok None) answer = answer ≡ Ok None
SeesAnswer header blob (Err stop) answer = answer ≡ Err stop

-- ---- what was given

-- the first frame of the old verdict was given, and the new verdict is on the rest; or there was none; or its fault was found
abbrev pub VerdictGoesOn : Option Verdict → Result (Option FrameSpec) Stop → Option Verdict → Type 0
VerdictGoesOn old (Ok (Some f)) new = old ≡ with_first_known f new
VerdictGoesOn old (Ok None) new = Says old ([], None)
VerdictGoesOn old (Err (Refused e)) new = Says old ([], Some e)
VerdictGoesOn old (Err Read) new = Unit {0}
VerdictGoesOn old (Err Write) new = Unit {0}
VerdictGoesOn old (Err Memory) new = Unit {0}
VerdictGoesOn old (Err (Changed pass)) new = Unit {0}

-- the bytes of a frame given are those that are gone
abbrev pub BytesGoOn : Option (List ℕ) → Result (Option FrameSpec) Stop → Option (List ℕ) → Type 0
BytesGoOn old (Ok (Some f)) new = old ≡ prepend (frame_bytes f) new
BytesGoOn old (Ok None) new = old ≡ new
BytesGoOn old (Err stop) new = Unit {0}

-- so it is with the bytes that passed
abbrev pub LogGoesOn : (ℕ → List ℕ → Type 0) → Result (Option FrameSpec) Stop → (ℕ → List ℕ → Type 0) → Type 0
LogGoesOn before (Ok (Some f)) now = Passes before (frame_bytes f) now
LogGoesOn before (Ok None) now = (log : ℕ) (b : List ℕ) → before log b → now log b
LogGoesOn before (Err stop) now = Unit {0}

-- a frame given has no fault
abbrev pub IsFrameGiven : Bool → ℕ → Result (Option FrameSpec) Stop → Type 0
IsFrameGiven had_header place (Ok (Some f)) = IsFrame had_header place f
IsFrameGiven had_header place (Ok None) = Unit {0}
IsFrameGiven had_header place (Err stop) = Unit {0}

-- where the reader is after it
abbrev pub Answers : {F : Type 0} → FrameReader F → Result (Option FrameSpec) Stop → FrameReader F → Type 0
Answers old (Ok (Some f)) new = IsReading new × (f.offset ≡ old.place) × (new.place ≡ frame_end f) × (old.place < new.place) × (new.had_header ≡ (old.had_header || is_header (frame_kind f)))
Answers old (Ok None) new = HasEnded new × (new.place ≡ old.place) × (old.had_header ≡ true)
Answers old (Err stop) new = ReaderHasStopped new stop × (new.place ≡ old.place)

abbrev pub IfErrOf : {X : Type 0} → Result X Stop → (Stop → Type 0) → Type 0
IfErrOf (Ok x) P = Unit {0}
IfErrOf (Err stop) P = P stop

-- P at the end
abbrev pub IfEnded : Result (Option FrameSpec) Stop → Type 0 → Type 0
IfEnded (Ok None) P = P
IfEnded (Ok (Some f)) P = Unit {0}
IfEnded (Err stop) P = Unit {0}

-- `next` of a reader that was reading
pub record Advances {F : Type 0} (remaining : F → Option (List ℕ)) (failures : F → ℕ) (lender : F → List GName) (has_passed : F → ℕ → List ℕ → Type 0) (old : FrameReader F) (answer : Result (Option FrameSpec) Stop) (new : FrameReader F) : Type 0 where
  pub gave : VerdictGoesOn (verdict remaining old) answer (verdict remaining new)
  pub went : BytesGoOn (remaining old.feed) answer (remaining new.feed)
  pub answers : Answers old answer new
  pub ended : IfEnded answer (IsAtEnd (remaining new.feed))
  pub same_lender : lender new.feed ≡ lender old.feed
  pub passed : LogGoesOn (has_passed old.feed) answer (has_passed new.feed)
  pub is_frame : IsFrameGiven old.had_header old.place answer
  pub counts : failures old.feed ≤ failures new.feed
  pub stops : IfErrOf answer (IsReaderStop (failures old.feed) (failures new.feed))
  pub refused : IfErrOf answer (RefusedBy (next_of old.had_header old.place) (has_passed old.feed) (has_passed new.feed) (remaining old.feed) (remaining new.feed))

-- a reader at its end stays there, and a spent one stays spent, and neither touches the feed
abbrev pub IsNext : {F : Type 0} → (F → Option (List ℕ)) → (F → ℕ) → (F → List GName) → (F → ℕ → List ℕ → Type 0) → FrameReader F → Result (Option FrameSpec) Stop → FrameReader F → Type 0
IsNext remaining failures lender has_passed old answer new = (IsReading old → Advances remaining failures lender has_passed old answer new)
    × (HasEnded old → (answer ≡ Ok None) × (new ≡ old))
    × ((stop : Stop) → ReaderHasStopped old stop → (answer ≡ Err stop) × (new ≡ old))

-- the same, of the frame that is lent
pub record IsLendingNext {F : Type 0} (remaining : F → Option (List ℕ)) (failures : F → ℕ) (lender : F → List GName) (has_passed : F → ℕ → List ℕ → Type 0) (old : FrameReader F) (result : Result (Option Frame) Stop) (new : FrameReader F) : Type 0 where
  pub answer : Result (Option FrameSpec) Stop
  pub shows : ShowsAnswer result answer
  pub next : IsNext remaining failures lender has_passed old answer new

-- the same, of the frame that lies in the buffers
pub record IsSeeingNext {F : Type 0} (remaining : F → Option (List ℕ)) (failures : F → ℕ) (lender : F → List GName) (has_passed : F → ℕ → List ℕ → Type 0) (old : FrameReader F) (result : Result (Option BufferedFrame) Stop) (new : FrameReader F) : Type 0 where
  pub answer : Result (Option FrameSpec) Stop
  pub sees : SeesAnswer new.header.items new.blob.items result answer
  pub next : IsNext remaining failures lender has_passed old answer new
