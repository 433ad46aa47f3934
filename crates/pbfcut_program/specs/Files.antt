-- The file system, as what happened changes it: this is to be believed. And how OUT is made, gets its name, or goes.
use Rattle.std.specs.Prelude.{◌≡◌, ◌⊎◌, ℕ, List, [], ◌∷◌, ◌++◌, Bool, true, false, Option, Some, None, Result, Ok, Err, if◌then◌else◌}
use Rattle.std.specs.Str.{bytes_eq, encode_utf8_all, is_utf8}
use Rattle.pbf_frame.specs.Devices.{append}
use Rattle.pbfcut_cli.specs.declared.programs.Program.{Program}
use Rattle.pbfcut_cli.specs.declared.programs.Program.TheVariants.{Pbfcut, Pbfcutz}
use Rattle.pbfcut_program.specs.declared.host.FinishFault.{FinishFault}
use Rattle.pbfcut_program.specs.Events.{Event, text_read, opened, screened, made, not_made, not_named, not_synced, wrote, linked, moved, renamed, removed, stays}
use Rattle.pbfcut_program.specs.Fails.{Each, FailsToFinish, Has}

-- what the file of each name has, if there is one
abbrev pub Disk : Type 0
Disk = List ℕ → Option (List ℕ)

abbrev pub put : (name : List ℕ) → Option (List ℕ) → Disk → Disk
put name bytes disk = λ n. if bytes_eq n name then bytes else disk n

-- the file of this name, if one is meant, has these bytes after those that it had
abbrev pub appended : Option (List ℕ) → (bytes : List ℕ) → Disk → Disk
appended None bytes disk = disk
appended (Some name) bytes disk = put name (append (disk name) bytes) disk

abbrev pub changed : Event → Disk → Disk
changed (made name) disk = put name (Some []) disk
changed (wrote w) disk = appended w.name w.bytes disk
changed (linked from to) disk = put to (disk from) disk
changed (moved from to) disk = put from None (put to (disk from) disk)
changed (renamed from to) disk = put from None (put to (disk from) disk)
changed (removed name) disk = put name None disk
changed _ disk = disk

abbrev pub after : List Event → Disk → Disk
after [] disk = disk
after (e ∷ es) disk = after es (changed e disk)

-- the text of a file that has these bytes: they are UTF-8, or if they aren't, Latin-1
unfoldable pub text_of_bytes : List ℕ → List ℕ
text_of_bytes bytes = if is_utf8 bytes then bytes else encode_utf8_all bytes

-- the file of this path has this text
abbrev pub HasText : Disk → (path text : List ℕ) → Type 0
HasText disk path text = (bytes : List ℕ) × (disk path ≡ Some bytes) × (text ≡ text_of_bytes bytes)

-- what is said of the file system is so
abbrev pub Allows : Disk → Event → Type 0
Allows disk (made name) = disk name ≡ None
Allows disk (linked from to) = disk to ≡ None
Allows disk (moved from to) = disk to ≡ None
Allows disk (opened path pass has) = has ≡ disk path
Allows disk (text_read path text) = HasText disk path text
Allows disk _ = Unit {0}

abbrev pub AllowsAll : Disk → List Event → Type 0
AllowsAll disk [] = Unit {0}
AllowsAll disk (e ∷ es) = Allows disk e × AllowsAll (changed e disk) es

-- it changes nothing, and isn't about a name that couldn't be taken
abbrev pub Still : Event → Type 0
Still (made name) = ⊥
Still (wrote w) = w.name ≡ None
Still (linked from to) = ⊥
Still (moved from to) = ⊥
Still (renamed from to) = ⊥
Still (removed name) = ⊥
Still (stays name) = ⊥
Still _ = Unit {0}

-- ---- how OUT is made, and gets its name

-- of pbfcut OUT has its own name from the beginning, of pbfcutz another one until it is whole
abbrev pub IsName : Program → (output name : List ℕ) → Type 0
IsName Pbfcut output name = name ≡ output
IsName Pbfcutz output name = name ≡ output → ⊥

-- it couldn't be made by a name
abbrev pub Misses : Event → Type 0
Misses (not_made name fault) = Unit {0}
Misses _ = ⊥

-- OUT is made: by the last of some names that were tried; or it is standard output
abbrev pub IsMade : Program → (is_screen : Bool) → (output : List ℕ) → Option (List ℕ) → List Event → Type 0
IsMade program true output name events = (name ≡ None) × (events ≡ screened true ∷ [])
IsMade program false output None events = ⊥
IsMade program false output (Some name) events = (tries : List Event) × Each Misses tries × IsName program output name × (events ≡ tries ++ made name ∷ [])

-- a name couldn't be given, or written to the disk
abbrev pub Misnames : Event → Type 0
Misnames (not_named from to fault) = Unit {0}
Misnames (not_synced name) = Unit {0}
Misnames _ = ⊥

-- the file has this name no more, if that could be done
abbrev pub IsEnd : (name : List ℕ) → Event → Type 0
IsEnd name e = (e ≡ removed name) ⊎ (e ≡ stays name)

-- a file gets OUT's name, which it takes from another only with `overwrite`
abbrev pub Names : (overwrite : Bool) → (output name : List ℕ) → List Event → Type 0
Names overwrite output name events = ((end : Event) × IsEnd name end × (events ≡ linked name output ∷ end ∷ []))
    ⊎ ((events ≡ moved name output ∷ []) ⊎ ((overwrite ≡ true) × (events ≡ renamed name output ∷ [])))

-- a whole file is kept: of pbfcut it has its name, of pbfcutz it gets it
abbrev pub Keeps : Program → (overwrite : Bool) → (output name : List ℕ) → List Event → Type 0
Keeps Pbfcut overwrite output name events = events ≡ []
Keeps Pbfcutz overwrite output name events = (tries : List Event) × (names : List Event) × (last : List Event)
    × (events ≡ tries ++ (names ++ last)) × Each Misnames tries × Names overwrite output name names × Each Misnames last

-- one that isn't whole is dropped: of pbfcut it stays as it is, of pbfcutz it goes
abbrev pub Drops : Program → (name : List ℕ) → List Event → Type 0
Drops Pbfcut name events = events ≡ []
Drops Pbfcutz name events = (tries : List Event) × (end : Event) × (events ≡ tries ++ end ∷ []) × Each Misnames tries × IsEnd name end

-- the same of OUT, which is a file of this name, or standard output
abbrev pub IsKept : Program → (overwrite : Bool) → (output : List ℕ) → Option (List ℕ) → List Event → Type 0
IsKept program overwrite output None events = events ≡ []
IsKept program overwrite output (Some name) events = Keeps program overwrite output name events

abbrev pub IsDropped : Program → Option (List ℕ) → List Event → Type 0
IsDropped program None events = events ≡ []
IsDropped program (Some name) events = Drops program name events

-- an OUT that is whole, of which all went out, or not, is kept; or dropped for a cause; if only its name can't be written to the disk, it has it
abbrev pub EndsOut : {A : Type 0} → Program → (overwrite : Bool) → (output : List ℕ) → Option (List ℕ) → (fault : Option FinishFault) → Result A FinishFault → List Event → Type 0
EndsOut program overwrite output name (Some why) (Ok _) events = ⊥
EndsOut program overwrite output name (Some why) (Err told) events = (told ≡ why) × IsDropped program name events
EndsOut program overwrite output name None (Ok _) events = IsKept program overwrite output name events
EndsOut program overwrite output name None (Err told) events = Has (FailsToFinish told) events
    × (IsDropped program name events ⊎ IsKept program overwrite output name events)
