-- What a command that writes leaves in OUT if it fails.
use Rattle.std.specs.Prelude.{◌≡◌, ◌⊎◌, ℕ, List, ◌∷◌, ◌++◌, map, take, false, true, Option}
use Rattle.pbf_block.specs.declared.counts.Counts.{Counts}
use Rattle.pbf_pass.specs.declared.hashing.PassCheck.{PassCheck}
use Rattle.pbf_unpack.specs.declared.below.DrainState.{DrainState}
use Rattle.pbf_unpack.specs.DrainStates.{HasWhole}
use Rattle.pbf_unpack.specs.Unpacked.{unpacked}
use Rattle.pbfcut_program.specs.Events.{Event, Reading, Writing, read, wrote}
use Rattle.pbfcut_program.specs.Fails.{Each, Opens, Quiet}
use Rattle.pbfcut_program.specs.Manner.{Form, Manner, of_input, output_form, packed_file, raw_file}
use Rattle.pbfcut.specs.Calls.{AllSupply}
use Rattle.pbfcut_program.specs.Readings.{IsWork}
use Rattle.pbfcut.specs.Tasks.{Task, answer_of, listing_frames}

-- zlib blobs: whole frames that mean a prefix of the answer, and after them a prefix of one at most
pub record IsPackedFront (answer bytes : List ℕ) : Type 0 where
  pub state : DrainState
  pub place : ℕ
  pub whole : HasWhole state place bytes
  pub count : ℕ
  pub means : unpacked (take place bytes) ≡ take count answer

-- what OUT is to take: the answer, in raw blobs or in zlib blobs
abbrev pub Answer : Type 0
Answer = Form × List ℕ

-- these bytes are a prefix of that
abbrev pub IsFrontAs : Answer → (bytes : List ℕ) → Type 0
IsFrontAs (raw_file, answer) bytes = (count : ℕ) × (bytes ≡ take count answer)
IsFrontAs (packed_file, answer) bytes = IsPackedFront answer bytes

-- OUT took a prefix of the answer, if it reports what it took
abbrev pub TookFront : Answer → Event → Type 0
TookFront answer (wrote w) = w.reports ≡ true → IsFrontAs answer w.bytes
TookFront answer _ = Unit {0}

-- OUT isn't to be kept
abbrev pub IsUnkept : Event → Type 0
IsUnkept (wrote w) = w.kept ≡ false
IsUnkept _ = Unit {0}

-- the same, unless it has lines of frames, which go out as they are read
abbrev pub KeepsNone : Task → List Event → Type 0
KeepsNone listing_frames events = Unit {0}
KeepsNone task events = Each IsUnkept events

-- the work was done, and OUT took all of it; what comes after it failed: a rest that didn't go out, OUT's name, or a line. OUT was returned only once
pub record IsWorked (m : Manner) (task : Task) (has : List (Option (List ℕ))) (events : List Event) : Type 0 where
  pub before : List Event
  pub rs : List Reading
  pub out : Writing
  pub after : List Event
  pub happened : events ≡ before ++ (map read rs ++ wrote out ∷ after)
  pub quiet : Each Quiet before × Each Quiet after
  pub by : PassCheck
  pub counts : Counts
  pub digest : List ℕ
  pub raw : Option (List ℕ)
  pub work : IsWork m by task has rs out.bytes counts digest raw

-- OUT isn't kept, and took a prefix of the answer, if IN has the same bytes for each pass; or it took all of it
abbrev pub Leaves : Manner → Task → (has : List (Option (List ℕ))) → List Event → Type 0
Leaves m task has events =
    (KeepsNone task events × ((bytes : List ℕ) → AllSupply bytes has → Each (TookFront (output_form m.packs m.program, answer_of task (of_input m bytes))) events))
    ⊎ IsWorked m task has events

-- IN has this for the passes, and by that the command leaves such an OUT
pub record LeavesFor (input : List ℕ) (m : Manner) (task : Task) (events : List Event) : Type 0 where
  pub has : List (Option (List ℕ))
  pub opens : Opens input 1 has events
  pub leaves : Leaves m task has events
