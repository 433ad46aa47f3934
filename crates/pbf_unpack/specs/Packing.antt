-- What a packing drain has taken, and what the drain below took for it.
use Rattle.std.specs.Prelude.{◌≡◌, ℕ, ◌+◌, ◌<◌, List, [], ◌++◌, length, take, Option, Some}
use Rattle.std.specs.Option.{option_map}
use Rattle.pbf_frame.specs.declared.device.Drain as drain
use Rattle.pbf_frame.specs.Devices.{HasRisen, IsFront}
use Rattle.pbf_unpack.specs.declared.frame.RawFrame.{RawFrame}
use Rattle.pbf_unpack.specs.declared.below.Below.{Below}
use Rattle.pbf_unpack.specs.declared.below.DrainState.{DrainState}
use Rattle.pbf_unpack.specs.declared.below.DrainState.TheVariants.{Taking, Failed, Unfit, Refused}
use Rattle.pbf_unpack.specs.declared.drain.PackedDrain.{PackedDrain}
use Rattle.pbf_unpack.specs.RawFrames.{IsNearLimit, IsRawFile}
use Rattle.pbf_unpack.specs.Unpacked.{as_they_stand, unpacked_from, unpacked}
use Rattle.pbf_unpack.specs.DrainStates.{IsPackedAs, spent_failures}

-- the bytes of a raw frame that were taken so far
abbrev pub frame_held : RawFrame → List ℕ
frame_held frame = frame.front.items ++ frame.blob.items

-- ---- by a drain below that reports its bytes

-- the raw bytes that a packing drain took: those that are packed, and those of the frame that it holds
abbrev pub taken_raw : {D : Type 0} {d : drain.Ghosts D} → PackedDrain D d → Option (List ℕ)
taken_raw {d = d} p = option_map (λ packed. unpacked (take p.below.place packed) ++ frame_held p.frame) (d.taken p.below.drain)

-- the drain below failed within a frame
pub record IsStuck {D : Type 0} {d : drain.Ghosts D} (frame : List ℕ) (old new : Below D d) : Type 0 where
  pub place_same : new.place ≡ old.place
  pub course_is : new.state ≡ Failed
  pub front : IsFront (d.taken old.drain) (d.taken new.drain) frame
  pub risen : HasRisen (d.failures old.drain) (d.failures new.drain)

-- ---- by the logs of a drain below

-- raw bytes were taken: the drain below took packed ones, by this log, and they mean all but those of the frame that is held
pub record HasCompressed {D : Type 0} {d : drain.Ghosts D} (p : PackedDrain D d) (log : ℕ) (raw : List ℕ) : Type 0 where
  pub packed : List ℕ
  pub took : d.has_taken p.below.drain log packed
  pub counted : length packed ≡ p.below.place
  pub done : List ℕ
  pub means : IsPackedAs done packed
  pub split : raw ≡ done ++ frame_held p.frame

-- the drain below has packed bytes that mean these raw ones
pub record PacksTo (has : List ℕ → Type 0) (raw : List ℕ) : Type 0 where
  pub packed : List ℕ
  pub has_them : has packed
  pub means : unpacked_from 0 packed ≡ as_they_stand raw

-- raw bytes that were taken, as far as they are known and by each log, went to the drain below as a file that means them
pub record GaveAll {D : Type 0} {d : drain.Ghosts D} (old new : PackedDrain D d) : Type 0 where
  pub told : (raw : List ℕ) → taken_raw old ≡ Some raw → PacksTo (λ packed. d.taken new.below.drain ≡ Some packed) raw
  pub logged : (log : ℕ) (raw : List ℕ) → HasCompressed old log raw → PacksTo (d.has_taken new.below.drain log) raw

-- by each log a drain has still taken the same raw bytes
abbrev pub TookSame : {D : Type 0} {d : drain.Ghosts D} → (old new : PackedDrain D d) → Type 0
TookSame old new = (log : ℕ) (raw : List ℕ) → HasCompressed old log raw → HasCompressed new log raw

-- it holds nothing, and goes on
pub record IsEmptied {D : Type 0} {d : drain.Ghosts D} (p : PackedDrain D d) : Type 0 where
  pub held : frame_held p.frame ≡ []
  pub wants : 0 < p.frame.wanted
  pub state : p.below.state ≡ Taking

-- ---- failures

-- why a write fails, by the failures of the drain below: it failed, or the drain takes nothing more
abbrev pub failures_of_drain : {D : Type 0} {d : drain.Ghosts D} → PackedDrain D d → ℕ
failures_of_drain {d = d} p = spent_failures p.below.state + d.failures p.below.drain

-- why it takes nothing more: the drain below failed; or no raw file begins with what it took, unless the packed one is near its limit. Of memory nothing is said
abbrev pub HasCause : {D : Type 0} {d : drain.Ghosts D} → PackedDrain D d → DrainState → Type 0
HasCause p Taking = Unit {0}
HasCause {d = d} p Failed = 0 < d.failures p.below.drain
HasCause {d = d} p Unfit = (packed raw rest : List ℕ) → d.taken p.below.drain ≡ Some packed → taken_raw p ≡ Some raw → IsRawFile (raw ++ rest) → IsNearLimit packed
HasCause p Refused = Unit {0}

-- what it took is no raw file, as far as the drain below reports that
abbrev pub TookNoRawFile : {D : Type 0} {d : drain.Ghosts D} → PackedDrain D d → Type 0
TookNoRawFile p = (raw : List ℕ) → taken_raw p ≡ Some raw → IsRawFile raw → ⊥
