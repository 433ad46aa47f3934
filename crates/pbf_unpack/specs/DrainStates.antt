-- How far a packed file is that a drain takes.
use Rattle.std.specs.Prelude.{◌≡◌, ℕ, ◌+◌, ◌-◌, ◌^◌, ◌≤◌, List, ◌++◌, length, take, drop, Option, Some, None}
use Rattle.pbf_frame.specs.declared.frame.TheConstants.{FILE_LIMIT}
use Rattle.pbf_frame.specs.declared.stop.Stop.{Stop}
use Rattle.pbf_frame.specs.declared.stop.Stop.TheVariants as stop
use Rattle.pbf_unpack.specs.declared.below.DrainState.{DrainState}
use Rattle.pbf_unpack.specs.declared.below.DrainState.TheVariants.{Taking, Failed, Unfit, Refused}
use Rattle.pbf_unpack.specs.RawFrames.{GoesOn}
use Rattle.pbf_unpack.specs.Unpacked.{then_unpacked, as_they_stand, unpacked_from, unpacked}

-- whatever follows them, these bytes at a place mean raw ones without a fault
abbrev pub IsPackedAt : (place : ℕ) → (raw packed : List ℕ) → Type 0
IsPackedAt place raw packed = (rest : List ℕ) → unpacked_from place (packed ++ rest) ≡ then_unpacked (as_they_stand raw) (unpacked_from (place + length packed) rest)

abbrev pub IsPackedAs : (raw packed : List ℕ) → Type 0
IsPackedAs raw packed = IsPackedAt 0 raw packed

-- these bytes at a place are a packed frame, as far as they go, or nothing
pub record BeginsPacked (place : ℕ) (bytes : List ℕ) : Type 0 where
  pub rest : List ℕ
  pub raw : List ℕ
  pub means : IsPackedAt place raw (bytes ++ rest)

-- what it took begins with `place` bytes of whole frames; after them a prefix of one frame at most, and nothing unless a write failed. Every raw file that
-- begins with what they mean goes on with frames
pub record HasWhole (state : DrainState) (place : ℕ) (taken : List ℕ) : Type 0 where
  pub whole : IsPackedAs (unpacked (take place taken)) (take place taken)
  pub within : place ≤ length taken
  pub begun : ∥ BeginsPacked place (drop place taken) ∥₁
  pub goes_on : GoesOn (unpacked (take place taken))
  pub exact : state ≡ Taking → length taken ≡ place

-- these bytes at a place mean a raw frame, and end within the limit of a file
pub record Stands (place : ℕ) (raw packed : List ℕ) : Type 0 where
  pub means : IsPackedAt place raw packed
  pub fits : place + length packed ≤ FILE_LIMIT

-- ---- failures

-- how many failures count once the drain takes nothing more: as many as can be counted, since each later write fails too
abbrev pub spent_failures : DrainState → ℕ
spent_failures Taking = 0
spent_failures Failed = 2 ^ 64 - 1
spent_failures Unfit = 2 ^ 64 - 1
spent_failures Refused = 2 ^ 64 - 1

-- why it takes nothing more
abbrev pub stop_of_course : DrainState → Option Stop
stop_of_course Taking = None
stop_of_course Failed = Some stop.Write
stop_of_course Unfit = Some stop.Write
stop_of_course Refused = Some stop.Memory
