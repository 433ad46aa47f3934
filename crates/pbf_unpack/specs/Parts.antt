-- The parts of a raw frame as they are taken.
use Rattle.std.specs.Prelude.{◌≡◌, ℕ, ◌+◌, ◌<◌, ◌≤◌, List, length, take, drop, Ok}
use Rattle.byteorder.specs.Endian.{big_number}
use Rattle.pbf_frame.specs.declared.header.Head.{Head}
use Rattle.pbf_frame.specs.Steps.{head_of}
use Rattle.pbf_frame.specs.declared.header.TheConstants.{HEADER_LIMIT}

-- the four bytes are there, and the header is no longer than it may be
abbrev pub WantsHeader : (front wanted : ℕ) → Type 0
WantsHeader front wanted = (4 ≤ front) × (front + wanted ≤ HEADER_LIMIT + 3)

-- the length of the header, by the four bytes before it
unfoldable pub header_length : (front : List ℕ) → ℕ
header_length front = big_number 4 (take 4 front)

-- with `wanted` more bytes the header is as long as it says, if it may be that long
abbrev pub HasHeader : (front : List ℕ) (wanted : ℕ) → Type 0
HasHeader front wanted = header_length front < HEADER_LIMIT → length front + wanted ≡ 4 + header_length front

-- the header is there, and with `wanted` more bytes the blob is as long as it says
pub record HoldsBlob (front blob : List ℕ) (wanted : ℕ) : Type 0 where
  pub four : 4 ≤ length front
  pub header : HasHeader front 0
  pub sized : (head : Head) → head_of 0 (drop 4 front) ≡ Ok head → length blob + wanted ≡ head.size
