-- How a raw file is cut into frames, wherever they are.
use Rattle.std.specs.Prelude.{◌≡◌, ℕ, ◌+◌, ◌<◌, List, ◌++◌, length, Bool, false, None}
use Rattle.pbf_frame.specs.declared.frame.FrameKind.{FrameKind}
use Rattle.pbf_frame.specs.declared.frame.TheConstants.{FILE_LIMIT}
use Rattle.pbf_frame.specs.declared.header.TheConstants.{HEADER_LIMIT, LARGEST_SIZE}
use Rattle.pbf_frame.specs.Frames.{FrameSpec, frame_bytes, frame_kind}
use Rattle.pbf_frame.specs.Sound.{IsFrame, AreFrames}
use Rattle.pbf_frame.specs.Verdict.{joined_frames, judged}

-- bytes begin with this frame, which has no fault
pub record IsFirst (f : FrameSpec) (bytes : List ℕ) : Type 0 where
  pub had : Bool
  pub sound : IsFrame had f.offset f
  pub later : List ℕ
  pub split : bytes ≡ frame_bytes f ++ later

-- these are the parts of a frame: the four bytes with the header, and the blob
pub record AreParts (f : FrameSpec) (front blob : List ℕ) : Type 0 where
  pub front_is : front ≡ f.prefix ++ f.header
  pub blob_is : blob ≡ f.blob

-- a frame that comes first in bytes that begin so has these parts, and is of this kind
abbrev pub IsFrameOf : FrameKind → (front blob : List ℕ) → Type 0
IsFrameOf kind front blob = (f : FrameSpec) (rest : List ℕ) → IsFirst f ((front ++ blob) ++ rest) → AreParts f front blob × (kind ≡ frame_kind f)

-- a frame that comes first in bytes that begin so is these
abbrev pub IsOneFrame : List ℕ → Type 0
IsOneFrame bytes = (f : FrameSpec) (rest : List ℕ) → IsFirst f (bytes ++ rest) → bytes ≡ frame_bytes f

-- a frame of these parts would end past the limit of a packed file in which it begins here
abbrev pub IsPastLimit : (place : ℕ) (front blob : List ℕ) → Type 0
IsPastLimit place front blob = (f : FrameSpec) (had : Bool) → IsFrame had f.offset f → AreParts f front blob → FILE_LIMIT < place + length (front ++ blob)

-- no raw file has these bytes of a frame there, whatever follows, unless a packed file in which it begins here is too long for it
pub record IsNoRaw (place : ℕ) (held : List ℕ) : Type 0 where
  pub some : 0 < length held
  pub none : (f : FrameSpec) (rest : List ℕ) → IsFirst f (held ++ rest) → FILE_LIMIT < place + length held

-- no raw file ends with these bytes of a frame
pub record IsCutRaw (held : List ℕ) : Type 0 where
  pub some : 0 < length held
  pub none : (f : FrameSpec) → IsFirst f held → ⊥

-- frames without faults, one after the other
pub record AreRawFrames (bytes : List ℕ) : Type 0 where
  pub had : Bool
  pub place : ℕ
  pub frames : List FrameSpec
  pub are : AreFrames had place frames
  pub joined : bytes ≡ joined_frames frames

-- a raw file: its frames have no fault
abbrev pub IsRawFile : List ℕ → Type 0
IsRawFile file = (judged false 0 file).1 ≡ None

-- a raw file that begins with these bytes goes on with frames
abbrev pub GoesOn : List ℕ → Type 0
GoesOn done = (rest : List ℕ) → IsRawFile (done ++ rest) → ∥ AreRawFrames rest ∥₁

-- one more frame of a raw file may end past the limit of a file
abbrev pub IsNearLimit : (packed : List ℕ) → Type 0
IsNearLimit packed = FILE_LIMIT < length packed + (HEADER_LIMIT + 3 + LARGEST_SIZE)
