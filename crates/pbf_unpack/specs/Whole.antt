-- What was read of a feed at the start of a frame.
use Rattle.std.specs.Prelude.{◌≡◌, ℕ, ◌+◌, ◌<◌, ◌≤◌, List, ◌++◌, length, Option, Ok}
use Rattle.byteorder.specs.Endian.{big_number}
use Rattle.pbf_frame.specs.declared.header.Head.{Head}
use Rattle.pbf_frame.specs.declared.header.TheConstants.{HEADER_LIMIT, LARGEST_SIZE}
use Rattle.pbf_frame.specs.Devices.{prepend, Passes, IsAtEnd}
use Rattle.pbf_frame.specs.Steps.{head_of}
use Rattle.pbf_unpack.specs.declared.whole.WholeFrame.{WholeFrame}
use Rattle.pbf_unpack.specs.declared.whole.Found.{Found}
use Rattle.pbf_unpack.specs.declared.whole.Found.TheVariants as found
use Rattle.pbf_unpack.specs.declared.whole.Front.{Front}
use Rattle.pbf_unpack.specs.declared.whole.Front.TheVariants as front
use Rattle.pbf_unpack.specs.Stored.{none_stored, stored_from, stored_in_frame, together}
use Rattle.pbf_unpack.specs.Unpacked.{then_unpacked, as_they_stand, unpacked_frame, unpacked_from}
use Rattle.pbf_frame.specs.declared.frame.TheConstants.{FILE_LIMIT}

-- these bytes were read
pub record TookBytes (read : List ℕ) (before now : ℕ → List ℕ → Type 0) (old new : Option (List ℕ)) : Type 0 where
  pub told : old ≡ prepend read new
  pub logged : Passes before read now

-- they begin no whole frame, whatever follows
abbrev pub IsUnfit : ℕ → List ℕ → Type 0
IsUnfit place read = (0 < length read) × ((rest : List ℕ) → unpacked_from place (read ++ rest) ≡ as_they_stand (read ++ rest))

-- they are all that there was, and no whole frame
abbrev pub IsCutShort : ℕ → List ℕ → Option (List ℕ) → Type 0
IsCutShort place read left = (unpacked_from place read ≡ as_they_stand read) × IsAtEnd left

-- the four bytes and the header of a frame, which says this
pub record HasHead (place : ℕ) (read header : List ℕ) (head : Head) : Type 0 where
  pub prefix : List ℕ
  pub split : read ≡ prefix ++ header
  pub four : length prefix ≡ 4
  pub small : big_number 4 prefix < HEADER_LIMIT
  pub counted : length header ≡ big_number 4 prefix
  pub says : head_of (place + 4) header ≡ Ok head
  pub within : head.size ≤ LARGEST_SIZE

abbrev pub BeginsWith : ℕ → (read header : List ℕ) → Option (List ℕ) → Front → Type 0
BeginsWith place read header left (front.Says head) = HasHead place read header head
BeginsWith place read header left front.Unfit = IsUnfit place read
BeginsWith place read header left front.Cut = IsCutShort place read left

-- these are a whole frame, whatever follows
abbrev pub MeansWhole : ℕ → (read blob : List ℕ) → WholeFrame → Type 0
MeansWhole place read blob w = (0 < length read) × ((rest : List ℕ) → unpacked_from place (read ++ rest) ≡ then_unpacked (unpacked_frame w.kind w.blob_at read blob) (unpacked_from w.end rest))

-- a whole frame; or bytes that begin none; or all that there was
abbrev pub Means : ℕ → (read blob : List ℕ) → Option (List ℕ) → Found → Type 0
Means place read blob left (found.Whole w) = MeansWhole place read blob w
Means place read blob left found.Unfit = IsUnfit place read
Means place read blob left found.Cut = IsCutShort place read left

-- the blobs of bytes that begin no whole frame, whatever follows or as all that there is, don't count
abbrev pub StoresFront : ℕ → (read : List ℕ) → Front → Type 0
StoresFront place read (front.Says head) = Unit {0}
StoresFront place read front.Unfit = (rest : List ℕ) → stored_from place (read ++ rest) ≡ none_stored
StoresFront place read front.Cut = stored_from place read ≡ none_stored

-- and that of a whole frame counts, whatever follows
abbrev pub Stores : ℕ → (read blob : List ℕ) → Found → Type 0
Stores place read blob (found.Whole w) = (rest : List ℕ) → stored_from place (read ++ rest) ≡ together (stored_in_frame w.kind w.blob_at blob) (stored_from w.end rest)
Stores place read blob found.Unfit = (rest : List ℕ) → stored_from place (read ++ rest) ≡ none_stored
Stores place read blob found.Cut = stored_from place read ≡ none_stored

-- the blob and the frame end within the limit of a file
abbrev pub EndsWithinFile : List ℕ → Found → Type 0
EndsWithinFile blob (found.Whole w) = (w.end ≤ FILE_LIMIT) × (w.blob_at + length blob ≤ FILE_LIMIT)
EndsWithinFile blob found.Unfit = Unit {0}
EndsWithinFile blob found.Cut = Unit {0}

-- the same of a frame that begins here
pub record IsPlacedAt (place : ℕ) (read blob : List ℕ) (w : WholeFrame) : Type 0 where
  pub end_is : w.end ≡ place + length read
  pub within : w.end ≤ FILE_LIMIT
  pub blob_within : w.blob_at + length blob ≤ FILE_LIMIT
