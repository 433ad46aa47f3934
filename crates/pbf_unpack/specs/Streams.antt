-- The stream in the room of a packed blob.
use Rattle.std.specs.Prelude.{◌≡◌, ℕ, ◌-◌, ◌≤◌, List, take, drop, Ok}
use Rattle.pbf_wire.specs.declared.limits.TheConstants.{RAW_LIMIT}
use Rattle.zlib.specs.Stream.{inflated}
use Rattle.pbf_unpack.specs.declared.packer.TheConstants.{FIELDS_ROOM}

-- it comes after the room for the other fields
abbrev pub stream_in : (end : ℕ) (room : List ℕ) → List ℕ
stream_in end room = drop FIELDS_ROOM (take end room)

-- it means this payload
pub record HasStream (end : ℕ) (room payload : List ℕ) : Type 0 where
  pub begins : FIELDS_ROOM ≤ end
  pub means : inflated (RAW_LIMIT - 1) (stream_in end room) ≡ Ok payload
