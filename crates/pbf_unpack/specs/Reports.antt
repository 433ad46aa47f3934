-- What a feed of unpacked bytes says of itself.
use Rattle.std.specs.Prelude.{◌≡◌, ℕ, ◌+◌, ◌==◌, ◌&&◌, Bool, List, [], length, codes, Option, Some, None}
use Rattle.std.specs.Option.{is_none}
use Rattle.pbf_frame.specs.declared.stop.Stop.{Stop}
use Rattle.pbf_frame.specs.declared.stop.Stop.TheVariants as stop
use Rattle.zlib.specs.Names.{fault_name}
use Rattle.pbf_unpack.specs.declared.fault.UnpackReason.{UnpackReason}
use Rattle.pbf_unpack.specs.declared.fault.UnpackReason.TheVariants.{Inflate, RawSize}
use Rattle.pbf_unpack.specs.declared.feed.FeedState.{FeedState}
use Rattle.pbf_unpack.specs.declared.feed.FeedState.TheVariants.{Reading, PassingOn, Ended, Failed, Refused}
use Rattle.pbf_unpack.specs.declared.feed.UnpackedFeed.{UnpackedFeed}
use Rattle.pbf_unpack.specs.Stored.{stored_from}
use Rattle.pbf_unpack.specs.Supplying.{left_in, remaining_in}
use Rattle.pbf_unpack.specs.Unpacked.{unpacked_from}

-- why a feed failed
abbrev pub stop_in : FeedState → Option Stop
stop_in Failed = Some stop.Read
stop_in Refused = Some stop.Memory
stop_in Reading = None
stop_in PassingOn = None
stop_in Ended = None

-- what a fault of zlib data is called
abbrev pub unpack_reason_name : UnpackReason → List ℕ
unpack_reason_name (Inflate fault) = fault_name fault
unpack_reason_name RawSize = codes "RawSize"

-- no read failed, and nothing is left in the buffers
abbrev pub has_all : {F : Type 0} → UnpackedFeed F → Bool
has_all u = is_none (stop_in u.state) && length (left_in u) == 0

-- packed bytes passed by this log of the feed below; these are the raw file that they mean, the fault that is kept is their first, and their blobs are
-- stored so. If nothing is reported to be left, nothing is left below
pub record GavePacked {F : Type 0} (remaining : F → Option (List ℕ)) (has_passed : F → ℕ → List ℕ → Type 0) (u : UnpackedFeed F) (log : ℕ) (raw : List ℕ) : Type 0 where
  pub packed : List ℕ
  pub passed : has_passed u.feed log packed
  pub means : unpacked_from 0 packed ≡ (raw, u.fault)
  pub stored : u.stored ≡ stored_from 0 packed
  pub end : remaining_in remaining u ≡ Some [] → remaining u.feed ≡ Some []

-- the bytes held
abbrev pub held_by_feed : {F : Type 0} → UnpackedFeed F → ℕ
held_by_feed u = length u.buffers.front.items + length u.buffers.header.items + length u.buffers.packed.items + length u.buffers.raw.items
