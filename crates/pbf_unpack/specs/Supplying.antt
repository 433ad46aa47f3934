-- What a feed of unpacked bytes has supplied, and what it has still to supply.
use Rattle.std.specs.Prelude.{◌≡◌, ℕ, ◌<◌, ◌-◌, ◌^◌, List, [], ◌++◌, length, drop, Option, None, Result, IfErr, OnOk}
use Rattle.std.specs.Option.{option_map}
use Rattle.pbf_frame.specs.declared.device.Feed as feed
use Rattle.pbf_frame.specs.declared.stop.Stop.{Stop}
use Rattle.pbf_frame.specs.Keeps.{KeepsFeed}
use Rattle.pbf_frame.specs.declared.stop.Stop.TheVariants as stop
use Rattle.pbf_frame.specs.Devices.{HasRisen, IsAtEnd}
use Rattle.pbf_unpack.specs.declared.feed.FeedState.{FeedState}
use Rattle.pbf_unpack.specs.declared.feed.FeedState.TheVariants.{Reading, PassingOn, Ended, Failed, Refused}
use Rattle.pbf_unpack.specs.declared.feed.UnpackedFeed.{UnpackedFeed}
use Rattle.pbf_unpack.specs.declared.stored.Stored.{Stored}
use Rattle.pbf_unpack.specs.Stored.{none_stored, stored_from, together}
use Rattle.pbf_unpack.specs.Unpacked.{Unpacked, then_unpacked, as_they_stand, unpacked_from}

-- what the bytes that follow at this place mean: frames, or bytes as they are, or nothing more
abbrev pub more : FeedState → ℕ → List ℕ → Unpacked
more Reading place rest = unpacked_from place rest
more PassingOn place rest = as_they_stand rest
more Ended place rest = as_they_stand []
more Failed place rest = as_they_stand rest
more Refused place rest = as_they_stand []

-- nothing follows the end, and of what follows a failure nothing is said
abbrev pub CanFollow : FeedState → List ℕ → Type 0
CanFollow Reading rest = Unit {0}
CanFollow PassingOn rest = Unit {0}
CanFollow Ended rest = rest ≡ []
CanFollow Failed rest = ⊥
CanFollow Refused rest = ⊥

-- bytes that were read from one place up to another mean this, and then what those that follow mean
abbrev pub Carries : (start : ℕ) → FeedState → (place : ℕ) → List ℕ → Unpacked → Type 0
Carries start state place read meaning = (rest : List ℕ) → CanFollow state rest → unpacked_from start (read ++ rest) ≡ then_unpacked meaning (more state place rest)

-- how blobs are stored that follow at this place
abbrev pub more_stored : FeedState → ℕ → List ℕ → Stored
more_stored Reading place rest = stored_from place rest
more_stored PassingOn place rest = none_stored
more_stored Ended place rest = none_stored
more_stored Failed place rest = none_stored
more_stored Refused place rest = none_stored

-- the blobs of bytes that were read from one place up to another are stored so
abbrev pub CarriesStored : (start : ℕ) → FeedState → (place : ℕ) → List ℕ → Stored → Type 0
CarriesStored start state place read stored = (rest : List ℕ) → CanFollow state rest → stored_from start (read ++ rest) ≡ together stored (more_stored state place rest)

-- the bytes in the buffers that are still to supply
abbrev pub left_in : {F : Type 0} → UnpackedFeed F → List ℕ
left_in u = drop u.done (u.buffers.front.items ++ u.buffers.raw.items)

-- nothing is reported once a read failed
abbrev pub unless_failed : FeedState → Option (List ℕ) → Option (List ℕ)
unless_failed Reading known = known
unless_failed PassingOn known = known
unless_failed Ended known = known
unless_failed Failed known = None
unless_failed Refused known = None

-- all bytes that are still to supply, if the feed below reports its own
abbrev pub remaining_in : {F : Type 0} → (F → Option (List ℕ)) → UnpackedFeed F → Option (List ℕ)
remaining_in remaining u = unless_failed u.state (option_map (λ bytes. left_in u ++ (more u.state u.place bytes).0) (remaining u.feed))

-- once the end was reached, the feed below is at its own
abbrev pub IsEndBelow : FeedState → Option (List ℕ) → Type 0
IsEndBelow Reading known = Unit {0}
IsEndBelow PassingOn known = Unit {0}
IsEndBelow Ended known = IsAtEnd known
IsEndBelow Failed known = Unit {0}
IsEndBelow Refused known = Unit {0}

-- these bytes were supplied: by a log of the feed below packed bytes have passed, and they mean these bytes, those in the buffers, and then what
-- those that follow mean; the fault that is kept is the first of them, and their blobs are stored as it is kept
pub record HasSupplied {F : Type 0} (remaining : F → Option (List ℕ)) (has_passed : F → ℕ → List ℕ → Type 0) (u : UnpackedFeed F) (log : ℕ) (bytes : List ℕ) : Type 0 where
  pub packed : List ℕ
  pub passed : has_passed u.feed log packed
  pub carries : Carries 0 u.state u.place packed (bytes ++ left_in u, u.fault)
  pub stores : CarriesStored 0 u.state u.place packed u.stored
  pub ended : IsEndBelow u.state (remaining u.feed)

-- ---- failures

-- how many failures count once memory was refused: as many as can be counted, since each later read fails too
abbrev pub refusals : FeedState → ℕ
refusals Refused = 2 ^ 64 - 1
refusals Reading = 0
refusals PassingOn = 0
refusals Ended = 0
refusals Failed = 0

-- why a read fails: memory was refused; or, if it never was, a read of the feed below failed, whose count has risen
abbrev pub IsSupplyStop : FeedState → (old new : ℕ) → Stop → Type 0
IsSupplyStop state old new stop.Memory = Unit {0}
IsSupplyStop state old new stop.Read = (refusals state ≡ 0) × HasRisen old new
IsSupplyStop state old new stop.Write = ⊥
IsSupplyStop state old new (stop.Refused e) = ⊥
IsSupplyStop state old new (stop.Changed pass) = ⊥

-- a call that reads bytes of this feed stops so, has read only if memory was never refused, and keeps what else the feed below has
pub record SuppliesFrom {F X : Type 0} (f : feed.Ghosts F) (old new : UnpackedFeed F) (result : Result X Stop) : Type 0 where
  pub stops : IfErr result (IsSupplyStop old.state (f.failures old.feed) (f.failures new.feed))
  pub goes : OnOk result (refusals old.state ≡ 0)
  pub keeps : KeepsFeed f old.feed new.feed

-- ---- how it goes on

-- a feed that is still to supply the same, and has supplied the same
pub record SuppliesTheSame {F : Type 0} (remaining : F → Option (List ℕ)) (has_passed : F → ℕ → List ℕ → Type 0) (old new : UnpackedFeed F) : Type 0 where
  pub remaining_same : remaining_in remaining old ≡ remaining_in remaining new
  pub supplied_same : (log : ℕ) (bytes : List ℕ) → HasSupplied remaining has_passed old log bytes → HasSupplied remaining has_passed new log bytes

-- there are bytes in the buffers, or the end was reached
abbrev pub HasSupply : FeedState → List ℕ → Type 0
HasSupply Reading left = 0 < length left
HasSupply PassingOn left = Unit {0}
HasSupply Ended left = Unit {0}
HasSupply Failed left = Unit {0}
HasSupply Refused left = ⊥

-- a feed is the same, except for where frames come from
pub record IsSameBut {F : Type 0} (old new : UnpackedFeed F) : Type 0 where
  pub feed : new.feed ≡ old.feed
  pub buffers : new.buffers ≡ old.buffers
  pub done : new.done ≡ old.done
  pub place : new.place ≡ old.place
  pub state : new.state ≡ old.state
  pub fault : new.fault ≡ old.fault
