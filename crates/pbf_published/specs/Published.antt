-- What a call over published files was given: packed bytes, and the raw files that they mean.
use Rattle.std.specs.Prelude.{◌≡◌, ◌⊎◌, ℕ, zero, suc, ◌+◌, ◌*◌, List, [], ◌∷◌, map, Bool, true, false, Option, Some, None, Result, Ok, Err, IfSome}
use Rattle.std.specs.Option.{option_map}
use Rattle.pbf_wire.specs.declared.fault.Fault.{Fault}
use Rattle.pbf_frame.specs.declared.device.Feed as feed
use Rattle.pbf_frame.specs.declared.device.Drain as drain
use Rattle.pbf_frame.specs.declared.stop.Stop.{Stop}
use Rattle.pbf_frame.specs.declared.stop.Stop.TheVariants.{Refused, Read, Write, Memory, Changed}
use Rattle.pbf_frame.specs.Devices.{IsAtEnd, IsFront, prepend}
use Rattle.pbf_frame.specs.Transfers.{Added}
use Rattle.pbf_frame.specs.Verdict.{Verdict}
use Rattle.pbf_pass.specs.Hashing.{HoldsBytes, IsDigestOf, Mark, below_log, digest_by, hash_log, mark_by}
use Rattle.pbf_pass.specs.declared.hashed.PassFeed.{PassFeed}
use Rattle.pbf_pass.specs.declared.hashing.PassCheck.{PassCheck}
use Rattle.pbf_pass.specs.declared.receipt.Halt.{Halt}
use Rattle.pbf_pass.specs.Refused.{stop_of}
use Rattle.pbf_pass.specs.Stops.{Caused, FaultOf}
use Rattle.pbf_unpack.specs.Unpacked.{unpacked}
use Rattle.pbfcut.specs.Calls.{AllSupply, AnyFailed, ChangedIn, DrainUse, FailedDrain, FeedUse, supply_of, taken_after, taken_before}
use Rattle.pbf_published.specs.declared.input.PublishedHalt.{PublishedHalt}

-- ---- what was given

-- the raw file that a feed is to supply, if it reports its bytes
abbrev pub raw_of : Option (List ℕ) → Option (List ℕ)
raw_of known = option_map unpacked known

-- by a log of a feed packed bytes passed, of this digest by the check, that mean this raw file, and of which this is known
pub record PassedAs (has_passed : ℕ → List ℕ → Type 0) (log : ℕ) (digest : Mark) (raw : List ℕ) (known : List ℕ → Type 0) : Type 0 where
  pub packed : List ℕ
  pub passed : has_passed log packed
  pub digest_is : IsDigestOf digest packed
  pub means : unpacked packed ≡ raw
  pub is_known : known packed

-- a feed gave packed bytes of one digest, to its end, which mean a raw file of another, each by its check, and this holds of that file.
-- They are what the feed had to give, if it reports its bytes
pub record GavePublished {F : Type 0} (f : feed.Ghosts F) (old new : F) (digest raw_digest : Mark) (holds : List ℕ → Type 0) : Type 0 where
  pub packed : List ℕ
  pub digest_is : IsDigestOf digest packed
  pub raw_digest_is : IsDigestOf raw_digest (unpacked packed)
  pub told : (all : List ℕ) → f.remaining old ≡ Some all → all ≡ packed
  pub end : IsAtEnd (f.remaining new)
  -- that file is also what those bytes mean that passed by each log of a feed that was at its start; they have that digest, and are what the feed
  -- had to give
  pub logged : (log : ℕ) → f.has_passed old log [] → PassedAs (f.has_passed new) log digest (unpacked packed) (λ passed. IfSome (f.remaining old) (λ all. all ≡ passed))
  pub holding : holds (unpacked packed)

-- a later feed did so; or nothing was read of it, and this holds of the first raw file
abbrev pub GaveOrNone : {F : Type 0} → feed.Ghosts F → (old new : F) → (digest raw_digest : Mark) → (raw : List ℕ) → (List ℕ → Type 0) → Type 0
GaveOrNone f old new digest raw_digest raw holds = GavePublished f old new digest raw_digest holds ⊎ ((new ≡ old) × holds raw)

-- the same of each of these feeds
abbrev pub GaveEachOrNone : List FeedUse → (digest raw_digest : Mark) → (raw : List ℕ) → (List (List ℕ) → Type 0) → Type 0
GaveEachOrNone [] digest raw_digest raw holds = holds []
GaveEachOrNone (one ∷ more) digest raw_digest raw holds = GaveOrNone one.ghosts one.old one.new digest raw_digest raw (λ given. GaveEachOrNone more digest raw_digest raw (λ raws. holds (given ∷ raws)))

-- each of these feeds did, and this holds of the raw files
abbrev pub GavePublishedEach : List FeedUse → (digest raw_digest : Mark) → (List (List ℕ) → Type 0) → Type 0
GavePublishedEach [] digest raw_digest holds = holds []
GavePublishedEach (one ∷ more) digest raw_digest holds = GavePublished one.ghosts one.old one.new digest raw_digest (λ raw. GavePublishedEach more digest raw_digest (λ raws. holds (raw ∷ raws)))

-- ---- the digest of a feed that was read

-- packed bytes of this digest mean this raw file; and if nothing is left, nothing is left of them, and they are what there was at the start, as far
-- as that is known
pub record MeansRaw (digest : Mark) (start left left_below : Option (List ℕ)) (raw : List ℕ) : Type 0 where
  pub packed : List ℕ
  pub digest_is : IsDigestOf digest packed
  pub means : unpacked packed ≡ raw
  pub told : left ≡ Some [] → start ≡ Some packed
  pub end : IsAtEnd left → IsAtEnd left_below

-- ---- logs that know what a feed had to give

-- a pair of numbers as one: two to the first, times an odd number
abbrev pub pair_number : ℕ → ℕ → ℕ
pair_number zero b = 2 * b + 1
pair_number (suc a) b = 2 * pair_number a b

-- the number of a list, which no other list has
abbrev pub list_number : List ℕ → ℕ
list_number [] = 0
list_number (x ∷ xs) = pair_number x (list_number xs)

-- a number, and a list that may be there, as one
abbrev pub start_number : ℕ → Option (List ℕ) → ℕ
start_number n None = pair_number n 0
start_number n (Some start) = pair_number n (suc (list_number start))

-- a log for each two logs of the feed below and each list that it may have to give at its start, or none if it doesn't report that
abbrev pub log_number : (one two : ℕ) → Option (List ℕ) → ℕ
log_number one two start = start_number (pair_number one two) start

-- bytes passed by this log: by two logs of the feed below, and they and what it has still to give are what it had to give at the start
pub record HasTraced {F : Type 0} (f : feed.Ghosts F) (feed : F) (log : ℕ) (bytes : List ℕ) : Type 0 where
  pub one : ℕ
  pub two : ℕ
  pub start : Option (List ℕ)
  pub number : log ≡ log_number one two start
  pub passed : f.has_passed feed one bytes × f.has_passed feed two bytes
  pub told : start ≡ prepend bytes (f.remaining feed)

-- ---- feeds that are opened, and their digests

-- an unpacking feed over this one supplies the raw file that it has, counts its failures, and has supplied nothing by the logs for the check and for
-- each log of the feed below
pub record IsOpened {F U : Type 0} (f : feed.Ghosts F) (u : feed.Ghosts U) (check : PassCheck) (below : F) (now : U) : Type 0 where
  pub remaining : u.remaining now ≡ raw_of (f.remaining below)
  pub failures : u.failures now ≡ f.failures below
  pub hashed : u.has_passed now (log_number (hash_log check) (hash_log check) (f.remaining below)) []
  pub logged : (log : ℕ) → f.has_passed below log [] → u.has_passed now (log_number (hash_log check) (below_log log) (f.remaining below)) []

-- the digest that a hashing feed returns is that of what its hasher held, and the feed below stays
pub record Digested {F : Type 0} (old new : PassFeed F) (digest : List ℕ) : Type 0 where
  pub feed : new.feed ≡ old.feed
  pub is : (bytes : List ℕ) → HoldsBytes old.hasher bytes → digest ≡ digest_by old.hasher.check bytes

-- an unpacking feed has this digest: packed bytes have it by the check, mean what was supplied, and passed by each log of the feed below. If nothing is
-- reported to be left, it has one, and they are what there was at the start
pub record HasDigest {F U : Type 0} (f : feed.Ghosts F) (u : feed.Ghosts U) (below : F) (now : U) (digest : Option (List ℕ)) : Type 0 where
  pub means : (check : PassCheck) (start : Option (List ℕ)) (raw : List ℕ) → u.has_passed now (log_number (hash_log check) (hash_log check) start) raw → IfSome digest (λ d. MeansRaw (mark_by check d) start (u.remaining now) (f.remaining below) raw)
  pub logged : (check : PassCheck) (log : ℕ) (start : Option (List ℕ)) (raw : List ℕ) → u.has_passed now (log_number (hash_log check) (below_log log) start) raw → IfSome digest (λ d. PassedAs (f.has_passed below) log (mark_by check d) raw (λ packed. u.remaining now ≡ Some [] → start ≡ Some packed))
  pub there : u.remaining now ≡ Some [] → digest ≡ None → ⊥

-- ---- why a call stops

-- what is refused is the raw file that the first feed's bytes mean, by its first fault, and then the drain took nothing
abbrev pub RefusedRaw : {D : Type 0} → Option Verdict → drain.Ghosts D → (old new : D) → Fault → Type 0
RefusedRaw known d old new e = FaultOf known e × Added d old [] new

-- the packed bytes that were changed: `Changed` has the number of the pass whose feed has other bytes than the first, as far as both report them.
-- The number 1 comes only if the first doesn't
abbrev pub ChangedFrom : ℕ → (first : Option (List ℕ)) → List (Option (List ℕ)) → ℕ → Type 0
ChangedFrom number first [] pass = ⊥
ChangedFrom number first (has ∷ later) pass = ChangedIn number first has pass ⊎ ChangedFrom (number + 1) first later pass

abbrev pub PassChanged : List (Option (List ℕ)) → ℕ → Type 0
PassChanged [] pass = ⊥
PassChanged (first ∷ later) pass = ChangedFrom 1 first (first ∷ later) pass

-- a call stops: what is refused is the raw file that the first feed's bytes mean, which is judged so; a read or a write failed if the count of its device
-- rose; and `Changed` has the number of the pass whose feed has other packed bytes than the first, as far as both report them
abbrev pub StopsPublished : {D : Type 0} → (Option (List ℕ) → Option Verdict) → FeedUse → List FeedUse → DrainUse D → Stop → Type 0
StopsPublished judge first later out =
    Caused (RefusedRaw (judge (raw_of (supply_of first))) out.ghosts out.old out.new) (AnyFailed (first ∷ later)) (FailedDrain out) (PassChanged (map supply_of (first ∷ later)))

-- this holds unless the stop is that a later pass read other bytes
abbrev pub UnlessChanged : Type 0 → Stop → Type 0
UnlessChanged holds Read = holds
UnlessChanged holds Write = holds
UnlessChanged holds Memory = holds
UnlessChanged holds (Refused e) = holds
UnlessChanged holds (Changed pass) = Unit {0}

-- whatever stopped a call, but for a change, if all feeds mean this raw file, a prefix of what is to be written for it went out
abbrev pub FrontUnlessChanged : {D : Type 0} → (List ℕ → List ℕ) → List FeedUse → DrainUse D → Stop → Type 0
FrontUnlessChanged answer feeds out = UnlessChanged ((b : List ℕ) → AllSupply b (map raw_of (map supply_of feeds)) → IsFront (taken_before out) (taken_after out) (answer b))

-- if memory was refused to a feed, a read that failed is reported as `Memory`
abbrev pub told_by : Bool → Stop → Stop
told_by false s = s
told_by true Read = Memory
told_by true s = s

-- what a call over raw files returns, as it is reported of published ones
abbrev pub ReportsOutcome : {R : Type 0} → (lacks : Bool) → Result R Halt → Result R PublishedHalt → Type 0
ReportsOutcome lacks (Ok receipt) (Ok reported) = reported ≡ receipt
ReportsOutcome lacks (Err halt) (Err reported) = reported.stop ≡ told_by lacks (stop_of halt)
ReportsOutcome lacks (Ok receipt) (Err reported) = ⊥
ReportsOutcome lacks (Err halt) (Ok reported) = ⊥
