-- What a feed gave, unpacked, is the raw file that packed bytes mean.
use Rattle.std.proofs.Common.{arith, ◌≡◌, ℕ, Bool, true, false, List, [], Option, Some, None, Result, Ok, Err, IfOk, IfErr, IfSome, OnErr, refl, sym, ap, ◌∙◌, subst}
use Rattle.std.specs.Option.{option_map}
use Rattle.std.proofs.lemmas.Option.{same_Some}
use Rattle.pbf_wire.specs.declared.fault.Fault.{Fault}
use Rattle.pbf_frame.specs.declared.device.Feed as feed
use Rattle.pbf_frame.specs.declared.stop.Stop.{Stop}
use Rattle.pbf_frame.specs.declared.stop.Stop.TheVariants as stop
use Rattle.pbf_frame.specs.Devices.{IsAtEnd, HasRisen, prepend}
use Rattle.pbf_frame.specs.Verdict.{Verdict}
use Rattle.pbf_pass.specs.Given.{GaveFile}
use Rattle.pbf_pass.specs.Hashing.{Mark, digest_by, mark_by}
use Rattle.pbf_pass.specs.declared.hashing.PassCheck.{PassCheck}
use Rattle.pbf_pass.specs.declared.receipt.Halt.{Halt}
use Rattle.pbf_pass.specs.declared.receipt.Refusal.{Refusal}
use Rattle.pbf_pass.specs.declared.receipt.InputReceipt.{InputReceipt}
use Rattle.pbf_pass.specs.Refused.{Halts, stop_of}
use Rattle.pbf_pass.specs.Stops.{Caused, FaultOf, ReadFailed}
use Rattle.pbf_unpack.specs.declared.feed.UnpackedFeed.{UnpackedFeed}
use Rattle.pbf_unpack.specs.declared.feed.FeedState.{FeedState}
use Rattle.pbf_unpack.specs.Reports.{has_all, stop_in}
use Rattle.pbf_unpack.specs.Supplying.{unless_failed}
use Rattle.pbf_unpack.specs.Unpacked.{unpacked}
use Rattle.pbfcut.specs.Calls.{Differ}
use Rattle.pbf_published.specs.declared.input.PublishedHalt.{PublishedHalt}
use Rattle.pbf_published.specs.Published.{GavePublished, HasDigest, IsOpened, PassedAs, ReportsOutcome, UnlessChanged, raw_of}

-- what is said of a digest that may be there
if_digest : (o : Option (List ℕ)) (digest : List ℕ) (holds : List ℕ → Type 0) → o ≡ Some digest → IfSome o holds → holds digest
if_digest o digest holds is has = subst (λ (x : Option (List ℕ)). IfSome x holds) is has

-- a feed that gave a file, and of which it is known what it was to give, has nothing left
none_left_of_all : (old new : Option (List ℕ)) (file all : List ℕ) → old ≡ prepend file new → IsAtEnd new → old ≡ Some all → new ≡ Some []
none_left_of_all old new file all h4 h5 h6 = grind arith

-- what a feed had to give, if that is known, is these bytes
had_these : (known : Option (List ℕ)) (bytes : List ℕ) → ((all : List ℕ) → known ≡ Some all → known ≡ Some bytes) → IfSome known (λ all. all ≡ bytes)
had_these None bytes h = tt
had_these (Some all) bytes h = same_bytes (h all refl) where
  same_bytes : Some all ≡ Some bytes → all ≡ bytes
  same_bytes e = cc

-- a feed of which all was read has the digest of what it had to give, as far as that is known
abbrev pub DigestIsOf : PassCheck → (known digest : Option (List ℕ)) → Type 0
DigestIsOf check known digest = (all : List ℕ) → known ≡ Some all → digest ≡ Some (digest_by check all)

module _ {F U : Type 0} (f : feed.Ghosts F) (first last : F) {u : feed.Ghosts U} {old new : U} {raw_digest : Mark} {holds : List ℕ → Type 0} (given : GaveFile u old new raw_digest holds) (check : PassCheck) (o : Option (List ℕ)) (opened : IsOpened f u check first old) (has : HasDigest f u last new o) where
  ended : (all : List ℕ) → f.remaining first ≡ Some all → u.remaining new ≡ Some []
  ended all is = none_left_of_all (u.remaining old) (u.remaining new) given.file (unpacked all) given.supplied.gave.told given.supplied.end (opened.remaining ∙ ap raw_of is)

  -- what passed by a log is what the feed had to give
  logged_whole : (digest : List ℕ) → o ≡ Some digest → (log : ℕ) → f.has_passed first log [] → PassedAs (f.has_passed last) log (mark_by check digest) given.file (λ passed. IfSome (f.remaining first) (λ all. all ≡ passed))
  logged_whole digest is log start =
      let p = if_digest o digest (λ d. PassedAs (f.has_passed last) log (mark_by check d) given.file (λ packed. u.remaining new ≡ Some [] → f.remaining first ≡ Some packed)) is
      (has.logged check log (f.remaining first) given.file (given.supplied.gave.logged _ [] (opened.logged log start))) in
      record { packed = p.packed; passed = p.passed; digest_is = p.digest_is; means = p.means; is_known = had_these (f.remaining first) p.packed (λ all had. p.is_known (ended all had)) }

  -- what is said of the file that an unpacking feed gave is said of the raw file that packed bytes mean
  pub published_of : (digest : List ℕ) → o ≡ Some digest → (keeps : List ℕ → Type 0) → ((file : List ℕ) → holds file → keeps file) → GavePublished f first last (mark_by check digest) raw_digest keeps
  published_of digest is keeps step = grind (arith, if_digest o digest, same_Some, ended, logged_whole digest is)

  -- the digest is that of what the feed had to give
  pub digest_told : DigestIsOf check (f.remaining first) o
  digest_told all is = grind arith

pub not_both : (b : Bool) → b ≡ true → b ≡ false → ⊥
not_both b h1 h2 = grind arith

-- if nothing is left of what a feed unpacks, nothing is left below, unless it failed
pub end_below : (s : FeedState) (meaning : List ℕ → List ℕ) (known : Option (List ℕ)) → stop_in s ≡ None → (unless_failed s (option_map meaning known) ≡ Some [] → known ≡ Some []) → IsAtEnd (unless_failed s (option_map meaning known)) → IsAtEnd known
end_below s meaning known h3 h4 h5 = grind (arith, same_Some, ended)

-- a feed that has all that it unpacked has not failed
pub all_going : {F : Type 0} (u : UnpackedFeed F) → has_all u ≡ true → stop_in u.state ≡ None
all_going u all = grind arith

-- ---- why a call stops

-- what holds after every stop
pub unless_changed : (holds : Type 0) (s : Stop) → holds → UnlessChanged holds s
unless_changed holds s h2 = grind arith

-- a read of an unpacking feed failed, and not for memory: so one of the feed below did
pub read_below : {F : Type 0} (f : feed.Ghosts F) (first last : F) (old new : ℕ) → old ≡ f.failures first → new ≡ f.failures last → HasRisen old new → ReadFailed f first last
read_below f first last old new before after risen = subst (λ (n : ℕ). HasRisen n (f.failures last)) before (subst (λ (n : ℕ). HasRisen old n) after risen)

-- what a call over raw files returned, if it is reported as a receipt
pub outcome_receipt : (o : Result InputReceipt Halt) (holds : InputReceipt → Type 0) → IfOk o holds → (r : Result InputReceipt PublishedHalt) (receipt : InputReceipt) → r ≡ Ok receipt → (lacks : Bool) → ReportsOutcome lacks o r → holds receipt
outcome_receipt o holds held r receipt is lacks tells = grind (arith, ReportsOutcome lacks o)

-- and if it is reported as a stop
module _ (lacks : Bool) (o : Result InputReceipt Halt) (r : Result InputReceipt PublishedHalt) (tells : ReportsOutcome lacks o r) where
  pub outcome_stops : (refused at_fault : Fault → Type 0) (below above wrote : Type 0) (changed numbers : ℕ → Type 0) (reported : PublishedHalt) → r ≡ Err reported → ((e : Fault) → refused e → at_fault e) → (lacks ≡ false → below → above) → ((pass : ℕ) → changed pass → numbers pass)
      → IfErr o (λ h. Caused refused below wrote changed (stop_of h)) → Caused at_fault above wrote numbers reported.stop
  outcome_stops refused at_fault below above wrote changed numbers reported is faults reads passes caused = grind (arith, ReportsOutcome lacks o)

  pub outcome_beginning : (below above : Type 0) (reported : PublishedHalt) → r ≡ Err reported → (below → above) → OnErr o below → UnlessChanged above reported.stop
  outcome_beginning below above reported is step held = grind (arith, ReportsOutcome lacks o)

-- the fault of a raw file, by what is known of it
pub fault_as : (judge : Option (List ℕ) → Option Verdict) (known raw : Option (List ℕ)) (e : Fault) → known ≡ raw → FaultOf (judge known) e → FaultOf (judge raw) e
fault_as judge known raw e same fault = subst (λ (k : Option (List ℕ)). FaultOf (judge k) e) same fault

-- of what is refused by a call over raw files nothing went out
pub with_nothing : (o : Result InputReceipt Halt) (refuses : Refusal → Type 0) (nothing : Type 0) (refused : Fault → Type 0) (read wrote : Type 0) (changed : ℕ → Type 0) → IfErr o (Halts (λ r. refuses r × nothing)) → IfErr o (λ h. Caused refused read wrote changed (stop_of h))
    → IfErr o (λ h. Caused (λ e. refused e × nothing) read wrote changed (stop_of h))
with_nothing o refuses nothing refused read wrote changed h7 h8 = grind arith

-- ---- why a pass is reported as changed

-- two feeds mean raw files that differ: so their bytes do
pub packed_differ : (first other raw_first raw_other : Option (List ℕ)) → raw_first ≡ raw_of first → raw_other ≡ raw_of other → Differ raw_first raw_other → Differ first other
packed_differ first other raw_first raw_other first_is other_is differ b c is_b is_c same = differ (unpacked b) (unpacked c) (first_is ∙ ap raw_of is_b) (other_is ∙ ap raw_of is_c) (ap unpacked same)

-- the stop of a pass that is reported as changed
pub changed_stop : (refused : Fault → Type 0) (read wrote : Type 0) (numbers : ℕ → Type 0) (reported s : Stop) (number : ℕ) → reported ≡ s → s ≡ stop.Changed number → numbers number → Caused refused read wrote numbers reported
changed_stop refused read wrote numbers reported s number is change holds = subst (λ (x : Stop). Caused refused read wrote numbers x) (sym (is ∙ change)) holds

-- and then nothing is said of what went out
pub changed_any : (holds : Type 0) (reported s : Stop) (number : ℕ) → reported ≡ s → s ≡ stop.Changed number → UnlessChanged holds reported
changed_any holds reported s number is change = subst (λ (x : Stop). UnlessChanged holds x) (sym (is ∙ change)) tt

-- the first feed has no digest: so it doesn't report its bytes
pub first_unknown : (check : PassCheck) (known o : Option (List ℕ)) → DigestIsOf check known o → o ≡ None → Differ known known
first_unknown check known o of none b c is_b is_c same = (let bad : ⊥ = (let some : None ≡ Some (digest_by check b) = sym none ∙ of b is_b in cc) in absurd bad)

-- a later feed hasn't the digest of the first: so its bytes differ
pub later_differ : (check : PassCheck) (first other o p : Option (List ℕ)) (digest : List ℕ) → DigestIsOf check first o → o ≡ Some digest → DigestIsOf check other p → (p ≡ Some digest → ⊥) → Differ first other
later_differ check first other o p digest of is other_of unlike b c is_b is_c same = unlike (other_of c is_c ∙ ap (λ (l : List ℕ). Some (digest_by check l)) (sym same) ∙ sym (of b is_b) ∙ is)
