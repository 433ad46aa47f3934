-- What a call says that does a task over a list of published files, one for each pass; and what is known of its feeds.
use Rattle.std.specs.Prelude.{◌≡◌, ◌⊎◌, ℕ, zero, suc, ◌+◌, List, [], ◌∷◌, ◌++◌, take, drop, Bool, true, false, Option, Some, None, Result, IfOk, IfErr}
use Rattle.pbf_frame.specs.declared.device.Feed as feed
use Rattle.pbf_frame.specs.declared.stop.Stop.{Stop}
use Rattle.pbf_frame.specs.declared.stop.Stop.TheVariants as stop
use Rattle.pbf_pass.specs.Hashing.{Mark, mark_by, raw_check}
use Rattle.pbf_pass.specs.declared.hashed.PassFeed.{PassFeed}
use Rattle.pbf_pass.specs.declared.hashing.PassCheck.{PassCheck}
use Rattle.pbf_unpack.specs.declared.feed.UnpackedFeed.{UnpackedFeed}
use Rattle.pbfcut.specs.Calls.{DrainUse, FeedUse, TookBy}
use Rattle.pbfcut.specs.Tasks.{Task, TaskHolds, answer_of, judge_of, spares}
use Rattle.pbf_published.specs.declared.input.PublishedHalt.{PublishedHalt}
use Rattle.pbf_published.specs.declared.input.PublishedInput.{PublishedInput}
use Rattle.pbf_published.specs.declared.traced.TracedFeed.{TracedFeed}
use Rattle.pbf_published.specs.Published.{FrontUnlessChanged, GaveEachOrNone, GavePublished, GavePublishedEach, HasDigest, IsOpened, StopsPublished}

-- ---- a call

-- the first feed gave packed bytes of one digest, to its end, which mean a raw file of another, each by its check; so did the later ones, except that
-- nothing need be read of the first `may` of them: such a feed counts as having given the first raw file. This holds of the raw files, one for each feed
abbrev pub GavePublishedFiles : (may : ℕ) → (first : FeedUse) → (later : List FeedUse) → (digest raw_digest : Mark) → (List (List ℕ) → Type 0) → Type 0
GavePublishedFiles may first later digest raw_digest holds =
    GavePublished first.ghosts first.old first.new digest raw_digest (λ b. GaveEachOrNone (take may later) digest raw_digest b (λ some. GavePublishedEach (drop may later) digest raw_digest (λ files. holds (b ∷ some ++ files))))

-- what it says of the first feed and the later ones
pub record DoesPublishedPasses {D : Type 0} (task : Task) (first : FeedUse) (later : List FeedUse) (out : DrainUse D) (check : PassCheck) (result : Result PublishedInput PublishedHalt) : Type 0 where
  -- each feed gave packed bytes of the digest `input`, which mean a raw file, of the SHA-256 digest `raw` if that is the check; or those were spared that may
  -- be. The drain took bytes, and what the task means holds of the raw files, the counts and these bytes
  pub receipt : IfOk result (λ receipt. GavePublishedFiles (spares task) first later (mark_by check receipt.input) (mark_by (raw_check check) receipt.raw) (λ files. TookBy out (λ written. TaskHolds task files receipt.counts written)))
  -- each stop has its cause
  pub stops : IfErr result (λ h. StopsPublished (judge_of task) first later out h.stop)
  -- whatever stopped it, except `Changed`, if all feeds mean this raw file, a prefix of what is to be written for it went out
  pub beginning : IfErr result (λ h. FrontUnlessChanged (answer_of task) (first ∷ later) out h.stop)

-- what it says of its feeds
abbrev pub DoesPublished : {D : Type 0} → Task → List FeedUse → DrainUse D → PassCheck → Result PublishedInput PublishedHalt → Type 0
DoesPublished task [] out check result = ⊥
DoesPublished task (first ∷ later) out check result = DoesPublishedPasses task first later out check result

-- ---- feeds in a list

-- the feed whose packed bytes one unpacks
abbrev pub below_of : {F : Type 0} → UnpackedFeed (TracedFeed (PassFeed F)) → F
below_of now = now.feed.feed.feed

-- each of them was opened, by this check
abbrev pub AreOpened : {F U : Type 0} → feed.Ghosts F → feed.Ghosts U → (below : U → F) → PassCheck → List U → Type 0
AreOpened f u below check [] = Unit {0}
AreOpened f u below check (one ∷ more) = IsOpened f u check (below one) one × AreOpened f u below check more

-- none was refused memory: only reads of those below have failed
abbrev pub FailBelow : {F U : Type 0} → feed.Ghosts F → feed.Ghosts U → (below : U → F) → List U → Type 0
FailBelow f u below [] = Unit {0}
FailBelow f u below (one ∷ more) = (u.failures one ≡ f.failures (below one)) × FailBelow f u below more

-- how many later feeds aren't compared: `may`, if they were spared
abbrev pub skipped_of : (spared : Bool) → ℕ → ℕ
skipped_of false may = 0
skipped_of true may = may

-- each of these except the first `skipped` has this digest
abbrev pub HaveDigest : {F U : Type 0} → feed.Ghosts F → feed.Ghosts U → (below : U → F) → (skipped : ℕ) → (digest : List ℕ) → List U → Type 0
HaveDigest f u below skipped digest [] = Unit {0}
HaveDigest f u below zero digest (one ∷ more) = HasDigest f u (below one) one (Some digest) × HaveDigest f u below zero digest more
HaveDigest f u below (suc skipped) digest (one ∷ more) = HaveDigest f u below skipped digest more

-- this stop has the number of one that has another digest, the first of these being that of this number
abbrev pub OtherDigest : {F U : Type 0} → feed.Ghosts F → feed.Ghosts U → (below : U → F) → (skipped : ℕ) → (digest : List ℕ) → (number : ℕ) → List U → Stop → Type 0
OtherDigest f u below skipped digest number [] s = ⊥
OtherDigest f u below zero digest number (one ∷ more) s =
    ((s ≡ stop.Changed number) × (other : Option (List ℕ)) × HasDigest f u (below one) one other × (other ≡ Some digest → ⊥)) ⊎ OtherDigest f u below zero digest (number + 1) more s
OtherDigest f u below (suc skipped) digest number (one ∷ more) s = OtherDigest f u below skipped digest (number + 1) more s

-- the first feed has a digest, and the later ones have the same
abbrev pub ShareDigest : {F U : Type 0} → feed.Ghosts F → feed.Ghosts U → (below : U → F) → (skipped : ℕ) → (digest : List ℕ) → List U → Type 0
ShareDigest f u below skipped digest [] = ⊥
ShareDigest f u below skipped digest (first ∷ later) = HasDigest f u (below first) first (Some digest) × HaveDigest f u below skipped digest later

-- the first has none, or a later one has another
abbrev pub DigestsDiffer : {F U : Type 0} → feed.Ghosts F → feed.Ghosts U → (below : U → F) → (skipped : ℕ) → List U → Stop → Type 0
DigestsDiffer f u below skipped [] s = Unit {0}
DigestsDiffer f u below skipped (first ∷ later) s =
    ((s ≡ stop.Changed 1) × HasDigest f u (below first) first None) ⊎ ((digest : List ℕ) × HasDigest f u (below first) first (Some digest) × OtherDigest f u below skipped digest 2 later s)
