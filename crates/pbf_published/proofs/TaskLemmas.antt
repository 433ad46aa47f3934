-- What a call over unpacking feeds says of the published files below them.
use Rattle.std.proofs.Common.{◌≡◌, inl, inr, ℕ, zero, suc, ◌+◌, ◌<◌, ◌-◌, length, arith, MutBor, Bool, true, false, List, [], ◌∷◌, ◌++◌, map, take, drop, Option, Some, None, Result, Ok, Err, refl, sym, ap, ◌∙◌, subst}
use Rattle.pbf_frame.specs.declared.device.Feed as feed
use Rattle.pbf_frame.specs.declared.stop.Stop.{Stop}
use Rattle.pbf_frame.specs.declared.stop.Stop.TheVariants as stop
use Rattle.pbf_pass.specs.Hashing.{HasCounted, Mark, mark_by, raw_check}
use Rattle.pbf_pass.specs.declared.hashed.PassFeed.{PassFeed}
use Rattle.pbf_pass.specs.declared.hashing.PassCheck.{PassCheck}
use Rattle.pbf_pass.specs.declared.receipt.Halt.{Halt}
use Rattle.pbf_pass.specs.declared.receipt.InputReceipt.{InputReceipt}
use Rattle.pbf_unpack.specs.declared.feed.UnpackedFeed.{UnpackedFeed}
use Rattle.pbf_unpack.specs.Supplying.{HasSupplied, refusals, remaining_in}
use Rattle.pbfcut.specs.Calls.{AllSupply, AnyFailed, ChangedIn, ChangedLater, DrainUse, FeedUse, GaveEach, GaveEachOrNot, TookBy, fed, supply_of, used}
use Rattle.pbfcut.specs.TaskCalls.{DoesTask, GaveFiles}
use Rattle.pbfcut.specs.Tasks.{Task, TaskHolds, judge_of, passes_of, spares}
use Rattle.pbf_published.specs.declared.input.PublishedHalt.{PublishedHalt}
use Rattle.pbf_published.specs.declared.traced.TracedFeed.{TracedFeed}
use Rattle.pbf_published.specs.Published.{ChangedFrom, GaveEachOrNone, GavePublishedEach, HasDigest, HasTraced, IsOpened, ReportsOutcome, raw_of}
use Rattle.pbf_published.specs.PublishedTasks.{AreOpened, DigestsDiffer, DoesPublished, FailBelow, HaveDigest, OtherDigest, ShareDigest, skipped_of}
use Rattle.pbf_published.proofs.PublishedLemmas.{DigestIsOf, changed_any, changed_stop, digest_told, fault_as, first_unknown, later_differ, outcome_beginning, outcome_receipt, outcome_stops, packed_differ, published_of, read_below, with_nothing}

module _ {F U : Type 0} (f : feed.Ghosts F) (u : feed.Ghosts U) (below : U → F) (check : PassCheck) where
  -- the uses of the feeds below
  abbrev packed : (olds news : List U) → List FeedUse
  packed olds news = used f (map below olds) (map below news)

  -- ---- what was given

  each_published : (olds news : List U) (digest : List ℕ) (raw : Mark) (holds : List (List ℕ) → Type 0) → AreOpened f u below check olds → HaveDigest f u below 0 digest news → GaveEach (used u olds news) raw holds → GavePublishedEach (packed olds news) (mark_by check digest) raw holds
  each_published [] news digest raw holds opened have given = given
  each_published (old ∷ olds) [] digest raw holds opened have given = given
  each_published (old ∷ olds) (now ∷ news) digest raw holds opened have given =
      published_of f (below old) (below now) given check (Some digest) opened.0 have.0 digest refl (λ file. GavePublishedEach (packed olds news) (mark_by check digest) raw (λ files. holds (file ∷ files)))
      (λ file more. each_published olds news digest raw (λ files. holds (file ∷ files)) opened.1 have.1 more)

  -- the same, of which so many may have been spared
  some_published : (may : ℕ) (spared : Bool) (olds news : List U) (digest : List ℕ) (raw : Mark) (b : List ℕ) (holds : (some files : List (List ℕ)) → Type 0) → AreOpened f u below check olds → HaveDigest f u below (skipped_of spared may) digest news
      → GaveEachOrNot (take may (used u olds news)) spared raw b (λ some. GaveEach (drop may (used u olds news)) raw (λ files. holds some files))
      → GaveEachOrNone (take may (packed olds news)) (mark_by check digest) raw b (λ some. GavePublishedEach (drop may (packed olds news)) (mark_by check digest) raw (λ files. holds some files))
  some_published zero true olds news digest raw b holds opened have given = each_published olds news digest raw (holds []) opened have given
  some_published zero false olds news digest raw b holds opened have given = each_published olds news digest raw (holds []) opened have given
  some_published (suc may) spared [] news digest raw b holds opened have given = given
  some_published (suc may) spared (old ∷ olds) [] digest raw b holds opened have given = given
  some_published (suc may) true (old ∷ olds) (now ∷ news) digest raw b holds opened have given =
      inr (ap below given.0, some_published may true olds news digest raw b (λ some files. holds (b ∷ some) files) opened.1 have given.1)
  some_published (suc may) false (old ∷ olds) (now ∷ news) digest raw b holds opened have given =
      inl (published_of f (below old) (below now) given check (Some digest) opened.0 have.0 digest refl (λ file. GaveEachOrNone (take may (packed olds news)) (mark_by check digest) raw b (λ some. GavePublishedEach (drop may (packed olds news)) (mark_by check digest) raw (λ files. holds (file ∷ some) files)))
      (λ file more. some_published may false olds news digest raw b (λ some files. holds (file ∷ some) files) opened.1 have.1 more))

  -- ---- why a call stops

  fails_below : (olds news : List U) → AreOpened f u below check olds → FailBelow f u below news → AnyFailed (used u olds news) → AnyFailed (packed olds news)
  fails_below [] news opened fail failed = failed
  fails_below (old ∷ olds) [] opened fail failed = failed
  fails_below (old ∷ olds) (now ∷ news) opened fail (inl risen) = inl (read_below f (below old) (below now) (u.failures old) (u.failures now) opened.0.failures fail.0 risen)
  fails_below (old ∷ olds) (now ∷ news) opened fail (inr more) = inr (fails_below olds news opened.1 fail.1 more)

  -- the packed bytes of feeds whose raw files differ
  changed_packed : (olds news : List U) (first : U) (nothing : Type 0) (number pass : ℕ) → IsOpened f u check (below first) first → AreOpened f u below check olds → ChangedLater (λ n other. ChangedIn n (u.remaining first) (supply_of other)) nothing number (used u olds news) pass
      → ChangedFrom number (f.remaining (below first)) (map supply_of (packed olds news)) pass
  changed_packed [] news first nothing number pass is opened changed = changed
  changed_packed (old ∷ olds) [] first nothing number pass is opened changed = changed
  changed_packed (old ∷ olds) (now ∷ news) first nothing number pass is opened (inl c) = inl (c.0.0, packed_differ _ _ _ _ is.remaining opened.0.remaining c.0.1)
  changed_packed (old ∷ olds) (now ∷ news) first nothing number pass is opened (inr c) = inr (changed_packed olds news first nothing (number + 1) pass is opened.1 c)

  -- what unpacking feeds supply if those below have bytes that mean it
  pub supply_above : (olds news : List U) (b : List ℕ) → AreOpened f u below check olds → AllSupply b (map raw_of (map supply_of (packed olds news))) → AllSupply b (map supply_of (used u olds news))
  supply_above [] news b opened all = tt
  supply_above (old ∷ olds) [] b opened all = tt
  supply_above (old ∷ olds) (now ∷ news) b opened all = (opened.0.remaining ∙ all.0, supply_above olds news b opened.1 all.1)

  -- ---- why a pass is reported as changed

  -- a pass of this number or after it has other bytes than the first
  abbrev OtherPass : (known : Option (List ℕ)) → (number : ℕ) → (olds news : List U) → Stop → Type 0
  OtherPass known number olds news s = (pass : ℕ) × (s ≡ stop.Changed pass) × ChangedFrom number known (map supply_of (packed olds news)) pass

  next_pass : (known : Option (List ℕ)) (number : ℕ) (old now : U) (olds news : List U) (s : Stop) → OtherPass known (number + 1) olds news s → OtherPass known number (old ∷ olds) (now ∷ news) s
  next_pass known number old now olds news s more = (more.0, more.1, inr more.2)

  each_differs : (olds news : List U) (digest : List ℕ) (raw : Mark) (holds : List (List ℕ) → Type 0) (known : Option (List ℕ)) (number : ℕ) (s : Stop) → DigestIsOf check known (Some digest) → AreOpened f u below check olds → GaveEach (used u olds news) raw holds
      → OtherDigest f u below 0 digest number news s → length news ≡ length olds → OtherPass known number olds news s
  each_differs olds [] digest raw holds known number s of opened given other many = absurd other
  each_differs [] (now ∷ news) digest raw holds known number s of opened given other many = (let bad : ⊥ = omega (arith, many) in absurd bad)
  each_differs (old ∷ olds) (now ∷ news) digest raw holds known number s of opened given (inl o) many =
      (number, o.0, inl (refl, later_differ check known (f.remaining (below old)) (Some digest) o.1 digest of refl (digest_told f (below old) (below now) given check o.1 opened.0 o.2) o.3))
  each_differs (old ∷ olds) (now ∷ news) digest raw holds known number s of opened given (inr o) many =
      next_pass known number old now olds news s (each_differs olds news digest raw (λ files. holds (given.file ∷ files)) known (number + 1) s of opened.1 given.holding o (omega (arith, many)))

  some_differs : (may : ℕ) (spared : Bool) (olds news : List U) (digest : List ℕ) (raw : Mark) (b : List ℕ) (holds : (some files : List (List ℕ)) → Type 0) (known : Option (List ℕ)) (number : ℕ) (s : Stop) → DigestIsOf check known (Some digest) → AreOpened f u below check olds
      → GaveEachOrNot (take may (used u olds news)) spared raw b (λ some. GaveEach (drop may (used u olds news)) raw (λ files. holds some files)) → OtherDigest f u below (skipped_of spared may) digest number news s → length news ≡ length olds → OtherPass known number olds news s
  some_differs zero true olds news digest raw b holds known number s of opened given other many = each_differs olds news digest raw (holds []) known number s of opened given other many
  some_differs zero false olds news digest raw b holds known number s of opened given other many = each_differs olds news digest raw (holds []) known number s of opened given other many
  some_differs (suc may) true olds [] digest raw b holds known number s of opened given other many = absurd other
  some_differs (suc may) false olds [] digest raw b holds known number s of opened given other many = absurd other
  some_differs (suc may) spared [] (now ∷ news) digest raw b holds known number s of opened given other many = (let bad : ⊥ = omega (arith, many) in absurd bad)
  some_differs (suc may) true (old ∷ olds) (now ∷ news) digest raw b holds known number s of opened given other many =
      next_pass known number old now olds news s (some_differs may true olds news digest raw b (λ some files. holds (b ∷ some) files) known (number + 1) s of opened.1 given.1 other (omega (arith, many)))
  some_differs (suc may) false (old ∷ olds) (now ∷ news) digest raw b holds known number s of opened given (inl o) many =
      (number, o.0, inl (refl, later_differ check known (f.remaining (below old)) (Some digest) o.1 digest of refl (digest_told f (below old) (below now) given check o.1 opened.0 o.2) o.3))
  some_differs (suc may) false (old ∷ olds) (now ∷ news) digest raw b holds known number s of opened given (inr o) many =
      next_pass known number old now olds news s (some_differs may false olds news digest raw b (λ some files. holds (given.file ∷ some) files) known (number + 1) s of opened.1 given.holding o (omega (arith, many)))

  -- ---- a call

  module _ {D : Type 0} (out : DrainUse D) (task : Task) (outcome : Result InputReceipt Halt) (reported : Result InputReceipt PublishedHalt) (lacks : Bool) (tells : ReportsOutcome lacks outcome reported) where
    -- it was done, and the digests were the same
    pub task_done : (olds news : List U) (lasts : List F) (receipt : InputReceipt) (digest : List ℕ) → lasts ≡ map below news → DoesTask task (used u olds news) out (raw_check check) outcome → reported ≡ Ok receipt → AreOpened f u below check olds
        → ShareDigest f u below (skipped_of receipt.spared (spares task)) digest news → DoesPublished task (used f (map below olds) lasts) out check (Ok (record { counts = receipt.counts; input = digest; raw = receipt.input }))
    task_done [] news lasts receipt digest same does is opened share = absurd does
    task_done (old ∷ olds) [] lasts receipt digest same does is opened share = absurd does
    task_done (old ∷ olds) (now ∷ news) lasts receipt digest same does is opened share =
        let raw = mark_by (raw_check check) receipt.input in
        let took : List (List ℕ) → Type 0 = λ files. TookBy out (λ written. TaskHolds task files receipt.counts written) in
        let given = outcome_receipt outcome (λ r. GaveFiles (spares task) (fed u old now) (used u olds news) r.spared (mark_by (raw_check check) r.input) (λ files. TookBy out (λ written. TaskHolds task files r.counts written))) does.receipt reported receipt is lacks tells in
        subst (λ l. DoesPublished task (used f (map below (old ∷ olds)) l) out check (Ok (record { counts = receipt.counts; input = digest; raw = receipt.input }))) (sym same) (record {
          receipt = published_of f (below old) (below now) given check (Some digest) opened.0 share.0 digest refl
              (λ b. GaveEachOrNone (take (spares task) (packed olds news)) (mark_by check digest) raw b (λ some. GavePublishedEach (drop (spares task) (packed olds news)) (mark_by check digest) raw (λ files. took (b ∷ some ++ files))))
              (λ b more. some_published (spares task) receipt.spared olds news digest raw b (λ some files. took (b ∷ some ++ files)) opened.1 share.1 more);
          stops = tt;
          beginning = tt;
        })

    -- it stopped
    pub task_stopped : (olds news : List U) (h : PublishedHalt) → DoesTask task (used u olds news) out (raw_check check) outcome → reported ≡ Err h → AreOpened f u below check olds → (lacks ≡ false → FailBelow f u below news) → DoesPublished task (packed olds news) out check (Err h)
    task_stopped [] news h does is opened fail = absurd does
    task_stopped (old ∷ olds) [] h does is opened fail = absurd does
    task_stopped (old ∷ olds) (now ∷ news) h does is opened fail = record {
      receipt = tt;
      stops = outcome_stops lacks outcome reported tells _ _ _ _ _ _ _ h is
          (λ e refused. (fault_as (judge_of task) _ _ e opened.0.remaining refused.0.0, refused.1))
          (λ none. fails_below (old ∷ olds) (now ∷ news) opened (fail none))
          (λ pass changed. inr (changed_packed olds news old _ 2 pass opened.0 opened.1 changed))
          (with_nothing _ _ _ _ _ _ _ does.ends.refused does.ends.stops);
      beginning = outcome_beginning lacks outcome reported tells _ _ h is (λ begun b supply. begun b (supply_above (old ∷ olds) (now ∷ news) b opened supply)) does.beginning;
    }

    -- it was done, but the digests weren't the same
    pub task_changed : (olds news : List U) (lasts : List F) (receipt : InputReceipt) (s : Stop) (h : PublishedHalt) → lasts ≡ map below news → DoesTask task (used u olds news) out (raw_check check) outcome → reported ≡ Ok receipt → AreOpened f u below check olds → length news ≡ length olds
        → DigestsDiffer f u below (skipped_of receipt.spared (spares task)) news s → h.stop ≡ s → DoesPublished task (used f (map below olds) lasts) out check (Err h)
    task_changed [] news lasts receipt s h same does is opened many differ stops = absurd does
    task_changed (old ∷ olds) [] lasts receipt s h same does is opened many differ stops = absurd does
    task_changed (old ∷ olds) (now ∷ news) lasts receipt s h same does is opened many differ stops =
        let given = outcome_receipt outcome (λ r. GaveFiles (spares task) (fed u old now) (used u olds news) r.spared (mark_by (raw_check check) r.input) (λ files. TookBy out (λ written. TaskHolds task files r.counts written))) does.receipt reported receipt is lacks tells in
        let told = digest_told f (below old) (below now) given check in
        let known = f.remaining (below old) in
        let changed : (pass : ℕ) × (s ≡ stop.Changed pass) × ChangedFrom 1 known (map supply_of (packed (old ∷ olds) (now ∷ news))) pass = elim differ [
          | inl none ↦ (1, none.0, inl (refl, first_unknown check known None (told None opened.0 none.1) refl))
          | inr other ↦
              let later = some_differs (spares task) receipt.spared olds news other.0 (mark_by (raw_check check) receipt.input) given.file (λ some files. TookBy out (λ written. TaskHolds task (given.file ∷ some ++ files) receipt.counts written)) known 2 s (told (Some other.0) opened.0 other.1) opened.1 given.holding other.2 (omega (arith, many)) in
              (later.0, later.1, inr later.2)
        ] in
        subst (λ l. DoesPublished task (used f (map below (old ∷ olds)) l) out check (Err h)) (sym same) (record {
          receipt = tt;
          stops = changed_stop _ _ _ _ _ _ changed.0 stops changed.1 changed.2;
          beginning = changed_any _ h.stop s changed.0 stops changed.1;
        })

-- ---- a feed that a reference goes to

abbrev pub behind : {F : Type 0} → feed.Ghosts F → feed.Ghosts (MutBor F)
behind f = record { remaining = λ r. f.remaining r.now; failures = λ r. f.failures r.now; lender = λ r. r.ghost_name ∷ f.lender r.now; has_passed = λ r log b. f.has_passed r.now log b }

pub opened_behind : {F U : Type 0} (f : feed.Ghosts F) (u : feed.Ghosts U) (check : PassCheck) (r : MutBor F) (now : U) → IsOpened (behind f) u check r now → IsOpened f u check r.now now
opened_behind f u check r now is = record { remaining = is.remaining; failures = is.failures; hashed = is.hashed; logged = is.logged }

pub digest_behind : {F U : Type 0} (f : feed.Ghosts F) (u : feed.Ghosts U) (r : MutBor F) (last : F) (now : U) (o : Option (List ℕ)) → r.now ≡ last → HasDigest (behind f) u r now o → HasDigest f u last now o
digest_behind f u r last now o same has = subst (λ x. HasDigest f u x now o) same (record { means = has.means; logged = has.logged; there = has.there })

-- ---- feeds that are opened one after another

-- what is said of a published feed
abbrev pub published : {F : Type 0} → feed.Ghosts F → feed.Ghosts (UnpackedFeed (TracedFeed (PassFeed F)))
published f =
    let hashed : feed.Ghosts (PassFeed _) = record { remaining = λ h. f.remaining h.feed; failures = λ h. f.failures h.feed; lender = λ h. f.lender h.feed; has_passed = λ h log b. HasCounted (f.has_passed h.feed) h.hasher h.count log b } in
    let traced : feed.Ghosts (TracedFeed (PassFeed _)) = record { remaining = λ t. hashed.remaining t.feed; failures = λ t. hashed.failures t.feed; lender = λ t. hashed.lender t.feed; has_passed = λ t log b. HasTraced hashed t.feed log b } in
    record { remaining = λ u. remaining_in traced.remaining u; failures = λ u. refusals u.state + traced.failures u.feed; lender = λ u. traced.lender u.feed; has_passed = λ u log b. HasSupplied traced.remaining traced.has_passed u log b }

pub opened_more : {F U : Type 0} (f : feed.Ghosts F) (u : feed.Ghosts U) (below : U → F) (check : PassCheck) (opened : List U) (one : U) → AreOpened f u below check opened → IsOpened f u check (below one) one → AreOpened f u below check (opened ++ one ∷ [])
opened_more f u below check [] one are is = (is, tt)
opened_more f u below check (first ∷ opened) one are is = (are.0, opened_more f u below check opened one are.1 is)

-- ---- feeds that are compared one after another

module _ {F U : Type 0} (f : feed.Ghosts F) (u : feed.Ghosts U) (below : U → F) (digest : List ℕ) (feeds more : List U) (one : U) (are : feeds ≡ one ∷ more) (o : Option (List ℕ)) (has : HasDigest f u (below one) one o) where
  module _ (skipped : ℕ) (none : skipped ≡ 0) (number : ℕ) (s : Stop) where
    pub first_other : s ≡ stop.Changed number → (o ≡ Some digest → ⊥) → OtherDigest f u below skipped digest number feeds s
    first_other changed other = rw (none, are) (inl (changed, o, has, other))

    pub later_other : OtherDigest f u below 0 digest (number + 1) more s → OtherDigest f u below skipped digest number feeds s
    later_other other = rw (none, are) (inr other)

  pub first_same : (skipped : ℕ) → skipped ≡ 0 → o ≡ Some digest → HaveDigest f u below 0 digest more → HaveDigest f u below skipped digest feeds
  first_same skipped none same have = rw (none, are) (subst (λ d. HasDigest f u (below one) one d) same has, have)

  pub all_share : (skipped : ℕ) → o ≡ Some digest → HaveDigest f u below skipped digest more → ShareDigest f u below skipped digest feeds
  all_share skipped same have = rw are (subst (λ d. HasDigest f u (below one) one d) same has, have)

  pub one_differs : (skipped : ℕ) (s : Stop) → o ≡ Some digest → OtherDigest f u below skipped digest 2 more s → DigestsDiffer f u below skipped feeds s
  one_differs skipped s same other = rw are (inr (digest, subst (λ d. HasDigest f u (below one) one d) same has, other))

-- ---- how many passes

-- all but the first and the last may be spared
pub spares_are : (t : Task) (feeds : ℕ) → feeds ≡ passes_of t → feeds - 2 ≡ spares t
spares_are t feeds is = grind arith

pub few_passes : (t : Task) → passes_of t < 5
few_passes t = grind arith
