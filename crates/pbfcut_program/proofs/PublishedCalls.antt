-- What pbfcutz's calls report of what went through their devices.
use Rattle.std.proofs.Common.{arith, ◌≡◌, inl, ℕ, ◌<◌, zero, suc, List, [], ◌∷◌, ◌++◌, map, take, drop, length, Bool, false, Option, Some, Result, Ok, Err, IfOk, IfErr, refl, subst, sym, ap}
use Rattle.std.proofs.lemmas.List.{map-append}
use Rattle.pbf_frame.specs.declared.device.Feed as feed
use Rattle.pbf_frame.specs.declared.device.Drain as drain
use Rattle.pbf_pass.specs.Hashing.{mark_by, raw_check}
use Rattle.pbf_pass.specs.declared.hashing.PassCheck.{PassCheck}
use Rattle.pbf_pass.specs.Judged.{judged_file}
use Rattle.pbf_pass.specs.Pass.{CountsFile}
use Rattle.pbf_pass.specs.Stops.{Caused, FaultOf, ReadFailed, WriteFailed}
use Rattle.pbf_unpack.specs.Unpacked.{unpacked}
use Rattle.pbfcut.specs.Calls.{TookBy, drained, supply_of, used}
use Rattle.pbfcut.specs.Tasks.{Task, TaskHolds, checking, spares}
use Rattle.pbf_published.specs.declared.input.PublishedHalt.{PublishedHalt}
use Rattle.pbf_published.specs.declared.input.PublishedInput.{PublishedInput}
use Rattle.pbf_published.specs.Published.{GaveEachOrNone, GaveOrNone, GavePublished, GavePublishedEach, PassChanged, raw_of}
use Rattle.pbf_published.specs.PublishedTasks.{DoesPublished}
use Rattle.pbfcut_cli.specs.declared.programs.Program.TheVariants.{Pbfcutz}
use Rattle.pbfcut_program.specs.declared.engine.Report.{Report}
use Rattle.pbfcut_program.specs.declared.engine.Halted.{Halted}
use Rattle.pbfcut_program.specs.Devices.{AreFresh, GiveLater, GivesIts, GivesOrNot, Works}
use Rattle.pbfcut_program.specs.Manner.{AreDigests, manner}
use Rattle.pbfcut_program.specs.Outcomes.{ReportsPublished}
use Rattle.pbfcut_program.proofs.FailLemmas.{caused_weaker}
use Rattle.pbfcut_program.proofs.RawCalls.{give_less, none_meant}

-- a feed gave packed bytes, and this holds of the raw file that they mean
record Gave {F : Type 0} (f : feed.Ghosts F) (known : List ℕ → Type 0) (old now : F) (holds : List ℕ → Type 0) : Type 0 where
  file : List ℕ
  gives : GivesIts f known old now file
  holding : holds (unpacked file)

-- the same of a later one, which may have been spared
record GaveAfter {F : Type 0} (f : feed.Ghosts F) (known : List ℕ → Type 0) (may : ℕ) (first : List ℕ) (old now : F) (holds : List ℕ → Type 0) : Type 0 where
  file : List ℕ
  gives : GivesOrNot f known may first old now file
  holding : holds (unpacked file)

module _ {F : Type 0} (f : feed.Ghosts F) (packs digests : Bool) (by : PassCheck) (input r : List ℕ) (raw : Option (List ℕ)) (is : raw ≡ Some r) where
  -- what is known of the files that one call reports
  abbrev Known : List ℕ → Type 0
  Known = AreDigests (manner Pbfcutz packs digests) by input raw

  -- what passed by the first log is what is said of
  gave : {old now : F} {holds : List ℕ → Type 0} → f.has_passed old 0 [] → GavePublished f old now (mark_by by input) (mark_by (raw_check by) r) holds → Gave f Known old now holds
  gave {holds = holds} start g = grind (arith, (g.logged 0 start).packed, (g.logged 0 start).digest_is, (g.logged 0 start).is_known)

  gave_after : (may : ℕ) → 0 < may → {old now : F} {first : List ℕ} {holds : List ℕ → Type 0} → f.has_passed old 0 [] → GaveOrNone f old now (mark_by by input) (mark_by (raw_check by) r) (unpacked first) holds → GaveAfter f Known may first old now holds
  gave_after may some h0 h1 = grind (arith, gave)

  -- the files of later feeds
  later_gave : (first : List ℕ) (olds news : List F) (holds : List (List ℕ) → Type 0) → AreFresh f olds → length news ≡ length olds → GavePublishedEach (used f olds news) (mark_by by input) (mark_by (raw_check by) r) holds → (files : List (List ℕ)) × GiveLater f Known 0 first olds news files × holds (map unpacked files)
  later_gave first [] [] holds fresh many given = ([], tt, given)
  later_gave first [] (now ∷ news) holds fresh many given = (let bad : ⊥ = omega (arith, many) in absurd bad)
  later_gave first (old ∷ olds) [] holds fresh many given = (let bad : ⊥ = omega (arith, many) in absurd bad)
  later_gave first (old ∷ olds) (now ∷ news) holds fresh many given =
      let one : Gave f Known old now (λ raw. GavePublishedEach (used f olds news) (mark_by by input) (mark_by (raw_check by) r) (λ raws. holds (raw ∷ raws))) = gave fresh.0.0 given in
      let more = later_gave first olds news (λ raws. holds (unpacked one.file ∷ raws)) fresh.1 (omega (arith, many)) one.holding in
      (one.file ∷ more.0, (inl one.gives, more.1), more.2)

  -- of which so many may have been spared
  some_gave : (may : ℕ) (first : List ℕ) (olds news : List F) (holds : (some files : List (List ℕ)) → Type 0) → AreFresh f olds → length news ≡ length olds
      → GaveEachOrNone (take may (used f olds news)) (mark_by by input) (mark_by (raw_check by) r) (unpacked first) (λ some. GavePublishedEach (drop may (used f olds news)) (mark_by by input) (mark_by (raw_check by) r) (λ files. holds some files))
      → (some : List (List ℕ)) × (files : List (List ℕ)) × GiveLater f Known may first olds news (some ++ files) × holds (map unpacked some) (map unpacked files)
  some_gave zero first olds news holds fresh many given = (let l = later_gave first olds news (holds []) fresh many given in ([], l.0, l.1, l.2))
  some_gave (suc may) first [] [] holds fresh many given = ([], [], tt, given)
  some_gave (suc may) first [] (now ∷ news) holds fresh many given = (let bad : ⊥ = omega (arith, many) in absurd bad)
  some_gave (suc may) first (old ∷ olds) [] holds fresh many given = (let bad : ⊥ = omega (arith, many) in absurd bad)
  some_gave (suc may) first (old ∷ olds) (now ∷ news) holds fresh many given =
      let one : GaveAfter f Known (suc may) first old now (λ raw. GaveEachOrNone (take may (used f olds news)) (mark_by by input) (mark_by (raw_check by) r) (unpacked first) (λ some. GavePublishedEach (drop may (used f olds news)) (mark_by by input) (mark_by (raw_check by) r) (λ files. holds (raw ∷ some) files))) = gave_after (suc may) (omega arith) fresh.0.0 given in
      let more = some_gave may first olds news (λ some files. holds (unpacked one.file ∷ some) files) fresh.1 (omega (arith, many)) one.holding in
      (one.file ∷ more.0, more.1, (one.gives, give_less f Known may first olds news (more.0 ++ more.1) more.2), more.3)

-- ---- one pass

pub check_published : {F : Type 0} (f : feed.Ghosts F) (packs digests : Bool) (by : PassCheck) (one one_now : F) → AreFresh f (one ∷ []) → (outcome : Result PublishedInput PublishedHalt) (result : Result Report Halted)
    → IfOk outcome (λ receipt. GavePublished f one one_now (mark_by by receipt.input) (mark_by (raw_check by) receipt.raw) (λ file. CountsFile (judged_file (Some file)) receipt.counts))
    → IfErr outcome (λ h. Caused (FaultOf (judged_file (raw_of (f.remaining one)))) (ReadFailed f one one_now) ⊥ (PassChanged (f.remaining one ∷ [])) h.stop) → ReportsPublished outcome result
    → Works (manner Pbfcutz packs digests) by f checking (one ∷ []) (one_now ∷ []) (λ took. took ≡ []) ⊥ result
check_published f packs digests by one one_now fresh (Ok receipt) (Ok report) given stops r =
    let first = gave f packs digests by receipt.input receipt.raw report.raw r.2 fresh.0.0 given in
    rw (r.0, r.1) record { files = first.file ∷ []; written = []; gave = (first.gives, tt); took_them = refl; holds = (first.holding, none_meant packs Pbfcutz) }
check_published f packs digests by one one_now fresh (Err halt) (Err halted) given stops r = (halt.stop, r, caused_weaker _ _ _ _ _ _ _ _ halt.stop (λ e fault. (fault, refl)) (λ failed. inl failed) (λ none. absurd none) (λ p c. c) stops)
check_published f packs digests by one one_now fresh _ _ given stops r = absurd r

-- what these feeds have to give
pub supplies_are : {F : Type 0} (f : feed.Ghosts F) (olds news : List F) → length news ≡ length olds → map supply_of (used f olds news) ≡ map f.remaining olds
supplies_are f [] [] many = refl
supplies_are f [] (now ∷ news) many = (let bad : ⊥ = omega (arith, many) in absurd bad)
supplies_are f (old ∷ olds) [] many = (let bad : ⊥ = omega (arith, many) in absurd bad)
supplies_are f (old ∷ olds) (now ∷ news) many = ap (λ l. f.remaining old ∷ l) (supplies_are f olds news (omega (arith, many)))

-- ---- more passes

pub published_works : {F D : Type 0} (f : feed.Ghosts F) (d : drain.Ghosts D) (out out_now : D) (digests : Bool) (by : PassCheck) (log : ℕ) → d.has_taken out log [] → (task : Task) (olds news : List F) (outcome : Result PublishedInput PublishedHalt) (result : Result Report Halted) → length news ≡ length olds
    → DoesPublished task (used f olds news) (drained d out out_now) by outcome → ReportsPublished outcome result → AreFresh f olds → Works (manner Pbfcutz false digests) by f task olds news (d.has_taken out_now log) (WriteFailed d out out_now) result
published_works f d out out_now digests by log start task [] news outcome result many does r fresh = absurd does
published_works f d out out_now digests by log start task (old ∷ olds) [] outcome result many does r fresh = absurd does
published_works f d out out_now digests by log start task (old ∷ olds) (now ∷ news) (Ok receipt) (Ok report) many does r fresh =
    let took : List (List ℕ) → Type 0 = λ raws. TookBy (drained d out out_now) (λ written. TaskHolds task raws receipt.counts written) in
    let first : Gave f (AreDigests (manner Pbfcutz false digests) by receipt.input report.raw) old now (λ b. GaveEachOrNone (take (spares task) (used f olds news)) (mark_by by receipt.input) (mark_by (raw_check by) receipt.raw) b (λ some. GavePublishedEach (drop (spares task) (used f olds news)) (mark_by by receipt.input) (mark_by (raw_check by) receipt.raw) (λ files. took (b ∷ some ++ files)))) =
    gave f false digests by receipt.input receipt.raw report.raw r.2 fresh.0.0 does.receipt in
    let more = some_gave f false digests by receipt.input receipt.raw report.raw r.2 (spares task) first.file olds news (λ some files. took (unpacked first.file ∷ some ++ files)) fresh.1 (omega (arith, many)) first.holding in
    let given = more.3 in
    rw (r.0, r.1) record {
      files = first.file ∷ more.0 ++ more.1;
      written = given.written;
      gave = (first.gives, more.2);
      took_them = given.added.logged log [] start;
      holds = subst (λ raws. TaskHolds task (unpacked first.file ∷ raws) receipt.counts given.written) (sym (map-append unpacked more.0 more.1)) given.holding;
    }
published_works f d out out_now digests by log start task (old ∷ olds) (now ∷ news) (Err halt) (Err halted) many does r fresh =
    (halt.stop, r, caused_weaker _ _ _ _ _ _ _ _ halt.stop (λ e refused. (refused.0, refused.1.logged log [] start)) (λ failed. failed) (λ failed. failed) (λ p c. subst (λ has. PassChanged (f.remaining old ∷ has) p) (supplies_are f olds news (omega (arith, many))) c) does.stops)
published_works f d out out_now digests by log start task (old ∷ olds) (now ∷ news) (Ok receipt) (Err halted) many does r fresh = absurd r
published_works f d out out_now digests by log start task (old ∷ olds) (now ∷ news) (Err halt) (Ok report) many does r fresh = absurd r
