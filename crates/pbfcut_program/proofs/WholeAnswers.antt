-- What went out when a call of pbfcutz ended well, if its feeds had the same bytes.
use Rattle.std.proofs.Common.{◌≡◌, inl, inr, arith, ℕ, zero, suc, List, [], ◌∷◌, ◌++◌, map, take, drop, length, Bool, Some, Result, Ok, Err, sym, subst, ap, ◌∙◌}
use Rattle.pbf_block.specs.declared.counts.Counts.{Counts}
use Rattle.pbf_frame.specs.declared.device.Feed as feed
use Rattle.pbf_frame.specs.declared.device.Drain as drain
use Rattle.pbf_frame.specs.Devices.{append}
use Rattle.pbf_pass.specs.Hashing.{Mark}
use Rattle.pbf_pass.specs.Judged.{judged_file}
use Rattle.pbf_pass.specs.declared.hashing.PassCheck.{PassCheck}
use Rattle.pbf_unpack.specs.Unpacked.{unpacked}
use Rattle.pbfcut.specs.Calls.{AllSupply, TookBy, drained, used}
use Rattle.pbfcut.specs.Kept.{conversion_of, extract_of}
use Rattle.pbfcut.specs.Showing.{Shown, answer_text}
use Rattle.pbfcut.specs.Tasks.{Task, TaskHolds, answer_of, checking, converting, copying, extracting, showing, spares}
use Rattle.pbf_published.specs.declared.input.PublishedHalt.{PublishedHalt}
use Rattle.pbf_published.specs.declared.input.PublishedInput.{PublishedInput}
use Rattle.pbf_published.specs.Published.{GaveEachOrNone, GavePublishedEach}
use Rattle.pbf_published.specs.PublishedTasks.{DoesPublished}
use Rattle.pbfcut_program.specs.declared.engine.Report.{Report}
use Rattle.pbfcut_program.specs.declared.engine.Halted.{Halted}
use Rattle.pbfcut_program.specs.Devices.{Wholes}
use Rattle.pbfcut_program.specs.Manner.{packed_file}
use Rattle.pbfcut_program.specs.Outcomes.{ReportsPublished}

-- each of these is this one
abbrev AreAll : (b : List ℕ) → List (List ℕ) → Type 0
AreAll b [] = Unit {0}
AreAll b (file ∷ files) = (file ≡ b) × AreAll b files

-- what a task writes, if all files are the same
text_is : (dates : Bool) (file written : List ℕ) → Shown dates (judged_file (Some file)) written → written ≡ answer_of (showing dates) file
text_is dates file written shown = shown.is ∙ ap (answer_text dates) (sym shown.says)

written_is : (t : Task) (b : List ℕ) (files : List (List ℕ)) (counts : Counts) (w : List ℕ) → AreAll b files → TaskHolds t files counts w → w ≡ answer_of t b
written_is checking b (x ∷ []) counts w all holds = holds.1
written_is (showing dates) b (x ∷ y ∷ []) counts w all holds = subst (λ file. w ≡ answer_of (showing dates) file) all.1.0 (text_is dates y w holds.1)
written_is converting b (x ∷ y ∷ []) counts w all holds = subst (λ file. w ≡ conversion_of file) all.0 (holds.1 (all.0 ∙ sym all.1.0)).1.is
written_is copying b (x ∷ y ∷ []) counts w all holds = holds.1 ∙ all.1.0
written_is (extracting by area) b (x ∷ y ∷ z ∷ []) counts w all holds = subst (λ file. w ≡ extract_of by area file) all.0 (holds.1 (all.0 ∙ sym all.1.0) (all.0 ∙ sym all.1.1.0)).1.is
written_is (extracting by area) b (x ∷ y ∷ z ∷ v ∷ []) counts w all holds = subst (λ file. w ≡ extract_of by area file) all.0 (holds.1 (all.0 ∙ sym all.1.0) (all.0 ∙ sym all.1.1.0) (all.0 ∙ sym all.1.1.1.0)).1.is
written_is _ b files counts w all holds = absurd holds

-- what holds of the raw files that feeds gave holds of what these bytes mean
module _ {F : Type 0} (f : feed.Ghosts F) (digest raw_digest : Mark) (bytes : List ℕ) where
  each_given : (olds news : List F) (holds : List (List ℕ) → Type 0) → length news ≡ length olds → GavePublishedEach (used f olds news) digest raw_digest holds → AllSupply bytes (map f.remaining olds) → (raws : List (List ℕ)) × AreAll (unpacked bytes) raws × holds raws
  each_given [] [] holds many given all = ([], tt, given)
  each_given [] (now ∷ news) holds many given all = (let bad : ⊥ = omega (arith, many) in absurd bad)
  each_given (old ∷ olds) [] holds many given all = (let bad : ⊥ = omega (arith, many) in absurd bad)
  each_given (old ∷ olds) (now ∷ news) holds many given all =
      let raw = unpacked given.packed in
      let more = each_given olds news (λ raws. holds (raw ∷ raws)) (omega (arith, many)) given.holding all.1 in
      (raw ∷ more.0, (ap unpacked (sym (given.told bytes all.0)), more.1), more.2)

  -- of those that were spared it holds of the first
  some_given : (may : ℕ) (olds news : List F) (b : List ℕ) (holds : (some files : List (List ℕ)) → Type 0) → b ≡ unpacked bytes → length news ≡ length olds
      → GaveEachOrNone (take may (used f olds news)) digest raw_digest b (λ some. GavePublishedEach (drop may (used f olds news)) digest raw_digest (λ files. holds some files)) → AllSupply bytes (map f.remaining olds)
      → (some : List (List ℕ)) × (files : List (List ℕ)) × AreAll (unpacked bytes) (some ++ files) × holds some files
  some_given zero olds news b holds same many given all = (let l = each_given olds news (holds []) many given all in ([], l.0, l.1, l.2))
  some_given (suc may) [] [] b holds same many given all = ([], [], tt, given)
  some_given (suc may) [] (now ∷ news) b holds same many given all = (let bad : ⊥ = omega (arith, many) in absurd bad)
  some_given (suc may) (old ∷ olds) [] b holds same many given all = (let bad : ⊥ = omega (arith, many) in absurd bad)
  some_given (suc may) (old ∷ olds) (now ∷ news) b holds same many (inl given) all =
      let raw = unpacked given.packed in
      let more = some_given may olds news b (λ some files. holds (raw ∷ some) files) same (omega (arith, many)) given.holding all.1 in
      (raw ∷ more.0, more.1, (ap unpacked (sym (given.told bytes all.0)), more.2), more.3)
  some_given (suc may) (old ∷ olds) (now ∷ news) b holds same many (inr none) all =
      let more = some_given may olds news b (λ some files. holds (b ∷ some) files) same (omega (arith, many)) none.1 all.1 in
      (b ∷ more.0, more.1, (same, more.2), more.3)

pub published_whole : {F D : Type 0} (f : feed.Ghosts F) (d : drain.Ghosts D) (out out_now : D) (by : PassCheck) (task : Task) (olds news : List F) (outcome : Result PublishedInput PublishedHalt) (result : Result Report Halted) → length news ≡ length olds
    → DoesPublished task (used f olds news) (drained d out out_now) by outcome → ReportsPublished outcome result → Wholes packed_file task (map f.remaining olds) (d.taken out) (d.taken out_now) result
published_whole f d out out_now by task [] news outcome result many does r = absurd does
published_whole f d out out_now by task (old ∷ olds) [] outcome result many does r = absurd does
published_whole f d out out_now by task (old ∷ olds) (now ∷ news) (Ok receipt) (Ok report) many does r = λ bytes all.
    let given = does.receipt in
    let raw = unpacked given.packed in
    let same : raw ≡ unpacked bytes = ap unpacked (sym (given.told bytes all.0)) in
    let more = some_given f _ _ bytes (spares task) olds news raw (λ some files. TookBy (drained d out out_now) (λ w. TaskHolds task (raw ∷ some ++ files) receipt.counts w)) same (omega (arith, many)) given.holding all.1 in
    let took = more.3 in
    subst (λ w. d.taken out_now ≡ append (d.taken out) w) (written_is task (unpacked bytes) (raw ∷ more.0 ++ more.1) receipt.counts took.written (same, more.2) took.holding) took.added.told
published_whole f d out out_now by task (old ∷ olds) (now ∷ news) (Err halt) (Err halted) many does r = tt
published_whole f d out out_now by task (old ∷ olds) (now ∷ news) (Ok receipt) (Err halted) many does r = absurd r
published_whole f d out out_now by task (old ∷ olds) (now ∷ news) (Err halt) (Ok report) many does r = absurd r
