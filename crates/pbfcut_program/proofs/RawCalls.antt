-- What pbfcut's calls report of what went through their devices.
use Rattle.std.proofs.Common.{◌≡◌, ◌⊎◌, inl, inr, ℕ, zero, suc, ◌+◌, ◌-◌, arith, take, drop, length, List, [], ◌∷◌, ◌++◌, Bool, true, false, Option, Some, None, Result, Ok, Err, IfOk, IfSome, refl, sym, subst, ap, ◌∙◌}
use Rattle.std.proofs.lemmas.List.{append-nil, map-id}
use Rattle.pbf_frame.specs.declared.device.Feed as feed
use Rattle.pbf_frame.specs.declared.device.Drain as drain
use Rattle.pbf_frame.specs.declared.stop.Stop.TheVariants as stop
use Rattle.pbf_pass.specs.Stops.{WriteFailed}
use Rattle.pbf_frame.specs.Devices.{IsAtEnd, prepend}
use Rattle.pbf_frame.specs.Verdict.{Verdict}
use Rattle.pbf_pass.specs.declared.receipt.Halt.{Halt}
use Rattle.pbf_pass.specs.declared.receipt.Halt.TheVariants as halt
use Rattle.pbf_pass.specs.declared.receipt.InputReceipt.{InputReceipt}
use Rattle.pbf_pass.specs.Given.{GaveFile}
use Rattle.pbf_pass.specs.Hashing.{IsDigestOf, Mark, mark_by, no_mark}
use Rattle.pbf_pass.specs.declared.hashing.PassCheck.{PassCheck}
use Rattle.pbf_pass.specs.Judged.{judged_file}
use Rattle.pbf_pass.specs.Pass.{CountsFile}
use Rattle.pbf_pass.specs.Refused.{EndsJudging, RefusesFile, stop_of}
use Rattle.pbf_unpack.specs.Unpacked.{Unpacked}
use Rattle.pbf_unpack.proofs.UnpackedLemmas.{nothing_more}
use Rattle.pbfcut.specs.Calls.{ChangedLater, GaveEach, GaveEachOrNot, IfMore, TookBy, drained, fed, used}
use Rattle.pbfcut.specs.TaskCalls.{DoesTask}
use Rattle.pbfcut.specs.Tasks.{Task, TaskHolds, checking, judge_of, spares}
use Rattle.pbfcut.specs.Changes.{ChangedAt, GaveOther}
use Rattle.pbfcut.specs.Ends.{EndsPasses, TookNothing}
use Rattle.pbfcut_cli.specs.declared.endings.Ending.TheVariants as ending
use Rattle.pbfcut_cli.specs.declared.programs.Program.{Program}
use Rattle.pbfcut_cli.specs.declared.programs.Program.TheVariants.{Pbfcut, Pbfcutz}
use Rattle.pbfcut_program.specs.declared.engine.Report.{Report}
use Rattle.pbfcut_program.specs.declared.engine.Halted.{Halted}
use Rattle.pbfcut_program.specs.Devices.{AreFresh, EndsFor, GiveLater, GivesFaulty, GivesIts, GivesOther, GivesOtherAt, GivesToEnd, StopsFor, Works}
use Rattle.pbfcut_program.specs.Fails.{EndsAsStop}
use Rattle.pbfcut_program.specs.Manner.{AreDigests, manner, meant, output_form}
use Rattle.pbfcut_program.specs.Outcomes.{ReportsRaw}

-- a call that halted
abbrev Stopped : (X : Type 0) → Halt → Result X Halt
Stopped X h = Err h

-- what was supplied to the end is what there was to supply
whole_had : (file : List ℕ) (had left : Option (List ℕ)) → had ≡ prepend file left → IsAtEnd left → IfSome had (λ all. all ≡ file)
whole_had file None left is end = tt
whole_had file (Some all) None is end = absurd (some_none is) where
  some_none : {A : Type 0} {a : A} → ◌≡◌ {A = Option A} (Some a) None → ⊥
  some_none e = cc
whole_had file (Some all) (Some rest) is end = some_same is ∙ ap (λ r. file ++ r) end ∙ append-nil file where
  some_same : {A : Type 0} {a b : A} → Some a ≡ Some b → a ≡ b
  some_same e = cc

module _ {F : Type 0} (f : feed.Ghosts F) where
  gives_file : {digest : Mark} {holds : List ℕ → Type 0} {old now : F} (known : List ℕ → Type 0) → ((file : List ℕ) → IsDigestOf digest file → known file) → f.has_passed old 0 [] → (g : GaveFile f old now digest holds) → GivesToEnd f known now g.file
  gives_file known is start g = record { passed = g.supplied.gave.logged 0 [] start; end = g.supplied.end; is_known = is g.file g.digest_is }

  -- and it is what the feed had to give
  gives_its : {digest : Mark} {holds : List ℕ → Type 0} {old now : F} (known : List ℕ → Type 0) → ((file : List ℕ) → IsDigestOf digest file → known file) → f.has_passed old 0 [] → (g : GaveFile f old now digest holds) → GivesIts f known old now g.file
  gives_its known is start g = (gives_file known is start g, whole_had g.file _ _ g.supplied.gave.told g.supplied.end)

  -- of which nothing is known
  gives_some : {holds : List ℕ → Type 0} {old now : F} → f.has_passed old 0 [] → (g : GaveFile f old now no_mark holds) → GivesToEnd f (λ _. Unit {0}) now g.file
  gives_some start g = gives_file (λ _. Unit {0}) (λ _ _. tt) start g

  gives_faulty : {by : PassCheck} (judge : Option (List ℕ) → Option Verdict) {old now : F} (r : _) → f.has_passed old 0 [] → RefusesFile f old now by (λ b. judge (Some b)) r → GivesFaulty f judge r.fault now
  gives_faulty judge r start x = record { bytes = x.bytes.read; passed = x.bytes.logged 0 [] start; faulty = x.bytes.faulty }

  gives_other : (old now : F) (file : List ℕ) → f.has_passed old 0 [] → GaveOther f old now file → GivesOther f file now
  gives_other old now file start x = record { bytes = x.read; passed = x.logged 0 [] start; other = x.faulty }

-- how a call ended is how its halt is reported
reported_ends : {F : Type 0} (f : feed.Ghosts F) (judge : Option (List ℕ) → Option Verdict) (olds news : List F) (nothing failed : Type 0) (h : Halt) (halted : Halted) → halted.ending ≡ ending.Stopped (stop_of h) → StopsFor Pbfcut f judge olds news nothing failed (stop_of h) → EndsFor Pbfcut f judge olds news nothing failed halted.ending
reported_ends f judge olds news nothing failed h halted e stops = (stop_of h, subst (EndsAsStop Pbfcut (stop_of h)) (sym e) refl, stops)

-- ---- one pass

-- nothing means nothing
pub none_meant : (packs : Bool) (program : Program) → meant (output_form packs program) [] ≡ []
none_meant false program = refl
none_meant true Pbfcut = refl
none_meant true Pbfcutz = ap (λ (u : Unpacked). u.0) (nothing_more 0)

module _ {F : Type 0} (f : feed.Ghosts F) (packs digests : Bool) (by : PassCheck) (one one_now : F) (fresh : AreFresh f (one ∷ [])) where
  check_ends : (failed : Type 0) (h : Halt) → EndsJudging f one one_now by (Stopped InputReceipt h) → StopsFor Pbfcut f judged_file (one ∷ []) (one_now ∷ []) (◌≡◌ {A = List ℕ} [] []) failed (stop_of h)
  check_ends failed h h2 = grind (arith, gives_faulty)

  pub check_works : (outcome : Result InputReceipt Halt) (result : Result Report Halted)
      → IfOk outcome (λ receipt. GaveFile f one one_now (mark_by by receipt.input) (λ file. CountsFile (judged_file (Some file)) receipt.counts)) → EndsJudging f one one_now by outcome → ReportsRaw outcome result
      → Works (manner Pbfcut packs digests) by f checking (one ∷ []) (one_now ∷ []) (λ took. took ≡ []) ⊥ result
  check_works (Ok receipt) (Ok report) given ends r =
      rw (r.0, r.1) record {
        files = given.file ∷ [];
        written = [];
        gave = (gives_its f (AreDigests (manner Pbfcut packs digests) by receipt.input report.raw) (λ file is. (is, r.2)) fresh.0.0 given, tt);
        took_them = refl;
        holds = (given.holding, none_meant packs Pbfcut);
      }
  check_works (Err h) (Err halted) given ends r = reported_ends f judged_file (one ∷ []) (one_now ∷ []) (◌≡◌ {A = List ℕ} [] []) ⊥ h halted r (check_ends _ h ends)
  check_works _ _ given ends r = absurd r

-- ---- more passes

-- if so many feeds may be spared, one less may be after the next
pub give_less : {F : Type 0} (f : feed.Ghosts F) (known : List ℕ → Type 0) (may : ℕ) (first : List ℕ) (olds news : List F) (files : List (List ℕ)) → GiveLater f known may first olds news files → GiveLater f known (suc may - 1) first olds news files
give_less f known may first olds news files give = (let e : may ≡ suc may - 1 = omega arith in subst (λ m. GiveLater f known m first olds news files) e give)

module _ {F : Type 0} (f : feed.Ghosts F) (known : List ℕ → Type 0) (digest : Mark) (is : (file : List ℕ) → IsDigestOf digest file → known file) (first : List ℕ) where
  -- the files of later feeds
  later_gives : (olds news : List F) (holds : List (List ℕ) → Type 0) → AreFresh f olds → length news ≡ length olds → GaveEach (used f olds news) digest holds → (files : List (List ℕ)) × GiveLater f known 0 first olds news files × holds files
  later_gives [] [] holds fresh many given = ([], tt, given)
  later_gives [] (now ∷ news) holds fresh many given = (let bad : ⊥ = omega (arith, many) in absurd bad)
  later_gives (old ∷ olds) [] holds fresh many given = (let bad : ⊥ = omega (arith, many) in absurd bad)
  later_gives (old ∷ olds) (now ∷ news) holds fresh many given =
      let more = later_gives olds news (λ files. holds (given.file ∷ files)) fresh.1 (omega (arith, many)) given.holding in
      (given.file ∷ more.0, (inl (gives_its f known is fresh.0.0 given), more.1), more.2)

  -- of which so many may have been spared
  some_gives : (may : ℕ) (spared : Bool) (olds news : List F) (holds : (some files : List (List ℕ)) → Type 0) → AreFresh f olds → length news ≡ length olds → GaveEachOrNot (take may (used f olds news)) spared digest first (λ some. GaveEach (drop may (used f olds news)) digest (λ files. holds some files))
      → (some : List (List ℕ)) × (files : List (List ℕ)) × GiveLater f known may first olds news (some ++ files) × holds some files
  some_gives zero true olds news holds fresh many given = (let l = later_gives olds news (holds []) fresh many given in ([], l.0, l.1, l.2))
  some_gives zero false olds news holds fresh many given = (let l = later_gives olds news (holds []) fresh many given in ([], l.0, l.1, l.2))
  some_gives (suc may) spared [] [] holds fresh many given = ([], [], tt, given)
  some_gives (suc may) spared [] (now ∷ news) holds fresh many given = (let bad : ⊥ = omega (arith, many) in absurd bad)
  some_gives (suc may) spared (old ∷ olds) [] holds fresh many given = (let bad : ⊥ = omega (arith, many) in absurd bad)
  some_gives (suc may) true (old ∷ olds) (now ∷ news) holds fresh many given =
      let more = some_gives may true olds news (λ some files. holds (first ∷ some) files) fresh.1 (omega (arith, many)) given.1 in
      (first ∷ more.0, more.1, (inr (omega arith, given.0, refl), give_less f known may first olds news (more.0 ++ more.1) more.2), more.3)
  some_gives (suc may) false (old ∷ olds) (now ∷ news) holds fresh many given =
      let more = some_gives may false olds news (λ some files. holds (given.file ∷ some) files) fresh.1 (omega (arith, many)) given.holding in
      (given.file ∷ more.0, more.1, (inl (gives_its f known is fresh.0.0 given), give_less f known may first olds news (more.0 ++ more.1) more.2), more.3)

module _ {F D : Type 0} (f : feed.Ghosts F) (d : drain.Ghosts D) (out out_now : D) (digests : Bool) (by : PassCheck) (log : ℕ) (start : d.has_taken out log []) where
  -- why a call stops
  module _ (one one_now : F) (fresh_one : f.has_passed one 0 []) where
    -- one of the later feeds, the first of which is that of this pass, gave another file than the first
    record Found (pass number : ℕ) (olds news : List F) : Type 0 where
      file : List ℕ
      first : GivesToEnd f (λ _. Unit {0}) one_now file
      at : ℕ
      pass_is : pass ≡ at + number
      other : GivesOtherAt f file at olds news
      last : (length news ≡ at + 1) ⊎ d.has_taken out_now log []

    last_of : (now : F) (olds news : List F) → length news ≡ length olds → IfMore (used f olds news) (TookNothing (drained d out out_now)) → (length (now ∷ news) ≡ 0 + 1) ⊎ d.has_taken out_now log []
    last_of now olds [] many more = inl refl
    last_of now [] (next ∷ news) many more = (let bad : ⊥ = omega (arith, many) in absurd bad)
    last_of now (old ∷ olds) (next ∷ news) many more = inr (more.logged log [] start)

    found : (pass number : ℕ) (olds news : List F) → AreFresh f olds → length news ≡ length olds → ChangedLater (ChangedAt (fed f one one_now)) (TookNothing (drained d out out_now)) number (used f olds news) pass → Found pass number olds news
    found pass number [] news fresh many none = absurd none
    found pass number (old ∷ olds) [] fresh many none = absurd none
    found pass number (old ∷ olds) (now ∷ news) fresh many (inl c) = record {
      file = c.0.1.file;
      first = gives_some f fresh_one c.0.1;
      at = 0;
      pass_is = omega (arith, c.0.0);
      other = gives_other f old now c.0.1.file fresh.0.0 c.0.1.holding;
      last = last_of now olds news (omega (arith, many)) c.1;
    }
    found pass number (old ∷ olds) (now ∷ news) fresh many (inr c) =
        let m = found pass (number + 1) olds news fresh.1 (omega (arith, many)) c in
        record { file = m.file; first = m.first; at = suc m.at; pass_is = omega (arith, m.pass_is); other = m.other; last = elim m.last [ inl e ↦ inl (omega (arith, e)) | inr none ↦ inr none ] }

    call_ends : (judge : Option (List ℕ) → Option Verdict) (olds news : List F) (h : Halt) → AreFresh f olds → length news ≡ length olds → EndsPasses judge (fed f one one_now) (used f olds news) (drained d out out_now) by (Stopped InputReceipt h)
        → StopsFor Pbfcut f judge (one ∷ olds) (one_now ∷ news) (d.has_taken out_now log []) (WriteFailed d out out_now) (stop_of h)
    call_ends judge olds news (halt.Refused r) fresh many ends = (gives_faulty f judge r fresh_one ends.refused.0, ends.refused.1.logged log [] start)
    call_ends judge olds news (halt.Stopped (stop.Refused e)) fresh many ends = absurd (ends.refused e refl)
    call_ends judge olds news (halt.Stopped stop.Read) fresh many ends = ends.stops
    call_ends judge olds news (halt.Stopped stop.Write) fresh many ends = ends.stops
    call_ends judge olds news (halt.Stopped stop.Memory) fresh many ends = tt
    call_ends judge olds news (halt.Stopped (stop.Changed p)) fresh many ends =
        let m = found p 2 olds news fresh many ends.changed in
        record { file = m.file; first = m.first; at = m.at; pass_is = m.pass_is; other = m.other; last = m.last }

  pub raw_works : (task : Task) (olds news : List F) (outcome : Result InputReceipt Halt) (result : Result Report Halted) → length news ≡ length olds → DoesTask task (used f olds news) (drained d out out_now) by outcome → ReportsRaw outcome result → AreFresh f olds
      → Works (manner Pbfcut false digests) by f task olds news (d.has_taken out_now log) (WriteFailed d out out_now) result
  raw_works task [] news outcome result many does r fresh = absurd does
  raw_works task (old ∷ olds) [] outcome result many does r fresh = absurd does
  raw_works task (old ∷ olds) (now ∷ news) (Ok receipt) (Ok report) many does r fresh =
      let m = manner Pbfcut false digests in
      let known : List ℕ → Type 0 = AreDigests m by receipt.input report.raw in
      let is : (file : List ℕ) → IsDigestOf (mark_by by receipt.input) file → known file = λ file digest. (digest, r.2) in
      let given = does.receipt in
      let more = some_gives f known (mark_by by receipt.input) is given.file (spares task) receipt.spared olds news (λ some files. TookBy (drained d out out_now) (λ written. TaskHolds task (given.file ∷ some ++ files) receipt.counts written)) fresh.1 (omega (arith, many)) given.holding in
      let took = more.3 in
      let files = given.file ∷ more.0 ++ more.1 in
      rw (r.0, r.1) record {
        files = files;
        written = took.written;
        gave = (gives_its f known is fresh.0.0 given, more.2);
        took_them = took.added.logged log [] start;
        holds = subst (λ fs. TaskHolds task fs receipt.counts took.written) (sym (map-id files)) took.holding;
      }
  raw_works task (old ∷ olds) (now ∷ news) (Err h) (Err halted) many does r fresh =
      reported_ends f (judge_of task) (old ∷ olds) (now ∷ news) (d.has_taken out_now log []) (WriteFailed d out out_now) h halted r (call_ends old now fresh.0.0 (judge_of task) olds news h fresh.1 (omega (arith, many)) does.ends)
  raw_works task (old ∷ olds) (now ∷ news) (Ok receipt) (Err halted) many does r fresh = absurd r
  raw_works task (old ∷ olds) (now ∷ news) (Err h) (Ok report) many does r fresh = absurd r
