-- What holds of a call by what its drain took holds by what that says of OUT.
use Rattle.std.proofs.Common.{arith, ◌≡◌, ◌⊎◌, inl, inr, ℕ, ◌<◌, List, [], ◌∷◌, ◌++◌, map, take, drop, Bool, true, false, Option, None, Some, Result, Ok, Err, refl, ap, subst, sym, ◌∙◌}
use Rattle.std.proofs.lemmas.List.{append-nil, take-append-drop}
use Rattle.std.specs.Prelude.{IfSome}
use Rattle.sha2.specs.Sha256.{sha256}
use Rattle.pbf_frame.specs.declared.device.Feed as feed
use Rattle.pbf_frame.specs.declared.device.Drain as drain
use Rattle.pbf_frame.specs.declared.stop.Stop.TheVariants as stop
use Rattle.pbf_frame.specs.Devices.{IsFront, append}
use Rattle.pbf_frame.specs.Verdict.{Verdict}
use Rattle.pbf_pass.specs.Stops.{WriteFailed}
use Rattle.pbf_pass.specs.declared.hashing.PassCheck.{PassCheck}
use Rattle.pbf_unpack.specs.declared.drain.PackedDrain.{PackedDrain}
use Rattle.pbf_unpack.specs.Packing.{GaveAll, HasCompressed, failures_of_drain, frame_held, taken_raw}
use Rattle.pbf_unpack.specs.RawFrames.{IsRawFile}
use Rattle.pbf_unpack.specs.Unpacked.{Unpacked, unpacked}
use Rattle.pbf_unpack.proofs.PackingLemmas.{packed_means}
use Rattle.pbf_unpack.proofs.ReportLemmas.{means_none}
use Rattle.pbf_unpack.proofs.UnpackedLemmas.{nothing_more}
use Rattle.pbfcut.specs.Calls.{AllSupply}
use Rattle.pbfcut_cli.specs.declared.endings.Ending.{Ending}
use Rattle.pbfcut_cli.specs.declared.endings.Ending.TheVariants as ending
use Rattle.pbfcut_cli.specs.declared.programs.Program.{Program}
use Rattle.pbfcut_cli.specs.declared.programs.Program.TheVariants.{Pbfcutz}
use Rattle.pbfcut_program.specs.declared.engine.Report.{Report}
use Rattle.pbfcut_program.specs.declared.engine.Halted.{Halted}
use Rattle.pbfcut_program.specs.Devices.{ChangesBy, DrainFailed, EndsFor, FinishesPacked, Fronts, MeansBy, PackingFailed, Wholes, Works}
use Rattle.pbfcut_program.specs.Fails.{EndsAsStop}
use Rattle.pbfcut_program.specs.Manner.{Form, manner, of_input, output_form, packed_file, raw_file}
use Rattle.pbfcut.specs.Tasks.{Task, TaskHolds, answer_of, judge_of}
use Rattle.pbfcut_program.proofs.EventLemmas.{has_risen}
use Rattle.pbfcut_program.proofs.FailLemmas.{caused_weaker}

module _ {F : Type 0} (f : feed.Ghosts F) (nothing none : Type 0) (n : nothing → none) where
  last_weaker : (X : Type 0) → (X ⊎ nothing) → (X ⊎ none)
  last_weaker X h1 = grind arith

  change_weaker : (program : Program) (pass : ℕ) (olds news : List F) → ChangesBy program f nothing pass olds news → ChangesBy program f none pass olds news
  change_weaker program pass olds news h4 = grind (arith, last_weaker)

  pub ends_weaker : (program : Program) (judge : Option (List ℕ) → Option Verdict) (failed risen : Type 0) (how : Ending) (olds news : List F) → (failed → risen) → EndsFor program f judge olds news nothing failed how → EndsFor program f judge olds news none risen how
  ends_weaker program judge failed risen how olds news r e = (e.0, e.1, caused_weaker _ _ _ _ _ _ _ _ e.0 (λ x c. (c.0, n c.1)) (λ a. a) r (λ p c. change_weaker program p olds news c) e.2)

-- a drain below may have taken other bytes for what a drain took, which mean the same
pub works_weaker : (program : Program) (packs digests : Bool) (by : PassCheck) {F : Type 0} (f : feed.Ghosts F) (task : Task) (olds news : List F) (took taken : List ℕ → Type 0) (failed risen : Type 0) (result : Result Report Halted)
    → ((w : List ℕ) → took w → taken w) → (failed → risen) → Works (manner program packs digests) by f task olds news took failed result → Works (manner program packs digests) by f task olds news taken risen result
works_weaker program packs digests by f task olds news took taken failed risen result h12 h13 h14 = grind (arith, ends_weaker)

-- raw blobs are what OUT gets
pub works_raw : (program : Program) (packs digests : Bool) (by : PassCheck) {F : Type 0} (f : feed.Ghosts F) (task : Task) (olds news : List F) (took : List ℕ → Type 0) (failed : Type 0) (result : Result Report Halted) → output_form packs program ≡ raw_file
    → Works (manner program false digests) by f task olds news took failed result → Works (manner program packs digests) by f task olds news took failed result
works_raw program packs digests by f task olds news took failed result h10 h11 = grind arith

-- and then one of its writes failed
pub raw_failed : {D : Type 0} (d : drain.Ghosts D) (form : Form) (task : Task) (has : List (Option (List ℕ))) (old new : D) → form ≡ raw_file → WriteFailed d old new → DrainFailed d form task has new
raw_failed d form task has old new is risen = subst (λ (o : Form). DrainFailed d o task has new) (sym is) (has_risen _ _ risen)

-- ---- a drain that packs

first_none : (xs ys : List ℕ) → [] ≡ xs ++ ys → xs ≡ []
first_none [] ys is = refl
first_none (x ∷ xs) ys is = (let bad : ⊥ = cc in absurd bad)

-- what took nothing gave nothing
none_packed : {D : Type 0} {d : drain.Ghosts D} (p : PackedDrain D d) (log : ℕ) → HasCompressed p log [] → d.has_taken p.below.drain log []
none_packed {d = d} p log has = grind (arith, packed_means has.done has.packed has.means, d.has_taken p.below.drain log, means_none 0 has.packed ((ap (λ (u : Unpacked). u.0) (packed_means has.done has.packed has.means)) ∙ first_none has.done (frame_held p.frame) has.split), first_none has.done (frame_held p.frame) has.split)

-- what a drain took that had taken nothing, and what it is the beginning of
goes_on : (before known : Option (List ℕ)) (part rest all : List ℕ) → IfSome before (λ taken. taken ≡ []) → known ≡ append before part → part ++ rest ≡ all → (p : List ℕ → Type 0) → p all → IfSome known (λ raw. p (raw ++ rest))
goes_on before known part rest all fresh is whole p holds = subst (λ k. IfSome k (λ raw. p (raw ++ rest))) (sym is) (by before fresh) where
  by : (o : Option (List ℕ)) → IfSome o (λ taken. taken ≡ []) → IfSome (append o part) (λ raw. p (raw ++ rest))
  by None none = tt
  by (Some taken) none = subst p (sym (ap (λ (l : List ℕ). (l ++ part) ++ rest) none ∙ whole)) holds

-- what a call came to, and what that comes to once its drain, which packs, is finished; and why a write failed then
abbrev pub Finished : {A D : Type 0} {d : drain.Ghosts D} → (mid new : PackedDrain D d) → (failed lost : Type 0) → (returned result : Result A Halted) → Type 0
Finished mid new failed lost (Ok report) (Ok same) = (same ≡ report) × GaveAll mid new
Finished mid new failed lost (Ok report) (Err halted) = (halted.ending ≡ ending.Stopped stop.Memory) ⊎ ((halted.ending ≡ ending.Stopped stop.Write) × lost)
Finished mid new failed lost (Err halted) (Err same) = (new ≡ mid) × ((same.ending ≡ ending.Stopped stop.Memory) ⊎ ((same.ending ≡ halted.ending) × (halted.ending ≡ ending.Stopped stop.Write → failed → lost)))
Finished mid new failed lost (Err halted) (Ok report) = ⊥

module _ (digests : Bool) (by : PassCheck) {F D : Type 0} (f : feed.Ghosts F) {d : drain.Ghosts D} (mid new : PackedDrain D d) (digest : Option (List ℕ)) (task : Task) (olds news : List F) (failed lost : Type 0) where
  -- what a drain took that packs, and what OUT took once it was finished
  abbrev Above : List ℕ → Type 0
  Above w = HasCompressed mid 0 w × IfSome digest (λ known. known ≡ sha256 w)

  abbrev Below : List ℕ → Type 0
  Below w = d.has_taken new.below.drain 0 w × MeansBy packed_file digest w

  nothing_below : new ≡ mid → Above [] → Below []
  nothing_below same t = grind (arith, none_packed mid 0 t.0, nothing_more 0)

  abbrev PackedEnds : Ending → Type 0
  PackedEnds how = EndsFor Pbfcutz f (judge_of task) olds news (Below []) lost how

  memory_packed : (how : Ending) → how ≡ ending.Stopped stop.Memory → PackedEnds how
  memory_packed how e = subst PackedEnds (sym e) (stop.Memory, refl, tt)

  write_packed : (how : Ending) → how ≡ ending.Stopped stop.Write → lost → PackedEnds how
  write_packed how e why = subst PackedEnds (sym e) (stop.Write, refl, why)

  written : (how : Ending) → EndsAsStop Pbfcutz stop.Write how → how ≡ ending.Stopped stop.Write
  written how e = grind arith

  -- an ending that may be a failed write
  lost_packed : (how : Ending) → (how ≡ ending.Stopped stop.Write → failed → lost) → EndsFor Pbfcutz f (judge_of task) olds news (Above []) failed how → EndsFor Pbfcutz f (judge_of task) olds news (Above []) lost how
  lost_packed how why (stop.Refused e, is, c) = (stop.Refused e, is, c)
  lost_packed how why (stop.Read, is, c) = (stop.Read, is, c)
  lost_packed how why (stop.Write, is, c) = (stop.Write, is, why (written how is) c)
  lost_packed how why (stop.Memory, is, c) = (stop.Memory, is, c)
  lost_packed how why (stop.Changed pass, is, c) = (stop.Changed pass, is, c)

  same_packed : (how same : Ending) → new ≡ mid → EndsFor Pbfcutz f (judge_of task) olds news (Above []) failed how → same ≡ how → (how ≡ ending.Stopped stop.Write → failed → lost) → PackedEnds same
  same_packed how same kept ends is why = subst PackedEnds (sym is) (ends_weaker f (Above []) (Below []) (nothing_below kept) Pbfcutz (judge_of task) lost lost how olds news (λ x. x) (lost_packed how why ends))

  -- zlib blobs are what OUT gets, by a drain that was finished
  pub works_finished : (packs : Bool) (returned result : Result Report Halted) → packs ≡ true → Finished mid new failed lost returned result
      → Works (manner Pbfcutz false digests) by f task olds news Above failed returned → Works (manner Pbfcutz packs digests) by f task olds news Below lost result
  works_finished false returned result is fin works = (let bad : ⊥ = cc in absurd bad)
  works_finished true (Ok report) (Ok same) is fin works =
      let p = fin.1.logged 0 works.written works.took_them.0 in
      let means = ap (λ (u : Unpacked). u.0) p.means in
      rw fin.0 record {
        files = works.files;
        written = p.packed;
        gave = works.gave;
        took_them = (p.has_them, subst (λ w. IfSome digest (λ known. known ≡ sha256 w)) (sym means) works.took_them.1);
        holds = subst (λ w. TaskHolds task (map (of_input (manner Pbfcutz true digests)) works.files) report.counts w) (sym means) works.holds;
      }
  works_finished true (Ok report) (Err halted) is (inl none) works = memory_packed halted.ending none
  works_finished true (Ok report) (Err halted) is (inr (wrote, why)) works = write_packed halted.ending wrote why
  works_finished true (Err halted) (Err same) is (kept, inl none) works = memory_packed same.ending none
  works_finished true (Err halted) (Err same) is (kept, inr (shown, why)) works = same_packed halted.ending same.ending kept works shown why
  works_finished true (Err halted) (Ok report) is fin works = absurd fin

-- why OUT failed, by a drain that packs and had taken nothing
module _ {D : Type 0} {d : drain.Ghosts D} (mid new : PackedDrain D d) (task : Task) (has : List (Option (List ℕ))) (before : Option (List ℕ)) (fresh : IfSome before (λ taken. taken ≡ [])) (taken : taken_raw new ≡ taken_raw mid) where
  abbrev Lost : Type 0
  Lost = DrainFailed d packed_file task has new.below.drain

  -- it was given the whole answer
  pub whole_lost : ((bytes : List ℕ) → AllSupply bytes has → taken_raw mid ≡ append before (answer_of task (unpacked bytes))) → PackingFailed new [] → Lost
  whole_lost whole fails = λ bytes all sound.
      let answer = answer_of task (unpacked bytes) in
      fails (goes_on before (taken_raw new) answer [] answer fresh (taken ∙ whole bytes all) (append-nil answer) IsRawFile sound)

  -- or the beginning
  pub front_lost : ((bytes : List ℕ) → AllSupply bytes has → IsFront before (taken_raw mid) (answer_of task (unpacked bytes))) → ((rest : List ℕ) → PackingFailed new rest) → Lost
  front_lost front fails = λ bytes all sound.
      let part = front bytes all in
      let answer = answer_of task (unpacked bytes) in
      fails (drop part.count answer) (goes_on before (taken_raw new) (take part.count answer) (drop part.count answer) answer fresh (taken ∙ part.taken) (take-append-drop part.count answer) IsRawFile sound)

  module _ (failed : Type 0) (risen : failed → 0 < failures_of_drain mid) where
    finished : (returned result : Result Report Halted) → FinishesPacked mid new returned result → Fronts packed_file task has before (taken_raw mid) returned → Wholes packed_file task has before (taken_raw mid) returned → Finished mid new failed Lost returned result
    finished (Ok report) (Ok same) fin front whole = fin
    finished (Ok report) (Err halted) (inl none) front whole = inl none
    finished (Ok report) (Err halted) (inr (wrote, fails)) front whole = inr (wrote, whole_lost whole fails)
    finished (Err halted) (Err same) (kept, inl none) front whole = (kept, inl none)
    finished (Err halted) (Err same) (kept, inr (shown, fails)) front whole = (kept, inr (shown, λ wrote f. front_lost front (fails wrote (risen f))))
    finished (Err halted) (Ok report) fin front whole = fin

    -- zlib blobs are what OUT gets
    pub works_packed : (digests : Bool) (by : PassCheck) {F : Type 0} (f : feed.Ghosts F) (digest : Option (List ℕ)) (olds news : List F) (packs : Bool) (returned result : Result Report Halted) → packs ≡ true → FinishesPacked mid new returned result
        → Fronts packed_file task has before (taken_raw mid) returned → Wholes packed_file task has before (taken_raw mid) returned
        → Works (manner Pbfcutz false digests) by f task olds news (λ w. HasCompressed mid 0 w × IfSome digest (λ known. known ≡ sha256 w)) failed returned
        → Works (manner Pbfcutz packs digests) by f task olds news (λ w. d.has_taken new.below.drain 0 w × MeansBy packed_file digest w) Lost result
    works_packed digests by f digest olds news packs returned result is fin front whole works = works_finished digests by f mid new digest task olds news failed Lost packs returned result is (finished returned result fin front whole) works
