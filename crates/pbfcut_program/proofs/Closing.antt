-- What a call of the engine did, as events, once its devices are returned.
use Rattle.std.proofs.Common.{◌≡◌, ◌⊎◌, inl, inr, ℕ, zero, suc, ◌+◌, ◌-◌, ◌<◌, List, [], ◌∷◌, ◌++◌, length, map, Bool, false, true, Option, None, Some, Result, Ok, Err, IfErr, OnOk, is_ok, refl, ap, sym, subst, ◌∙◌, arith}
use Rattle.std.proofs.lemmas.List.{append-nil}
use Rattle.std.specs.Option.{is_some}
use Rattle.std.specs.Prelude.{IfSome}
use Rattle.sha2.specs.Sha256.{sha256}
use Rattle.pbf_frame.specs.declared.device.Feed as feed
use Rattle.pbf_frame.specs.declared.device.Drain as drain
use Rattle.pbf_frame.specs.declared.stop.Stop.{Stop}
use Rattle.pbf_frame.specs.declared.stop.Stop.TheVariants as stop
use Rattle.pbf_frame.specs.Verdict.{Verdict}
use Rattle.pbf_pass.specs.Stops.{WriteFailed}
use Rattle.pbf_pass.specs.declared.hashing.PassCheck.{PassCheck}
use Rattle.pbf_unpack.specs.RawFrames.{IsNearLimit}
use Rattle.pbfcut_cli.specs.declared.endings.Ending.{Ending}
use Rattle.pbfcut_cli.specs.declared.programs.Program.{Program}
use Rattle.pbfcut_cli.specs.declared.programs.Program.TheVariants.{Pbfcut, Pbfcutz}
use Rattle.pbfcut_program.specs.declared.engine.Report.{Report}
use Rattle.pbfcut_program.specs.declared.engine.Halted.{Halted}
use Rattle.pbfcut_program.specs.declared.host.FinishFault.{FinishFault}
use Rattle.pbfcut.specs.Calls.{AllSupply, AnyFailed, used}
use Rattle.pbfcut_program.specs.Devices.{AreFresh, ChangeIn, CloseAll, Closes, Finishes, Fronts, GiveAll, GiveLater, GivesOrNot, GivesOtherAt, IsAsked, IsFreshFeed, IsFreshOut, StopsFor, Works}
use Rattle.pbfcut_program.specs.Events.{Event, Reading, Writing, read, wrote, then_all, then_one}
use Rattle.pbfcut_program.specs.Fails.{Each, Fails, FailsToFinish, FailsToRead, FailsToWrite, Has, NearsLimit, Stops, WroteNothing, CauseOfWrite, judging, judging_for, readings}
use Rattle.pbfcut_program.specs.Manner.{AreDigests, Manner, input_form, manner, of_input, output_form}
use Rattle.pbfcut_program.specs.Outcomes.{EndsAfterText}
use Rattle.pbfcut_program.specs.Lines.{digest_if_asked}
use Rattle.pbfcut_program.specs.Readings.{IsOther, IsWholeOrSpared, IsWork, ReadAll, ReadLater}
use Rattle.pbfcut_program.specs.Leaving.{Answer, IsUnkept, Leaves, TookFront}
use Rattle.pbfcut.specs.Tasks.{Task, answer_of, judge_of, spares}
use Rattle.pbfcut_program.specs.Tasks.{GivesRaw}
use Rattle.pbfcut_program.specs.Telling.{Silent}
use Rattle.pbfcut_program.proofs.EventLemmas.{each_both, has_after, has_before, has_risen, nothing_read, readings_both, readings_of}
use Rattle.pbfcut_program.proofs.FailLemmas.{stop_fails, text_stops, write_weaker}
use Rattle.pbfcut_program.proofs.LeavingLemmas.{IsReturn, IsReturned, TakenFront, keeps_none, reads_return, returned_front, returned_silent, returned_unkept, taken_front, taken_is}
use Rattle.pbfcut_program.proofs.Logging.{and_then, then_none}

-- what a feed gave
abbrev pub reading : {F : Type 0} → feed.Ghosts F → F → List ℕ → Reading
reading f now bytes = record { bytes = bytes; left = f.remaining now; failures = f.failures now }

-- the events of readings
abbrev pub reads : List Reading → List Event
reads rs = map (λ r. read r) rs

-- ---- feeds

module _ {F : Type 0} (f : feed.Ghosts F) where
  -- whatever they gave
  pub close_rest : (news : List F) (l m : Option (List Event)) → CloseAll f news l m → (rs : List Reading) × (m ≡ then_all l (reads rs)) × (length rs ≡ length news)
  close_rest [] l m c = ([], c ∙ then_none l, refl)
  close_rest (now ∷ news) l m c =
      let rest = close_rest news c.0 m c.2 in
      (reading f now c.1.0.0 ∷ rest.0, and_then l c.0 m (read (reading f now c.1.0.0) ∷ []) (reads rest.0) c.1.0.1 rest.1, ap (λ n. suc n) rest.2)

  close_next : (known : List ℕ → Type 0) (may : ℕ) (first : List ℕ) (old now : F) (file : List ℕ) (l m : Option (List Event)) → IsFreshFeed f old → Closes f now l m → GivesOrNot f known may first old now file
      → (r : Reading) × (m ≡ then_one l (read r)) × IsWholeOrSpared known may first (f.remaining old) r file
  close_next known may first old now file l m h8 h9 h10 = grind arith

  close_later : (known : List ℕ → Type 0) (may : ℕ) (first : List ℕ) (olds news : List F) (files : List (List ℕ)) (l m : Option (List Event)) → AreFresh f olds → CloseAll f news l m → GiveLater f known may first olds news files
      → (rs : List Reading) × (m ≡ then_all l (reads rs)) × ReadLater known may first (map f.remaining olds) rs files × (length rs ≡ length news)
  close_later known may first [] [] [] l m fresh c g = ([], c ∙ then_none l, tt, refl)
  close_later known may first (old ∷ olds) (now ∷ news) (b ∷ bs) l m fresh c g =
      let one = close_next known may first old now b l c.0 fresh.0 c.1 g.0 in
      let rest = close_later known (may - 1) first olds news bs c.0 m fresh.1 c.2 g.1 in
      (one.0 ∷ rest.0, and_then l c.0 m (read one.0 ∷ []) (reads rest.0) one.1 rest.1, (one.2, rest.2), ap (λ n. suc n) rest.3)
  close_later known may first _ _ _ l m fresh c g = absurd g

  -- each gave its file
  pub close_given : (known : List ℕ → Type 0) (may : ℕ) (olds news : List F) (files : List (List ℕ)) (l m : Option (List Event)) → AreFresh f olds → CloseAll f news l m → GiveAll f known may olds news files
      → (rs : List Reading) × (m ≡ then_all l (reads rs)) × ReadAll known may (map f.remaining olds) rs files × (length rs ≡ length news)
  close_given known may (old ∷ olds) (now ∷ news) (b ∷ bs) l m fresh c g =
      let one = c.1.1 b g.0.0.passed in
      let rest = close_later known may b olds news bs c.0 m fresh.1 c.2 g.1 in
      (reading f now b ∷ rest.0, and_then l c.0 m (read (reading f now b) ∷ []) (reads rest.0) one rest.1, (record { are = refl; end = g.0.0.end; is_known = g.0.0.is_known; opened = g.0.1 }, rest.2), ap (λ n. suc n) rest.3)
  close_given known may _ _ _ l m fresh c g = absurd g

  -- one of them failed
  close_failed : (olds news : List F) (l m : Option (List Event)) → CloseAll f news l m → AnyFailed (used f olds news) → (rs : List Reading) × (m ≡ then_all l (reads rs)) × Has FailsToRead (reads rs)
  close_failed (old ∷ olds) (now ∷ news) l m c (inl risen) =
      let rest = close_rest news c.0 m c.2 in
      (reading f now c.1.0.0 ∷ rest.0, and_then l c.0 m (read (reading f now c.1.0.0) ∷ []) (reads rest.0) c.1.0.1 rest.1, inl (has_risen _ _ risen))
  close_failed (old ∷ olds) (now ∷ news) l m c (inr later) =
      let rest = close_failed olds news c.0 m c.2 later in
      (reading f now c.1.0.0 ∷ rest.0, and_then l c.0 m (read (reading f now c.1.0.0) ∷ []) (reads rest.0) c.1.0.1 rest.1, inr rest.2)
  close_failed _ _ l m c g = absurd g

  -- one of them gave other bytes than a file: what was read before it, of it, and after it
  abbrev ReadOther : List ℕ → ℕ → ℕ → List Reading → Type 0
  ReadOther file at count rs = (between : List Reading) × (other : Reading) × (later : List Reading) × (rs ≡ between ++ other ∷ later) × (at ≡ length between) × IsOther file other.bytes other.left × (count ≡ length later + at + 1)

  one_more : (n at : ℕ) (later : List Reading) → n ≡ length later + at + 1 → suc n ≡ length later + suc at + 1
  one_more n at later e = omega (arith, e)

  close_other : (file : List ℕ) (at : ℕ) (olds news : List F) (l m : Option (List Event)) → AreFresh f olds → CloseAll f news l m → GivesOtherAt f file at olds news
      → (rs : List Reading) × (m ≡ then_all l (reads rs)) × ReadOther file at (length news) rs
  close_other file zero (old ∷ olds) (now ∷ news) l m fresh c g =
      let rest = close_rest news c.0 m c.2 in
      let one = c.1.1 g.bytes g.passed in
      (reading f now g.bytes ∷ rest.0, and_then l c.0 m (read (reading f now g.bytes) ∷ []) (reads rest.0) one rest.1, ([], reading f now g.bytes, rest.0, refl, refl, g.other, count (length news) rest.0 rest.2)) where
        count : (n : ℕ) (rs : List Reading) → length rs ≡ n → suc n ≡ length rs + zero + 1
        count n rs e = omega (arith, e)
  close_other file (suc at) (old ∷ olds) (now ∷ news) l m fresh c g =
      let rest = close_other file at olds news c.0 m fresh.1 c.2 g in
      let found = rest.2 in (
        reading f now c.1.0.0 ∷ rest.0,
        and_then l c.0 m (read (reading f now c.1.0.0) ∷ []) (reads rest.0) c.1.0.1 rest.1,
        (reading f now c.1.0.0 ∷ found.0, found.1, found.2, ap (λ rs. reading f now c.1.0.0 ∷ rs) found.3, ap (λ n. suc n) found.4, found.5, one_more (length news) at found.2 found.6),
      )
  close_other file _ _ _ l m fresh c g = absurd g

-- ---- what comes after the feeds

-- what follows the feeds: whatever was taken, and if nothing was
abbrev pub EndsWith : (took : List ℕ → Type 0) → (failed near : Type 0) → (closes : List Event → Type 0) → Option (List Event) → Option (List Event) → Type 0
EndsWith took failed near closes m n =
    ((es : List Event) × (n ≡ then_all m es) × (readings es ≡ []) × ((failed → Has FailsToWrite es) × (near → Has NearsLimit es)) × closes es)
    × (took [] → (es : List Event) × (n ≡ then_all m es) × (readings es ≡ []) × Each WroteNothing es × closes es)

-- OUT, or nothing, is returned
abbrev pub Ends : (took : List ℕ → Type 0) → (failed near : Type 0) → (is : Writing → Type 0) → Option (List Event) → Option (List Event) → Type 0
Ends took failed near is m n = EndsWith took failed near (Each (IsReturn is)) m n

pub ends_with_none : (m : Option (List Event)) (took : List ℕ → Type 0) → Ends took ⊥ ⊥ (λ w. ⊥) m m
ends_with_none m took = (([], then_none m, refl, ((λ x. absurd x), λ x. absurd x), tt), λ t. ([], then_none m, refl, tt, tt))

pub ends_with_out : {D : Type 0} (d : drain.Ghosts D) (out : D) (name : Option (List ℕ)) (kept : Bool) (fault : Option FinishFault) (took : List ℕ → Type 0) (failed near : Type 0) (m n : Option (List Event)) → ((w : List ℕ) → took w → d.has_taken out 0 w) → (failed → 0 < d.failures out) → (near → IfSome (d.taken out) IsNearLimit) → Finishes d out name kept fault m n
    → Ends took failed near (IsReturned (d.taken out) kept) m n
ends_with_out d out name kept fault took failed near m n taken risen close fin = (
  (wrote (record { name = name; bytes = fin.0.0; reports = is_some (d.taken out); failures = d.failures out; kept = kept; fault = fault }) ∷ [], fin.0.2, refl, ((λ x. inl (inl (risen x))), λ x. inl (λ some. taken_is IsNearLimit fin.0.0 (d.taken out) fin.0.1 (close x) some)), ((inr fin.0.1, refl, refl), tt)),
  λ none. (wrote (record { name = name; bytes = []; reports = is_some (d.taken out); failures = d.failures out; kept = kept; fault = fault }) ∷ [], fin.1 [] (taken [] none), refl, (refl, tt), ((inl refl, refl, refl), tt)),
)

-- ---- why it fails

are_readings : (rs : List Reading) (es : List Event) → readings es ≡ [] → readings (reads rs ++ es) ≡ rs
are_readings rs es none = readings_both (reads rs) es ∙ ap (λ more. readings (reads rs) ++ more) none ∙ append-nil (readings (reads rs)) ∙ readings_of rs

none_left : (rs : List Reading) (n at : ℕ) → n ≡ at + 1 → n ≡ length rs + at + 1 → rs ≡ []
none_left [] n at e h = refl
none_left (r ∷ rs) n at e h = grind arith

module _ {F : Type 0} (f : feed.Ghosts F) (packs digests : Bool) (judge : Option (List ℕ) → Option Verdict) (sound : List ℕ → Type 0) (took : List ℕ → Type 0) (failed near : Type 0) (closes : List Event → Type 0) (l m n : Option (List Event)) (tail : EndsWith took failed near closes m n) where
  -- the feeds are returned, and then that follows
  abbrev Returned : List Event → Type 0
  Returned events = (rs : List Reading) × (es : List Event) × (events ≡ reads rs ++ es) × closes es

  -- what is said, as events, of how a call of a program stopped, by what its feeds had
  abbrev StopFails : Program → Stop → List F → Type 0
  StopFails program s olds = (events : List Event) × (n ≡ then_all l events) × Stops (manner program packs digests) (judging judge sound) (map f.remaining olds) events s × Returned events

  returned_after : (rs : List Reading) (es : List Event) → closes es → Returned (reads rs ++ es)
  returned_after rs es x = (rs, es, refl, x)

  -- whatever happened
  abbrev some : (news : List F) → CloseAll f news l m → List Event
  some news c = reads (close_rest f news l m c).0 ++ tail.0.0

  some_log : (news : List F) (c : CloseAll f news l m) → n ≡ then_all l (some news c)
  some_log news c = and_then l m n (reads (close_rest f news l m c).0) tail.0.0 (close_rest f news l m c).1 tail.0.1

  some_returned : (news : List F) (c : CloseAll f news l m) → Returned (some news c)
  some_returned news c = returned_after (close_rest f news l m c).0 tail.0.0 tail.0.4

  -- the first feed gave other bytes than a later one
  change_fails : (pass : ℕ) (old now : F) (olds news : List F) → AreFresh f (old ∷ olds) → CloseAll f (now ∷ news) l m → ChangeIn f (took []) pass now olds news → StopFails Pbfcut (stop.Changed pass) (old ∷ olds)
  change_fails pass old now olds news fresh c stops = by_last stops.last where
    one : Reading
    one = reading f now stops.file

    rest : (rs : List Reading) × (m ≡ then_all c.0 (reads rs)) × ReadOther f stops.file stops.at (length news) rs
    rest = close_other f stops.file stops.at olds news c.0 m fresh.1 c.2 stops.other

    told : (es : List Event) → n ≡ then_all m es → readings es ≡ [] → ((rest.2.2 ≡ []) ⊎ Each WroteNothing (reads (one ∷ rest.0) ++ es)) → Returned (reads (one ∷ rest.0) ++ es) → StopFails Pbfcut (stop.Changed pass) (old ∷ olds)
    told es log none last fronts = (
      reads (one ∷ rest.0) ++ es,
      and_then l m n (reads (one ∷ rest.0)) es (and_then l c.0 m (read one ∷ []) (reads rest.0) (c.1.1 stops.file stops.first.passed) rest.1) log,
      record {
        first = one;
        between = rest.2.0;
        other = rest.2.1;
        later = rest.2.2;
        are = are_readings (one ∷ rest.0) es none ∙ ap (λ rs. one ∷ rs) rest.2.3;
        pass_is = stops.pass_is ∙ ap (λ k. k + 2) rest.2.4;
        whole = stops.first.end;
        differs = rest.2.5;
        last = last;
      },
      fronts,
    )

    by_last : ((length news ≡ stops.at + 1) ⊎ took []) → StopFails Pbfcut (stop.Changed pass) (old ∷ olds)
    by_last (inl last) = told tail.0.0 tail.0.1 tail.0.2 (inl (none_left rest.2.2 (length news) stops.at last rest.2.6)) (returned_after (one ∷ rest.0) tail.0.0 tail.0.4)
    by_last (inr nothing) = (let end = tail.1 nothing in told end.0 end.1 end.2 (inr (each_both _ (reads (one ∷ rest.0)) end.0 (nothing_read (one ∷ rest.0)) end.3)) (returned_after (one ∷ rest.0) end.0 end.4))

  pub stop_told : (program : Program) (s : Stop) (olds news : List F) → AreFresh f olds → CloseAll f news l m → StopsFor program f judge olds news (took []) (CauseOfWrite (output_form packs program) sound (map f.remaining olds) failed near) s → StopFails program s olds
  stop_told Pbfcut (stop.Refused e) (old ∷ olds) (now ∷ news) fresh c stops =
      let rest = close_rest f news c.0 m c.2 in
      let end = tail.1 stops.1 in
      let bytes = stops.0.bytes in
      let one = reading f now bytes in
      let all = and_then l c.0 m (read one ∷ []) (reads rest.0) (c.1.1 bytes stops.0.passed) rest.1 in (
        reads (one ∷ rest.0) ++ end.0,
        and_then l m n (reads (one ∷ rest.0)) end.0 all end.1,
        record { first = one; later = rest.0; are = are_readings (one ∷ rest.0) end.0 end.2; faulty = stops.0.faulty; nothing = each_both _ (reads (one ∷ rest.0)) end.0 (nothing_read (one ∷ rest.0)) end.3 },
        returned_after (one ∷ rest.0) end.0 end.4,
      )
  stop_told Pbfcut (stop.Refused e) _ _ fresh c stops = absurd stops.0
  stop_told Pbfcutz (stop.Refused e) olds news fresh c stops =
      let rest = close_rest f news l m c in
      let end = tail.1 stops.1 in
      (reads rest.0 ++ end.0, and_then l m n (reads rest.0) end.0 rest.1 end.1, (stops.0, each_both _ (reads rest.0) end.0 (nothing_read rest.0) end.3), returned_after rest.0 end.0 end.4)
  stop_told program stop.Read olds news fresh c stops =
      let rest = close_failed f olds news l m c stops in
      (reads rest.0 ++ tail.0.0, and_then l m n (reads rest.0) tail.0.0 rest.1 tail.0.1, has_before _ (reads rest.0) tail.0.0 rest.2, returned_after rest.0 tail.0.0 tail.0.4)
  stop_told program stop.Write olds news fresh c stops =
      let rs = reads (close_rest f news l m c).0 in
      (some news c, some_log news c, write_weaker (output_form packs program) sound sound (map f.remaining olds) _ _ _ _ (λ file x. x) (λ x. has_after _ rs tail.0.0 (tail.0.3.0 x)) (λ x. has_after _ rs tail.0.0 (tail.0.3.1 x)) stops, some_returned news c)
  stop_told program stop.Memory olds news fresh c stops = (some news c, some_log news c, tt, some_returned news c)
  stop_told Pbfcut (stop.Changed pass) (old ∷ olds) (now ∷ news) fresh c stops = change_fails pass old now olds news fresh c stops
  stop_told Pbfcut (stop.Changed pass) _ _ fresh c stops = absurd stops
  stop_told Pbfcutz (stop.Changed pass) olds news fresh c stops = (some news c, some_log news c, stops, some_returned news c)

-- the feeds, and OUT after them
pub returned_all : (is : Writing → Type 0) (rs : List Reading) (es events : List Event) → events ≡ reads rs ++ es → Each (IsReturn is) es → Each (IsReturn is) events
returned_all is rs es events same x = subst (Each (IsReturn is)) (sym same) (each_both (IsReturn is) (reads rs) es (reads_return is rs) x)

-- a call stopped, and all devices were returned
pub work_fails : (program : Program) (packs digests : Bool) (check : PassCheck) {F : Type 0} (f : feed.Ghosts F) (task : Task) (took : List ℕ → Type 0) (failed near : Type 0) (is : Writing → Type 0) (l m n : Option (List Event)) (olds news : List F) (halted : Halted)
    → Ends took failed near is m n → AreFresh f olds → CloseAll f news l m → Works (manner program packs digests) check f task olds news took (CauseOfWrite (output_form packs program) (GivesRaw task) (map f.remaining olds) failed near) (Err halted)
    → (events : List Event) × (n ≡ then_all l events) × Fails (manner program packs digests) (judging_for task) (map f.remaining olds) halted.ending events × Each (IsReturn is) events
work_fails program packs digests check f task took failed near is l m n olds news halted tail fresh c works =
    let told = stop_told f packs digests (judge_of task) (GivesRaw task) took failed near (Each (IsReturn is)) l m n tail program works.0 olds news fresh c works.2 in
    let gone = told.3 in
    (told.0, told.1, stop_fails (manner program packs digests) (judging_for task) (map f.remaining olds) halted.ending told.0 works.0 works.1 told.2, returned_all is gone.0 gone.1 told.0 gone.2 gone.3)

-- ---- what it does

-- the same, and its drain too
pub work_done : {F D : Type 0} (f : feed.Ghosts F) (d : drain.Ghosts D) (out : D) (name : Option (List ℕ)) (kept : Bool) (fault : Option FinishFault) (by : Manner) (check : PassCheck) (task : Task) (took : List ℕ → Type 0) (failed : Type 0) (l m n : Option (List Event)) (olds news : List F) (report : Report)
    → AreFresh f olds → CloseAll f news l m → Finishes d out name kept fault m n → ((w : List ℕ) → took w → d.has_taken out 0 w) → Works by check f task olds news took failed (Ok report)
    → (rs : List Reading) × (w : Writing) × (n ≡ then_all l (reads rs ++ wrote w ∷ [])) × (w.fault ≡ fault) × took w.bytes × IsWork by check task (map f.remaining olds) rs w.bytes report.counts report.input report.raw × (w.kept ≡ kept) × (w.name ≡ name)
work_done f d out name kept fault by check task took failed l m n olds news report fresh c fin taken works =
    let given = close_given f (AreDigests by check report.input report.raw) (spares task) olds news works.files l m fresh c works.gave in (
      given.0,
      record { name = name; bytes = works.written; reports = is_some (d.taken out); failures = d.failures out; kept = kept; fault = fault },
      and_then l m n (reads given.0) (wrote (record { name = name; bytes = works.written; reports = is_some (d.taken out); failures = d.failures out; kept = kept; fault = fault }) ∷ []) given.1 (fin.1 works.written (taken works.written works.took_them)),
      refl,
      works.took_them,
      record { files = works.files; read = given.2; holds = works.holds },
      refl,
      refl,
    )

-- a call ended well, but not all went out
pub finish_fails : {F D : Type 0} (f : feed.Ghosts F) (d : drain.Ghosts D) (out : D) (name : Option (List ℕ)) (kept : Bool) (fault : Option FinishFault) (l m n : Option (List Event)) (news : List F) → CloseAll f news l m → Finishes d out name kept fault m n → (why : FinishFault) → fault ≡ Some why
    → (events : List Event) × (n ≡ then_all l events) × Has (FailsToFinish why) events × Each (IsReturn (IsReturned (d.taken out) kept)) events
finish_fails f d out name kept fault l m n news c fin why e =
    let rest = close_rest f news l m c in
    let w : Writing = record { name = name; bytes = fin.0.0; reports = is_some (d.taken out); failures = d.failures out; kept = kept; fault = fault } in (
      reads rest.0 ++ wrote w ∷ [],
      and_then l m n (reads rest.0) (wrote w ∷ []) rest.1 fin.0.2,
      has_after _ (reads rest.0) _ (inl e),
      each_both _ (reads rest.0) (wrote w ∷ []) (reads_return _ rest.0) ((inr fin.0.1, refl, refl), tt),
    )

-- the same of one pass
pub work_read_once : {F : Type 0} (f : feed.Ghosts F) (by : Manner) (check : PassCheck) (task : Task) (failed : Type 0) (l m : Option (List Event)) (old now : F) (report : Report)
    → IsFreshFeed f old → Closes f now l m → Works by check f task (old ∷ []) (now ∷ []) (λ took. took ≡ []) failed (Ok report)
    → (first : Reading) × (m ≡ then_one l (read first)) × IsWork by check task (f.remaining old ∷ []) (first ∷ []) [] report.counts report.input report.raw
work_read_once f by check task failed l m old now report fresh c works = grind arith

-- what a call did, however it ended
pub if_done : {F D : Type 0} (f : feed.Ghosts F) (d : drain.Ghosts D) (out : D) (name : Option (List ℕ)) (kept : Bool) (fault : Option FinishFault) (by : Manner) (check : PassCheck) (task : Task) (took : List ℕ → Type 0) (failed : Type 0) (l m n : Option (List Event)) (olds news : List F) (outcome : Result Report Halted)
    → AreFresh f olds → CloseAll f news l m → Finishes d out name kept fault m n → ((w : List ℕ) → took w → d.has_taken out 0 w) → Works by check f task olds news took failed outcome
    → OnOk outcome ((report : Report) × (rs : List Reading) × (w : Writing) × (n ≡ then_all l (reads rs ++ wrote w ∷ [])) × (w.fault ≡ fault) × IsWork by check task (map f.remaining olds) rs w.bytes report.counts report.input report.raw)
if_done f d out name kept fault by check task took failed l m n olds news (Ok report) fresh c fin taken works = grind (arith, work_done f d out name kept fault by check task took failed l m n olds news report fresh c fin taken works)
if_done f d out name kept fault by check task took failed l m n olds news (Err halted) fresh c fin taken works = tt

-- a call stopped, and it and its devices left this
pub stops_leaving : (m : Manner) (task : Task) (has : List (Option (List ℕ))) (after : Option (List ℕ)) (events : List Event) → Each IsUnkept events
    → ((answer : Answer) → TakenFront after answer → Each (TookFront answer) events)
    → ((bytes : List ℕ) → AllSupply bytes has → TakenFront after (output_form m.packs m.program, answer_of task (of_input m bytes))) → Leaves m task has events
stops_leaving m task has after events unkept fronts given = inl (keeps_none task events unkept, λ bytes all. fronts _ (given bytes all))

-- if no more happened
pub returns_leaving : (m : Manner) (task : Task) (has : List (Option (List ℕ))) (after : Option (List ℕ)) (events : List Event) → Each (IsReturn (IsReturned after false)) events
    → ((bytes : List ℕ) → AllSupply bytes has → TakenFront after (output_form m.packs m.program, answer_of task (of_input m bytes))) → Leaves m task has events
returns_leaving m task has after events returned given = stops_leaving m task has after events (returned_unkept after events returned) (λ answer x. returned_front after false answer x events returned) given

-- the digest that was wanted
pub hashed_as : (digests : Bool) (known : Option (List ℕ)) (w : List ℕ) → IfSome known (λ digest. digest ≡ sha256 w) → IsAsked digests known → known ≡ digest_if_asked digests w
hashed_as digests known w h3 h4 = grind arith

-- ---- a text

-- a call stopped whose text goes to standard output; or the rest of the text didn't go out
pub text_fails : {F D A : Type 0} (program : Program) (digests : Bool) (check : PassCheck) (f : feed.Ghosts F) (d : drain.Ghosts D) (task : Task) (before out : D) (name : Option (List ℕ)) (fault : Option FinishFault) (l m n : Option (List Event)) (olds news : List F) (outcome : Result Report Halted) (result : Result A Ending)
    → IsFreshOut d before → AreFresh f olds → CloseAll f news l m → Finishes d out name (is_ok outcome) fault m n → Works (manner program false digests) check f task olds news (d.has_taken out 0) (WriteFailed d before out) outcome
    → Fronts (input_form program) task (map f.remaining olds) (d.taken before) (d.taken out) outcome → EndsAfterText fault outcome result
    → IfErr result (λ how. (events : List Event) × (n ≡ then_all l events) × Fails (manner program false digests) (judging_for task) (map f.remaining olds) how events × Leaves (manner program false digests) task (map f.remaining olds) events × Each Silent events)
text_fails program digests check f d task before out name None l m n olds news (Ok report) (Ok a) fresh begun c fin works front ends = tt
text_fails program digests check f d task before out name None l m n olds news (Ok report) (Err how) fresh begun c fin works front ends = absurd ends
text_fails program digests check f d task before out name None l m n olds news (Err halted) (Ok a) fresh begun c fin works front ends = absurd ends
text_fails program digests check f d task before out name None l m n olds news (Err halted) (Err how) fresh begun c fin works front ends =
    let by = manner program false digests in
    let has = map f.remaining olds in
    let tail = ends_with_out d out name false None (d.has_taken out 0) (WriteFailed d before out) ⊥ m n (λ w t. t) (λ risen. has_risen _ _ risen) (λ none. absurd none) fin in
    let fail = work_fails program false digests check f task (d.has_taken out 0) (WriteFailed d before out) ⊥ (IsReturned (d.taken out) false) l m n olds news halted tail begun c works in
    (fail.0, fail.1, subst (λ h. Fails by (judging_for task) has h fail.0) (sym ends) fail.2, returns_leaving by task has (d.taken out) fail.0 fail.3 (λ bytes all. taken_front (d.taken before) (d.taken out) _ fresh.1 (front bytes all)), returned_silent _ fail.0 fail.3)
text_fails program digests check f d task before out name (Some why) l m n olds news (Ok report) (Ok a) fresh begun c fin works front ends = absurd ends
text_fails program digests check f d task before out name (Some why) l m n olds news (Err halted) (Ok a) fresh begun c fin works front ends = absurd ends
text_fails program digests check f d task before out name (Some why) l m n olds news (Ok report) (Err how) fresh begun c fin works front ends =
    let by = manner program false digests in
    let has = map f.remaining olds in
    let done = work_done f d out name true (Some why) by check task (d.has_taken out 0) (WriteFailed d before out) l m n olds news report begun c fin (λ w t. t) works in
    let events : List Event = reads done.0 ++ wrote done.1 ∷ [] in (
      events,
      done.2,
      subst (λ h. Fails by (judging_for task) has h events) (sym ends) (text_stops by (judging_for task) has why events (has_after _ (reads done.0) (wrote done.1 ∷ []) (inl done.3))),
      inr (record { before = []; rs = done.0; out = done.1; after = []; happened = refl; quiet = (tt, tt); by = check; counts = report.counts; digest = report.input; raw = report.raw; work = done.5 }),
      each_both Silent (reads done.0) (wrote done.1 ∷ []) (returned_silent (λ w. Unit {0}) (reads done.0) (reads_return (λ w. Unit {0}) done.0)) (tt, tt),
    )
text_fails program digests check f d task before out name (Some why) l m n olds news (Err halted) (Err how) fresh begun c fin works front ends =
    let by = manner program false digests in
    let has = map f.remaining olds in
    let fail = finish_fails f d out name false (Some why) l m n news c fin why refl in
    (fail.0, fail.1, subst (λ h. Fails by (judging_for task) has h fail.0) (sym ends) (text_stops by (judging_for task) has why fail.0 fail.2), returns_leaving by task has (d.taken out) fail.0 fail.3 (λ bytes all. taken_front (d.taken before) (d.taken out) _ fresh.1 (front bytes all)), returned_silent _ fail.0 fail.3)
