-- What a failed run of pbfcutz left that writes one OUT.
use Rattle.std.proofs.Common.{◌≡◌, ◌⊎◌, inl, inr, ℕ, ◌+◌, List, [], ◌∷◌, ◌++◌, map, true, false, Option, Some, None, Bor, codes, refl, ap, subst, sym, ◌∙◌, append_assoc}
use Rattle.clap.specs.Words.{Row, Text}
use Rattle.pbf_frame.specs.declared.stop.Stop.TheVariants as stop
use Rattle.pbf_block.specs.declared.counts.Counts.{Counts}
use Rattle.pbfcut_cli.specs.Endings.{message_of, program_name}
use Rattle.pbfcut_cli.specs.Joined.{normalized}
use Rattle.pbfcut_cli.specs.Words.{IsRead, ReadsAs, ReadsFiles, ReadsOutput, is_given}
use Rattle.pbfcut_cli.specs.declared.endings.Ending.{Ending}
use Rattle.pbfcut_cli.specs.declared.endings.Ending.TheVariants as ending
use Rattle.pbfcut_cli.specs.declared.programs.Program.{Program}
use Rattle.pbfcut_cli.specs.declared.programs.Program.TheVariants.{Pbfcutz}
use Rattle.pbfcut_cli.specs.declared.words.Command.{Command}
use Rattle.pbfcut_cli.specs.declared.words.Command.TheVariants.{Convert, Extract, Pack, Unpack}
use Rattle.pbfcut_cli.specs.declared.words.Files.{Files}
use Rattle.pbfcut_cli.specs.declared.words.Region.{Region}
use Rattle.pbfcut_cli.specs.declared.words.Strategy.{Strategy}
use Rattle.pbfcut_program.specs.Changes.{DropsFile, HasOneFile, KeepsFile}
use Rattle.pbfcut_program.specs.Events.{Event, Reading, Writing, advised, opened, read, stays, told, wrote}
use Rattle.pbfcut_program.specs.Fails.{Each, Has, Opens, OpensFor, Quiet}
use Rattle.pbfcut_program.specs.Failures.{AreConversion, AreCopy, AreExtract, EndsBadly, LeavesOut}
use Rattle.pbfcut_program.specs.Files.{Allows, AllowsAll, Disk, after}
use Rattle.pbfcut_program.specs.Leaving.{IsUnkept, IsWorked, KeepsNone, Leaves, LeavesFor}
use Rattle.pbfcut_program.specs.Manner.{Manner, of_input, of_output}
use Rattle.pbfcut_program.specs.Program.{FailsIn, IsFailed, IsMeant, IsRun, IsWhy, LeavesCut, LeavesIn, manner_in, strategy_of}
use Rattle.pbfcut_program.specs.Settling.{HandlesIn, HandlesOut}
use Rattle.pbfcut_program.specs.Taking.{Happened, TookWhole}
use Rattle.pbfcut.specs.Tasks.{Task, TaskHolds, converting, copying, extracting}
use Rattle.pbfcut_program.proofs.Beginning.{calm_region}
use Rattle.pbfcut_program.proofs.DiskLemmas.{allows_first, allows_last, drops_back, happened_after, happened_either, keeps_now, some_same}
use Rattle.pbfcut_program.proofs.EventLemmas.{quiet_of}
use Rattle.pbfcut_program.proofs.FailLemmas.{opens_after, opens_before}
use Rattle.pbfcut_program.proofs.GivingLemmas.{area_on}
use Rattle.pbfcut_program.proofs.MomentLemmas.{keeps_others}
use Rattle.pbfcut_program.proofs.RunLemmas.{Cut, IsOneOf, convert_is, extract_is, extract_of, pack_is, unpack_is}
use Rattle.pbfcut_program.proofs.SettlingLemmas.{IsSame, run_same}
use Rattle.pbfcut_program.proofs.TakingLemmas.{AllAre, AllHad, all_had, holds_convert, holds_copy, holds_extract, none_some}
use Rattle.pbfcut_program.proofs.Meaning.{not_asked}

-- ---- what is written

module _ (w : Writing) where
  no_wrote : (e : Event) → Quiet e → e ≡ wrote w → ⊥
  no_wrote e q is = subst (λ x. Quiet x) is q

  pub none_wrote : (xs : List Event) → Each Quiet xs → Happened (wrote w) xs → ⊥
  none_wrote [] q h = h
  none_wrote (x ∷ xs) q (inl h) = no_wrote x q.0 h
  none_wrote (x ∷ xs) q (inr h) = none_wrote xs q.1 h

  none_read : (rs : List Reading) → Happened (wrote w) (map (λ r. read r) rs) → ⊥
  none_read [] h = h
  none_read (r ∷ rs) (inl h) = other h where
    other : read r ≡ wrote w → ⊥
    other e = cc
  none_read (r ∷ rs) (inr h) = none_read rs h

  pub wrote_later : (xs ys : List Event) → Each Quiet xs → Happened (wrote w) (xs ++ ys) → Happened (wrote w) ys
  wrote_later xs ys q h = of (happened_either (wrote w) xs ys h) where
    of : Happened (wrote w) xs ⊎ Happened (wrote w) ys → Happened (wrote w) ys
    of (inl k) = absurd (none_wrote xs q k)
    of (inr k) = k

  pub wrote_earlier : (xs ys : List Event) → Each Quiet ys → Happened (wrote w) (xs ++ ys) → Happened (wrote w) xs
  wrote_earlier xs ys q h = of (happened_either (wrote w) xs ys h) where
    of : Happened (wrote w) xs ⊎ Happened (wrote w) ys → Happened (wrote w) xs
    of (inl k) = k
    of (inr k) = absurd (none_wrote ys q k)

  same_writing : (out : Writing) → wrote out ≡ wrote w → out ≡ w
  same_writing out e = cc

  -- the only one that is written
  only_wrote : (before : List Event) (rs : List Reading) (out : Writing) (after : List Event) → Each Quiet before × Each Quiet after → Happened (wrote w) (before ++ (map (λ r. read r) rs ++ wrote out ∷ after)) → out ≡ w
  only_wrote before rs out after q h = of (happened_either (wrote w) (map (λ r. read r) rs) (wrote out ∷ after) (wrote_later before _ q.0 h)) where
    of : Happened (wrote w) (map (λ r. read r) rs) ⊎ ((wrote out ≡ wrote w) ⊎ Happened (wrote w) after) → out ≡ w
    of (inl k) = absurd (none_read rs k)
    of (inr (inl k)) = same_writing out k
    of (inr (inr k)) = absurd (none_wrote after q.1 k)

  -- that of a file is one of the events
  file_wrote : (program : Program) (output : List ℕ) (part events : List Event) → HasOneFile program output w part events → Happened (wrote w) events
  file_wrote program output part events x = subst (λ es. Happened (wrote w) es) (sym x.happened) (happened_after (wrote w) x.before _ (happened_after (wrote w) x.makes _ (happened_after (wrote w) x.between _ (inl refl))))

  pub unkept : (xs : List Event) → Each IsUnkept xs → Happened (wrote w) xs → w.kept ≡ false
  unkept [] u h = absurd h
  unkept (x ∷ xs) u (inl h) = subst (λ e. IsUnkept e) h u.0
  unkept (x ∷ xs) u (inr h) = unkept xs u.1 h

-- ---- what IN had

-- an event of which this holds, with those before it and after it
record IsAmong (p : Event → Type 0) (events : List Event) : Type 0 where
  started : List Event
  e : Event
  later : List Event
  happened : events ≡ started ++ e ∷ later
  holds : p e

among : (p : Event → Type 0) (events : List Event) → Has p events → IsAmong p events
among p [] h = absurd h
among p (x ∷ xs) (inl h) = record { started = []; e = x; later = xs; happened = refl; holds = h }
among p (x ∷ xs) (inr h) =
    let a = among p xs h in
    record { started = x ∷ a.started; e = a.e; later = a.later; happened = ap (λ es. x ∷ es) a.happened; holds = a.holds }

opened_here : (input : List ℕ) (pass : ℕ) (has : Option (List ℕ)) (e : Event) (disk : Disk) → OpensFor input pass has e → Allows disk e → has ≡ disk input
opened_here input pass has (opened path number known) disk o a = sym o.2 ∙ a ∙ ap disk o.0
opened_here input pass has _ disk o a = absurd o

-- if it has the same after each event, it had that each time that it was opened
module _ (events : List Event) (disk : Disk) (allowed : AllowsAll disk events) (input file : List ℕ) (there : (started later : List Event) → events ≡ started ++ later → after started disk input ≡ Some file) where
  one_had : (pass : ℕ) (has : Option (List ℕ)) → Has (OpensFor input pass has) events → has ≡ Some file
  one_had pass has h =
      let a = among (OpensFor input pass has) events h in
      let all = subst (λ es. AllowsAll disk es) a.happened allowed in
      opened_here input pass has a.e (after a.started disk) a.holds (allows_last a.started (a.e ∷ a.later) disk all).0 ∙ there a.started (a.e ∷ a.later) a.happened

  pub all_opened : (pass : ℕ) (has : List (Option (List ℕ))) → Opens input pass has events → AllHad file has
  all_opened pass [] o = tt
  all_opened pass (h ∷ hs) o = (one_had pass h o.0, all_opened (pass + 1) hs o.1)

-- ---- an OUT that was kept

pub true_false : true ≡ false → ⊥
true_false h = cc

-- these bytes are the work of this task, each pass of which read this file
record IsDoneOn (m : Manner) (task : Task) (file bytes : List ℕ) : Type 0 where
  counts : Counts
  reads : List (List ℕ)
  are : AllAre file reads
  holds : TaskHolds task (map (of_input m) reads) counts (of_output m bytes)

-- a run that failed after these events kept OUT, which took this; and each time that it opened IN that had this file
record IsKeptOf (input file : List ℕ) (w : Writing) (before events : List Event) : Type 0 where
  last : List Event
  happened : events ≡ before ++ last
  quiet : Each Quiet last
  kept : w.kept ≡ true
  whole : w.fault ≡ None
  is : Happened (wrote w) events
  had : (has : List (Option (List ℕ))) → Opens input 1 has events → AllHad file has

-- the task was done, if what is left of it comes after events that neither read nor write
module _ (m : Manner) (task : Task) (input file : List ℕ) (w : Writing) (first mid last : List Event) (quiet : Each Quiet first × Each Quiet last) (kept : w.kept ≡ true) (is : Happened (wrote w) (first ++ (mid ++ last))) where
  mine : Happened (wrote w) mid
  mine = wrote_earlier w mid last quiet.1 (wrote_later w first (mid ++ last) quiet.0 is)

  module _ (keeps_none : KeepsNone task mid → Each IsUnkept mid) (x : LeavesFor input m task mid) (had : (has : List (Option (List ℕ))) → Opens input 1 has (first ++ (mid ++ last)) → AllHad file has) where
    all_one : AllHad file x.has
    all_one = had x.has (opens_after input 1 x.has first (mid ++ last) (opens_before input 1 x.has mid last x.opens))

    worked : Leaves m task x.has mid → IsWorked m task x.has mid
    worked (inl l) = absurd (true_false (sym kept ∙ unkept w mid (keeps_none l.0) mine))
    worked (inr k) = k

    is_it : (k : IsWorked m task x.has mid) → k.out ≡ w
    is_it k = only_wrote w k.before k.rs k.out k.after k.quiet (subst (λ es. Happened (wrote w) es) k.happened mine)

    done_by : IsWorked m task x.has mid → IsDoneOn m task file w.bytes
    done_by k = record {
      counts = k.counts;
      reads = k.work.files;
      are = all_had file _ _ x.has k.rs k.work.files k.work.read all_one;
      holds = subst (λ (o : Writing). TaskHolds task (map (of_input m) k.work.files) k.counts (of_output m o.bytes)) (is_it k) k.work.holds;
    }

    done_on : IsDoneOn m task file w.bytes
    done_on = done_by (worked x.leaves)

module _ (m : Manner) (input file : List ℕ) (w : Writing) (before events : List Event) (k : IsKeptOf input file w before events) where
  abbrev took_it : TookWhole w.bytes events
  took_it = record { out = w; happened = k.is; are = refl; whole = k.whole; kept = k.kept }

  -- by all the events before it failed
  alone : (task : Task) → (KeepsNone task before → Each IsUnkept before) → LeavesFor input m task before → IsDoneOn m task file w.bytes
  alone task keeps_none x = done_on m task input file w [] before k.last (tt, k.quiet) k.kept (subst (λ es. Happened (wrote w) es) k.happened k.is) keeps_none x
      (λ has o. k.had has (subst (λ es. Opens input 1 has es) (sym k.happened) o))

  keeps_conversion : LeavesFor input m converting before → AreConversion m file events w.bytes
  keeps_conversion x =
      let d = alone converting (λ u. u) x in
      record { took = record { counts = d.counts; bytes = w.bytes; took = took_it; converted = holds_convert file m d.reads d.counts (of_output m w.bytes) d.are d.holds }; are = refl }

  keeps_copy : LeavesFor input m copying before → AreCopy m file events w.bytes
  keeps_copy x =
      let d = alone copying (λ u. u) x in
      record { took = record { bytes = w.bytes; took = took_it; same = holds_copy file m d.reads d.counts (of_output m w.bytes) d.are d.holds }; are = refl }

  module _ (cut : Region) (by : Strategy) (disk : Disk) (allowed : AllowsAll disk events) where
    by_area : LeavesCut input m cut by before → AreExtract m cut by file events disk w.bytes
    by_area x =
        let rest : events ≡ x.before ++ (x.after ++ k.last) = k.happened ∙ ap (λ es. es ++ k.last) x.happened ∙ append_assoc x.before x.after k.last in
        let d = done_on m (extracting (strategy_of by) x.area) input file w x.before x.after k.last (quiet_of x.before (calm_region cut x.before x.area x.means), k.quiet) k.kept (subst (λ es. Happened (wrote w) es) rest k.is) (λ u. u) x.leaves
        (λ has o. k.had has (subst (λ es. Opens input 1 has es) (sym rest) o)) in
        record {
          took = record {
            area = x.area;
            before = x.before;
            later = x.after ++ k.last;
            happened = rest;
            means = x.means;
            counts = d.counts;
            bytes = w.bytes;
            took = took_it;
            extract = holds_extract file m (strategy_of by) x.area d.reads d.counts (of_output m w.bytes) d.are d.holds;
          };
          are = refl;
          area_on = area_on disk cut x.before x.area x.means (allows_first x.before (x.after ++ k.last) disk (subst (λ es. AllowsAll disk es) rest allowed));
        }

    keeps_extract : Each Quiet before ⊎ LeavesCut input m cut by before → AreExtract m cut by file events disk w.bytes
    keeps_extract (inl q) = absurd (none_wrote w before q (wrote_earlier w before k.last k.quiet (subst (λ es. Happened (wrote w) es) k.happened k.is)))
    keeps_extract (inr x) = by_area x

-- ---- what the words mean

one_output : (rows : List Row) (a b : Bor Text) → ReadsOutput rows a → ReadsOutput rows b → a.now ≡ b.now
one_output rows a b (inl x) (inl y) = some_same (sym x.0 ∙ y.0)
one_output rows a b (inr x) (inr y) = some_same (sym x.1 ∙ y.1)
one_output rows a b (inl x) (inr y) = absurd (none_some (sym y.0 ∙ x.0))
one_output rows a b (inr x) (inl y) = absurd (none_some (sym x.0 ∙ y.0))

-- the command of this name is one of these
module _ (words : List Text) (name : List ℕ) (rows : List Row) (events : List Event) (disk : Disk) (file : List ℕ) (e : EndsBadly Pbfcutz words name rows events disk file) where
  module _ {K : Type 0} (command : K → Command) (is : (p : Command → Type 0) (c : Command) → ReadsAs name rows c → p c → IsOneOf command name rows p) where
    meant_is : (p : Command → Type 0) (c : Command) → IsMeant Pbfcutz words c → p c → IsOneOf command name rows p
    meant_is p c (inl r) x = is p c (subst (λ s. IsRead s c) e.command r.1) x
    meant_is p c (inr h) x = absurd (not_asked Pbfcutz (normalized words) e.taken h.0)

    abbrev pub Handles : Command → Type 0
    Handles c = HandlesIn Pbfcutz c events

    pub handled : IsSame events disk ⊎ IsOneOf command name rows Handles
    handled = of (run_same Pbfcutz words events disk e.settles) where
      of : IsSame events disk ⊎ ((c : Command) × IsMeant Pbfcutz words c × Handles c) → IsSame events disk ⊎ IsOneOf command name rows Handles
      of (inl same) = inl same
      of (inr (c, meant, h)) = inr (meant_is Handles c meant h)

    -- why it failed
    abbrev pub Why : List Event → Command → Type 0
    Why before c = (cause : Ending) × FailsIn (manner_in Pbfcutz c) c cause before

    pub why : (how : Ending) (before : List Event) → IsWhy Pbfcutz words how before → (before ≡ []) ⊎ IsOneOf command name rows (Why before)
    why (ending.Words text) before x = inl x.1
    why (ending.Box f) before x = inl x.1
    why (ending.Choice f) before x = inl x.1
    why (ending.Stopped stop.Memory) before (inl none) = inl none
    why (ending.Stopped stop.Memory) before (inr (c, meant, cause, x)) = inr (meant_is (Why before) c meant (cause, x))
    why how before x = inr (meant_is (Why before) x.0 x.1 (how, x.2))

    pub failed : IsRun Pbfcutz words events e.status → IsFailed Pbfcutz words events e.status
    failed (inl done) = absurd (e.failed done.0)
    failed (inr f) = f

    -- its last events
    abbrev pub last : Ending → List Event
    last how = told (message_of (program_name Pbfcutz) how) ∷ advised ∷ []

    -- they write one OUT, and this holds of what it has if it is kept
    module _ (files_of : K → Files) (reads_files : (k : K) → ReadsAs name rows (command k) → ReadsFiles rows (files_of k)) (handles : (k : K) → HandlesIn Pbfcutz (command k) events → HandlesOut Pbfcutz (files_of k) events)
        (holds : K → List ℕ → Type 0) (gives : (k : K) (w : Writing) (before : List Event) → IsKeptOf (files_of k).input.now file w before events → LeavesIn (manner_in Pbfcutz (command k)) (command k) before → holds k w.bytes) where
      abbrev IsLeft : Type 0
      IsLeft = (k : K) × ReadsAs name rows (command k) × LeavesOut (holds k) (files_of k) events disk

      module _ (x : IsOneOf command name rows Handles) where
        abbrev files : Files
        files = files_of x.words

        keeps : (w : Writing) → KeepsFile Pbfcutz files.overwrite files.output.now w events → (f : IsFailed Pbfcutz words events e.status) → (f.before ≡ []) ⊎ IsOneOf command name rows (Why f.before) → IsLeft
        keeps w k f (inl none) = absurd (none_wrote w (last f.how) (tt, (tt, tt)) (subst (λ es. Happened (wrote w) (es ++ last f.how)) none (subst (λ es. Happened (wrote w) es) f.happened (file_wrote w Pbfcutz files.output.now k.keeps events k.file))))
        keeps w k f (inr y) =
            let now = keeps_now Pbfcutz files.overwrite files.output.now w events disk k e.allowed in
            let mine = files_of y.words in
            let read = reads_files y.words y.reads in
            let name = one_output rows files.output mine.output (reads_files x.words x.reads).output read.output in
            let kept_of : (mine.input.now ≡ mine.output.now → ⊥) → IsKeptOf mine.input.now file w f.before events = λ apart. record {
              last = last f.how;
              happened = f.happened;
              quiet = (tt, (tt, tt));
              kept = k.kept;
              whole = k.whole;
              is = file_wrote w Pbfcutz files.output.now k.keeps events k.file;
              had = all_opened events disk e.allowed mine.input.now file
                  (λ started later is. keeps_others Pbfcutz files.overwrite files.output.now w started later disk (subst (λ es. KeepsFile Pbfcutz files.overwrite files.output.now w es) is k) (subst (λ es. AllowsAll disk es) is e.allowed) mine.input.now file (λ same. apart (same ∙ name)) (ap disk read.input ∙ e.there)) 1;
            } in (
              y.words,
              y.reads,
              record {
                out = λ apart. inr (record { bytes = w.bytes; there = subst (λ o. after events disk o ≡ Some w.bytes) name now.there; has = gives y.words w f.before (kept_of apart) y.holds.1.1 });
                others = subst (λ o. (p : List ℕ) → (p ≡ o → ⊥) → (Happened (stays p) events → ⊥) → after events disk p ≡ disk p) name now.left.others;
                parts = subst (λ o. (p : List ℕ) → Happened (stays p) events → (p ≡ o → ⊥) × (disk p ≡ None)) name now.left.parts;
              },
            )

        drops : (w : Writing) → DropsFile Pbfcutz files.output.now w events → IsLeft
        drops w d =
            let back = drops_back files.output.now w events disk d e.allowed in
            (x.words, x.reads, record { out = λ apart. inl back.back; others = back.left.others; parts = back.left.parts })

        by_file : HandlesOut Pbfcutz files events → IsLeft
        by_file (w, inl k) = (let f = failed e.run in keeps w k f (why f.how f.before f.why))
        by_file (w, inr d) = drops w d

      left : IsSame events disk ⊎ IsLeft
      left = of handled where
        of : IsSame events disk ⊎ IsOneOf command name rows Handles → IsSame events disk ⊎ IsLeft
        of (inl same) = inl same
        of (inr x) = inr (by_file x (handles x.words x.holds))

-- ---- each command

module _ (words : List Text) (rows : List Row) (events : List Event) (disk : Disk) (file : List ℕ) where
  pub extract_left : is_given (codes "config") rows ≡ false → EndsBadly Pbfcutz words (codes "extract") rows events disk file → IsSame events disk ⊎ ((cut : Region) × (by : Strategy) × (files : Files) × ReadsAs (codes "extract") rows (Extract cut by files)
      × LeavesOut (AreExtract (manner_in Pbfcutz (Extract cut by files)) cut by file events disk) files events disk)
  extract_left plain e = of (left words (codes "extract") rows events disk file e extract_of (λ p. extract_is rows p plain) (λ c. c.2) (λ c r. r.5) (λ c h. h) (λ c. AreExtract (manner_in Pbfcutz (extract_of c)) c.0 c.1 file events disk)
      (λ c w before k x. keeps_extract (manner_in Pbfcutz (extract_of c)) c.2.input.now file w before events k c.0 c.1 disk e.allowed x)) where
        of : IsSame events disk ⊎ ((c : Cut) × ReadsAs (codes "extract") rows (extract_of c) × LeavesOut (AreExtract (manner_in Pbfcutz (extract_of c)) c.0 c.1 file events disk) c.2 events disk)
            → IsSame events disk ⊎ ((cut : Region) × (by : Strategy) × (files : Files) × ReadsAs (codes "extract") rows (Extract cut by files) × LeavesOut (AreExtract (manner_in Pbfcutz (Extract cut by files)) cut by file events disk) files events disk)
        of (inl same) = inl same
        of (inr (c, r, l)) = inr (c.0, c.1, c.2, r, l)

  pub convert_left : EndsBadly Pbfcutz words (codes "convert") rows events disk file → IsSame events disk ⊎ ((files : Files) × ReadsAs (codes "convert") rows (Convert files) × LeavesOut (AreConversion (manner_in Pbfcutz (Convert files)) file events) files events disk)
  convert_left e = left words (codes "convert") rows events disk file e Convert (λ p. convert_is rows p) (λ files. files) (λ files r. r.1) (λ files h. h) (λ files. AreConversion (manner_in Pbfcutz (Convert files)) file events)
      (λ files w before k x. keeps_conversion (manner_in Pbfcutz (Convert files)) files.input.now file w before events k x)

  pub pack_left : EndsBadly Pbfcutz words (codes "pack") rows events disk file → IsSame events disk ⊎ ((files : Files) × ReadsAs (codes "pack") rows (Pack files) × LeavesOut (AreCopy (manner_in Pbfcutz (Pack files)) file events) files events disk)
  pack_left e = left words (codes "pack") rows events disk file e Pack (λ p. pack_is rows p) (λ files. files) (λ files r. r.1) (λ files h. h) (λ files. AreCopy (manner_in Pbfcutz (Pack files)) file events)
      (λ files w before k x. keeps_copy (manner_in Pbfcutz (Pack files)) files.input.now file w before events k x)

  pub unpack_left : EndsBadly Pbfcutz words (codes "unpack") rows events disk file → IsSame events disk ⊎ ((files : Files) × ReadsAs (codes "unpack") rows (Unpack files) × LeavesOut (AreCopy (manner_in Pbfcutz (Unpack files)) file events) files events disk)
  unpack_left e = left words (codes "unpack") rows events disk file e Unpack (λ p. unpack_is rows p) (λ files. files) (λ files r. r.1) (λ files h. h) (λ files. AreCopy (manner_in Pbfcutz (Unpack files)) file events)
      (λ files w before k x. keeps_copy (manner_in Pbfcutz (Unpack files)) files.input.now file w before events k x)
