-- How the OUTs of a run for several areas end: all are kept, or not all, or all are dropped.
use Rattle.std.proofs.Common.{◌≡◌, ◌∙◌, ◌⊎◌, inl, inr, ℕ, List, [], ◌∷◌, ◌++◌, length, map, Bool, Option, Some, None, Err, refl, sym, ap, subst, append_assoc}
use Rattle.std.proofs.lemmas.Grind.{flat_map-append}
use Rattle.std.specs.List.{AllByRecursion, AllZip, flat_map, zip}
use Rattle.std.specs.String.{string_bytes}
use Rattle.osm_ways.specs.Selection.{Strategy}
use Rattle.pbf_frame.specs.declared.device.Drain as drain
use Rattle.pbf_frame.specs.declared.device.Feed as feed
use Rattle.pbf_frame.specs.declared.stop.Stop.TheVariants as stop
use Rattle.pbf_pass.specs.declared.hashing.PassCheck.{PassCheck}
use Rattle.pbfcut.specs.Several.{AllThree}
use Rattle.pbfcut.specs.Receipts.{judge_by}
use Rattle.pbfcut.specs.declared.carrying.AreaOutput.{AreaOutput}
use Rattle.pbfcut_cli.specs.declared.endings.Ending.{Ending}
use Rattle.pbfcut_cli.specs.declared.endings.Ending.TheVariants as ending
use Rattle.pbfcut_cli.specs.declared.programs.Program.{Program}
use Rattle.pbfcut_program.specs.declared.host.FinishFault.{FinishFault}
use Rattle.pbfcut_program.specs.declared.several.InputDigests.{InputDigests}
use Rattle.pbfcut_program.specs.declared.several.OutputArea.{OutputArea}
use Rattle.pbfcut_program.specs.declared.engine.Halted.{Halted}
use Rattle.pbfcut_program.specs.declared.several_files.NotKept.{NotKept}
use Rattle.pbfcut_program.specs.declared.several_files.OutPart.{OutPart}
use Rattle.pbfcut_program.specs.declared.several_writing.DoneOut.{DoneOut}
use Rattle.pbfcut_program.specs.Devices.{AreFresh, CloseAll}
use Rattle.pbfcut_program.specs.Events.{Event, Writing, wrote, then_all}
use Rattle.pbfcut_program.specs.Fails.{Each, Fails, FailsToFinish, Has, Quiet, judging}
use Rattle.pbfcut_program.specs.Files.{IsDropped, IsKept, Still}
use Rattle.pbfcut_program.specs.Manner.{Manner, manner}
use Rattle.pbfcut_program.specs.Outcomes.{ending_of_file}
use Rattle.pbfcut_program.specs.SeveralEnds.{Ended, EndsEach, EndsKept, IsEndedPart, ReturnsEach, areas_into, done_of}
use Rattle.pbfcut_program.specs.SeveralFiles.{DoesEach, DropsEach, DropsPart, FinishesWhole, KeepsEach, KeepsPart, NamesUpTo, OneByOne, flatten}
use Rattle.pbfcut_program.specs.SeveralOuts.{AnyFailedInto}
use Rattle.pbfcut_program.specs.SeveralWrites.{AllGiveRaw, AreLeft}
use Rattle.pbfcut_program.specs.Telling.{SaysLittle, Silent, TellsQuietly}
use Rattle.pbfcut_program.proofs.Closing.{close_rest, reads}
use Rattle.pbfcut_program.proofs.EventLemmas.{each_both, has_after, has_before}
use Rattle.pbfcut_program.proofs.FailLemmas.{fails_before, file_stops}
use Rattle.pbfcut_program.proofs.LeavingLemmas.{reads_return, returned_silent}
use Rattle.pbfcut_program.proofs.Logging.{and_then, then_none}
use Rattle.pbfcut_program.proofs.OutLemmas.{dropped_quiet, dropped_silent, kept_quiet, kept_silent}
use Rattle.pbfcut_program.proofs.SayingLemmas.{refusal_quiet}
use Rattle.pbfcut_program.proofs.SettlingLemmas.{kept_or_dropped}
use Rattle.pbfcut_program.proofs.SeveralClosing.{all_of, writes}
use Rattle.pbfcut_program.proofs.SeveralRunning.{AreTaken, ClosesAs, End, IsClosed, IsWholeEnd, RanBadly, RanWell, Took, as_unkept, as_upto, as_whole, closed_names, ended, halted_fails, kept_ends, outs_of, take_each, taken_fault, taken_left, unkept_left, writes_silent}

-- ---- what is done to the file of an OUT that was closed

-- it is kept or dropped
abbrev pub EndsPart : Program → (overwrite : Bool) → OutPart → List Event → Type 0
EndsPart program overwrite part es = IsKept program overwrite (string_bytes part.path) (Some (string_bytes part.name)) es ⊎ IsDropped program (Some (string_bytes part.name)) es

module _ (program : Program) (overwrite : Bool) where
  pub part_quiet : (part : OutPart) (es : List Event) → EndsPart program overwrite part es → Each Quiet es
  part_quiet part es (inl k) = kept_quiet program overwrite (string_bytes part.path) (Some (string_bytes part.name)) es k
  part_quiet part es (inr x) = dropped_quiet program (Some (string_bytes part.name)) es x

  pub part_silent : (part : OutPart) (es : List Event) → EndsPart program overwrite part es → Each Silent es
  part_silent part es (inl k) = kept_silent program overwrite (string_bytes part.path) (Some (string_bytes part.name)) es k
  part_silent part es (inr x) = dropped_silent program (Some (string_bytes part.name)) es x

  pub all_kept : (parts : List OutPart) (ess : List (List Event)) → AllZip (KeepsPart program overwrite) parts ess → AllZip (EndsPart program overwrite) parts ess
  all_kept [] [] e = tt
  all_kept (p ∷ ps) (es ∷ ess) e = (inl e.0, all_kept ps ess e.1)
  all_kept [] (es ∷ ess) e = absurd e
  all_kept (p ∷ ps) [] e = absurd e

  all_dropped : (parts : List OutPart) (ess : List (List Event)) → AllZip (DropsPart program) parts ess → AllZip (EndsPart program overwrite) parts ess
  all_dropped [] [] e = tt
  all_dropped (p ∷ ps) (es ∷ ess) e = (inr e.0, all_dropped ps ess e.1)
  all_dropped [] (es ∷ ess) e = absurd e
  all_dropped (p ∷ ps) [] e = absurd e

  zip_append : {X Y : Type 0} (R : X → Y → Type 0) (vs us : List X) (xs ys : List Y) → AllZip R vs xs → AllZip R us ys → AllZip R (vs ++ us) (xs ++ ys)
  zip_append R [] us [] ys a b = b
  zip_append R (x ∷ vs) us (y ∷ xs) ys a b = (a.0, zip_append R vs us xs ys a.1 b)
  zip_append R [] us (y ∷ xs) ys a b = absurd a
  zip_append R (x ∷ vs) us [] ys a b = absurd a

  part_ended : (part : OutPart) (es : List Event) (fault : Option FinishFault) → ((fault ≡ None) × IsKept program overwrite (string_bytes part.path) (Some (string_bytes part.name)) es) ⊎ IsDropped program (Some (string_bytes part.name)) es → EndsPart program overwrite part es
  part_ended part es fault (inl k) = inl k.1
  part_ended part es fault (inr x) = inr x

  -- the files of all OUTs end, and one of them for this cause
  abbrev pub EndsFiles : FinishFault → List OutPart → (before after : Option (List Event)) → Type 0
  EndsFiles why parts before after = (ess : List (List Event)) × (after ≡ then_all before (flatten ess)) × AllZip (EndsPart program overwrite) parts ess × Has (FailsToFinish why) (flatten ess)

  pub named_ends : (at : ℕ) (why : FinishFault) (parts : List OutPart) (l m : Option (List Event)) → NamesUpTo program overwrite at why parts l m → EndsFiles why parts l m
  named_ends at why parts l m u =
      let kept = u.keeps.0 in
      let gone = u.drops.0 in
      let rest : List (List Event) = u.ends ∷ gone in
      let path = string_bytes u.failed.path in
      let name : Option (List ℕ) = Some (string_bytes u.failed.name) in
      let two = and_then l u.first u.second (flatten kept) u.ends u.keeps.1 u.log in
      let three = and_then l u.second m (flatten kept ++ u.ends) (flatten gone) two u.drops.1 in
      let same : flatten (kept ++ rest) ≡ (flatten kept ++ u.ends) ++ flatten gone = flat_map-append (λ part. part) kept rest ∙ sym (append_assoc (flatten kept) u.ends (flatten gone)) in (
        kept ++ rest,
        three ∙ ap (λ es. then_all l es) (sym same),
        subst (λ ps. AllZip (EndsPart program overwrite) ps (kept ++ rest)) (sym u.are)
            (zip_append (EndsPart program overwrite) u.named (u.failed ∷ u.later) kept rest (all_kept u.named kept u.keeps.2) (part_ended u.failed u.ends None (kept_or_dropped {A = Unit {0}} program overwrite path name None (Err why) u.ends u.ended), all_dropped u.later gone u.drops.2)),
        subst (λ es. Has (FailsToFinish why) es) (sym same) (has_before _ (flatten kept ++ u.ends) (flatten gone) (has_after _ (flatten kept) u.ends u.ended.0)),
      )

-- ---- files and OUTs

-- with what was done to their files
abbrev ended_outs : List Writing → List (List Event) → List Ended
ended_outs [] ess = []
ended_outs (w ∷ ws) [] = []
ended_outs (w ∷ ws) (es ∷ ess) = record { readings = []; out = w; ends = es } ∷ ended_outs ws ess

module _ (program : Program) (overwrite : Bool) where
  ended_whole : (part : OutPart) (k : End) (w : Writing) (es : List Event) → IsClosed part k w → IsWholeEnd k → EndsPart program overwrite part es → IsEndedPart program overwrite part (record { readings = []; out = w; ends = es })
  ended_whole part k w es c whole (inl kept) = record { name = c.0; ended = inl (c.1 ∙ whole.0, c.2 ∙ whole.1, subst (λ n. IsKept program overwrite (string_bytes part.path) n es) (sym c.0) kept) }
  ended_whole part k w es c whole (inr x) = record { name = c.0; ended = inr (subst (λ n. IsDropped program n es) (sym c.0) x) }

  -- all were whole
  returned_whole : (parts : List OutPart) (ks : List End) (ws : List Writing) (ess : List (List Event)) → AllThree IsClosed parts ks ws → AllByRecursion IsWholeEnd ks → AllZip (EndsPart program overwrite) parts ess
      → AllZip (IsEndedPart program overwrite) parts (ended_outs ws ess) × (map (λ one. wrote one.out) (ended_outs ws ess) ≡ writes ws) × (flat_map (λ one. one.ends) (ended_outs ws ess) ≡ flatten ess)
  returned_whole [] [] [] [] c whole e = (tt, refl, refl)
  returned_whole (p ∷ ps) (k ∷ ks) (w ∷ ws) (es ∷ ess) c whole e =
      let rest = returned_whole ps ks ws ess c.1 whole.1 e.1 in
      ((ended_whole p k w es c.0 whole.0 e.0, rest.0), ap (λ more. wrote w ∷ more) rest.1, ap (λ more. es ++ more) rest.2)
  returned_whole [] [] [] (es ∷ ess) c whole e = absurd e
  returned_whole (p ∷ ps) (k ∷ ks) (w ∷ ws) [] c whole e = absurd e
  returned_whole [] [] (w ∷ ws) ess c whole e = absurd c
  returned_whole [] (k ∷ ks) ws ess c whole e = absurd c
  returned_whole (p ∷ ps) [] ws ess c whole e = absurd c
  returned_whole (p ∷ ps) (k ∷ ks) [] ess c whole e = absurd c

  -- all are dropped
  returned_dropped : (parts : List OutPart) (ks : List End) (ws : List Writing) (ess : List (List Event)) → AllThree IsClosed parts ks ws → AllZip (DropsPart program) parts ess
      → AllZip (IsEndedPart program overwrite) parts (ended_outs ws ess) × (map (λ one. wrote one.out) (ended_outs ws ess) ≡ writes ws) × (flat_map (λ one. one.ends) (ended_outs ws ess) ≡ flatten ess)
  returned_dropped [] [] [] [] c e = (tt, refl, refl)
  returned_dropped (p ∷ ps) (k ∷ ks) (w ∷ ws) (es ∷ ess) c e =
      let rest = returned_dropped ps ks ws ess c.1 e.1 in
      ((record { name = c.0.0; ended = inr (subst (λ n. IsDropped program n es) (sym c.0.0) e.0) }, rest.0), ap (λ more. wrote w ∷ more) rest.1, ap (λ more. es ++ more) rest.2)
  returned_dropped [] [] [] (es ∷ ess) c e = absurd e
  returned_dropped (p ∷ ps) (k ∷ ks) (w ∷ ws) [] c e = absurd e
  returned_dropped [] [] (w ∷ ws) ess c e = absurd c
  returned_dropped [] (k ∷ ks) ws ess c e = absurd c
  returned_dropped (p ∷ ps) [] ws ess c e = absurd c
  returned_dropped (p ∷ ps) (k ∷ ks) [] ess c e = absurd c

  -- IN was returned, then the OUTs, and then more was said that changes nothing
  put_together : {F : Type 0} (f : feed.Ghosts F) (news : List F) (parts : List OutPart) (ws : List Writing) (ess : List (List Event)) (last : List Event) (k l m n p : Option (List Event)) → CloseAll f news k l → m ≡ then_all l (writes ws) → n ≡ then_all m (flatten ess) → p ≡ then_all n last → Each Still last
      → AllZip (IsEndedPart program overwrite) parts (ended_outs ws ess) × (map (λ one. wrote one.out) (ended_outs ws ess) ≡ writes ws) × (flat_map (λ one. one.ends) (ended_outs ws ess) ≡ flatten ess) → ReturnsEach program overwrite parts k p
  put_together f news parts ws ess last k l m n p c closed ends more still all =
      let rest = close_rest f news k l c in
      let outs = ended_outs ws ess in
      let tail = and_then l m p (writes ws) (flatten ess ++ last) closed (and_then m n p (flatten ess) last ends more) in
      record {
        rs = rest.0;
        ones = outs;
        last = last;
        log = and_then k l p (reads rest.0) (writes ws ++ (flatten ess ++ last)) rest.1 tail
            ∙ ap (λ xs. then_all k (reads rest.0 ++ (xs ++ (flatten ess ++ last)))) (sym all.1) ∙ ap (λ xs. then_all k (reads rest.0 ++ (map (λ one. wrote one.out) outs ++ (xs ++ last)))) (sym all.2);
        still = still;
        each = all.0;
      }

  pub returns_whole : {F A D : Type 0} (f : feed.Ghosts F) (d : drain.Ghosts D) (news : List F) (parts : List OutPart) (outputs : List (AreaOutput A D)) (k l m n : Option (List Event)) → length parts ≡ length outputs → CloseAll f news k l
      → OneByOne (FinishesWhole d) (zip parts outputs) l m → (ess : List (List Event)) → n ≡ then_all m (flatten ess) → AllZip (EndsPart program overwrite) parts ess → ReturnsEach program overwrite parts k n
  returns_whole f d news parts outputs k l m n same c fin ess log ends =
      let closes = as_whole d (zip parts outputs) l m fin in
      let closed = closed_names d closes.0 parts outputs l m same closes.1 in
      put_together f news parts closed.0 ess [] k l m n n c closed.1 log (then_none n) tt (returned_whole parts closes.0 closed.0 ess closed.2 closes.2 ends)

  pub returns_dropped : {F A D : Type 0} (f : feed.Ghosts F) (d : drain.Ghosts D) (news : List F) (parts : List OutPart) (outputs : List (AreaOutput A D)) (ks : List End) (last : List Event) (k l m n p : Option (List Event)) → length parts ≡ length outputs → CloseAll f news k l
      → ClosesAs d ks (zip parts outputs) l m → DoesEach (DropsPart program) parts m n → p ≡ then_all n last → Each Still last → ReturnsEach program overwrite parts k p
  returns_dropped f d news parts outputs ks last k l m n p same c closes drops more still =
      let closed = closed_names d ks parts outputs l m same closes in
      put_together f news parts closed.0 drops.0 last k l m n p c closed.1 drops.1 more still (returned_dropped parts ks closed.0 drops.0 closed.2 drops.2)

-- ---- why the command fails, and what each OUT has

-- what is said of OUTs that can't all be kept
abbrev pub Unkept : {A D : Type 0} → drain.Ghosts D → List OutPart → List (AreaOutput A D) → Program → (overwrite : Bool) → Ending → (before after : Option (List Event)) → Type 0
Unkept d parts outputs program overwrite how before after = ((how ≡ ending.Stopped stop.Memory) × DropsEach d program parts outputs before after)
    ⊎ ((lost : NotKept) × (how ≡ ending_of_file lost.fault) × KeepsEach {X = Unit {0}} d program overwrite (Err lost) parts outputs before after)

-- by the place where they are made
pub unkept_at : {A D : Type 0} (d : drain.Ghosts D) (parts : List OutPart) (outputs : List (AreaOutput A D)) (p program : Program) → p ≡ program → (o overwrite : Bool) → o ≡ overwrite → (how : Ending) (l n : Option (List Event)) → Unkept d parts outputs p o how l n → Unkept d parts outputs program overwrite how l n
unkept_at d parts outputs p program one o overwrite two how l n x = subst (λ (y : Program). Unkept d parts outputs y overwrite how l n) one (subst (λ (y : Bool). Unkept d parts outputs p y how l n) two x)

pub kept_at : (parts : List OutPart) (p program : Program) → p ≡ program → (o overwrite : Bool) → o ≡ overwrite → (l n : Option (List Event)) → DoesEach (KeepsPart p o) parts l n → DoesEach (KeepsPart program overwrite) parts l n
kept_at parts p program one o overwrite two l n x = subst (λ (y : Program). DoesEach (KeepsPart y overwrite) parts l n) one (subst (λ (y : Bool). DoesEach (KeepsPart p y) parts l n) two x)

module _ {F D : Type 0} (m : Manner) (by : PassCheck) (s : Strategy) (f : feed.Ghosts F) (d : drain.Ghosts D) (olds news : List F) (input : InputDigests) (failed : Type 0) (parts : List OutPart) (befores afters : List (AreaOutput OutputArea D)) (first second : Option (List Event))
    (same : length parts ≡ length befores) (fresh : AreFresh f olds) (closes : CloseAll f news first second) (ran : AllZip (RanWell m by s f d olds news input failed) befores afters) where
  abbrev supplied : List (Option (List ℕ))
  supplied = map f.remaining olds

  -- why it fails, what is left, and that nothing is said
  abbrev pub Lost : Ending → (after : Option (List Event)) → Type 0
  Lost how after = (events : List Event) × (after ≡ then_all first events) × Fails m (judging (judge_by s) (AllGiveRaw s (areas_into befores))) supplied how events × AreLeft m s supplied (areas_into befores) events × Each Silent events

  abbrev events_of : List Took → (rest : List Event) → List Event
  events_of ts rest = reads (close_rest f news first second closes).0 ++ (writes (outs_of ts) ++ rest)

  lose : (how : Ending) (ks : List End) (ts : List Took) (rest : List Event) (l n : Option (List Event)) → l ≡ then_all second (writes (outs_of ts)) → AreTaken m by s f d olds news input parts ks befores afters ts → n ≡ then_all l rest → Each Quiet rest → Each Silent rest
      → Fails m (judging (judge_by s) (AllGiveRaw s (areas_into befores))) supplied how (events_of ts rest) → Lost how n
  lose how ks ts rest l n closed taken log quiet silent fails =
      let gave = close_rest f news first second closes in (
        events_of ts rest,
        and_then first second n (reads gave.0) (writes (outs_of ts) ++ rest) gave.1 (and_then second l n (writes (outs_of ts)) rest closed log),
        fails,
        inr (record { before = []; rs = gave.0; ws = outs_of ts; after = rest; happened = refl; quiet = (tt, quiet); each = taken_left m by s f d olds news input parts ks befores afters ts taken }),
        each_both Silent (reads gave.0) (writes (outs_of ts) ++ rest) (returned_silent (λ w. Unit {0}) (reads gave.0) (reads_return (λ w. Unit {0}) gave.0)) (each_both Silent (writes (outs_of ts)) rest (writes_silent (outs_of ts)) silent),
      )

  drops_quiet : (ess : List (List Event)) → AllZip (DropsPart m.program) parts ess → Each Quiet (flatten ess)
  drops_quiet ess e = all_of (DropsPart m.program) Quiet (λ p es x. dropped_quiet m.program (Some (string_bytes p.name)) es x) parts ess e

  drops_silent : (ess : List (List Event)) → AllZip (DropsPart m.program) parts ess → Each Silent (flatten ess)
  drops_silent ess e = all_of (DropsPart m.program) Silent (λ p es x. dropped_silent m.program (Some (string_bytes p.name)) es x) parts ess e

  take : (ks : List End) (l : Option (List Event)) → ClosesAs d ks (zip parts afters) second l → (ts : List Took) × (l ≡ then_all second (writes (outs_of ts))) × AreTaken m by s f d olds news input parts ks befores afters ts
  take ks l c = take_each m by s f d olds news input first second fresh closes failed parts ks befores afters second l same ran c

  lose_memory : (n : Option (List Event)) → DropsEach d m.program parts afters second n → Lost (ending.Stopped stop.Memory) n
  lose_memory n (l, fin, drops) =
      let c = as_unkept d (zip parts afters) second l fin in
      let t = take c.0 l c.1 in
      lose (ending.Stopped stop.Memory) c.0 t.0 (flatten drops.0) l n t.1 t.2 drops.1 (drops_quiet drops.0 drops.2) (drops_silent drops.0 drops.2) (stop.Memory, refl, tt)

  -- why not all of one went out, or it didn't get its name
  lose_fault : (how : Ending) (why : FinishFault) → how ≡ ending_of_file why → (es : List Event) → Has (FailsToFinish why) es → Fails m (judging (judge_by s) (AllGiveRaw s (areas_into befores))) supplied how es
  lose_fault how why is es h = subst (λ e. Fails m (judging (judge_by s) (AllGiveRaw s (areas_into befores))) supplied e es) (sym is) (file_stops m (judging (judge_by s) (AllGiveRaw s (areas_into befores))) supplied why es h)

  pub keep_lost : (overwrite : Bool) (how : Ending) (n : Option (List Event)) → Unkept d parts afters m.program overwrite how second n → Lost how n
  keep_lost overwrite how n (inl (is, drops)) = subst (λ e. Lost e n) (sym is) (lose_memory n drops)
  keep_lost overwrite how n (inr (lost, is, (l, inl (upto, drops)))) =
      let c = as_upto d lost.at lost.fault (zip parts afters) second l upto in
      let t = take c.0 l c.1 in
      let rest = flatten drops.0 in
      lose how c.0 t.0 rest l n t.1 t.2 drops.1 (drops_quiet drops.0 drops.2) (drops_silent drops.0 drops.2)
      (lose_fault how lost.fault is (events_of t.0 rest) (has_after _ (reads (close_rest f news first second closes).0) (writes (outs_of t.0) ++ rest) (has_before _ (writes (outs_of t.0)) rest (taken_fault m by s f d olds news input lost.fault parts c.0 befores afters t.0 t.2 c.2))))
  keep_lost overwrite how n (inr (lost, is, (l, inr (fin, named)))) =
      let c = as_whole d (zip parts afters) second l fin in
      let t = take c.0 l c.1 in
      let e = named_ends m.program overwrite lost.at lost.fault parts l n named in
      let rest = flatten e.0 in
      lose how c.0 t.0 rest l n t.1 t.2 e.1 (all_of (EndsPart m.program overwrite) Quiet (part_quiet m.program overwrite) parts e.0 e.2) (all_of (EndsPart m.program overwrite) Silent (part_silent m.program overwrite) parts e.0 e.2)
      (lose_fault how lost.fault is (events_of t.0 rest) (has_after _ (reads (close_rest f news first second closes).0) (writes (outs_of t.0) ++ rest) (has_after _ (writes (outs_of t.0)) rest e.3)))

  -- all are kept
  pub kept_each : (overwrite : Bool) (dones : List DoneOut) (l n : Option (List Event)) → dones ≡ map done_of afters → OneByOne (FinishesWhole d) (zip parts afters) second l → DoesEach (KeepsPart m.program overwrite) parts l n
      → EndsEach m by s overwrite supplied input.input input.raw parts befores dones first n
  kept_each overwrite dones l n are fin keeps =
      let gave = close_rest f news first second closes in
      let c = as_whole d (zip parts afters) second l fin in
      let t = take c.0 l c.1 in
      let ones = ended m by s f d olds news input t.0 keeps.0 in
      let e = kept_ends m by s f d olds news input overwrite parts c.0 befores afters t.0 keeps.0 t.2 c.2 keeps.2 in
      record {
        rs = gave.0;
        ones = ones;
        log = and_then first second n (reads gave.0) (writes (outs_of t.0) ++ flatten keeps.0) gave.1 (and_then second l n (writes (outs_of t.0)) (flatten keeps.0) t.1 keeps.1)
            ∙ ap (λ xs. then_all first (reads gave.0 ++ (xs ++ flatten keeps.0))) (sym e.1) ∙ ap (λ xs. then_all first (reads gave.0 ++ (map (λ one. wrote one.out) ones ++ xs))) (sym e.2);
        each = subst (λ ds. AllThree (EndsKept m by s overwrite supplied input.input input.raw) (zip parts befores) ds ones) (sym are) e.0;
      }

-- a run that stopped: all OUTs are dropped, and it may be told how much of IN was read
module _ {F D : Type 0} (program : Program) (packs digests : Bool) (by : PassCheck) (s : Strategy) (f : feed.Ghosts F) (d : drain.Ghosts D) (olds news : List F) (fresh : AreFresh f olds) where
  abbrev m : Manner
  m = manner program packs digests

  pub halted_each : (halted : Halted) (shown : Ending) (parts : List OutPart) (befores afters : List (AreaOutput OutputArea D)) (k l n p : Option (List Event)) → length parts ≡ length afters → (befores ≡ [] → ⊥)
      → AllZip (RanBadly program packs digests by s f d olds news fresh (AnyFailedInto m s f d olds befores afters) halted) befores afters → CloseAll f news k l → DropsEach d program parts afters l n → TellsQuietly digests n p halted.ending shown
      → (events : List Event) × (p ≡ then_all k events) × Fails m (judging (judge_by s) (AllGiveRaw s (areas_into befores))) (map f.remaining olds) shown events × AreLeft m s (map f.remaining olds) (areas_into befores) events × SaysLittle digests events
  halted_each halted shown parts befores afters k l n p same some ran c (o, fin, drops) t =
      let has = map f.remaining olds in
      let j = judging (judge_by s) (AllGiveRaw s (areas_into befores)) in
      let h = halted_fails program packs digests by s f d olds news fresh halted parts befores afters k l o same some ran c fin in
      let rs = reads h.0 in
      let ws = writes h.1 in
      let gone = flatten drops.0 in
      let rest = gone ++ t.events in
      let all = rs ++ (ws ++ rest) in
      let gone_quiet = all_of (DropsPart program) Quiet (λ q es x. dropped_quiet program (Some (string_bytes q.name)) es x) parts drops.0 drops.2 in
      let gone_silent = all_of (DropsPart program) Silent (λ q es x. dropped_silent program (Some (string_bytes q.name)) es x) parts drops.0 drops.2 in
      let quiet = each_both Quiet gone t.events gone_quiet (refusal_quiet digests t.events t.tells) in
      let fails = subst (λ es. Fails m j has halted.ending es) (append_assoc rs ws rest) (fails_before m j has halted.ending (rs ++ ws) rest quiet h.3) in (
        all,
        and_then k o p (rs ++ ws) rest h.2 (and_then o n p gone t.events drops.1 t.log) ∙ ap (λ es. then_all k es) (append_assoc rs ws rest),
        shows all fails t.shows,
        inr (record { before = []; rs = h.0; ws = h.1; after = rest; happened = refl; quiet = (tt, quiet); each = unkept_left program packs digests by s f d olds news fresh (AnyFailedInto m s f d olds befores afters) halted befores afters h.1 ran h.4 }),
        record {
          before = rs ++ (ws ++ gone);
          last = t.events;
          happened = ap (λ es. rs ++ es) (sym (append_assoc ws gone t.events)) ∙ sym (append_assoc rs (ws ++ gone) t.events);
          silent = each_both Silent rs (ws ++ gone) (returned_silent (λ w. Unit {0}) rs (reads_return (λ w. Unit {0}) h.0)) (each_both Silent ws gone (writes_silent h.1) gone_silent);
          tells = t.tells;
        },
      ) where
        shows : (es : List Event) → Fails m (judging (judge_by s) (AllGiveRaw s (areas_into befores))) (map f.remaining olds) halted.ending es → ((shown ≡ halted.ending) ⊎ (shown ≡ ending.Stopped stop.Memory)) → Fails m (judging (judge_by s) (AllGiveRaw s (areas_into befores))) (map f.remaining olds) shown es
        shows es fails (inl same) = subst (λ e. Fails m (judging (judge_by s) (AllGiveRaw s (areas_into befores))) (map f.remaining olds) e es) (sym same) fails
        shows es fails (inr none) = subst (λ e. Fails m (judging (judge_by s) (AllGiveRaw s (areas_into befores))) (map f.remaining olds) e es) (sym none) (stop.Memory, refl, tt)

-- and what was done to their files
module _ {F A D : Type 0} (f : feed.Ghosts F) (d : drain.Ghosts D) (news : List F) (program : Program) (overwrite : Bool) (parts : List OutPart) (afters : List (AreaOutput A D)) (first second : Option (List Event)) (same : length parts ≡ length afters) (closes : CloseAll f news first second) where
  pub drops_return : (last : List Event) (n p : Option (List Event)) → DropsEach d program parts afters second n → p ≡ then_all n last → Each Still last → ReturnsEach program overwrite parts first p
  drops_return last n p (l, fin, drops) more still =
      let c = as_unkept d (zip parts afters) second l fin in
      returns_dropped program overwrite f d news parts afters c.0 last first second l n p same closes c.1 drops more still

  pub lost_return : (how : Ending) (n : Option (List Event)) → Unkept d parts afters program overwrite how second n → ReturnsEach program overwrite parts first n
  lost_return how n (inl (is, drops)) = drops_return [] n n drops (then_none n) tt
  lost_return how n (inr (lost, is, (l, inl (upto, drops)))) =
      let c = as_upto d lost.at lost.fault (zip parts afters) second l upto in
      returns_dropped program overwrite f d news parts afters c.0 [] first second l n n same closes c.1 drops (then_none n) tt
  lost_return how n (inr (lost, is, (l, inr (fin, named)))) =
      let e = named_ends program overwrite lost.at lost.fault parts l n named in
      returns_whole program overwrite f d news parts afters first second l n same closes fin e.0 e.1 e.2

  pub kept_return : (l n : Option (List Event)) → OneByOne (FinishesWhole d) (zip parts afters) second l → DoesEach (KeepsPart program overwrite) parts l n → ReturnsEach program overwrite parts first n
  kept_return l n fin keeps = returns_whole program overwrite f d news parts afters first second l n same closes fin keeps.0 keeps.1 (all_kept program overwrite parts keeps.0 keeps.2)
