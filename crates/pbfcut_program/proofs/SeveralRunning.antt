-- What a run for several areas did, once IN and all OUTs are returned.
use Rattle.std.proofs.Common.{arith, ◌≡◌, ◌∙◌, ◌⊎◌, inl, inr, ℕ, ◌+◌, ◌<◌, List, [], ◌∷◌, ◌++◌, length, map, Bool, true, false, Option, Some, None, Ok, Err, refl, sym, ap, subst}
use Rattle.std.specs.Prelude.{IfSome}
use Rattle.std.specs.List.{AllByRecursion, AllZip, flat_map, zip}
use Rattle.std.specs.Option.{is_some}
use Rattle.std.specs.String.{string_bytes}
use Rattle.osm_ways.specs.Selection.{Strategy}
use Rattle.pbf_frame.specs.declared.device.Drain as drain
use Rattle.pbf_frame.specs.declared.device.Feed as feed
use Rattle.pbf_frame.specs.declared.stop.Stop.{Stop}
use Rattle.pbf_frame.specs.declared.stop.Stop.TheVariants as stop
use Rattle.pbf_frame.specs.Verdict.{Verdict}
use Rattle.pbf_pass.specs.declared.hashing.PassCheck.{PassCheck}
use Rattle.pbf_unpack.specs.RawFrames.{IsNearLimit}
use Rattle.pbf_wire.specs.declared.fault.Fault.{Fault}
use Rattle.pbfcut.specs.Several.{AllThree, AnyZip}
use Rattle.pbfcut.specs.Tasks.{answer_of, extracting, spares}
use Rattle.pbfcut.specs.Receipts.{judge_by}
use Rattle.pbfcut.specs.declared.carrying.AreaOutput.{AreaOutput}
use Rattle.pbfcut_cli.specs.declared.endings.Ending.{Ending}
use Rattle.pbfcut_cli.specs.declared.endings.Ending.TheVariants as ending
use Rattle.pbfcut_cli.specs.declared.programs.Program.{Program}
use Rattle.pbfcut_cli.specs.declared.programs.Program.TheVariants.{Pbfcut, Pbfcutz}
use Rattle.pbfcut_program.specs.declared.engine.Halted.{Halted}
use Rattle.pbfcut_program.specs.declared.host.FinishFault.{FinishFault}
use Rattle.pbfcut_program.specs.declared.several.InputDigests.{InputDigests}
use Rattle.pbfcut_program.specs.declared.several.OutputArea.{OutputArea}
use Rattle.pbfcut_program.specs.declared.several_files.OutPart.{OutPart}
use Rattle.pbfcut_program.specs.Devices.{AreFresh, Change, ChangesBy, CloseAll, EndsFor, MeansBy, StopsFor, TakenBy}
use Rattle.pbfcut_program.specs.Events.{Event, Reading, Writing, read, wrote, then_all}
use Rattle.pbfcut_program.specs.Fails.{CauseOfWrite, Each, Fails, FailsToFinish, FailsToWrite, Has, NearsLimit, WroteNothing, judging, readings}
use Rattle.pbfcut_program.specs.Lines.{digest_if_asked}
use Rattle.pbfcut_program.specs.Manner.{AreDigests, Form, Manner, hashes_meaning, manner, of_input, of_output, output_form, packed_file, raw_file}
use Rattle.pbfcut_program.specs.Readings.{IsWork}
use Rattle.pbfcut_program.specs.Several.{report_with}
use Rattle.pbfcut_program.specs.SeveralEnds.{Ended, EndsKept, areas_into, done_of}
use Rattle.pbfcut_program.specs.SeveralFiles.{FinishesPart, FinishesUnkept, FinishesUpTo, FinishesWhole, KeepsPart, OneByOne, flatten}
use Rattle.pbfcut_program.specs.SeveralOuts.{RunsInto, cut_into}
use Rattle.pbfcut_program.specs.SeveralWrites.{AllGiveRaw, LeavesOne}
use Rattle.pbfcut_program.specs.Tasks.{GivesRaw}
use Rattle.pbfcut_program.specs.Telling.{Silent}
use Rattle.pbfcut_program.proofs.Closing.{EndsWith, close_given, hashed_as, reads, stop_told}
use Rattle.pbfcut_program.proofs.FailLemmas.{stop_fails}
use Rattle.pbfcut_program.proofs.LeavingLemmas.{IsReturned, front_returned, taken_is}
use Rattle.pbfcut_program.proofs.Logging.{and_then, then_none}
use Rattle.pbfcut_program.proofs.SeveralClosing.{writes}
use Rattle.pbfcut_program.proofs.Weaker.{ends_weaker}

-- ---- OUTs are closed: each to be kept or not, and all that it took went out, or not

abbrev pub End : Type 0
End = Bool × Option FinishFault

abbrev pub ClosesAs : {A D : Type 0} → drain.Ghosts D → List End → List (OutPart × AreaOutput A D) → (before after : Option (List Event)) → Type 0
ClosesAs d [] [] before after = after ≡ before
ClosesAs d (k ∷ ks) (x ∷ xs) before after = (between : Option (List Event)) × FinishesPart d k.0 k.1 x before between × ClosesAs d ks xs between after
ClosesAs d _ _ before after = ⊥

-- whole, and unkept
abbrev pub IsWholeEnd : End → Type 0
IsWholeEnd k = (k.0 ≡ true) × (k.1 ≡ None)

abbrev pub IsUnkeptEnd : End → Type 0
IsUnkeptEnd k = k.0 ≡ false

-- not all of one of them went out, for this
abbrev pub HasFault : FinishFault → List End → Type 0
HasFault why [] = ⊥
HasFault why (k ∷ ks) = (k.1 ≡ Some why) ⊎ HasFault why ks

fault_after : (why : FinishFault) (ks js : List End) → HasFault why js → HasFault why (ks ++ js)
fault_after why [] js h = h
fault_after why (k ∷ ks) js h = inr (fault_after why ks js h)

module _ {A D : Type 0} (d : drain.Ghosts D) where
  pub as_whole : (xs : List (OutPart × AreaOutput A D)) (l m : Option (List Event)) → OneByOne (FinishesWhole d) xs l m → (ks : List End) × ClosesAs d ks xs l m × AllByRecursion IsWholeEnd ks
  as_whole [] l m c = ([], c, tt)
  as_whole (x ∷ xs) l m c = (let rest = as_whole xs c.0 m c.2 in ((true, None) ∷ rest.0, (c.0, c.1, rest.1), ((refl, refl), rest.2)))

  pub as_unkept : (xs : List (OutPart × AreaOutput A D)) (l m : Option (List Event)) → OneByOne (FinishesUnkept d) xs l m → (ks : List End) × ClosesAs d ks xs l m × AllByRecursion IsUnkeptEnd ks
  as_unkept [] l m c = ([], c, tt)
  as_unkept (x ∷ xs) l m c = (let rest = as_unkept xs c.0 m c.2 in ((false, c.1.0) ∷ rest.0, (c.0, c.1.1, rest.1), (refl, rest.2)))

  as_both : (ks js : List End) (xs ys : List (OutPart × AreaOutput A D)) (l m n : Option (List Event)) → ClosesAs d ks xs l m → ClosesAs d js ys m n → ClosesAs d (ks ++ js) (xs ++ ys) l n
  as_both [] js [] ys l m n a b = subst (λ k. ClosesAs d js ys k n) a b
  as_both (k ∷ ks) js (x ∷ xs) ys l m n a b = (a.0, a.1, as_both ks js xs ys a.0 m n a.2 b)
  as_both [] js (x ∷ xs) ys l m n a b = absurd a
  as_both (k ∷ ks) js [] ys l m n a b = absurd a

  pub as_upto : (at : ℕ) (why : FinishFault) (xs : List (OutPart × AreaOutput A D)) (l m : Option (List Event)) → FinishesUpTo d at why xs l m → (ks : List End) × ClosesAs d ks xs l m × HasFault why ks
  as_upto at why xs l m u =
      let first = as_whole u.whole l u.first u.wholes in
      let last = as_unkept u.later u.second m u.unkept in
      let ks : List End = (true, Some why) ∷ last.0 in
      (first.0 ++ ks, subst (λ ys. ClosesAs d (first.0 ++ ks) ys l m) (sym u.are) (as_both first.0 ks u.whole (u.failed ∷ u.later) l u.first m first.1 (u.second, u.fails, last.1)), fault_after why first.0 ks (inl refl))

-- ---- whatever they took

-- an OUT was closed to such an end
abbrev pub IsClosed : OutPart → End → Writing → Type 0
IsClosed part k w = (w.name ≡ Some (string_bytes part.name)) × (w.kept ≡ k.0) × (w.fault ≡ k.1)

module _ {A D : Type 0} (d : drain.Ghosts D) where
  pub closed_names : (ks : List End) (parts : List OutPart) (outputs : List (AreaOutput A D)) (l m : Option (List Event)) → length parts ≡ length outputs → ClosesAs d ks (zip parts outputs) l m → (ws : List Writing) × (m ≡ then_all l (writes ws)) × AllThree IsClosed parts ks ws
  closed_names [] [] [] l m same c = ([], c ∙ then_none l, tt)
  closed_names (k ∷ ks) (p ∷ ps) (o ∷ os) l m same c =
      let w : Writing = record { name = Some (string_bytes p.name); bytes = c.1.0.0; reports = is_some (d.taken o.drain); failures = d.failures o.drain; kept = k.0; fault = k.1 } in
      let rest = closed_names ks ps os c.0 m (omega (arith, same)) c.2 in
      (w ∷ rest.0, and_then l c.0 m (wrote w ∷ []) (writes rest.0) c.1.0.2 rest.1, ((refl, refl, refl), rest.2))
  closed_names (k ∷ ks) [] [] l m same c = absurd c
  closed_names [] (p ∷ ps) (o ∷ os) l m same c = absurd c
  closed_names ks [] (o ∷ os) l m same c = absurd (omega (arith, same))
  closed_names ks (p ∷ ps) [] l m same c = absurd (omega (arith, same))

-- ---- a run that ended well

-- an OUT, and what the passes read for it
pub record Took : Type 0 where
  pub readings : List Reading
  pub out : Writing

abbrev pub outs_of : List Took → List Writing
outs_of ts = map (λ t. t.out) ts

module _ {F D : Type 0} (m : Manner) (by : PassCheck) (s : Strategy) (f : feed.Ghosts F) (d : drain.Ghosts D) (olds news : List F) (input : InputDigests) where
  abbrev has : List (Option (List ℕ))
  has = map f.remaining olds

  -- what a run says of an area that ended well
  abbrev pub RanWell : (failed : Type 0) → (old new : AreaOutput OutputArea D) → Type 0
  RanWell failed old new = RunsInto m by f d (extracting s (cut_into old.area)) olds news failed old new (Ok (report_with input new.counts))

  -- its OUT was closed, and took the extract
  pub record IsTaken (part : OutPart) (k : End) (old new : AreaOutput OutputArea D) (t : Took) : Type 0 where
    pub closed : IsClosed part k t.out
    pub hashed : new.area.output ≡ digest_if_asked m.digests t.out.bytes
    pub meaning_hashed : new.area.meaning ≡ digest_if_asked (hashes_meaning (output_form m.packs m.program) m.digests) (of_output m t.out.bytes)
    pub work : IsWork m by (extracting s (cut_into old.area)) has t.readings t.out.bytes new.counts input.input input.raw

  abbrev pub AreTaken : List OutPart → List End → (befores afters : List (AreaOutput OutputArea D)) → List Took → Type 0
  AreTaken [] [] [] [] [] = Unit {0}
  AreTaken (p ∷ ps) (k ∷ ks) (o ∷ os) (n ∷ ns) (t ∷ ts) = IsTaken p k o n t × AreTaken ps ks os ns ts
  AreTaken _ _ _ _ _ = ⊥

  module _ (first second : Option (List Event)) (fresh : AreFresh f olds) (closes : CloseAll f news first second) where
    take_one : (failed : Type 0) (part : OutPart) (k : End) (old new : AreaOutput OutputArea D) (l n : Option (List Event)) → RanWell failed old new → FinishesPart d k.0 k.1 (part, new) l n → (t : Took) × (n ≡ then_all l (wrote t.out ∷ [])) × IsTaken part k old new t
    take_one failed part k old new l n r fin =
        let works = r.works fresh in
        let given = close_given f (AreDigests m by input.input input.raw) (spares (extracting s (cut_into old.area))) olds news works.files first second fresh closes works.gave in
        let w : Writing = record { name = Some (string_bytes part.name); bytes = works.written; reports = is_some (d.taken new.drain); failures = d.failures new.drain; kept = k.0; fault = k.1 } in (
          record { readings = given.0; out = w },
          fin.1 works.written works.took_them.0.0,
          record {
            closed = (refl, refl, refl);
            hashed = hashed_as m.digests new.area.output works.written works.took_them.0.1 r.hashed;
            meaning_hashed = hashed_as (hashes_meaning (output_form m.packs m.program) m.digests) new.area.meaning (of_output m works.written) works.took_them.1 r.meaning;
            work = record { files = works.files; read = given.2; holds = works.holds };
          },
        )

    pub take_each : (failed : Type 0) (parts : List OutPart) (ks : List End) (befores afters : List (AreaOutput OutputArea D)) (l n : Option (List Event)) → length parts ≡ length befores → AllZip (RanWell failed) befores afters → ClosesAs d ks (zip parts afters) l n → (ts : List Took) × (n ≡ then_all l (writes (outs_of ts))) × AreTaken parts ks befores afters ts
    take_each failed [] [] [] [] l n same r c = ([], c ∙ then_none l, tt)
    take_each failed (p ∷ ps) (k ∷ ks) (o ∷ os) (a ∷ ns) l n same r c =
        let one = take_one failed p k o a l c.0 r.0 c.1 in
        let rest = take_each failed ps ks os ns c.0 n (omega (arith, same)) r.1 c.2 in
        (one.0 ∷ rest.0, and_then l c.0 n (wrote one.0.out ∷ []) (writes (outs_of rest.0)) one.1 rest.1, (one.2, rest.2))
    take_each failed (p ∷ ps) [] (o ∷ os) (a ∷ ns) l n same r c = absurd c
    take_each failed [] (k ∷ ks) [] [] l n same r c = absurd c
    take_each failed ps ks [] (a ∷ ns) l n same r c = absurd r
    take_each failed ps ks (o ∷ os) [] l n same r c = absurd r
    take_each failed [] ks (o ∷ os) (a ∷ ns) l n same r c = absurd (omega (arith, same))
    take_each failed (p ∷ ps) ks [] [] l n same r c = absurd (omega (arith, same))

  -- ---- all are kept

  -- with what was done to the files
  abbrev pub ended : List Took → List (List Event) → List Ended
  ended [] ess = []
  ended (t ∷ ts) [] = []
  ended (t ∷ ts) (es ∷ ess) = record { readings = t.readings; out = t.out; ends = es } ∷ ended ts ess

  pub kept_ends : (overwrite : Bool) (parts : List OutPart) (ks : List End) (befores afters : List (AreaOutput OutputArea D)) (ts : List Took) (ess : List (List Event)) → AreTaken parts ks befores afters ts → AllByRecursion IsWholeEnd ks → AllZip (KeepsPart m.program overwrite) parts ess
      → AllThree (EndsKept m by s overwrite has input.input input.raw) (zip parts befores) (map done_of afters) (ended ts ess) × (map (λ one. wrote one.out) (ended ts ess) ≡ writes (outs_of ts)) × (flat_map (λ one. one.ends) (ended ts ess) ≡ flatten ess)
  kept_ends overwrite [] [] [] [] [] [] t whole e = (tt, refl, refl)
  kept_ends overwrite (p ∷ ps) (k ∷ ks) (o ∷ os) (a ∷ ns) (t ∷ ts) (es ∷ ess) taken whole e =
      let rest = kept_ends overwrite ps ks os ns ts ess taken.1 whole.1 e.1 in
      let one = taken.0 in (
        (record { name = one.closed.0; kept = one.closed.1 ∙ whole.0.0; whole = one.closed.2 ∙ whole.0.1; named = e.0; hashed = one.hashed; meaning_hashed = one.meaning_hashed; work = one.work }, rest.0),
        ap (λ ws. wrote t.out ∷ ws) rest.1,
        ap (λ more. es ++ more) rest.2,
      )
  kept_ends overwrite [] [] [] [] [] (es ∷ ess) taken whole e = absurd e
  kept_ends overwrite (p ∷ ps) (k ∷ ks) (o ∷ os) (a ∷ ns) (t ∷ ts) [] taken whole e = absurd e
  kept_ends overwrite [] [] [] [] (t ∷ ts) ess taken whole e = absurd taken
  kept_ends overwrite [] [] [] (a ∷ ns) ts ess taken whole e = absurd taken
  kept_ends overwrite [] [] (o ∷ os) ns ts ess taken whole e = absurd taken
  kept_ends overwrite [] (k ∷ ks) os ns ts ess taken whole e = absurd taken
  kept_ends overwrite (p ∷ ps) [] os ns ts ess taken whole e = absurd taken
  kept_ends overwrite (p ∷ ps) (k ∷ ks) [] ns ts ess taken whole e = absurd taken
  kept_ends overwrite (p ∷ ps) (k ∷ ks) (o ∷ os) [] ts ess taken whole e = absurd taken
  kept_ends overwrite (p ∷ ps) (k ∷ ks) (o ∷ os) (a ∷ ns) [] ess taken whole e = absurd taken

  -- ---- not all are kept

  pub taken_left : (parts : List OutPart) (ks : List End) (befores afters : List (AreaOutput OutputArea D)) (ts : List Took) → AreTaken parts ks befores afters ts → AllZip (λ area w. LeavesOne m (extracting s area) has w) (areas_into befores) (outs_of ts)
  taken_left [] [] [] [] [] taken = tt
  taken_left (p ∷ ps) (k ∷ ks) (o ∷ os) (a ∷ ns) (t ∷ ts) taken = (inr (by, t.readings, a.counts, input.input, input.raw, taken.0.work), taken_left ps ks os ns ts taken.1)
  taken_left [] [] [] [] (t ∷ ts) taken = absurd taken
  taken_left [] [] [] (a ∷ ns) ts taken = absurd taken
  taken_left [] [] (o ∷ os) ns ts taken = absurd taken
  taken_left [] (k ∷ ks) os ns ts taken = absurd taken
  taken_left (p ∷ ps) [] os ns ts taken = absurd taken
  taken_left (p ∷ ps) (k ∷ ks) [] ns ts taken = absurd taken
  taken_left (p ∷ ps) (k ∷ ks) (o ∷ os) [] ts taken = absurd taken
  taken_left (p ∷ ps) (k ∷ ks) (o ∷ os) (a ∷ ns) [] taken = absurd taken

  pub taken_fault : (why : FinishFault) (parts : List OutPart) (ks : List End) (befores afters : List (AreaOutput OutputArea D)) (ts : List Took) → AreTaken parts ks befores afters ts → HasFault why ks → Has (FailsToFinish why) (writes (outs_of ts))
  taken_fault why (p ∷ ps) (k ∷ ks) (o ∷ os) (a ∷ ns) (t ∷ ts) taken (inl h) = inl (taken.0.closed.2 ∙ h)
  taken_fault why (p ∷ ps) (k ∷ ks) (o ∷ os) (a ∷ ns) (t ∷ ts) taken (inr h) = inr (taken_fault why ps ks os ns ts taken.1 h)
  taken_fault why ps [] os ns ts taken h = absurd h
  taken_fault why [] (k ∷ ks) os ns ts taken h = absurd taken
  taken_fault why (p ∷ ps) (k ∷ ks) [] ns ts taken h = absurd taken
  taken_fault why (p ∷ ps) (k ∷ ks) (o ∷ os) [] ts taken h = absurd taken
  taken_fault why (p ∷ ps) (k ∷ ks) (o ∷ os) (a ∷ ns) [] taken h = absurd taken

-- ---- a run that stopped

-- two calls that end alike, and of which each took nothing if that is why
module _ {F : Type 0} (f : feed.Ghosts F) (program : Program) (judge : Option (List ℕ) → Option Verdict) (failed A B C : Type 0) (of : A → B → C) where
  last_both : (n i j pass : ℕ) → pass ≡ i + 2 → pass ≡ j + 2 → ((n ≡ i + 1) ⊎ A) → ((n ≡ j + 1) ⊎ B) → (n ≡ i + 1) ⊎ C
  last_both n i j pass p q (inl e) y = inl e
  last_both n i j pass p q (inr a) (inl e) = inl (omega (arith, p, q, e))
  last_both n i j pass p q (inr a) (inr b) = inr (of a b)

  change_both : (pass : ℕ) (olds news : List F) → Change f A pass olds news → Change f B pass olds news → Change f C pass olds news
  change_both pass (old ∷ olds) (now ∷ news) x y = record { file = x.file; first = x.first; at = x.at; pass_is = x.pass_is; other = x.other; last = last_both (length news) x.at y.at pass x.pass_is y.pass_is x.last y.last }
  change_both pass [] news x y = absurd x
  change_both pass (old ∷ olds) [] x y = absurd x

  changes_both : (p : Program) (pass : ℕ) (olds news : List F) → ChangesBy p f A pass olds news → ChangesBy p f B pass olds news → ChangesBy p f C pass olds news
  changes_both Pbfcut pass olds news x y = change_both pass olds news x y
  changes_both Pbfcutz pass olds news x y = x

  stops_both : (olds news : List F) (u : Stop) → StopsFor program f judge olds news A failed u → StopsFor program f judge olds news B failed u → StopsFor program f judge olds news C failed u
  stops_both olds news (stop.Refused e) x y = (x.0, of x.1 y.1)
  stops_both olds news stop.Read x y = x
  stops_both olds news stop.Write x y = x
  stops_both olds news stop.Memory x y = x
  stops_both olds news (stop.Changed pass) x y = changes_both program pass olds news x y

  pub ends_both : (olds news : List F) (how : Ending) → EndsFor program f judge olds news A failed how → EndsFor program f judge olds news B failed how → EndsFor program f judge olds news C failed how
  ends_both olds news (ending.Stopped u) x y = (u, refl, stops_both olds news u (subst (λ v. StopsFor program f judge olds news A failed v) (sym x.1) x.2) (subst (λ v. StopsFor program f judge olds news B failed v) (sym y.1) y.2))
  ends_both olds news (ending.RefusedPacked r) x y =
      let e : Fault = x.1.1 in
      let a = subst (λ v. StopsFor program f judge olds news A failed v) x.1.2 x.2 in
      let b = subst (λ v. StopsFor program f judge olds news B failed v) y.1.2 y.2 in
      (stop.Refused e, (x.1.0, e, refl, x.1.3), (a.0, of a.1 b.1))
  ends_both olds news _ x y = absurd x.1

-- one of a list
abbrev pub AnyOf : {X : Type 0} → (X → Type 0) → List X → Type 0
AnyOf p [] = ⊥
AnyOf p (x ∷ xs) = p x ⊎ AnyOf p xs

readings_none : (ws : List Writing) → readings (writes ws) ≡ []
readings_none [] = refl
readings_none (w ∷ ws) = readings_none ws

pub writes_silent : (ws : List Writing) → Each Silent (writes ws)
writes_silent [] = tt
writes_silent (w ∷ ws) = (tt, writes_silent ws)

module _ {F D : Type 0} (program : Program) (packs digests : Bool) (by : PassCheck) (s : Strategy) (f : feed.Ghosts F) (d : drain.Ghosts D) (olds news : List F) (fresh : AreFresh f olds) where
  abbrev m : Manner
  m = manner program packs digests

  abbrev form : Form
  form = output_form packs program

  abbrev supplied : List (Option (List ℕ))
  supplied = map f.remaining olds

  abbrev Out : Type 0
  Out = AreaOutput OutputArea D

  -- what a run says of an area that stopped
  abbrev pub RanBadly : (failed : Type 0) → Halted → (old new : Out) → Type 0
  RanBadly failed halted old new = RunsInto m by f d (extracting s (cut_into old.area)) olds news failed old new (Err halted)

  abbrev pub TakesOnly : List ℕ → Out → Type 0
  TakesOnly w new = TakenBy d new.drain new.area.output w × MeansBy form new.area.meaning w

  -- if that means that none took anything, all took nothing
  pub ends_all : (failed : Type 0) (halted : Halted) (o a : Out) (befores afters : List Out) → AllZip (RanBadly failed halted) (o ∷ befores) (a ∷ afters) → EndsFor program f (judge_by s) olds news (AllByRecursion (TakesOnly []) (a ∷ afters)) failed halted.ending
  ends_all failed halted o a [] [] r = ends_weaker f (TakesOnly [] a) (AllByRecursion (TakesOnly []) (a ∷ [])) (λ t. (t, tt)) program (judge_by s) failed failed halted.ending olds news (λ x. x) (r.0.works fresh)
  ends_all failed halted o a (p ∷ befores) (b ∷ afters) r =
      ends_both f program (judge_by s) failed (TakesOnly [] a) (AllByRecursion (TakesOnly []) (b ∷ afters)) (AllByRecursion (TakesOnly []) (a ∷ b ∷ afters)) (λ x y. (x, y)) olds news halted.ending (r.0.works fresh) (ends_all failed halted p b befores afters r.1)
  ends_all failed halted o a [] (b ∷ afters) r = absurd r.1
  ends_all failed halted o a (p ∷ befores) [] r = absurd r.1

  -- ---- why a write failed

  abbrev Failed : Out → Type 0
  Failed new = 0 < d.failures new.drain

  abbrev Nears : Out → Type 0
  Nears new = IfSome (d.taken new.drain) IsNearLimit

  abbrev AnyCause : Form → (befores afters : List Out) → Type 0
  AnyCause kind befores afters = AnyZip (λ old new. CauseOfWrite kind (GivesRaw (extracting s (cut_into old.area))) supplied (Failed new) (Nears new)) befores afters

  any_raw : (befores afters : List Out) → AnyCause raw_file befores afters → AnyOf Failed afters
  any_raw (o ∷ os) (a ∷ ns) (inl x) = inl x
  any_raw (o ∷ os) (a ∷ ns) (inr x) = inr (any_raw os ns x)
  any_raw [] afters x = absurd x
  any_raw (o ∷ os) [] x = absurd x

  any_packed : (befores afters : List Out) → AnyCause packed_file befores afters → CauseOfWrite packed_file (AllGiveRaw s (areas_into befores)) supplied (AnyOf Failed afters) (AnyOf Nears afters)
  any_packed (o ∷ os) (a ∷ ns) (inl x) = λ bytes all raw. of (x bytes all raw.0) where
    of : Failed a ⊎ Nears a → AnyOf Failed (a ∷ ns) ⊎ AnyOf Nears (a ∷ ns)
    of (inl y) = inl (inl y)
    of (inr y) = inr (inl y)
  any_packed (o ∷ os) (a ∷ ns) (inr x) = λ bytes all raw. of (any_packed os ns x bytes all raw.1) where
    of : AnyOf Failed ns ⊎ AnyOf Nears ns → AnyOf Failed (a ∷ ns) ⊎ AnyOf Nears (a ∷ ns)
    of (inl y) = inl (inr y)
    of (inr y) = inr (inr y)
  any_packed [] afters x = absurd x
  any_packed (o ∷ os) [] x = absurd x

  pub any_cause : (kind : Form) (befores afters : List Out) → AnyCause kind befores afters → CauseOfWrite kind (AllGiveRaw s (areas_into befores)) supplied (AnyOf Failed afters) (AnyOf Nears afters)
  any_cause raw_file befores afters x = any_raw befores afters x
  any_cause packed_file befores afters x = any_packed befores afters x

  -- ---- OUTs are returned unkept

  abbrev Returned : Out → Writing → Type 0
  Returned new w = IsReturned (d.taken new.drain) false w

  abbrev pub AreUnkept : List Out → List Event → Type 0
  AreUnkept afters es = (ws : List Writing) × (es ≡ writes ws) × AllZip Returned afters ws

  abbrev writing_of : OutPart → Out → Option FinishFault → List ℕ → Writing
  writing_of part new fault bytes = record { name = Some (string_bytes part.name); bytes = bytes; reports = is_some (d.taken new.drain); failures = d.failures new.drain; kept = false; fault = fault }

  abbrev Closes : List Out → (l n : Option (List Event)) → Type 0
  Closes afters l n = (ws : List Writing) × (n ≡ then_all l (writes ws)) × AllZip Returned afters ws × (AnyOf Failed afters → Has FailsToWrite (writes ws)) × (AnyOf Nears afters → Has NearsLimit (writes ws))

  nears : (w : Writing) (known : Option (List ℕ)) → IfSome known (λ taken. w.bytes ≡ taken) → w.reports ≡ is_some known → IfSome known IsNearLimit → NearsLimit (wrote w)
  nears w known same reports x = λ some. taken_is IsNearLimit w.bytes known same x (sym reports ∙ some)

  closes_some : (parts : List OutPart) (afters : List Out) (l n : Option (List Event)) → length parts ≡ length afters → OneByOne (FinishesUnkept d) (zip parts afters) l n → Closes afters l n
  closes_some [] [] l n same c = ([], c ∙ then_none l, tt, (λ x. absurd x), λ x. absurd x)
  closes_some (p ∷ ps) (a ∷ ns) l n same c =
      let rest = closes_some ps ns c.0 n (omega (arith, same)) c.2 in
      let fin = c.1.1.0 in
      let w : Writing = writing_of p a c.1.0 fin.0 in (
        w ∷ rest.0,
        and_then l c.0 n (wrote w ∷ []) (writes rest.0) fin.2 rest.1,
        ((inr fin.1, refl, refl), rest.2),
        failed w fin.0 rest.0 rest.3,
        near w fin.1 rest.0 rest.4,
      ) where
        failed : (w : Writing) (bytes : List ℕ) (ws : List Writing) → (AnyOf Failed ns → Has FailsToWrite (writes ws)) → AnyOf Failed (a ∷ ns) → Has FailsToWrite (wrote (writing_of p a c.1.0 bytes) ∷ writes ws)
        failed w bytes ws more (inl x) = inl (inl x)
        failed w bytes ws more (inr x) = inr (more x)

        near : (w : Writing) → IfSome (d.taken a.drain) (λ taken. c.1.1.0.0 ≡ taken) → (ws : List Writing) → (AnyOf Nears ns → Has NearsLimit (writes ws)) → AnyOf Nears (a ∷ ns) → Has NearsLimit (wrote (writing_of p a c.1.0 c.1.1.0.0) ∷ writes ws)
        near w same ws more (inl x) = inl (nears (writing_of p a c.1.0 c.1.1.0.0) (d.taken a.drain) same refl x)
        near w same ws more (inr x) = inr (more x)
  closes_some [] (a ∷ ns) l n same c = absurd (omega (arith, same))
  closes_some (p ∷ ps) [] l n same c = absurd (omega (arith, same))

  closes_none : (parts : List OutPart) (afters : List Out) (l n : Option (List Event)) → length parts ≡ length afters → OneByOne (FinishesUnkept d) (zip parts afters) l n → AllByRecursion (TakesOnly []) afters → (ws : List Writing) × (n ≡ then_all l (writes ws)) × Each WroteNothing (writes ws) × AllZip Returned afters ws
  closes_none [] [] l n same c none = ([], c ∙ then_none l, tt, tt)
  closes_none (p ∷ ps) (a ∷ ns) l n same c none =
      let rest = closes_none ps ns c.0 n (omega (arith, same)) c.2 none.1 in
      let w : Writing = writing_of p a c.1.0 [] in
      (w ∷ rest.0, and_then l c.0 n (wrote w ∷ []) (writes rest.0) (c.1.1.1 [] none.0.0.0) rest.1, (refl, rest.2), ((inl refl, refl, refl), rest.3))
  closes_none [] (a ∷ ns) l n same c none = absurd (omega (arith, same))
  closes_none (p ∷ ps) [] l n same c none = absurd (omega (arith, same))

  ends_unkept : (parts : List OutPart) (afters : List Out) (l n : Option (List Event)) → length parts ≡ length afters → OneByOne (FinishesUnkept d) (zip parts afters) l n
      → EndsWith (λ w. AllByRecursion (TakesOnly w) afters) (AnyOf Failed afters) (AnyOf Nears afters) (AreUnkept afters) l n
  ends_unkept parts afters l n same c =
      let some = closes_some parts afters l n same c in (
        (writes some.0, some.1, readings_none some.0, (some.3, some.4), (some.0, refl, some.2)),
        λ none. (let all = closes_none parts afters l n same c none in (writes all.0, all.1, readings_none all.0, all.2, (all.0, refl, all.3))),
      )

  -- each has a prefix of its extract
  pub unkept_left : (failed : Type 0) (halted : Halted) (befores afters : List Out) (ws : List Writing) → AllZip (RanBadly failed halted) befores afters → AllZip Returned afters ws → AllZip (λ area w. LeavesOne m (extracting s area) supplied w) (areas_into befores) ws
  unkept_left failed halted [] [] [] r x = tt
  unkept_left failed halted (o ∷ os) (a ∷ ns) (w ∷ ws) r x =
      (inl (x.0.2, λ bytes all. front_returned (d.taken a.drain) false (form, answer_of (extracting s (cut_into o.area)) (of_input m bytes)) (r.0.front bytes all) w x.0), unkept_left failed halted os ns ws r.1 x.1)
  unkept_left failed halted [] (a ∷ ns) ws r x = absurd r
  unkept_left failed halted (o ∷ os) [] ws r x = absurd r
  unkept_left failed halted os [] (w ∷ ws) r x = absurd x
  unkept_left failed halted os (a ∷ ns) [] r x = absurd x

  -- why it fails, and what happened until all OUTs were closed
  pub halted_fails : (halted : Halted) (parts : List OutPart) (befores afters : List Out) (k l n : Option (List Event)) → length parts ≡ length afters → (befores ≡ [] → ⊥)
      → AllZip (RanBadly (AnyCause form befores afters) halted) befores afters → CloseAll f news k l → OneByOne (FinishesUnkept d) (zip parts afters) l n
      → (rs : List Reading) × (ws : List Writing) × (n ≡ then_all k (reads rs ++ writes ws)) × Fails m (judging (judge_by s) (AllGiveRaw s (areas_into befores))) supplied halted.ending (reads rs ++ writes ws) × AllZip Returned afters ws
  halted_fails halted parts [] afters k l n same some r c fin = absurd (some refl)
  halted_fails halted parts (o ∷ os) [] k l n same some r c fin = absurd r
  halted_fails halted parts (o ∷ os) (a ∷ ns) k l n same some r c fin =
      let sound = AllGiveRaw s (areas_into (o ∷ os)) in
      let cause = CauseOfWrite form sound supplied (AnyOf Failed (a ∷ ns)) (AnyOf Nears (a ∷ ns)) in
      let none = AllByRecursion (TakesOnly []) (a ∷ ns) in
      let works = ends_weaker f none none (λ x. x) program (judge_by s) (AnyCause form (o ∷ os) (a ∷ ns)) cause halted.ending olds news (any_cause form (o ∷ os) (a ∷ ns)) (ends_all (AnyCause form (o ∷ os) (a ∷ ns)) halted o a os ns r) in
      let told = stop_told f packs digests (judge_by s) sound (λ w. AllByRecursion (TakesOnly w) (a ∷ ns)) (AnyOf Failed (a ∷ ns)) (AnyOf Nears (a ∷ ns)) (AreUnkept (a ∷ ns)) k l n (ends_unkept parts (a ∷ ns) l n same fin) program works.0 olds news fresh c works.2 in
      let gone = told.3 in
      let are : told.0 ≡ reads gone.0 ++ writes gone.3.0 = gone.2 ∙ ap (λ es. reads gone.0 ++ es) gone.3.1 in (
        gone.0,
        gone.3.0,
        told.1 ∙ ap (λ es. then_all k es) are,
        subst (λ es. Fails m (judging (judge_by s) sound) supplied halted.ending es) are (stop_fails m (judging (judge_by s) sound) supplied halted.ending told.0 works.0 works.1 told.2),
        gone.3.2,
      )
