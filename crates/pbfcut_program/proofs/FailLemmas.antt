-- Why commands fail, put together.
use Rattle.std.proofs.Common.{arith, ◌≡◌, ◌⊎◌, inl, inr, ℕ, ◌+◌, List, [], ◌∷◌, ◌++◌, refl, IfErr, OnOk, Option, Some, None, Result, Ok, Err, sym, subst}
use Rattle.pbf_frame.specs.Verdict.{Verdict}
use Rattle.pbf_frame.specs.declared.stop.Stop.{Stop}
use Rattle.pbf_frame.specs.declared.stop.Stop.TheVariants as stop
use Rattle.pbf_pass.specs.Stops.{Caused}
use Rattle.pbf_unpack.specs.Unpacked.{unpacked}
use Rattle.pbf_wire.specs.declared.fault.Fault.{Fault}
use Rattle.pbfcut_cli.specs.declared.endings.Ending.{Ending}
use Rattle.pbfcut_cli.specs.declared.endings.Ending.TheVariants as ending
use Rattle.pbfcut_cli.specs.declared.programs.Program.{Program}
use Rattle.pbfcut_program.specs.Events.{Event, then_all}
use Rattle.pbfcut_program.specs.Fails.{Calm, CauseOfOpening, CauseOfWrite, Each, EndsAsStop, Fails, FailsAsClosed, FailsFor, FailsOpening, FailsToFinish, FailsToWrite, Has, IsChangedBy, IsRefusedBy, Judging, NearsLimit, Opens, Quiet, Stops, WroteNothing, judging, readings}
use Rattle.pbfcut_program.specs.Manner.{Form, Manner, output_form, packed_file, raw_file}
use Rattle.pbfcut_program.specs.declared.engine.Halted.{Halted}
use Rattle.pbfcut_program.specs.declared.host.FinishFault.{FinishFault}
use Rattle.pbfcut_program.specs.declared.host.FinishFault.TheVariants as finishing
use Rattle.pbfcut_program.specs.declared.host.PrintFault.TheVariants as line
use Rattle.pbfcut_program.specs.declared.host.Screen.{Screen}
use Rattle.pbfcut_program.specs.Outcomes.{EndsAfterText, ending_of_file, ending_of_text}
use Rattle.pbfcut_program.specs.Telling.{BreaksOff, IsUnprinted, SaysLittle, Silent, Tells, TellsQuietly}
use Rattle.pbfcut_program.proofs.EventLemmas.{each_both, each_quiet, has_after, has_before, has_weaker, nothing_in, quiet_of, readings_after, readings_before, readings_of_quiet}
use Rattle.pbfcut_program.proofs.Logging.{and_then}
use Rattle.pbfcut_program.proofs.SayingLemmas.{lines_before, lines_in, refusal_quiet}

-- ---- before IN is read

cause_after : (how : Ending) (xs ys : List Event) → CauseOfOpening how ys → CauseOfOpening how (xs ++ ys)
cause_after how xs ys h3 = grind (arith, has_after)

pub opening_after : (how : Ending) (xs ys : List Event) → Each Calm xs → FailsOpening how ys → FailsOpening how (xs ++ ys)
opening_after how xs ys quiet f = (each_both _ xs ys quiet f.0, cause_after how xs ys f.1)

-- ---- causes

-- each of them has others, which are weaker
pub caused_weaker : (refused also : Fault → Type 0) (read more wrote out : Type 0) (changed too : ℕ → Type 0) (s : Stop) → ((e : Fault) → refused e → also e) → (read → more) → (wrote → out) → ((pass : ℕ) → changed pass → too pass) → Caused refused read wrote changed s → Caused also more out too s
caused_weaker refused also read more wrote out changed too s h9 h10 h11 h12 h13 = grind arith

-- the same of why a write failed
pub write_weaker : (form : Form) (sound also : List ℕ → Type 0) (has : List (Option (List ℕ))) (failed near risen more : Type 0) → ((file : List ℕ) → also file → sound file) → (failed → risen) → (near → more) → CauseOfWrite form sound has failed near → CauseOfWrite form also has risen more
write_weaker raw_file sound also has failed near risen more s r n c = r c
write_weaker packed_file sound also has failed near risen more s r n c = λ bytes all x. either (c bytes all (s (unpacked bytes) x)) where
  either : (failed ⊎ near) → (risen ⊎ more)
  either (inl f) = inl (r f)
  either (inr f) = inr (n f)

write_failed : (form : Form) (sound : List ℕ → Type 0) (has : List (Option (List ℕ))) (failed near : Type 0) → failed → CauseOfWrite form sound has failed near
write_failed raw_file sound has failed near f = f
write_failed packed_file sound has failed near f = λ bytes all x. inl f

-- a stop is how a command fails
pub stop_fails : (m : Manner) (j : Judging) (has : List (Option (List ℕ))) (how : Ending) (events : List Event) (s : Stop) → EndsAsStop m.program s how → Stops m j has events s → Fails m j has how events
stop_fails m j has how events s h6 h7 = grind arith

memory_stops : (m : Manner) (j : Judging) (has : List (Option (List ℕ))) (events : List Event) → Stops m j has events stop.Memory
memory_stops m j has events = grind arith

write_caused : (m : Manner) (j : Judging) (has : List (Option (List ℕ))) (events : List Event) → Has FailsToWrite events → Stops m j has events stop.Write
write_caused m j has events h4 = grind (arith, write_failed)

pub memory_fails : (m : Manner) (j : Judging) (has : List (Option (List ℕ))) (events : List Event) → Fails m j has (ending.Stopped stop.Memory) events
memory_fails m j has events = (stop.Memory, refl, memory_stops m j has events)

pub write_stops : (m : Manner) (j : Judging) (has : List (Option (List ℕ))) (events : List Event) → Has FailsToWrite events → Fails m j has (ending.Stopped stop.Write) events
write_stops m j has events h = (stop.Write, refl, write_caused m j has events h)

-- not all of OUT went out
fails_as_write : (fault : FinishFault) → ((fault ≡ finishing.Failed) ⊎ (fault ≡ finishing.Closed)) → (e : Event) → FailsToFinish fault e → FailsToWrite e
fails_as_write fault is e h = grind arith

finish_writes : (m : Manner) (j : Judging) (has : List (Option (List ℕ))) (fault : FinishFault) (events : List Event) → ((fault ≡ finishing.Failed) ⊎ (fault ≡ finishing.Closed)) → Has (FailsToFinish fault) events → Fails m j has (ending.Stopped stop.Write) events
finish_writes m j has fault events is h = write_stops m j has events (has_weaker (FailsToFinish fault) FailsToWrite (fails_as_write fault is) events h)

pub file_stops : (m : Manner) (j : Judging) (has : List (Option (List ℕ))) (fault : FinishFault) (events : List Event) → Has (FailsToFinish fault) events → Fails m j has (ending_of_file fault) events
file_stops m j has finishing.Failed events h = finish_writes m j has finishing.Failed events (inl refl) h
file_stops m j has finishing.Exists events h = inr h
file_stops m j has finishing.Closed events h = finish_writes m j has finishing.Closed events (inr refl) h

closed : (e : Event) → FailsToFinish finishing.Closed e → FailsAsClosed e
closed e h = grind arith

pub text_stops : (m : Manner) (j : Judging) (has : List (Option (List ℕ))) (fault : FinishFault) (events : List Event) → Has (FailsToFinish fault) events → Fails m j has (ending_of_text fault) events
text_stops m j has finishing.Failed events h = finish_writes m j has finishing.Failed events (inl refl) h
text_stops m j has finishing.Exists events h = inr h
text_stops m j has finishing.Closed events h = has_weaker (FailsToFinish finishing.Closed) FailsAsClosed closed events h

-- before IN was opened
pub fails_early : {input : List ℕ} (m : Manner) (j : Judging) (how : Ending) (events : List Event) → Fails m j [] how events → FailsFor input m j how events
fails_early m j how events f = record { has = []; opens = tt; why = f }

pub opening_fails : {input : List ℕ} (m : Manner) (j : Judging) (how : Ending) (events : List Event) → FailsOpening how events → FailsFor input m j how events
opening_fails m j how events f = fails_early m j how events (of how f) where
  of : (h : Ending) → FailsOpening h events → Fails m j [] h events
  of ending.CannotOpen f = (f.1, nothing_in events (quiet_of events f.0))
  of ending.IsPipe f = (f.1, nothing_in events (quiet_of events f.0))
  of ending.OutExists f = inl (f.1, nothing_in events (quiet_of events f.0))
  of (ending.Polygon e) f = (f.1, nothing_in events (quiet_of events f.0))
  of (ending.Config e) f = (f.1, nothing_in events (quiet_of events f.0))
  of (ending.Stopped stop.Memory) f = memory_fails m j [] events
  of _ f = absurd f.1

-- ---- among quiet events

-- what holds of events holds of more that read and write the same
module _ (xs ys : List Event) (keeps : (p : Event → Type 0) → Has p xs → Has p ys) (nothing : Each WroteNothing xs → Each WroteNothing ys) (same : readings ys ≡ readings xs) where
  refused_in : (program : Program) (judge : Option (List ℕ) → Option Verdict) (has : List (Option (List ℕ))) (e : Fault) → IsRefusedBy program judge has e xs → IsRefusedBy program judge has e ys
  refused_in program judge has e h4 = grind arith

  last_in : (X : Type 0) → (X ⊎ Each WroteNothing xs) → (X ⊎ Each WroteNothing ys)
  last_in X h1 = grind arith

  changed_in : (program : Program) (has : List (Option (List ℕ))) (pass : ℕ) → IsChangedBy program has pass xs → IsChangedBy program has pass ys
  changed_in program has pass h3 = grind (arith, last_in)

  write_in : (form : Form) (sound : List ℕ → Type 0) (has : List (Option (List ℕ))) → CauseOfWrite form sound has (Has FailsToWrite xs) (Has NearsLimit xs) → CauseOfWrite form sound has (Has FailsToWrite ys) (Has NearsLimit ys)
  write_in form sound has c = write_weaker form sound sound has _ _ _ _ (λ file x. x) (keeps FailsToWrite) (keeps NearsLimit) c

  stops_in : (m : Manner) (j : Judging) (has : List (Option (List ℕ))) (s : Stop) → Stops m j has xs s → Stops m j has ys s
  stops_in m j has s h4 = grind (arith, caused_weaker, refused_in, write_in, changed_in)

  exists_in : (p q : Event → Type 0) → ((Has p xs × Each WroteNothing xs) ⊎ Has q xs) → ((Has p ys × Each WroteNothing ys) ⊎ Has q ys)
  exists_in p q h2 = grind arith

  fails_in : (m : Manner) (j : Judging) (has : List (Option (List ℕ))) (how : Ending) → Fails m j has how xs → Fails m j has how ys
  fails_in m j has how h4 = grind (arith, exists_in, stops_in)

pub fails_after : (m : Manner) (j : Judging) (has : List (Option (List ℕ))) (how : Ending) (xs ys : List Event) → Each Quiet xs → Fails m j has how ys → Fails m j has how (xs ++ ys)
fails_after m j has how xs ys q f = fails_in ys (xs ++ ys) (λ p. has_after p xs ys) (each_both _ xs ys (nothing_in xs q)) (readings_after xs ys q) m j has how f

pub fails_before : (m : Manner) (j : Judging) (has : List (Option (List ℕ))) (how : Ending) (xs ys : List Event) → Each Quiet ys → Fails m j has how xs → Fails m j has how (xs ++ ys)
fails_before m j has how xs ys q f = fails_in xs (xs ++ ys) (λ p. has_before p xs ys) (λ n. each_both _ xs ys n (nothing_in ys q)) (readings_before xs ys (readings_of_quiet ys q)) m j has how f

-- ---- if what is to be written has to meet more

stops_sound : (m : Manner) (judge : Option (List ℕ) → Option Verdict) (sound also : List ℕ → Type 0) (has : List (Option (List ℕ))) (events : List Event) (s : Stop) → ((file : List ℕ) → also file → sound file) → Stops m (judging judge sound) has events s → Stops m (judging judge also) has events s
stops_sound m judge sound also has events s h c = caused_weaker _ _ _ _ _ _ _ _ s (λ e x. x) (λ x. x) (write_weaker (output_form m.packs m.program) sound also has _ _ _ _ h (λ x. x) (λ x. x)) (λ pass x. x) c

fails_sound : (m : Manner) (judge : Option (List ℕ) → Option Verdict) (sound also : List ℕ → Type 0) (has : List (Option (List ℕ))) (how : Ending) (events : List Event) → ((file : List ℕ) → also file → sound file) → Fails m (judging judge sound) has how events → Fails m (judging judge also) has how events
fails_sound m judge sound also has how events h f = grind (arith, stops_sound m judge sound also has events)

pub sound_fails : {input : List ℕ} (m : Manner) (judge : Option (List ℕ) → Option Verdict) (sound also : List ℕ → Type 0) (how : Ending) (events : List Event) → ((file : List ℕ) → also file → sound file) → FailsFor input m (judging judge sound) how events → FailsFor input m (judging judge also) how events
sound_fails m judge sound also how events h f = record { has = f.has; opens = f.opens; why = fails_sound m judge sound also f.has how events h f.why }

-- ---- after those in which IN was opened

pub opens_after : (input : List ℕ) (pass : ℕ) (has : List (Option (List ℕ))) (xs ys : List Event) → Opens input pass has ys → Opens input pass has (xs ++ ys)
opens_after input pass [] xs ys o = tt
opens_after input pass (h ∷ has) xs ys o = (has_after _ xs ys o.0, opens_after input (pass + 1) has xs ys o.1)

pub opens_before : (input : List ℕ) (pass : ℕ) (has : List (Option (List ℕ))) (xs ys : List Event) → Opens input pass has xs → Opens input pass has (xs ++ ys)
opens_before input pass [] xs ys o = tt
opens_before input pass (h ∷ has) xs ys o = (has_before _ xs ys o.0, opens_before input (pass + 1) has xs ys o.1)

pub opened_fails : {input : List ℕ} (m : Manner) (j : Judging) (has : List (Option (List ℕ))) (how : Ending) (xs ys : List Event) → Each Quiet xs → Opens input 1 has xs → Fails m j has how ys → FailsFor input m j how (xs ++ ys)
opened_fails m j has how xs ys q o f = record { has = has; opens = opens_before _ 1 has xs ys o; why = fails_after m j has how xs ys q f }

-- the same of a failure of what comes later
pub failed_after : {input : List ℕ} (m : Manner) (j : Judging) (how : Ending) (xs ys : List Event) → Each Quiet xs → FailsFor input m j how ys → FailsFor input m j how (xs ++ ys)
failed_after m j how xs ys q f = record { has = f.has; opens = opens_after _ 1 f.has xs ys f.opens; why = fails_after m j f.has how xs ys q f.why }

-- how it ended is shown, after more was reported quietly
pub told_fails : (m : Manner) (j : Judging) (has : List (Option (List ℕ))) (how shown : Ending) (k l n : Option (List Event)) (xs : List Event) → l ≡ then_all k xs → Fails m j has how xs
    → TellsQuietly m.digests l n how shown → (events : List Event) × (n ≡ then_all k events) × Fails m j has shown events × (Each Silent xs → SaysLittle m.digests events) × ((p : Event → Type 0) → ((e : Event) → Quiet e → p e) → Each p xs → Each p events)
told_fails m j has how shown k l n xs e f t = (
  xs ++ t.events,
  and_then k l n xs t.events e t.log,
  of t.shows,
  (λ s. record { before = xs; last = t.events; happened = refl; silent = s; tells = t.tells }),
  λ p q each. each_both p xs t.events each (each_quiet p q t.events quiet),
) where
  quiet : Each Quiet t.events
  quiet = refusal_quiet m.digests t.events t.tells

  of : ((shown ≡ how) ⊎ (shown ≡ ending.Stopped stop.Memory)) → Fails m j has shown (xs ++ t.events)
  of (inl same) = subst (λ h. Fails m j has h (xs ++ t.events)) (sym same) (fails_before m j has how xs t.events quiet f)
  of (inr none) = subst (λ h. Fails m j has h (xs ++ t.events)) (sym none) (memory_fails m j has (xs ++ t.events))

-- ---- lines

-- a line couldn't be printed
abbrev FailsPrinting : Ending → List Event → Type 0
FailsPrinting how events = ((how ≡ ending.Stopped stop.Write) × Has FailsToWrite events)
    ⊎ (((how ≡ ending.Closed) × Has FailsAsClosed events) ⊎ (how ≡ ending.Stopped stop.Memory))

printing_after : (how : Ending) (xs ys : List Event) → FailsPrinting how ys → FailsPrinting how (xs ++ ys)
printing_after how xs ys h3 = grind (arith, has_after)

unprinted_fails : (screen : Screen) (text : List ℕ) (how : Ending) (es : List Event) → IsUnprinted screen text how es → FailsPrinting how es
unprinted_fails screen text how es (inl (line.Failed, e, is)) = subst (λ xs. FailsPrinting how xs) (sym e) (inl (is, inl refl))
unprinted_fails screen text how es (inl (line.Closed, e, is)) = subst (λ xs. FailsPrinting how xs) (sym e) (inr (inl (is, inl refl)))
unprinted_fails screen text how es (inr (none, is)) = inr (inr is)

broken_printing : (well : List Event → Type 0) (how : Ending) (es : List Event) → BreaksOff well how es → FailsPrinting how es
broken_printing well how es b = subst (λ xs. FailsPrinting how xs) (sym b.happened) (printing_after how b.before b.last (unprinted_fails b.screen b.text how b.last b.unprinted))

print_stops : (m : Manner) (j : Judging) (how : Ending) (events : List Event) → FailsPrinting how events → Fails m j [] how events
print_stops m j how events h4 = grind (arith, write_stops, memory_fails)

pub broken_fails : {input : List ℕ} (m : Manner) (j : Judging) (well : List Event → Type 0) (how : Ending) (es : List Event) → BreaksOff well how es → FailsFor input m j how es
broken_fails m j well how es b = fails_early m j how es (print_stops m j how es (broken_printing well how es b))

-- what `Tells` says if one of these lines isn't printed
abbrev pub TellsSome : (before after : Option (List Event)) → List Event → Ending → Type 0
TellsSome before after lines how = (some : List Event) × (after ≡ then_all before some) × BreaksOff (λ all. all ≡ lines) how some

-- one line after others
pub printing_more : (how : Ending) (l m n : Option (List Event)) (xs ys : List Event) → m ≡ then_all l xs → TellsSome m n ys how → TellsSome l n (xs ++ ys) how
printing_more how l m n xs ys e t = (xs ++ t.0, and_then l m n xs t.0 e t.1, lines_in (λ all. all ≡ xs ++ ys) xs ys how t.0 refl t.2)

pub tells_more : {B : Type 0} (l m n : Option (List Event)) (xs ys : List Event) (r : Result B Ending) → m ≡ then_all l xs → Tells m n ys r → Tells l n (xs ++ ys) r
tells_more l m n xs ys (Ok b) e t = and_then l m n xs ys e t
tells_more l m n xs ys (Err how) e t = printing_more how l m n xs ys e t

-- the first of more
pub printing_first : (how : Ending) (l m : Option (List Event)) (xs ys : List Event) → TellsSome l m xs how → TellsSome l m (xs ++ ys) how
printing_first how l m xs ys t = (t.0, t.1, lines_before xs ys how t.0 t.2)

-- lines couldn't be printed after what had happened
pub print_fails : {input : List ℕ} (m : Manner) (j : Judging) (how : Ending) (k l n : Option (List Event)) (well : List Event → Type 0) (xs lines : List Event) → l ≡ then_all k xs → well (xs ++ lines) → TellsSome l n lines how
    → (events : List Event) × (n ≡ then_all k events) × FailsFor input m j how events × BreaksOff well how events
print_fails m j how k l n well xs lines e ends t =
    let broken = lines_in well xs lines how t.0 ends t.2 in
    (xs ++ t.0, and_then k l n xs t.0 e t.1, broken_fails m j well how (xs ++ t.0) broken, broken)

pub tells_ok : {A : Type 0} (l m : Option (List Event)) (xs : List Event) (r : Result A Ending) → Tells l m xs r → OnOk r (m ≡ then_all l xs)
tells_ok l m xs r h4 = grind arith

pub tells_err : {A : Type 0} (l m : Option (List Event)) (xs : List Event) (r : Result A Ending) → Tells l m xs r → IfErr r (TellsSome l m xs)
tells_err l m xs (Ok a) t = tt
tells_err l m xs (Err how) t = t

-- ---- texts

-- what went out, if it did; and why not
pub text_ok : {T A : Type 0} (fault : Option FinishFault) (outcome : Result T Halted) (result : Result A Ending) (P : Type 0) → EndsAfterText fault outcome result → (fault ≡ None → OnOk outcome P) → OnOk result P
text_ok fault outcome result P h4 h5 = grind arith

pub text_err : {T A : Type 0} (fault : Option FinishFault) (outcome : Result T Halted) (result : Result A Ending) (Q : Ending → Type 0) → EndsAfterText fault outcome result → ((why : FinishFault) → fault ≡ Some why → Q (ending_of_text why)) → IfErr outcome (λ halted. Q halted.ending) → IfErr result Q
text_err fault outcome result Q h4 h5 h6 = grind arith
