-- What OUT took of an answer.
use Rattle.std.proofs.Common.{arith, ◌≡◌, ◌⊎◌, inl, inr, ℕ, List, [], ◌∷◌, ◌++◌, ◌≤◌, length, map, take, true, false, Bool, Option, None, Some, Result, Ok, Err, refl, sym, ap, subst, ◌∙◌, append_assoc, length-append}
use Rattle.std.proofs.lemmas.List.{length-take, take_at, take-take}
use Rattle.std.proofs.lemmas.Bool.{false≢true}
use Rattle.std.specs.Option.{is_some}
use Rattle.std.specs.Prelude.{IfSome}
use Rattle.pbf_frame.specs.Devices.{IsFront}
use Rattle.pbf_frame.proofs.Beginnings.{front_whole}
use Rattle.pbf_frame.specs.declared.device.Drain as drain
use Rattle.pbf_unpack.specs.declared.below.DrainState.TheVariants.{Taking}
use Rattle.pbf_unpack.specs.declared.drain.PackedDrain.{PackedDrain}
use Rattle.pbf_unpack.specs.Packing.{frame_held, taken_raw}
use Rattle.pbf_unpack.specs.Unpacked.{Unpacked, unpacked}
use Rattle.pbf_unpack.proofs.PackingLemmas.{whole_nothing}
use Rattle.pbf_unpack.proofs.UnpackedLemmas.{nothing_more}
use Rattle.pbfcut_cli.specs.declared.endings.Ending.{Ending}
use Rattle.pbfcut_program.specs.Events.{Event, Reading, Writing, read, wrote}
use Rattle.pbfcut_program.specs.Fails.{Each, FailsOpening, Quiet}
use Rattle.pbfcut_program.specs.Leaving.{Answer, IsFrontAs, IsUnkept, KeepsNone, Leaves, LeavesFor, TookFront}
use Rattle.pbfcut_program.specs.Manner.{Form, Manner, meant, packed_file, raw_file}
use Rattle.pbfcut_program.specs.declared.engine.Report.{Report}
use Rattle.pbfcut_program.specs.declared.engine.Halted.{Halted}
use Rattle.pbfcut_program.specs.Devices.{FinishesPacked, Fronts, Leads, Wholes}
use Rattle.pbfcut.specs.Tasks.{Task, answer_of, checking, listing_frames, showing, converting, copying, extracting}
use Rattle.pbfcut_program.specs.Telling.{Silent}
use Rattle.pbfcut_program.proofs.EventLemmas.{each_both, each_quiet, quiet_of}

-- ---- by OUT

-- what a drain reports that it took is a prefix of this
abbrev pub TakenFront : Option (List ℕ) → Answer → Type 0
TakenFront known answer = IfSome known (IsFrontAs answer)

-- if it had taken nothing
pub taken_front : (before after : Option (List ℕ)) (answer : List ℕ) → IfSome before (λ taken. taken ≡ []) → IsFront before after answer → TakenFront after (raw_file, answer)
taken_front before after answer h3 h4 = grind arith

pub taken_is : (p : List ℕ → Type 0) (bytes : List ℕ) (known : Option (List ℕ)) → IfSome known (λ taken. bytes ≡ taken) → IfSome known p → is_some known ≡ true → p bytes
taken_is p bytes None same is some = absurd (false≢true some)
taken_is p bytes (Some taken) same is some = subst p (sym same) is

-- nothing is
nothing_is_front : (answer : Answer) → IsFrontAs answer []
nothing_is_front (raw_file, answer) = (0, refl)
nothing_is_front (packed_file, answer) = record { state = Taking; place = 0; whole = whole_nothing; count = 0; means = ap (λ (u : Unpacked). u.0) (nothing_more 0) }

-- ---- by a drain that packs

front_of_front : (xs ys answer : List ℕ) (count : ℕ) → xs ++ ys ≡ take count answer → xs ≡ take (length xs) answer
front_of_front xs ys answer count e =
    let low : length xs ≤ count = omega (arith, ap length e, length-append xs ys, length-take count answer) in
    sym (take_at xs ys (length xs) refl) ∙ ap (λ (l : List ℕ). take (length xs) l) e ∙ take-take (length xs) count answer low

module _ {D : Type 0} {d : drain.Ghosts D} (p : PackedDrain D d) (before : Option (List ℕ)) (answer : List ℕ) (fresh : IfSome before (λ taken. taken ≡ [])) (front : IsFront before (taken_raw p) answer) where
  raw_taken : (packed : List ℕ) → d.taken p.below.drain ≡ Some packed → unpacked (take p.below.place packed) ++ frame_held p.frame ≡ take front.count answer
  raw_taken packed known = (let given = front.taken in grind arith)

  packed_known : (known : Option (List ℕ)) → d.taken p.below.drain ≡ known → TakenFront known (packed_file, answer)
  packed_known None is = tt
  packed_known (Some packed) is =
      let done = unpacked (take p.below.place packed) in record {
        state = p.below.state;
        place = p.below.place;
        whole = p.below.whole packed is;
        count = length done;
        means = front_of_front done (frame_held p.frame) answer front.count (raw_taken packed is);
      }

  -- what went to OUT is a prefix of the answer, if what the drain took is
  pub packed_front : TakenFront (d.taken p.below.drain) (packed_file, answer)
  packed_front = packed_known (d.taken p.below.drain) refl

-- a drain that took nothing
pub fresh_front : (known : Option (List ℕ)) (answer : Answer) → IfSome known (λ taken. taken ≡ []) → TakenFront known answer
fresh_front None answer fresh = tt
fresh_front (Some taken) answer fresh = subst (IsFrontAs answer) (sym fresh) (nothing_is_front answer)

-- ---- by a call

module _ (task : Task) (has : List (Option (List ℕ))) where
  -- raw blobs are what OUT gets
  pub raw_leads : {A : Type 0} (form : Form) (before after : Option (List ℕ)) (result : Result A Halted) → IfSome before (λ taken. taken ≡ []) → Fronts form task has before after result → Leads raw_file form task has after result
  raw_leads form before after (Ok a) fresh front = tt
  raw_leads form before after (Err halted) fresh front = λ bytes all. taken_front before after _ fresh (front bytes all)

  -- zlib blobs are, by a drain that was finished
  pub packed_leads : {D : Type 0} {d : drain.Ghosts D} (mid new : PackedDrain D d) (before : Option (List ℕ)) (returned result : Result Report Halted) → IfSome before (λ taken. taken ≡ []) → taken_raw new ≡ taken_raw mid → FinishesPacked mid new returned result
      → Fronts packed_file task has before (taken_raw mid) returned → Wholes packed_file task has before (taken_raw mid) returned → Leads packed_file packed_file task has (d.taken new.below.drain) result
  packed_leads mid new before (Ok report) (Ok same) fresh taken fin front whole = tt
  packed_leads mid new before (Ok report) (Err halted) fresh taken fin front whole = λ bytes all. packed_front new before _ fresh (front_whole before (taken_raw new) _ (taken ∙ whole bytes all))
  packed_leads mid new before (Err halted) (Err same) fresh taken fin front whole = λ bytes all. packed_front new before _ fresh (subst (λ k. IsFront before k (answer_of task (meant packed_file bytes))) (sym taken) (front bytes all))
  packed_leads mid new before (Err halted) (Ok report) fresh taken fin front whole = absurd fin

-- OUT as it is returned: it took nothing, or what it reports, if it reports that; and whether it is to be kept
abbrev pub IsReturned : (known : Option (List ℕ)) → (kept : Bool) → Writing → Type 0
IsReturned known kept w = ((w.bytes ≡ []) ⊎ IfSome known (λ taken. w.bytes ≡ taken)) × (w.reports ≡ is_some known) × (w.kept ≡ kept)

pub front_returned : (known : Option (List ℕ)) (kept : Bool) (answer : Answer) → TakenFront known answer → (w : Writing) → IsReturned known kept w → TookFront answer (wrote w)
front_returned known kept answer x w (inl none, reported, unkept) reports = subst (IsFrontAs answer) (sym none) (nothing_is_front answer)
front_returned known kept answer x w (inr same, reported, unkept) reports = taken_is (IsFrontAs answer) w.bytes known same x (sym reported ∙ reports)

-- ---- by events

-- IN is returned; or OUT is, and is this
abbrev pub IsReturn : (Writing → Type 0) → Event → Type 0
IsReturn is (read r) = Unit {0}
IsReturn is (wrote w) = is w
IsReturn is _ = ⊥

pub reads_return : (is : Writing → Type 0) (rs : List Reading) → Each (IsReturn is) (map (λ r. read r) rs)
reads_return is [] = tt
reads_return is (r ∷ rs) = (tt, reads_return is rs)

return_holds : (is : Writing → Type 0) (p : Event → Type 0) → ((r : Reading) → p (read r)) → ((w : Writing) → is w → p (wrote w)) → (e : Event) → IsReturn is e → p e
return_holds is p of_read of_wrote (read r) x = of_read r
return_holds is p of_read of_wrote (wrote w) x = of_wrote w x
return_holds is p of_read of_wrote _ x = absurd x

-- what holds of each that is returned
pub returns_hold : (is : Writing → Type 0) (p : Event → Type 0) → ((r : Reading) → p (read r)) → ((w : Writing) → is w → p (wrote w)) → (es : List Event) → Each (IsReturn is) es → Each p es
returns_hold is p of_read of_wrote [] x = tt
returns_hold is p of_read of_wrote (e ∷ es) x = (return_holds is p of_read of_wrote e x.0, returns_hold is p of_read of_wrote es x.1)

pub returned_front : (known : Option (List ℕ)) (kept : Bool) (answer : Answer) → TakenFront known answer → (es : List Event) → Each (IsReturn (IsReturned known kept)) es → Each (TookFront answer) es
returned_front known kept answer x es is = returns_hold _ (TookFront answer) (λ r. tt) (front_returned known kept answer x) es is

pub returned_unkept : (known : Option (List ℕ)) (es : List Event) → Each (IsReturn (IsReturned known false)) es → Each IsUnkept es
returned_unkept known es is = returns_hold _ IsUnkept (λ r. tt) (λ w x. x.2) es is

pub returned_silent : (is : Writing → Type 0) (es : List Event) → Each (IsReturn is) es → Each Silent es
returned_silent is es x = returns_hold is Silent (λ r. tt) (λ w y. tt) es x

pub quiet_front : (answer : Answer) (e : Event) → Quiet e → TookFront answer e
quiet_front answer e h2 = grind arith

pub quiet_unkept : (e : Event) → Quiet e → IsUnkept e
quiet_unkept e h1 = grind arith

pub keeps_none : (task : Task) (es : List Event) → Each IsUnkept es → KeepsNone task es
keeps_none checking es x = x
keeps_none listing_frames es x = tt
keeps_none (showing dates) es x = x
keeps_none converting es x = x
keeps_none copying es x = x
keeps_none (extracting by area) es x = x

unkept_after : (task : Task) (xs ys : List Event) → Each Quiet xs → KeepsNone task ys → KeepsNone task (xs ++ ys)
unkept_after checking xs ys q x = each_both IsUnkept xs ys (each_quiet IsUnkept quiet_unkept xs q) x
unkept_after listing_frames xs ys q x = tt
unkept_after (showing dates) xs ys q x = each_both IsUnkept xs ys (each_quiet IsUnkept quiet_unkept xs q) x
unkept_after converting xs ys q x = each_both IsUnkept xs ys (each_quiet IsUnkept quiet_unkept xs q) x
unkept_after copying xs ys q x = each_both IsUnkept xs ys (each_quiet IsUnkept quiet_unkept xs q) x
unkept_after (extracting by area) xs ys q x = each_both IsUnkept xs ys (each_quiet IsUnkept quiet_unkept xs q) x

-- ---- by a command

-- after quiet events
pub leaves_after : (m : Manner) (task : Task) (has : List (Option (List ℕ))) (xs ys : List Event) → Each Quiet xs → Leaves m task has ys → Leaves m task has (xs ++ ys)
leaves_after m task has xs ys q (inl l) = inl (unkept_after task xs ys q l.0, λ bytes all. each_both _ xs ys (each_quiet _ (quiet_front _) xs q) (l.1 bytes all))
leaves_after m task has xs ys q (inr w) = inr (record {
  before = xs ++ w.before;
  rs = w.rs;
  out = w.out;
  after = w.after;
  happened = ap (λ es. xs ++ es) w.happened ∙ sym (append_assoc xs w.before (map (λ r. read r) w.rs ++ wrote w.out ∷ w.after));
  quiet = (each_both Quiet xs w.before q w.quiet.0, w.quiet.1);
  by = w.by;
  counts = w.counts;
  digest = w.digest;
  raw = w.raw;
  work = w.work;
})

-- before IN was read
pub opening_leaves : {input : List ℕ} (m : Manner) (task : Task) (how : Ending) (events : List Event) → FailsOpening how events → LeavesFor input m task events
opening_leaves m task how events f = record { has = []; opens = tt; leaves = inl (keeps_none task events (each_quiet IsUnkept quiet_unkept events (quiet_of events f.0)), λ bytes all. each_quiet _ (quiet_front _) events (quiet_of events f.0)) }
