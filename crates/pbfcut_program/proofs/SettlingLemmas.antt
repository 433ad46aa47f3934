-- What was done to files, put together.
use Rattle.std.proofs.Common.{arith, ◌≡◌, ◌∙◌, ◌⊎◌, inl, inr, ℕ, List, [], ◌∷◌, ◌++◌, map, Bool, false, true, Option, Some, None, Result, Ok, Err, refl, ap, subst, sym, append_assoc}
use Rattle.clap.specs.Words.{Text}
use Rattle.pbf_frame.specs.declared.device.Drain as drain
use Rattle.pbf_frame.specs.declared.device.Feed as feed
use Rattle.pbfcut_cli.specs.declared.endings.Ending.{Ending}
use Rattle.pbfcut_cli.specs.declared.programs.Program.{Program}
use Rattle.pbfcut_cli.specs.declared.words.Command.{Command}
use Rattle.pbfcut_cli.specs.declared.words.Command.TheVariants.{Blobs, Check, Convert, Extract, ExtractEach, Help, Info, Pack, Show, Unpack}
use Rattle.pbfcut_cli.specs.declared.words.ConfigFiles.{ConfigFiles}
use Rattle.pbfcut_cli.specs.declared.words.Files.{Files}
use Rattle.pbfcut_program.specs.declared.host.FinishFault.{FinishFault}
use Rattle.pbfcut_program.specs.Changes.{DropsFile, HasOneFile, KeepsFile}
use Rattle.pbfcut_program.specs.Devices.{CloseAll, Finishes}
use Rattle.pbfcut_program.specs.Events.{Event, Reading, Writing, read, seeded, then_all, then_one, wrote, openings}
use Rattle.pbfcut_program.specs.Fails.{Calm, Each}
use Rattle.pbfcut_program.specs.Files.{Disk, EndsOut, IsDropped, IsKept, IsMade, Still, after}
use Rattle.pbfcut_program.specs.Program.{IsMeant, begun, is_screen, looks}
use Rattle.pbfcut_program.specs.Settling.{HandlesConfigured, HandlesIn, HandlesOut, IsEnded, IsStill, Returns, RunSettles, Settles, SettlesEach, SettlesIn}
use Rattle.pbfcut_program.specs.Telling.{Tells}
use Rattle.pbfcut_program.proofs.Beginning.{calm_looks, calm_openings}
use Rattle.pbfcut_program.proofs.Closing.{close_rest}
use Rattle.pbfcut_program.proofs.DiskLemmas.{after_still}
use Rattle.pbfcut_program.proofs.EventLemmas.{each_both, each_weaker}
use Rattle.pbfcut_program.proofs.Logging.{and_then, then_none}
use Rattle.pbfcut_program.proofs.SayingLemmas.{broken_still}
use Rattle.pbfcut_program.proofs.SeveralSettling.{each_before}

calm_still : (e : Event) → Calm e → Still e
calm_still e h1 = grind arith

pub still_of : (xs : List Event) → Each Calm xs → Each Still xs
still_of xs q = each_weaker Calm Still calm_still xs q

reads_still : (rs : List Reading) → Each Still (map (λ r. read r) rs)
reads_still [] = tt
reads_still (r ∷ rs) = (tt, reads_still rs)

-- ---- nothing was done to any

pub nothing_done : (l : Option (List Event)) → IsStill l l
nothing_done l = ([], then_none l, tt)

pub one_still : (l m : Option (List Event)) (e : Event) → m ≡ then_one l e → Still e → IsStill l m
one_still l m e is s = (e ∷ [], is, (s, tt))

pub calm_done : (l m : Option (List Event)) (xs : List Event) → m ≡ then_all l xs → Each Calm xs → IsStill l m
calm_done l m xs is q = (xs, is, still_of xs q)

pub still_then : (l m n : Option (List Event)) → IsStill l m → IsStill m n → IsStill l n
still_then l m n a b = (a.0 ++ b.0, and_then l m n a.0 b.0 a.1 b.1, each_both Still a.0 b.0 a.2 b.2)

pub told_still : {A : Type 0} (l m : Option (List Event)) (xs : List Event) (r : Result A Ending) → Tells l m xs r → Each Still xs → IsStill l m
told_still l m xs (Ok a) t s = (xs, t, s)
told_still l m xs (Err how) t s = (t.0, t.1, broken_still xs how t.0 s t.2)

pub closed_still : {F : Type 0} (f : feed.Ghosts F) (news : List F) (l m : Option (List Event)) → CloseAll f news l m → IsStill l m
closed_still f news l m c =
    let rest = close_rest f news l m c in
    (map (λ r. read r) rest.0, rest.1, reads_still rest.0)

pub screen_still : {D : Type 0} (d : drain.Ghosts D) (out : D) (kept : Bool) (fault : Option FinishFault) (l m : Option (List Event)) → Finishes d out None kept fault l m → IsStill l m
screen_still d out kept fault l m fin = one_still l m _ fin.0.2 refl

-- ---- OUT is kept, or dropped

pub kept_or_dropped : {A : Type 0} (program : Program) (overwrite : Bool) (output : List ℕ) (name : Option (List ℕ)) (fault : Option FinishFault) (result : Result A FinishFault) (ends : List Event) → EndsOut program overwrite output name fault result ends
    → ((fault ≡ None) × IsKept program overwrite output name ends) ⊎ IsDropped program name ends
kept_or_dropped program overwrite output name (Some why) (Ok a) ends e = absurd e
kept_or_dropped program overwrite output name (Some why) (Err told) ends e = inr e.1
kept_or_dropped program overwrite output name None (Ok a) ends e = inl (refl, e)
kept_or_dropped program overwrite output name None (Err told) ends (cause, inl dropped) = inr dropped
kept_or_dropped program overwrite output name None (Err told) ends (cause, inr kept) = inl (refl, kept)

pub is_ended : {A : Type 0} (program : Program) (files : Files) (out : Writing) (result : Result A FinishFault) (ends : List Event) → out.kept ≡ true → EndsOut program files.overwrite files.output.now out.name out.fault result ends → IsEnded program files out ends
is_ended program files out result ends kept e = of (kept_or_dropped program files.overwrite files.output.now out.name out.fault result ends e) where
  of : ((out.fault ≡ None) × IsKept program files.overwrite files.output.now out.name ends) ⊎ IsDropped program out.name ends → IsEnded program files out ends
  of (inl k) = inl (kept, k.0, k.1)
  of (inr dropped) = inr dropped

-- ---- around what was done

some_none : (name : List ℕ) → Some name ≡ None → ⊥
some_none name h = cc

kept_screen : (program : Program) (overwrite : Bool) (output : List ℕ) (name : Option (List ℕ)) (ends : List Event) → name ≡ None → IsKept program overwrite output name ends → ends ≡ []
kept_screen program overwrite output None ends none k = k
kept_screen program overwrite output (Some name) ends none k = absurd (some_none name none)

dropped_screen : (program : Program) (name : Option (List ℕ)) (ends : List Event) → name ≡ None → IsDropped program name ends → ends ≡ []
dropped_screen program None ends none d = d
dropped_screen program (Some name) ends none d = absurd (some_none name none)

ended_screen : (program : Program) (files : Files) (out : Writing) (ends : List Event) → out.name ≡ None → IsEnded program files out ends → Each Still ends
ended_screen program files out ends none (inl k) = subst (λ es. Each Still es) (sym (kept_screen program files.overwrite files.output.now out.name ends none k.2)) tt
ended_screen program files out ends none (inr d) = subst (λ es. Each Still es) (sym (dropped_screen program out.name ends none d)) tt

-- the events of a command that writes
module _ (a makes rs ends last : List Event) (s : Event) (out : Writing) where
  abbrev all : List Event
  all = (a ++ s ∷ makes) ++ ((rs ++ wrote out ∷ ends) ++ last)

  file_events : all ≡ (a ++ s ∷ []) ++ (makes ++ (rs ++ (wrote out ∷ (ends ++ last))))
  file_events =
      let first = a ++ s ∷ [] in
      let rest = (rs ++ wrote out ∷ ends) ++ last in
      ap (λ x. x ++ rest) (sym (append_assoc a (s ∷ []) makes)) ∙ append_assoc first makes rest ∙ ap (λ x. first ++ (makes ++ x)) (append_assoc rs (wrote out ∷ ends) last)

  handled : (program : Program) (files : Files) → Each Still (a ++ s ∷ []) → Each Still rs → Each Still last → IsMade program false files.output.now out.name makes → IsEnded program files out ends → HandlesOut program files all
  handled program files p q t m e = (out, of e) where
    file : HasOneFile program files.output.now out ends all
    file = record { before = a ++ s ∷ []; makes = makes; between = rs; last = last; happened = file_events; is_made = m; still = (p, q, t) }

    of : IsEnded program files out ends → KeepsFile program files.overwrite files.output.now out all ⊎ DropsFile program files.output.now out all
    of (inl k) = inl (record { keeps = ends; file = file; is_kept = k.2; kept = k.0; whole = k.1 })
    of (inr d) = inr (record { drops = ends; file = file; is_dropped = d })

  screened_still : (program : Program) (files : Files) → Each Still a → Still s → Each Still rs → Each Still last → IsMade program true files.output.now out.name makes → IsEnded program files out ends → Each Still all
  screened_still program files p q r t m e = each_both Still (a ++ s ∷ makes) ((rs ++ wrote out ∷ ends) ++ last)
      (each_both Still a (s ∷ makes) p (q, subst (λ es. Each Still es) (sym m.1) (tt, tt)))
      (each_both Still (rs ++ wrote out ∷ ends) last (each_both Still rs (wrote out ∷ ends) r (m.0, ended_screen program files out ends m.0 e)) t)

  settled : (program : Program) (files : Files) (is : Bool) → Each Still a → Still s → Each Still rs → Each Still last → IsMade program is files.output.now out.name makes → IsEnded program files out ends → Each Still all ⊎ HandlesOut program files all
  settled program files true p q r t m e = inl (screened_still program files p q r t m e)
  settled program files false p q r t m e = inr (handled program files (each_both Still a (s ∷ []) p (q, tt)) r t m e)

pub write_settles : (program : Program) (files : Files) (has : List (Option (List ℕ))) (key : ℕ) (name : Option (List ℕ)) (l m n : Option (List Event))
    → ((makes : List Event) × (m ≡ then_all l (begun (is_screen program files.output.now) files has key makes)) × IsMade program (is_screen program files.output.now) files.output.now name makes) → Returns program files name m n → Settles program files l n
write_settles program files has key name l m n ready r =
    let is = is_screen program files.output.now in
    let opens = openings files.input.now 1 has in
    let a : List Event = looks is files ++ opens in
    let rs : List Event = map (λ r. read r) r.0 in
    let s = seeded (Some key) in
    let still = still_of a (each_both Calm (looks is files) opens (calm_looks is files) (calm_openings files.input.now 1 has)) in (
      (a ++ s ∷ ready.0) ++ ((rs ++ wrote r.1 ∷ r.2) ++ r.3),
      and_then l m n (a ++ s ∷ ready.0) ((rs ++ wrote r.1 ∷ r.2) ++ r.3) ready.1 r.4,
      settled a ready.0 rs r.2 r.3 s r.1 program files is still tt (reads_still r.0) r.5 (subst (λ (n : Option (List ℕ)). IsMade program is files.output.now n ready.0) (sym r.6) ready.2) r.7,
    )

pub still_settles : (program : Program) (files : Files) (l m : Option (List Event)) → IsStill l m → Settles program files l m
still_settles program files l m s = (s.0, s.1, inl s.2)

module _ (program : Program) (output : List ℕ) (w : Writing) (part events more : List Event) (still : Each Still more) where
  file_after : HasOneFile program output w part events → HasOneFile program output w part (more ++ events)
  file_after f =
      let rest = f.makes ++ (f.between ++ (wrote w ∷ (part ++ f.last))) in
      record {
        before = more ++ f.before;
        makes = f.makes;
        between = f.between;
        last = f.last;
        happened = ap (λ es. more ++ es) f.happened ∙ sym (append_assoc more f.before rest);
        is_made = f.is_made;
        still = (each_both Still more f.before still f.still.0, f.still.1, f.still.2);
      }

  file_before : HasOneFile program output w part events → HasOneFile program output w part (events ++ more)
  file_before f =
      let filling : List Event = wrote w ∷ (part ++ f.last) in
      record {
        before = f.before;
        makes = f.makes;
        between = f.between;
        last = f.last ++ more;
        happened = ap (λ es. es ++ more) f.happened ∙ append_assoc f.before (f.makes ++ (f.between ++ filling)) more ∙ ap (λ x. f.before ++ x) (append_assoc f.makes (f.between ++ filling) more
            ∙ ap (λ x. f.makes ++ x) (append_assoc f.between filling more ∙ ap (λ x. f.between ++ (wrote w ∷ x)) (append_assoc part f.last more)));
        is_made = f.is_made;
        still = (f.still.0, f.still.1, each_both Still f.last more f.still.2 still);
      }

module _ (program : Program) (files : Files) (events more : List Event) (still : Each Still more) where
  handles_after : HandlesOut program files events → HandlesOut program files (more ++ events)
  handles_after (w, inl k) = (w, inl (record { keeps = k.keeps; file = file_after program files.output.now w k.keeps events more still k.file; is_kept = k.is_kept; kept = k.kept; whole = k.whole }))
  handles_after (w, inr d) = (w, inr (record { drops = d.drops; file = file_after program files.output.now w d.drops events more still d.file; is_dropped = d.is_dropped }))

  handles_before : HandlesOut program files events → HandlesOut program files (events ++ more)
  handles_before (w, inl k) = (w, inl (record { keeps = k.keeps; file = file_before program files.output.now w k.keeps events more still k.file; is_kept = k.is_kept; kept = k.kept; whole = k.whole }))
  handles_before (w, inr d) = (w, inr (record { drops = d.drops; file = file_before program files.output.now w d.drops events more still d.file; is_dropped = d.is_dropped }))

pub settles_after : (program : Program) (files : Files) (l m n : Option (List Event)) → IsStill l m → Settles program files m n → Settles program files l n
settles_after program files l m n s (events, e, inl t) = (s.0 ++ events, and_then l m n s.0 events s.1 e, inl (each_both Still s.0 events s.2 t))
settles_after program files l m n s (events, e, inr t) = (s.0 ++ events, and_then l m n s.0 events s.1 e, inr (handles_after program files events s.0 s.2 t))

pub settles_before : (program : Program) (files : Files) (l m n : Option (List Event)) → Settles program files l m → IsStill m n → Settles program files l n
settles_before program files l m n (events, e, inl t) s = (events ++ s.0, and_then l m n events s.0 e s.1, inl (each_both Still events s.0 t s.2))
settles_before program files l m n (events, e, inr t) s = (events ++ s.0, and_then l m n events s.0 e s.1, inr (handles_before program files events s.0 s.2 t))

settles_in_before : (program : Program) (command : Command) (l m n : Option (List Event)) → SettlesIn program command l m → IsStill m n → SettlesIn program command l n
settles_in_before program (Convert files) l m n t s = settles_before program files l m n t s
settles_in_before program (Pack files) l m n t s = settles_before program files l m n t s
settles_in_before program (Unpack files) l m n t s = settles_before program files l m n t s
settles_in_before program (Extract region by files) l m n t s = settles_before program files l m n t s
settles_in_before program (ExtractEach parents files) l m n t s = each_before program files l m n t s
settles_in_before program (Help text) l m n t s = still_then l m n t s
settles_in_before program (Blobs input) l m n t s = still_then l m n t s
settles_in_before program (Info input json) l m n t s = still_then l m n t s
settles_in_before program (Show input dates progress) l m n t s = still_then l m n t s
settles_in_before program (Check input progress digests) l m n t s = still_then l m n t s

-- the line of how it ended comes last
pub run_settles_before : (program : Program) (words : List Text) (l m n : Option (List Event)) → RunSettles program words l m → IsStill m n → RunSettles program words l n
run_settles_before program words l m n (inl t) s = inl (still_then l m n t s)
run_settles_before program words l m n (inr (command, meant, t)) s = inr (command, meant, settles_in_before program command l m n t s)

-- ---- what a whole run changes

same_events : (xs ys : List Event) → Some xs ≡ then_all (Some []) ys → xs ≡ ys
same_events xs ys e = cc

-- every file has what it had
abbrev pub IsSame : List Event → Disk → Type 0
IsSame events disk = (path : List ℕ) → after events disk path ≡ disk path

still_same : (events : List Event) (disk : Disk) → IsStill (Some []) (Some events) → IsSame events disk
still_same events disk s path = ap (λ (d : Disk). d path) (ap (λ es. after es disk) (same_events events s.0 s.1) ∙ after_still s.0 disk s.2)

settles_same : (program : Program) (files : Files) (events : List Event) (disk : Disk) → Settles program files (Some []) (Some events) → IsSame events disk ⊎ HandlesOut program files events
settles_same program files events disk (mine, e, inl s) = inl (still_same events disk (mine, e, s))
settles_same program files events disk (mine, e, inr h) = inr (subst (λ es. HandlesOut program files es) (sym (same_events events mine e)) h)

configured_same : (program : Program) (files : ConfigFiles) (events : List Event) (disk : Disk) → SettlesEach program files (Some []) (Some events) → IsSame events disk ⊎ HandlesConfigured program files events
configured_same program files events disk (mine, e, inl s) = inl (still_same events disk (mine, e, s))
configured_same program files events disk (mine, e, inr h) = inr (subst (λ es. HandlesConfigured program files es) (sym (same_events events mine e)) h)

command_same : (program : Program) (command : Command) (events : List Event) (disk : Disk) → SettlesIn program command (Some []) (Some events) → IsSame events disk ⊎ HandlesIn program command events
command_same program (Convert files) events disk s = settles_same program files events disk s
command_same program (Pack files) events disk s = settles_same program files events disk s
command_same program (Unpack files) events disk s = settles_same program files events disk s
command_same program (Extract region by files) events disk s = settles_same program files events disk s
command_same program (ExtractEach parents files) events disk s = configured_same program files events disk s
command_same program (Help text) events disk s = inl (still_same events disk s)
command_same program (Blobs input) events disk s = inl (still_same events disk s)
command_same program (Info input json) events disk s = inl (still_same events disk s)
command_same program (Show input dates progress) events disk s = inl (still_same events disk s)
command_same program (Check input progress digests) events disk s = inl (still_same events disk s)

pub run_same : (program : Program) (words : List Text) (events : List Event) (disk : Disk) → RunSettles program words (Some []) (Some events) → IsSame events disk ⊎ ((command : Command) × IsMeant program words command × HandlesIn program command events)
run_same program words events disk (inl s) = inl (still_same events disk s)
run_same program words events disk (inr (command, meant, s)) = of (command_same program command events disk s) where
  of : IsSame events disk ⊎ HandlesIn program command events → IsSame events disk ⊎ ((command : Command) × IsMeant program words command × HandlesIn program command events)
  of (inl same) = inl same
  of (inr h) = inr (command, meant, h)
