-- OUT kept, and dropped.
use Rattle.std.proofs.Common.{◌≡◌, ◌⊎◌, arith, inl, inr, List, ℕ, [], ◌∷◌, ◌++◌, Bool, Option, None, Some, Result, Ok, Err, refl, sym, subst, ap, ◌∙◌, append_assoc}
use Rattle.std.specs.Result.{result_err}
use Rattle.pbfcut_cli.specs.declared.programs.Program.{Program}
use Rattle.pbfcut_cli.specs.declared.programs.Program.TheVariants.{Pbfcut, Pbfcutz}
use Rattle.pbfcut_program.specs.Events.{Event, Writing, not_named, not_synced, wrote}
use Rattle.pbfcut_program.specs.Fails.{Each, FailsToFinish, FailsToOpen, Has, Quiet}
use Rattle.pbfcut_program.specs.Files.{Drops, EndsOut, IsDropped, IsEnd, IsKept, IsMade, Keeps, Misnames, Names}
use Rattle.pbfcut_program.proofs.EventLemmas.{each_both, each_weaker, has_after, has_before}
use Rattle.pbfcut_program.specs.Outcomes.{finish_fault_of}
use Rattle.pbfcut_program.specs.Telling.{Silent}
use Rattle.pbfcut_program.specs.declared.host.CreateFault.{CreateFault}
use Rattle.pbfcut_program.specs.declared.host.CreateFault.TheVariants as creating
use Rattle.pbfcut_program.specs.declared.host.FinishFault.{FinishFault}
use Rattle.pbfcut_program.specs.declared.host.NameFault.{NameFault}
use Rattle.pbfcut_program.specs.declared.host.NameFault.TheVariants as naming

pub fails_named : (from to : List ℕ) (fault : NameFault) → FailsToFinish (finish_fault_of fault) (not_named from to fault)
fails_named from to naming.Failed = tt
fails_named from to naming.Exists = tt

-- an OUT that was kept, as it is said on `Ok`
pub ends_kept : {A : Type 0} (program : Program) (overwrite : Bool) (output : List ℕ) (name : Option (List ℕ)) (fault : Option FinishFault) (result : Result A FinishFault) (events : List Event) → EndsOut program overwrite output name fault result events → result_err result ≡ None → (fault ≡ None) × IsKept program overwrite output name events
ends_kept program overwrite output name None (Ok a) events e is = (refl, e)
ends_kept program overwrite output name (Some why) (Ok a) events e is = absurd e
ends_kept program overwrite output name fault (Err told) events e is = absurd (some_none is) where
  some_none : Some told ≡ None → ⊥
  some_none h = cc

-- if it wasn't, the events have the cause
pub ends_told : {A : Type 0} (program : Program) (overwrite : Bool) (output : List ℕ) (w : Writing) (name : Option (List ℕ)) (fault : Option FinishFault) (result : Result A FinishFault) (events : List Event) (told : FinishFault) → w.name ≡ name → w.fault ≡ fault → EndsOut program overwrite output name fault result events → result_err result ≡ Some told → Has (FailsToFinish told) (wrote w ∷ events)
ends_told program overwrite output w name None (Ok a) events told by is e said = absurd (none_some said) where
  none_some : None ≡ Some told → ⊥
  none_some h = cc
ends_told program overwrite output w name (Some why) (Ok a) events told by is e said = absurd e
ends_told program overwrite output w name None (Err t) events told by is e said = inr (subst (λ f. Has (FailsToFinish f) events) (same said) e.0) where
  same : Some t ≡ Some told → t ≡ told
  same h = cc
ends_told program overwrite output w name (Some why) (Err t) events told by is e said = inl (known is said e.0) where
  known : w.fault ≡ Some why → Some t ≡ Some told → t ≡ why → w.fault ≡ Some told
  known a b c = cc

-- ---- OUT isn't made

-- other names were tried before
pub missed_later : (xs ys : List Event) (fault : CreateFault) → ((fault ≡ creating.Memory) ⊎ Has FailsToOpen ys) → ((fault ≡ creating.Memory) ⊎ Has FailsToOpen (xs ++ ys))
missed_later xs ys fault (inl e) = inl e
missed_later xs ys fault (inr h) = inr (has_after _ xs ys h)

-- standard output
pub screen_ends : {A : Type 0} (program : Program) (overwrite : Bool) (output : List ℕ) (result : Result A FinishFault) → EndsOut program overwrite output None (result_err result) result []
screen_ends program overwrite output (Ok a) = refl
screen_ends program overwrite output (Err told) = (refl, refl)

-- ---- names

-- another try failed
pub fails_late : (xs ys : List Event) (first fault : NameFault) → first ≡ naming.Exists → Has (FailsToFinish (finish_fault_of first)) xs → ((fault ≡ naming.Exists) ⊎ Has (FailsToFinish (finish_fault_of fault)) ys) → Has (FailsToFinish (finish_fault_of fault)) (xs ++ ys)
fails_late xs ys first fault is h (inl same) = has_before _ xs ys (subst (λ f. Has (FailsToFinish (finish_fault_of f)) xs) (is ∙ sym same) h)
fails_late xs ys first fault is h (inr later) = has_after _ xs ys later

-- a part that doesn't get OUT's name is dropped
pub drops_after : (name : List ℕ) (tries events : List Event) → Each Misnames tries → Drops Pbfcutz name events → Drops Pbfcutz name (tries ++ events)
drops_after name tries events still d = (tries ++ d.0, d.1, ap (λ es. tries ++ es) d.2 ∙ sym (append_assoc tries d.0 (d.1 ∷ [])), each_both Misnames tries d.0 still d.3, d.4)

-- one that got it, whose name can't be written to the disk, is kept
pub kept_unsynced : (overwrite : Bool) (output name : List ℕ) (tries names : List Event) → Each Misnames tries → Names overwrite output name names → Keeps Pbfcutz overwrite output name ((tries ++ names) ++ not_synced output ∷ [])
kept_unsynced overwrite output name tries names still n = (tries, names, not_synced output ∷ [], append_assoc tries names (not_synced output ∷ []), still, n, (tt, tt))

-- ---- what is dropped or kept is quiet, and nothing is said

abbrev Mute : Event → Type 0
Mute e = Quiet e × Silent e

misname_mute : (e : Event) → Misnames e → Mute e
misname_mute e h1 = grind arith

misnamed_mute : (tries : List Event) → Each Misnames tries → Each Mute tries
misnamed_mute tries m = each_weaker Misnames Mute misname_mute tries m

end_mute : (name : List ℕ) (end : Event) → IsEnd name end → Mute end
end_mute name end (inl e) = subst (λ x. Mute x) (sym e) (tt, tt)
end_mute name end (inr e) = subst (λ x. Mute x) (sym e) (tt, tt)

dropped_mute : (program : Program) (name : Option (List ℕ)) (events : List Event) → IsDropped program name events → Each Mute events
dropped_mute program None events d = subst (λ es. Each Mute es) (sym d) tt
dropped_mute Pbfcut (Some name) events d = subst (λ es. Each Mute es) (sym d) tt
dropped_mute Pbfcutz (Some name) events d = subst (λ es. Each Mute es) (sym d.2) (each_both Mute d.0 (d.1 ∷ []) (misnamed_mute d.0 d.3) (end_mute name d.1 d.4, tt))

named_mute : (overwrite : Bool) (output name : List ℕ) (names : List Event) → Names overwrite output name names → Each Mute names
named_mute overwrite output name names (inl n) = subst (λ es. Each Mute es) (sym n.2) ((tt, tt), (end_mute name n.0 n.1, tt))
named_mute overwrite output name names (inr (inl e)) = subst (λ es. Each Mute es) (sym e) ((tt, tt), tt)
named_mute overwrite output name names (inr (inr n)) = subst (λ es. Each Mute es) (sym n.1) ((tt, tt), tt)

kept_mute : (program : Program) (overwrite : Bool) (output : List ℕ) (name : Option (List ℕ)) (events : List Event) → IsKept program overwrite output name events → Each Mute events
kept_mute program overwrite output None events k = subst (λ es. Each Mute es) (sym k) tt
kept_mute Pbfcut overwrite output (Some name) events k = subst (λ es. Each Mute es) (sym k) tt
kept_mute Pbfcutz overwrite output (Some name) events k = subst (λ es. Each Mute es) (sym k.3) (each_both Mute k.0 (k.1 ++ k.2) (misnamed_mute k.0 k.4) (each_both Mute k.1 k.2 (named_mute overwrite output name k.1 k.5) (misnamed_mute k.2 k.6)))

pub dropped_quiet : (program : Program) (name : Option (List ℕ)) (events : List Event) → IsDropped program name events → Each Quiet events
dropped_quiet program name events d = each_weaker Mute Quiet (λ e m. m.0) events (dropped_mute program name events d)

pub dropped_silent : (program : Program) (name : Option (List ℕ)) (events : List Event) → IsDropped program name events → Each Silent events
dropped_silent program name events d = each_weaker Mute Silent (λ e m. m.1) events (dropped_mute program name events d)

pub kept_quiet : (program : Program) (overwrite : Bool) (output : List ℕ) (name : Option (List ℕ)) (events : List Event) → IsKept program overwrite output name events → Each Quiet events
kept_quiet program overwrite output name events k = each_weaker Mute Quiet (λ e m. m.0) events (kept_mute program overwrite output name events k)

pub kept_silent : (program : Program) (overwrite : Bool) (output : List ℕ) (name : Option (List ℕ)) (events : List Event) → IsKept program overwrite output name events → Each Silent events
kept_silent program overwrite output name events k = each_weaker Mute Silent (λ e m. m.1) events (kept_mute program overwrite output name events k)

ends_mute : {A : Type 0} (program : Program) (overwrite : Bool) (output : List ℕ) (name : Option (List ℕ)) (fault : Option FinishFault) (result : Result A FinishFault) (events : List Event) → EndsOut program overwrite output name fault result events → Each Mute events
ends_mute program overwrite output name (Some why) (Ok a) events e = absurd e
ends_mute program overwrite output name (Some why) (Err told) events e = dropped_mute program name events e.1
ends_mute program overwrite output name None (Ok a) events e = kept_mute program overwrite output name events e
ends_mute program overwrite output name None (Err told) events (cause, inl dropped) = dropped_mute program name events dropped
ends_mute program overwrite output name None (Err told) events (cause, inr kept) = kept_mute program overwrite output name events kept

pub ends_quiet : {A : Type 0} (program : Program) (overwrite : Bool) (output : List ℕ) (name : Option (List ℕ)) (fault : Option FinishFault) (result : Result A FinishFault) (events : List Event) → EndsOut program overwrite output name fault result events → Each Quiet events
ends_quiet program overwrite output name fault result events e = each_weaker Mute Quiet (λ e m. m.0) events (ends_mute program overwrite output name fault result events e)

pub ends_silent : {A : Type 0} (program : Program) (overwrite : Bool) (output : List ℕ) (name : Option (List ℕ)) (fault : Option FinishFault) (result : Result A FinishFault) (events : List Event) → EndsOut program overwrite output name fault result events → Each Silent events
ends_silent program overwrite output name fault result events e = each_weaker Mute Silent (λ e m. m.1) events (ends_mute program overwrite output name fault result events e)

-- the same place, as it is said
pub ends_at : {A : Type 0} (p program : Program) → p ≡ program → (o overwrite : Bool) → o ≡ overwrite → (path output : List ℕ) → path ≡ output → (name : Option (List ℕ)) (fault : Option FinishFault) (result : Result A FinishFault) (events : List Event) → EndsOut p o path name fault result events → EndsOut program overwrite output name fault result events
ends_at p program one o overwrite two path output three name fault result events e =
    subst (λ (x : Program). EndsOut x overwrite output name fault result events) one (subst (λ (x : Bool). EndsOut p x output name fault result events) two (subst (λ (x : List ℕ). EndsOut p o x name fault result events) three e))

pub made_at : (is : Bool) (p program : Program) → p ≡ program → (path output : List ℕ) → path ≡ output → (name : Option (List ℕ)) (events : List Event) → IsMade p is path name events → IsMade program is output name events
made_at is p program one path output two name events m = subst (λ (x : Program). IsMade x is output name events) one (subst (λ (x : List ℕ). IsMade p is x name events) two m)
