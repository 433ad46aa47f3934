-- What the events of several files change in the file system.
use Rattle.std.proofs.Common.{◌≡◌, ◌⊎◌, inl, inr, ℕ, List, [], ◌∷◌, ◌++◌, map, Bool, true, false, Option, Some, None, refl, sym, subst, ap, ◌∙◌}
use Rattle.std.proofs.lemmas.Grind.{flat_map-append}
use Rattle.std.proofs.lemmas.List.Concat.{flat_map_single}
use Rattle.std.specs.List.{AllByRecursion, flat_map}
use Rattle.pbf_frame.specs.Devices.{append}
use Rattle.pbfcut.proofs.SeveralLemmas.{all_units}
use Rattle.pbfcut_cli.specs.declared.programs.Program.TheVariants.{Pbfcutz}
use Rattle.pbfcut_program.specs.Events.{Event, text_read, text_not_read, looked, opened, not_opened, seeded, screened, made, not_made, read, wrote, linked, moved, renamed, not_named, removed, stays, not_synced, printed, told, advised}
use Rattle.pbfcut_program.specs.Fails.{Each}
use Rattle.pbfcut_program.specs.Files.{AllowsAll, Disk, Drops, IsDropped, IsEnd, IsKept, Keeps, Names, Still, after, appended, changed, put}
use Rattle.pbfcut_program.specs.SeveralChanges.{HandlesFiles, IsApart, IsDroppedFile, IsHandled, IsKeptWhole, OneFile, Pairwise}
use Rattle.pbfcut_program.specs.Taking.{Happened}
use Rattle.pbfcut_program.proofs.DiskLemmas.{IsFile, after_both, after_still, allows_first, allows_last, allows_past, file_of, happened_after, happened_before, misnames_still, misses_still, past_still, put_other, put_same, some_same, which}
use Rattle.pbfcut_program.proofs.EventLemmas.{each_both, each_front}

-- ---- events that change nothing by this name

abbrev Spares : List ℕ → Event → Type 0
Spares p (made n) = p ≡ n → ⊥
Spares p (wrote w) = w.name ≡ Some p → ⊥
Spares p (linked from to) = p ≡ to → ⊥
Spares p (moved from to) = (p ≡ from → ⊥) × (p ≡ to → ⊥)
Spares p (renamed from to) = (p ≡ from → ⊥) × (p ≡ to → ⊥)
Spares p (removed n) = p ≡ n → ⊥
Spares p _ = Unit {0}

written_other : (p : List ℕ) (name : Option (List ℕ)) (bytes : List ℕ) (disk : Disk) → (name ≡ Some p → ⊥) → appended name bytes disk p ≡ disk p
written_other p None bytes disk h = refl
written_other p (Some n) bytes disk h = put_other n p (append (disk n) bytes) disk (λ e. h (ap (λ x. Some x) (sym e)))

spared_one : (p : List ℕ) (e : Event) (disk : Disk) → Spares p e → changed e disk p ≡ disk p
spared_one p (made n) disk s = put_other n p (Some []) disk s
spared_one p (wrote w) disk s = written_other p w.name w.bytes disk s
spared_one p (linked from to) disk s = put_other to p (disk from) disk s
spared_one p (moved from to) disk s = put_other from p None (put to (disk from) disk) s.0 ∙ put_other to p (disk from) disk s.1
spared_one p (renamed from to) disk s = put_other from p None (put to (disk from) disk) s.0 ∙ put_other to p (disk from) disk s.1
spared_one p (removed n) disk s = put_other n p None disk s
spared_one p (text_read path text) disk s = refl
spared_one p (text_not_read path) disk s = refl
spared_one p (looked path overwrite there) disk s = refl
spared_one p (opened path pass has) disk s = refl
spared_one p (not_opened path fault) disk s = refl
spared_one p (seeded key) disk s = refl
spared_one p (screened there) disk s = refl
spared_one p (not_made n fault) disk s = refl
spared_one p (read r) disk s = refl
spared_one p (not_named from to fault) disk s = refl
spared_one p (stays n) disk s = refl
spared_one p (not_synced n) disk s = refl
spared_one p (printed screen text fault) disk s = refl
spared_one p (told text) disk s = refl
spared_one p advised disk s = refl

spared : (p : List ℕ) (es : List Event) (disk : Disk) → Each (Spares p) es → after es disk p ≡ disk p
spared p [] disk s = refl
spared p (e ∷ es) disk s = spared p es (changed e disk) s.1 ∙ spared_one p e disk s.0

none_some : {A : Type 0} {a : A} → None ≡ Some a → ⊥
none_some h = cc

still_spares : (p : List ℕ) (e : Event) → Still e → Spares p e
still_spares p (made n) s = absurd s
still_spares p (wrote w) s = λ h. none_some (sym s ∙ h)
still_spares p (linked from to) s = absurd s
still_spares p (moved from to) s = absurd s
still_spares p (renamed from to) s = absurd s
still_spares p (removed n) s = absurd s
still_spares p (text_read path text) s = tt
still_spares p (text_not_read path) s = tt
still_spares p (looked path overwrite there) s = tt
still_spares p (opened path pass has) s = tt
still_spares p (not_opened path fault) s = tt
still_spares p (seeded key) s = tt
still_spares p (screened there) s = tt
still_spares p (not_made n fault) s = tt
still_spares p (read r) s = tt
still_spares p (not_named from to fault) s = tt
still_spares p (stays n) s = tt
still_spares p (not_synced n) s = tt
still_spares p (printed screen text fault) s = tt
still_spares p (told text) s = tt
still_spares p advised s = tt

all_still_spare : (p : List ℕ) (es : List Event) → Each Still es → Each (Spares p) es
all_still_spare p [] s = tt
all_still_spare p (e ∷ es) s = (still_spares p e s.0, all_still_spare p es s.1)

end_spares : (p name : List ℕ) (end : Event) → IsEnd name end → (p ≡ name → ⊥) → Spares p end
end_spares p name end (inl e) n = subst (λ (x : Event). Spares p x) (sym e) n
end_spares p name end (inr e) n = subst (λ (x : Event). Spares p x) (sym e) tt

names_spare : (p : List ℕ) (overwrite : Bool) (output name : List ℕ) (names : List Event) → Names overwrite output name names → (p ≡ name → ⊥) → (p ≡ output → ⊥) → Each (Spares p) names
names_spare p overwrite output name names (inl k) n o = subst (λ (es : List Event). Each (Spares p) es) (sym k.2) (o, (end_spares p name k.0 k.1 n, tt))
names_spare p overwrite output name names (inr (inl e)) n o = subst (λ (es : List Event). Each (Spares p) es) (sym e) ((n, o), tt)
names_spare p overwrite output name names (inr (inr k)) n o = subst (λ (es : List Event). Each (Spares p) es) (sym k.1) ((n, o), tt)

keeps_spare : (p : List ℕ) (overwrite : Bool) (output name : List ℕ) (es : List Event) → Keeps Pbfcutz overwrite output name es → (p ≡ name → ⊥) → (p ≡ output → ⊥) → Each (Spares p) es
keeps_spare p overwrite output name es (tries, names, last, e, t, k, l) n o = subst (λ (x : List Event). Each (Spares p) x) (sym e)
    (each_both (Spares p) tries (names ++ last) (all_still_spare p tries (misnames_still tries t))
    (each_both (Spares p) names last (names_spare p overwrite output name names k n o) (all_still_spare p last (misnames_still last l))))

drops_spare : (p name : List ℕ) (es : List Event) → Drops Pbfcutz name es → (p ≡ name → ⊥) → Each (Spares p) es
drops_spare p name es (tries, end, e, t, is) n = subst (λ (x : List Event). Each (Spares p) x) (sym e)
    (each_both (Spares p) tries (end ∷ []) (all_still_spare p tries (misnames_still tries t)) (end_spares p name end is n, tt))

-- ---- the files, each with its other name

abbrev pub made_of : OneFile → List Event
made_of one = one.makes

abbrev pub wrote_of : OneFile → List Event
wrote_of one = wrote one.out ∷ []

abbrev pub ends_of : OneFile → List Event
ends_of one = one.ends

-- this is neither the name of the file until it is whole, nor the path of its OUT
abbrev IsNotNamed : List ℕ → OneFile → Type 0
IsNotNamed p one = one.out.name ≡ Some p → ⊥

abbrev Differs : List ℕ → OneFile → Type 0
Differs p one = IsNotNamed p one × (p ≡ one.output → ⊥)

unnamed : (p : List ℕ) (files : List OneFile) → AllByRecursion (Differs p) files → AllByRecursion (IsNotNamed p) files
unnamed p [] d = tt
unnamed p (one ∷ more) d = (d.0.0, unnamed p more d.1)

all_writes_spare : (p : List ℕ) (files : List OneFile) → AllByRecursion (IsNotNamed p) files → Each (Spares p) (flat_map wrote_of files)
all_writes_spare p [] d = tt
all_writes_spare p (one ∷ more) d = (d.0, all_writes_spare p more d.1)

module _ (overwrite : Bool) where
  abbrev pub file : (one : OneFile) → IsHandled Pbfcutz overwrite one → IsFile Pbfcutz one.output one.out.name one.makes
  file one h = file_of Pbfcutz one.output one.out.name one.makes h.0

  other_than : (p : List ℕ) (one : OneFile) (h : IsHandled Pbfcutz overwrite one) → (one.out.name ≡ Some p → ⊥) → p ≡ (file one h).name → ⊥
  other_than p one h n e = n ((file one h).is ∙ ap (λ x. Some x) (sym e))

  makes_spare : (p : List ℕ) (one : OneFile) → IsHandled Pbfcutz overwrite one → (one.out.name ≡ Some p → ⊥) → Each (Spares p) one.makes
  makes_spare p one h n =
      let f = file one h in
      subst (λ (x : List Event). Each (Spares p) x) (sym f.happened) (each_both (Spares p) f.tries (made f.name ∷ []) (all_still_spare p f.tries (misses_still f.tries f.misses)) (other_than p one h n, tt))

  pub kept_named : (one : OneFile) (h : IsHandled Pbfcutz overwrite one) → IsKeptWhole Pbfcutz overwrite one → Keeps Pbfcutz overwrite one.output (file one h).name one.ends
  kept_named one h k = subst (λ (g : Option (List ℕ)). IsKept Pbfcutz overwrite one.output g one.ends) (file one h).is k.2

  pub dropped_named : (one : OneFile) (h : IsHandled Pbfcutz overwrite one) → IsDroppedFile Pbfcutz one → Drops Pbfcutz (file one h).name one.ends
  dropped_named one h d = subst (λ (g : Option (List ℕ)). IsDropped Pbfcutz g one.ends) (file one h).is d

  ends_spare : (p : List ℕ) (one : OneFile) (h : IsHandled Pbfcutz overwrite one) → Differs p one → Each (Spares p) one.ends
  ends_spare p one h differs = of h.1 where
    of : IsKeptWhole Pbfcutz overwrite one ⊎ IsDroppedFile Pbfcutz one → Each (Spares p) one.ends
    of (inl k) = keeps_spare p overwrite one.output (file one h).name one.ends (kept_named one h k) (other_than p one h differs.0) differs.1
    of (inr d) = drops_spare p (file one h).name one.ends (dropped_named one h d) (other_than p one h differs.0)

  all_makes_spare : (p : List ℕ) (files : List OneFile) → AllByRecursion (IsHandled Pbfcutz overwrite) files → AllByRecursion (IsNotNamed p) files → Each (Spares p) (flat_map made_of files)
  all_makes_spare p [] h d = tt
  all_makes_spare p (one ∷ more) h d = each_both (Spares p) one.makes (flat_map made_of more) (makes_spare p one h.0 d.0) (all_makes_spare p more h.1 d.1)

  all_ends_spare : (p : List ℕ) (files : List OneFile) → AllByRecursion (IsHandled Pbfcutz overwrite) files → AllByRecursion (Differs p) files → Each (Spares p) (flat_map ends_of files)
  all_ends_spare p [] h d = tt
  all_ends_spare p (one ∷ more) h d = each_both (Spares p) one.ends (flat_map ends_of more) (ends_spare p one h.0 d.0) (all_ends_spare p more h.1 d.1)

  -- ---- no two files have one name

  abbrev IsThere : List ℕ → Disk → Type 0
  IsThere n disk = (bytes : List ℕ) × (disk n ≡ Some bytes)

  made_after : (one : OneFile) (h : IsHandled Pbfcutz overwrite one) (disk : Disk) → after one.makes disk ≡ put (file one h).name (Some []) disk
  made_after one h disk =
      let f = file one h in
      ap (λ (es : List Event). after es disk) f.happened ∙ past_still f.tries (made f.name ∷ []) disk (misses_still f.tries f.misses)

  was_free : (one : OneFile) (h : IsHandled Pbfcutz overwrite one) (disk : Disk) → AllowsAll disk one.makes → disk (file one h).name ≡ None
  was_free one h disk a =
      let f = file one h in
      (allows_past f.tries (made f.name ∷ []) disk (misses_still f.tries f.misses) (subst (λ (es : List Event). AllowsAll disk es) f.happened a)).0

  other_name : (n : List ℕ) (one : OneFile) (h : IsHandled Pbfcutz overwrite one) (disk : Disk) → IsThere n disk → AllowsAll disk one.makes → one.out.name ≡ Some n → ⊥
  other_name n one h disk there a is = none_some (sym (was_free one h disk a) ∙ ap disk (some_same (sym (file one h).is ∙ is)) ∙ there.1)

  still_there : (n : List ℕ) (one : OneFile) (h : IsHandled Pbfcutz overwrite one) (disk : Disk) → IsThere n disk → (one.out.name ≡ Some n → ⊥) → IsThere n (after one.makes disk)
  still_there n one h disk there other = (there.0, spared n one.makes disk (makes_spare n one h other) ∙ there.1)

  later_names : (n : List ℕ) (files : List OneFile) (disk : Disk) → AllByRecursion (IsHandled Pbfcutz overwrite) files → IsThere n disk → AllowsAll disk (flat_map made_of files) → AllByRecursion (IsNotNamed n) files
  later_names n [] disk h there a = tt
  later_names n (one ∷ more) disk h there a =
      let other = other_name n one h.0 disk there (allows_first one.makes (flat_map made_of more) disk a) in
      (other, later_names n more (after one.makes disk) h.1 (still_there n one h.0 disk there other) (allows_last one.makes (flat_map made_of more) disk a))

  abbrev OtherName : OneFile → OneFile → Type 0
  OtherName one other = other.out.name ≡ one.out.name → ⊥

  named_as : (one : OneFile) (h : IsHandled Pbfcutz overwrite one) (files : List OneFile) → AllByRecursion (IsNotNamed (file one h).name) files → AllByRecursion (OtherName one) files
  named_as one h [] a = tt
  named_as one h (other ∷ more) a = ((λ e. a.0 (e ∙ (file one h).is)), named_as one h more a.1)

  pub names_apart : (files : List OneFile) (disk : Disk) → AllByRecursion (IsHandled Pbfcutz overwrite) files → AllowsAll disk (flat_map made_of files) → Pairwise OtherName files
  names_apart [] disk h a = tt
  names_apart (one ∷ more) disk h a =
      let n = (file one h.0).name in
      let there : IsThere n (after one.makes disk) = ([], ap (λ (d : Disk). d n) (made_after one h.0 disk) ∙ put_same n (Some []) disk) in
      let later = allows_last one.makes (flat_map made_of more) disk a in
      (named_as one h.0 more (later_names n more (after one.makes disk) h.1 there later), names_apart more (after one.makes disk) h.1 later)

-- ---- one of a list

all_front : {X : Type 0} (P : X → Type 0) (xs ys : List X) → AllByRecursion P (xs ++ ys) → AllByRecursion P xs
all_front P [] ys a = tt
all_front P (x ∷ xs) ys a = (a.0, all_front P xs ys a.1)

pub all_back : {X : Type 0} (P : X → Type 0) (xs ys : List X) → AllByRecursion P (xs ++ ys) → AllByRecursion P ys
all_back P [] ys a = a
all_back P (x ∷ xs) ys a = all_back P xs ys a.1

pairs_before : {X : Type 0} (R : X → X → Type 0) (xs : List X) (x : X) (ys : List X) → Pairwise R (xs ++ x ∷ ys) → AllByRecursion (λ y. R y x) xs
pairs_before R [] x ys p = tt
pairs_before R (y ∷ xs) x ys p = ((all_back (R y) xs (x ∷ ys) p.0).0, pairs_before R xs x ys p.1)

pairs_after : {X : Type 0} (R : X → X → Type 0) (xs : List X) (x : X) (ys : List X) → Pairwise R (xs ++ x ∷ ys) → AllByRecursion (R x) ys
pairs_after R [] x ys p = p.0
pairs_after R (y ∷ xs) x ys p = pairs_after R xs x ys p.1

all_append : {X : Type 0} (P : X → Type 0) (xs ys : List X) → AllByRecursion P xs → AllByRecursion P ys → AllByRecursion P (xs ++ ys)
all_append P [] ys a b = b
all_append P (x ∷ xs) ys a b = (a.0, all_append P xs ys a.1 b)

all_two : {X : Type 0} (P Q S : X → Type 0) → ((x : X) → P x → Q x → S x) → (xs : List X) → AllByRecursion P xs → AllByRecursion Q xs → AllByRecursion S xs
all_two P Q S f [] p q = tt
all_two P Q S f (x ∷ xs) p q = (f x p.0 q.0, all_two P Q S f xs p.1 q.1)

-- what one of a list does, between what the others do
phase : (does : OneFile → List Event) (fronts : List OneFile) (one : OneFile) (backs : List OneFile) (disk : Disk) → after (flat_map does (fronts ++ one ∷ backs)) disk ≡ after (flat_map does backs) (after (does one) (after (flat_map does fronts) disk))
phase does fronts one backs disk = ap (λ (es : List Event). after es disk) (flat_map-append does fronts (one ∷ backs))
    ∙ after_both (flat_map does fronts) (does one ++ flat_map does backs) disk ∙ after_both (does one) (flat_map does backs) (after (flat_map does fronts) disk)

phase_at : (p : List ℕ) (does : OneFile → List Event) (fronts : List OneFile) (one : OneFile) (backs : List OneFile) (disk : Disk) → Each (Spares p) (flat_map does backs) → after (flat_map does (fronts ++ one ∷ backs)) disk p ≡ after (does one) (after (flat_map does fronts) disk) p
phase_at p does fronts one backs disk s = ap (λ (d : Disk). d p) (phase does fronts one backs disk) ∙ spared p (flat_map does backs) (after (does one) (after (flat_map does fronts) disk)) s

-- ---- a file that gets its name

named_gives : (overwrite : Bool) (output name bytes : List ℕ) (names : List Event) (disk : Disk) → (name ≡ output → ⊥) → disk name ≡ Some bytes → Names overwrite output name names → after names disk output ≡ Some bytes
named_gives overwrite output name bytes names disk differ is (inl n) =
    let linked_to : put output (disk name) disk output ≡ Some bytes = put_same output (disk name) disk ∙ is in
    ap (λ (es : List Event). after es disk output) n.2 ∙ spared_one output n.0 (put output (disk name) disk) (end_spares output name n.0 n.1 (λ e. differ (sym e))) ∙ linked_to
named_gives overwrite output name bytes names disk differ is (inr (inl e)) =
    ap (λ (es : List Event). after es disk output) e ∙ put_other name output None (put output (disk name) disk) (λ h. differ (sym h)) ∙ put_same output (disk name) disk ∙ is
named_gives overwrite output name bytes names disk differ is (inr (inr n)) =
    ap (λ (es : List Event). after es disk output) n.1 ∙ put_other name output None (put output (disk name) disk) (λ h. differ (sym h)) ∙ put_same output (disk name) disk ∙ is

kept_gives : (overwrite : Bool) (output name bytes : List ℕ) (es : List Event) (disk : Disk) → (name ≡ output → ⊥) → disk name ≡ Some bytes → Keeps Pbfcutz overwrite output name es → after es disk output ≡ Some bytes
kept_gives overwrite output name bytes es disk differ is (tries, names, last, e, t, k, l) =
    ap (λ (x : List Event). after x disk output) e
    ∙ ap (λ (d : Disk). d output) (past_still tries (names ++ last) disk (misnames_still tries t) ∙ after_both names last disk ∙ after_still last (after names disk) (misnames_still last l))
    ∙ named_gives overwrite output name bytes names disk differ is k

-- without `overwrite` none had the name
names_free : (overwrite : Bool) (output name : List ℕ) (names : List Event) (disk : Disk) → Names overwrite output name names → AllowsAll disk names → overwrite ≡ false → disk output ≡ None
names_free overwrite output name names disk (inl n) a new = (subst (λ (es : List Event). AllowsAll disk es) n.2 a).0
names_free overwrite output name names disk (inr (inl e)) a new = (subst (λ (es : List Event). AllowsAll disk es) e a).0
names_free overwrite output name names disk (inr (inr n)) a new = absurd (true_false (sym n.0 ∙ new)) where
  true_false : true ≡ false → ⊥
  true_false h = cc

named_free : (overwrite : Bool) (output name : List ℕ) (es : List Event) (disk : Disk) → Keeps Pbfcutz overwrite output name es → AllowsAll disk es → overwrite ≡ false → disk output ≡ None
named_free overwrite output name es disk (tries, names, last, e, t, k, l) a new =
    names_free overwrite output name names disk k (allows_first names last disk (allows_past tries (names ++ last) disk (misnames_still tries t) (subst (λ (x : List Event). AllowsAll disk x) e a))) new

-- a file's other name is no name any more, unless it stays
named_goes : (overwrite : Bool) (output name : List ℕ) (names : List Event) (disk : Disk) → (name ≡ output → ⊥) → Names overwrite output name names → (Happened (stays name) names → ⊥) → after names disk name ≡ None
named_goes overwrite output name names disk differ (inl (end, inl e, is)) left =
    ap (λ (es : List Event). after es disk name) (is ∙ ap (λ (x : Event). linked name output ∷ x ∷ []) e) ∙ put_same name None (put output (disk name) disk)
named_goes overwrite output name names disk differ (inl (end, inr e, is)) left = absurd (left (subst (λ (es : List Event). Happened (stays name) es) (sym is) (inr (inl e))))
named_goes overwrite output name names disk differ (inr (inl e)) left = ap (λ (es : List Event). after es disk name) e ∙ put_same name None (put output (disk name) disk)
named_goes overwrite output name names disk differ (inr (inr n)) left = ap (λ (es : List Event). after es disk name) n.1 ∙ put_same name None (put output (disk name) disk)

kept_goes : (overwrite : Bool) (output name : List ℕ) (es : List Event) (disk : Disk) → (name ≡ output → ⊥) → Keeps Pbfcutz overwrite output name es → (Happened (stays name) es → ⊥) → after es disk name ≡ None
kept_goes overwrite output name es disk differ (tries, names, last, e, t, k, l) left =
    ap (λ (x : List Event). after x disk name) e
    ∙ ap (λ (d : Disk). d name) (past_still tries (names ++ last) disk (misnames_still tries t) ∙ after_both names last disk ∙ after_still last (after names disk) (misnames_still last l))
    ∙ named_goes overwrite output name names disk differ k (λ h. left (subst (λ (x : List Event). Happened (stays name) x) (sym e) (happened_after (stays name) tries (names ++ last) (happened_before (stays name) names last h))))

dropped_goes : (name : List ℕ) (es : List Event) (disk : Disk) → Drops Pbfcutz name es → (Happened (stays name) es → ⊥) → after es disk name ≡ None
dropped_goes name es disk (tries, end, e, t, inl is) left =
    ap (λ (x : List Event). after x disk name) (e ∙ ap (λ (x : Event). tries ++ x ∷ []) is)
    ∙ ap (λ (d : Disk). d name) (past_still tries (removed name ∷ []) disk (misnames_still tries t)) ∙ put_same name None disk
dropped_goes name es disk (tries, end, e, t, inr is) left = absurd (left (subst (λ (x : List Event). Happened (stays name) x) (sym e) (happened_after (stays name) tries (end ∷ []) (inl is))))

-- ---- the whole run

module _ (overwrite : Bool) (files : List OneFile) (events : List Event) (x : HandlesFiles Pbfcutz overwrite files events) (disk : Disk) where
  abbrev started : Disk
  started = after x.before disk

  abbrev begun : Disk
  begun = after (flat_map made_of files) started

  abbrev worked : Disk
  worked = after x.between begun

  abbrev filled : Disk
  filled = after (flat_map wrote_of files) worked

  abbrev ended : Disk
  ended = after (flat_map ends_of files) filled

  abbrev writes : List Event
  writes = map (λ (one : OneFile). wrote one.out) files

  run_after : after events disk ≡ after x.last ended
  run_after =
      let ends = flat_map ends_of files ++ x.last in
      let same : writes ≡ flat_map wrote_of files = sym (flat_map_single (λ (one : OneFile). wrote one.out) files) in
      ap (λ (es : List Event). after es disk) x.happened
      ∙ after_both x.before (flat_map made_of files ++ (x.between ++ (writes ++ ends))) disk
      ∙ after_both (flat_map made_of files) (x.between ++ (writes ++ ends)) started
      ∙ after_both x.between (writes ++ ends) begun
      ∙ after_both writes ends worked
      ∙ ap (λ (es : List Event). after ends (after es worked)) same
      ∙ after_both (flat_map ends_of files) x.last filled

  -- a name that no file has
  pub spares_all : (p : List ℕ) → AllByRecursion (Differs p) files → after events disk p ≡ disk p
  spares_all p d =
      ap (λ (k : Disk). k p) run_after
      ∙ spared p x.last ended (all_still_spare p x.last x.still.2)
      ∙ spared p (flat_map ends_of files) filled (all_ends_spare overwrite p files x.each d)
      ∙ spared p (flat_map wrote_of files) worked (all_writes_spare p files (unnamed p files d))
      ∙ spared p x.between begun (all_still_spare p x.between x.still.1)
      ∙ spared p (flat_map made_of files) started (all_makes_spare overwrite p files x.each (unnamed p files d))
      ∙ spared p x.before disk (all_still_spare p x.before x.still.0)

-- one file of the run
module _ (overwrite : Bool) (fronts : List OneFile) (one : OneFile) (backs : List OneFile) (events : List Event) (x : HandlesFiles Pbfcutz overwrite (fronts ++ one ∷ backs) events) (apart : Pairwise IsApart (fronts ++ one ∷ backs)) (disk : Disk) where
  abbrev files : List OneFile
  files = fronts ++ one ∷ backs

  abbrev first : Disk
  first = started overwrite files events x disk

  abbrev second : Disk
  second = begun overwrite files events x disk

  abbrev third : Disk
  third = worked overwrite files events x disk

  abbrev fourth : Disk
  fourth = filled overwrite files events x disk

  abbrev pub here : IsHandled Pbfcutz overwrite one
  here = (all_back (IsHandled Pbfcutz overwrite) fronts (one ∷ backs) x.each).0

  handled_fronts : AllByRecursion (IsHandled Pbfcutz overwrite) fronts
  handled_fronts = all_front (IsHandled Pbfcutz overwrite) fronts (one ∷ backs) x.each

  handled_backs : AllByRecursion (IsHandled Pbfcutz overwrite) backs
  handled_backs = (all_back (IsHandled Pbfcutz overwrite) fronts (one ∷ backs) x.each).1

  abbrev pub mine : IsFile Pbfcutz one.output one.out.name one.makes
  mine = file overwrite one here

  output_fronts : AllByRecursion (Differs one.output) fronts
  output_fronts = all_two (λ o. IsApart o one) (λ o. Unit {0}) (Differs one.output) (λ o q u. (q.1, λ e. q.0 (sym e))) fronts (pairs_before IsApart fronts one backs apart) (all_units fronts)

  output_backs : AllByRecursion (Differs one.output) backs
  output_backs = all_two (IsApart one) (λ o. Unit {0}) (Differs one.output) (λ o q u. (q.2, q.0)) backs (pairs_after IsApart fronts one backs apart) (all_units backs)

  makes_allowed : AllowsAll disk events → AllowsAll first (flat_map made_of files)
  makes_allowed a =
      let rest = x.between ++ (map (λ (o : OneFile). wrote o.out) files ++ (flat_map (λ (o : OneFile). o.ends) files ++ x.last)) in
      allows_first (flat_map made_of files) rest first (allows_last x.before (flat_map made_of files ++ rest) disk (subst (λ (es : List Event). AllowsAll disk es) x.happened a))

  module _ (a : AllowsAll disk events) where
    names : Pairwise (OtherName overwrite) files
    names = names_apart overwrite files first x.each (makes_allowed a)

    name_fronts : AllByRecursion (Differs mine.name) fronts
    name_fronts = all_two (λ o. OtherName overwrite o one) (λ o. IsApart o one) (Differs mine.name) (λ o r q. ((λ e. r (mine.is ∙ sym e)), (λ e. q.2 (mine.is ∙ ap (λ n. Some n) e)))) fronts (pairs_before (OtherName overwrite) fronts one backs names) (pairs_before IsApart fronts one backs apart)

    name_backs : AllByRecursion (Differs mine.name) backs
    name_backs = all_two (OtherName overwrite one) (IsApart one) (Differs mine.name) (λ o r q. ((λ e. r (e ∙ sym mine.is)), (λ e. q.1 (mine.is ∙ ap (λ n. Some n) e)))) backs (pairs_after (OtherName overwrite) fronts one backs names) (pairs_after IsApart fronts one backs apart)

    made_there : second mine.name ≡ Some []
    made_there =
        let d = after (flat_map made_of fronts) first in
        phase_at mine.name made_of fronts one backs first (all_makes_spare overwrite mine.name backs handled_backs (unnamed mine.name backs name_backs))
        ∙ ap (λ (k : Disk). k mine.name) (made_after overwrite one here d) ∙ put_same mine.name (Some []) d

    filled_there : fourth mine.name ≡ Some one.out.bytes
    filled_there =
        let d = after (flat_map wrote_of fronts) third in
        let empty : d mine.name ≡ Some [] = spared mine.name (flat_map wrote_of fronts) third (all_writes_spare mine.name fronts (unnamed mine.name fronts name_fronts)) ∙ spared mine.name x.between second (all_still_spare mine.name x.between x.still.1) ∙ made_there in
        phase_at mine.name wrote_of fronts one backs third (all_writes_spare mine.name backs (unnamed mine.name backs name_backs))
        ∙ ap (λ (g : Option (List ℕ)). appended g one.out.bytes d mine.name) mine.is ∙ put_same mine.name (append (d mine.name) one.out.bytes) d ∙ ap (λ (b : Option (List ℕ)). append b one.out.bytes) empty

    -- it is kept
    pub kept_there : IsKeptWhole Pbfcutz overwrite one → after events disk one.output ≡ Some one.out.bytes
    kept_there k =
        let o = one.output in
        let d = after (flat_map ends_of fronts) fourth in
        ap (λ (y : Disk). y o) (run_after overwrite files events x disk)
        ∙ spared o x.last (ended overwrite files events x disk) (all_still_spare o x.last x.still.2)
        ∙ phase_at o ends_of fronts one backs fourth (all_ends_spare overwrite o backs handled_backs output_backs)
        ∙ kept_gives overwrite o mine.name one.out.bytes one.ends d mine.named (spared mine.name (flat_map ends_of fronts) fourth (all_ends_spare overwrite mine.name fronts handled_fronts name_fronts) ∙ filled_there) (kept_named overwrite one here k)

    -- it is the path of no OUT
    pub part_elsewhere : AllByRecursion (λ (o : OneFile). mine.name ≡ o.output → ⊥) files
    part_elsewhere =
        let elsewhere = λ (o : OneFile). mine.name ≡ o.output → ⊥ in
        let of = λ (os : List OneFile) (d : AllByRecursion (Differs mine.name) os). all_two (Differs mine.name) (λ o. Unit {0}) elsewhere (λ o d u. d.1) os d (all_units os) in
        all_append elsewhere fronts (one ∷ backs) (of fronts name_fronts) (mine.named, of backs name_backs)

    -- its file's other name was none's, and is none's any more
    pub part_free : disk mine.name ≡ None
    part_free =
        let d = after (flat_map made_of fronts) first in
        let mk = subst (λ (es : List Event). AllowsAll first es) (flat_map-append made_of fronts (one ∷ backs)) (makes_allowed a) in
        let free = was_free overwrite one here d (allows_first one.makes (flat_map made_of backs) d (allows_last (flat_map made_of fronts) (one.makes ++ flat_map made_of backs) first mk)) in
        sym (spared mine.name x.before disk (all_still_spare mine.name x.before x.still.0)) ∙ sym (spared mine.name (flat_map made_of fronts) first (all_makes_spare overwrite mine.name fronts handled_fronts (unnamed mine.name fronts name_fronts))) ∙ free

    ends_happened : (e : Event) → Happened e one.ends → Happened e events
    ends_happened e h =
        let ends = subst (λ (es : List Event). Happened e es) (sym (flat_map-append ends_of fronts (one ∷ backs))) (happened_after e (flat_map ends_of fronts) (one.ends ++ flat_map ends_of backs) (happened_before e one.ends (flat_map ends_of backs) h)) in
        let writes = map (λ (o : OneFile). wrote o.out) files in
        let rest = flat_map ends_of files ++ x.last in
        subst (λ (es : List Event). Happened e es) (sym x.happened) (happened_after e x.before (flat_map made_of files ++ (x.between ++ (writes ++ rest))) (happened_after e (flat_map made_of files) (x.between ++ (writes ++ rest))
        (happened_after e x.between (writes ++ rest) (happened_after e writes rest (happened_before e (flat_map ends_of files) x.last ends)))))

    pub part_back : (Happened (stays mine.name) events → ⊥) → after events disk mine.name ≡ disk mine.name
    part_back left =
        let n = mine.name in
        let d = after (flat_map ends_of fronts) fourth in
        let goes = of here.1 in
        ap (λ (y : Disk). y n) (run_after overwrite files events x disk)
        ∙ spared n x.last (ended overwrite files events x disk) (all_still_spare n x.last x.still.2)
        ∙ phase_at n ends_of fronts one backs fourth (all_ends_spare overwrite n backs handled_backs name_backs)
        ∙ goes ∙ sym part_free where
          of : IsKeptWhole Pbfcutz overwrite one ⊎ IsDroppedFile Pbfcutz one → after one.ends (after (flat_map ends_of fronts) fourth) mine.name ≡ None
          of (inl k) = kept_goes overwrite one.output mine.name one.ends (after (flat_map ends_of fronts) fourth) mine.named (kept_named overwrite one here k) (λ h. left (ends_happened (stays mine.name) h))
          of (inr k) = dropped_goes mine.name one.ends (after (flat_map ends_of fronts) fourth) (dropped_named overwrite one here k) (λ h. left (ends_happened (stays mine.name) h))

  -- until then none of the events is about the path of its OUT
  abbrev last : Disk
  last = after (flat_map ends_of fronts) fourth

  before_ends : last one.output ≡ disk one.output
  before_ends =
      let o = one.output in
      let own : IsNotNamed o one = λ e. mine.named (some_same (sym mine.is ∙ e)) in
      let unnamed_all = all_append (IsNotNamed o) fronts (one ∷ backs) (unnamed o fronts output_fronts) (own, unnamed o backs output_backs) in
      spared o (flat_map ends_of fronts) fourth (all_ends_spare overwrite o fronts handled_fronts output_fronts)
      ∙ spared o (flat_map wrote_of files) third (all_writes_spare o files unnamed_all)
      ∙ spared o x.between second (all_still_spare o x.between x.still.1)
      ∙ spared o (flat_map made_of files) first (all_makes_spare overwrite o files x.each unnamed_all)
      ∙ spared o x.before disk (all_still_spare o x.before x.still.0)

  -- it is dropped
  pub dropped_back : IsDroppedFile Pbfcutz one → after events disk one.output ≡ disk one.output
  dropped_back k =
      let o = one.output in
      ap (λ (y : Disk). y o) (run_after overwrite files events x disk)
      ∙ spared o x.last (ended overwrite files events x disk) (all_still_spare o x.last x.still.2)
      ∙ phase_at o ends_of fronts one backs fourth (all_ends_spare overwrite o backs handled_backs output_backs)
      ∙ spared o one.ends last (drops_spare o mine.name one.ends (dropped_named overwrite one here k) (λ e. mine.named (sym e)))
      ∙ before_ends

  -- what is said of the file system as it ends is so
  ends_allowed : AllowsAll disk events → AllowsAll last one.ends
  ends_allowed a =
      let mades = flat_map (λ (o : OneFile). o.makes) files in
      let writes = map (λ (o : OneFile). wrote o.out) files in
      let rest = flat_map ends_of files ++ x.last in
      let same : after writes third ≡ fourth = ap (λ (es : List Event). after es third) (sym (flat_map_single (λ (o : OneFile). wrote o.out) files)) in
      let begins = allows_last x.before (mades ++ (x.between ++ (writes ++ rest))) disk (subst (λ (es : List Event). AllowsAll disk es) x.happened a) in
      let works = allows_last x.between (writes ++ rest) second (allows_last mades (x.between ++ (writes ++ rest)) first begins) in
      let ends = allows_first (flat_map ends_of files) x.last fourth (subst (λ (d : Disk). AllowsAll d rest) same (allows_last writes rest third works)) in
      let mine_and_later = allows_last (flat_map ends_of fronts) (one.ends ++ flat_map ends_of backs) fourth (subst (λ (es : List Event). AllowsAll fourth es) (flat_map-append ends_of fronts (one ∷ backs)) ends) in
      allows_first one.ends (flat_map ends_of backs) last mine_and_later

  -- it is kept, and replaces none: there was none
  pub kept_fresh : AllowsAll disk events → IsKeptWhole Pbfcutz overwrite one → overwrite ≡ false → disk one.output ≡ None
  kept_fresh a k new = sym before_ends ∙ named_free overwrite one.output mine.name one.ends last (kept_named overwrite one here k) (ends_allowed a) new

-- ---- another path

-- it is the other name of one of the files, or of none
pub record IsOneOf (p : List ℕ) (files : List OneFile) : Type 0 where
  pub fronts : List OneFile
  pub one : OneFile
  pub backs : List OneFile
  pub are : files ≡ fronts ++ one ∷ backs
  pub is : one.out.name ≡ Some p

find : (overwrite : Bool) (p : List ℕ) (files : List OneFile) → AllByRecursion (IsHandled Pbfcutz overwrite) files → AllByRecursion (IsNotNamed p) files ⊎ IsOneOf p files
find overwrite p [] h = inl tt
find overwrite p (one ∷ more) h = of (which (file overwrite one h.0).name p) (find overwrite p more h.1) where
  of : ((file overwrite one h.0).name ≡ p) ⊎ ((file overwrite one h.0).name ≡ p → ⊥) → AllByRecursion (IsNotNamed p) more ⊎ IsOneOf p more → AllByRecursion (IsNotNamed p) (one ∷ more) ⊎ IsOneOf p (one ∷ more)
  of (inl e) rest = inr (record { fronts = []; one = one; backs = more; are = refl; is = (file overwrite one h.0).is ∙ ap (λ n. Some n) e })
  of (inr n) (inl d) = inl ((λ e. n (some_same (sym (file overwrite one h.0).is ∙ e))), d)
  of (inr n) (inr k) = inr (record { fronts = one ∷ k.fronts; one = k.one; backs = k.backs; are = ap (λ l. one ∷ l) k.are; is = k.is })

-- a file that was there, whose path is that of no OUT, is no part either, and has the same bytes after each event
module _ (overwrite : Bool) (files : List OneFile) (events : List Event) (x : HandlesFiles Pbfcutz overwrite files events) (apart : Pairwise IsApart files) (disk : Disk) (a : AllowsAll disk events) (p bytes : List ℕ) (there : disk p ≡ Some bytes) (outputs : AllByRecursion (λ (one : OneFile). p ≡ one.output → ⊥) files) where
  differs_from : AllByRecursion (Differs p) files
  differs_from = of (find overwrite p files x.each) where
    of : AllByRecursion (IsNotNamed p) files ⊎ IsOneOf p files → AllByRecursion (Differs p) files
    of (inl d) = all_two (IsNotNamed p) (λ one. p ≡ one.output → ⊥) (Differs p) (λ one n o. (n, o)) files d outputs
    of (inr k) =
        let split = subst (λ (fs : List OneFile). HandlesFiles Pbfcutz overwrite fs events) k.are x in
        let pairs = subst (λ (fs : List OneFile). Pairwise IsApart fs) k.are apart in
        let same : (mine overwrite k.fronts k.one k.backs events split pairs disk).name ≡ p = some_same (sym (mine overwrite k.fronts k.one k.backs events split pairs disk).is ∙ k.is) in
        absurd (none_some (sym (part_free overwrite k.fronts k.one k.backs events split pairs disk a) ∙ ap disk same ∙ there))

  all_writes : (ones : List OneFile) → AllByRecursion (IsNotNamed p) ones → Each (Spares p) (map (λ (one : OneFile). wrote one.out) ones)
  all_writes [] d = tt
  all_writes (one ∷ more) d = (d.0, all_writes more d.1)

  all_spare : Each (Spares p) events
  all_spare =
      let unnamed_all = unnamed p files differs_from in
      let writes = map (λ (one : OneFile). wrote one.out) files in
      let ends = flat_map ends_of files in
      subst (λ (es : List Event). Each (Spares p) es) (sym x.happened)
      (each_both (Spares p) x.before (flat_map made_of files ++ (x.between ++ (writes ++ (ends ++ x.last)))) (all_still_spare p x.before x.still.0)
      (each_both (Spares p) (flat_map made_of files) (x.between ++ (writes ++ (ends ++ x.last))) (all_makes_spare overwrite p files x.each unnamed_all)
      (each_both (Spares p) x.between (writes ++ (ends ++ x.last)) (all_still_spare p x.between x.still.1)
      (each_both (Spares p) writes (ends ++ x.last) (all_writes files unnamed_all)
      (each_both (Spares p) ends x.last (all_ends_spare overwrite p files x.each differs_from) (all_still_spare p x.last x.still.2))))))

  pub always_there : (started later : List Event) → events ≡ started ++ later → after started disk p ≡ Some bytes
  always_there started later is = spared p started disk (each_front (Spares p) started later (subst (λ (es : List Event). Each (Spares p) es) is all_spare)) ∙ there

pub others_back : (overwrite : Bool) (files : List OneFile) (events : List Event) (x : HandlesFiles Pbfcutz overwrite files events) → Pairwise IsApart files → (disk : Disk) → AllowsAll disk events → (p : List ℕ) → AllByRecursion (λ (one : OneFile). p ≡ one.output → ⊥) files → (Happened (stays p) events → ⊥) → after events disk p ≡ disk p
others_back overwrite files events x apart disk a p outputs left = of (find overwrite p files x.each) where
  of : AllByRecursion (IsNotNamed p) files ⊎ IsOneOf p files → after events disk p ≡ disk p
  of (inl d) = spares_all overwrite files events x disk p (all_two (IsNotNamed p) (λ one. p ≡ one.output → ⊥) (Differs p) (λ one n o. (n, o)) files d outputs)
  of (inr k) =
      let split = subst (λ (fs : List OneFile). HandlesFiles Pbfcutz overwrite fs events) k.are x in
      let pairs = subst (λ (fs : List OneFile). Pairwise IsApart fs) k.are apart in
      let same : (mine overwrite k.fronts k.one k.backs events split pairs disk).name ≡ p = some_same (sym (mine overwrite k.fronts k.one k.backs events split pairs disk).is ∙ k.is) in
      subst (λ (q : List ℕ). (Happened (stays q) events → ⊥) → after events disk q ≡ disk q) same (part_back overwrite k.fronts k.one k.backs events split pairs disk a) left
