-- What the events of one file change in the file system, among others that change nothing.
use Rattle.std.proofs.Common.{arith, ◌≡◌, ◌⊎◌, inl, inr, ℕ, List, [], ◌∷◌, ◌++◌, Bool, true, false, Option, Some, None, refl, sym, subst, ap, ◌∙◌}
use Rattle.std.specs.Str.{bytes_eq}
use Rattle.std.proofs.lemmas.Slice.Eq.{bytes_eq-Decides}
use Rattle.pbf_frame.specs.Devices.{append}
use Rattle.pbfcut_cli.specs.declared.programs.Program.{Program}
use Rattle.pbfcut_cli.specs.declared.programs.Program.TheVariants.{Pbfcut, Pbfcutz}
use Rattle.pbfcut_program.specs.Changes.{DropsFile, HasOneFile, KeepsFile}
use Rattle.pbfcut_program.specs.Events.{Event, Writing, linked, made, moved, removed, renamed, stays, wrote}
use Rattle.pbfcut_program.specs.Fails.{Each}
use Rattle.pbfcut_program.specs.Files.{AllowsAll, Disk, Drops, IsDropped, IsEnd, IsKept, IsMade, IsName, Keeps, Misnames, Misses, Names, Still, after, appended, changed, put}
use Rattle.pbfcut_program.specs.Taking.{Happened}

-- ---- names

same_name : (a : List ℕ) → bytes_eq a a ≡ true
same_name a = (bytes_eq-Decides a a).1 refl

other_name : (a b : List ℕ) → (a ≡ b → ⊥) → bytes_eq a b ≡ false
other_name a b differ = of (bytes_eq a b) refl where
  of : (t : Bool) → bytes_eq a b ≡ t → bytes_eq a b ≡ false
  of true e = absurd (differ ((bytes_eq-Decides a b).0 e))
  of false e = e

-- a name is this one, or isn't
pub which : (p q : List ℕ) → (p ≡ q) ⊎ (p ≡ q → ⊥)
which p q = of (bytes_eq p q) refl where
  of : (t : Bool) → bytes_eq p q ≡ t → (p ≡ q) ⊎ (p ≡ q → ⊥)
  of true e = inl ((bytes_eq-Decides p q).0 e)
  of false e = inr (λ same. true_false (sym ((bytes_eq-Decides p q).1 same) ∙ e)) where
    true_false : true ≡ false → ⊥
    true_false h = cc

pub some_same : {A : Type 0} {a b : A} → Some a ≡ Some b → a ≡ b
some_same e = cc

-- ---- one change

pub put_same : (name : List ℕ) (b : Option (List ℕ)) (disk : Disk) → put name b disk name ≡ b
put_same name b disk = rw (same_name name) refl

pub put_other : (name p : List ℕ) (b : Option (List ℕ)) (disk : Disk) → (p ≡ name → ⊥) → put name b disk p ≡ disk p
put_other name p b disk differ = rw (other_name p name differ) refl

-- ---- events that change nothing

unwritten : (name : Option (List ℕ)) (bytes : List ℕ) (disk : Disk) → name ≡ None → appended name bytes disk ≡ disk
unwritten name bytes disk none = subst (λ n. appended n bytes disk ≡ disk) (sym none) refl

pub still_one : (e : Event) (disk : Disk) → Still e → changed e disk ≡ disk
still_one (wrote w) disk s = unwritten w.name w.bytes disk s
still_one e disk s = grind arith

pub after_both : (xs ys : List Event) (disk : Disk) → after (xs ++ ys) disk ≡ after ys (after xs disk)
after_both [] ys disk = refl
after_both (x ∷ xs) ys disk = after_both xs ys (changed x disk)

pub after_still : (xs : List Event) (disk : Disk) → Each Still xs → after xs disk ≡ disk
after_still [] disk s = refl
after_still (x ∷ xs) disk s = ap (λ d. after xs d) (still_one x disk s.0) ∙ after_still xs disk s.1

-- the first events leave the file system to the later ones as it is
pub past_still : (xs ys : List Event) (disk : Disk) → Each Still xs → after (xs ++ ys) disk ≡ after ys disk
past_still xs ys disk s = after_both xs ys disk ∙ ap (λ d. after ys d) (after_still xs disk s)

pub allows_first : (xs ys : List Event) (disk : Disk) → AllowsAll disk (xs ++ ys) → AllowsAll disk xs
allows_first [] ys disk a = tt
allows_first (x ∷ xs) ys disk a = (a.0, allows_first xs ys (changed x disk) a.1)

pub allows_last : (xs ys : List Event) (disk : Disk) → AllowsAll disk (xs ++ ys) → AllowsAll (after xs disk) ys
allows_last [] ys disk a = a
allows_last (x ∷ xs) ys disk a = allows_last xs ys (changed x disk) a.1

pub allows_past : (xs ys : List Event) (disk : Disk) → Each Still xs → AllowsAll disk (xs ++ ys) → AllowsAll disk ys
allows_past xs ys disk s a = subst (λ (d : Disk). AllowsAll d ys) (after_still xs disk s) (allows_last xs ys disk a)

miss_still : (e : Event) → Misses e → Still e
miss_still e h1 = grind arith

misname_still : (e : Event) → Misnames e → Still e
misname_still e h1 = grind arith

pub misses_still : (xs : List Event) → Each Misses xs → Each Still xs
misses_still [] m = tt
misses_still (x ∷ xs) m = (miss_still x m.0, misses_still xs m.1)

pub misnames_still : (xs : List Event) → Each Misnames xs → Each Still xs
misnames_still [] m = tt
misnames_still (x ∷ xs) m = (misname_still x m.0, misnames_still xs m.1)

-- ---- what has happened

pub happened_after : (e : Event) (xs ys : List Event) → Happened e ys → Happened e (xs ++ ys)
happened_after e [] ys h = h
happened_after e (x ∷ xs) ys h = inr (happened_after e xs ys h)

pub happened_before : (e : Event) (xs ys : List Event) → Happened e xs → Happened e (xs ++ ys)
happened_before e [] ys h = absurd h
happened_before e (x ∷ xs) ys (inl h) = inl h
happened_before e (x ∷ xs) ys (inr h) = inr (happened_before e xs ys h)

pub happened_either : (e : Event) (xs ys : List Event) → Happened e (xs ++ ys) → Happened e xs ⊎ Happened e ys
happened_either e [] ys h = inr h
happened_either e (x ∷ xs) ys (inl h) = inl (inl h)
happened_either e (x ∷ xs) ys (inr h) = of (happened_either e xs ys h) where
  of : Happened e xs ⊎ Happened e ys → ((x ≡ e) ⊎ Happened e xs) ⊎ Happened e ys
  of (inl k) = inl (inr k)
  of (inr k) = inr k

-- no event that changes nothing says that a part stays
stays_not_still : (name : List ℕ) (e : Event) → e ≡ stays name → Still e → ⊥
stays_not_still name e is s = subst (λ x. Still x) is s

pub none_stays : (name : List ℕ) (xs : List Event) → Each Still xs → Happened (stays name) xs → ⊥
none_stays name [] s h = h
none_stays name (x ∷ xs) s (inl h) = stays_not_still name x h s.0
none_stays name (x ∷ xs) s (inr h) = none_stays name xs s.1 h

-- the event of a part that stays is none of the first or the last, which change nothing
pub stays_later : (p : List ℕ) (xs ys : List Event) → Each Still xs → Happened (stays p) (xs ++ ys) → Happened (stays p) ys
stays_later p xs ys s h = of (happened_either (stays p) xs ys h) where
  of : Happened (stays p) xs ⊎ Happened (stays p) ys → Happened (stays p) ys
  of (inl k) = absurd (none_stays p xs s k)
  of (inr k) = k

pub stays_earlier : (p : List ℕ) (xs ys : List Event) → Each Still ys → Happened (stays p) (xs ++ ys) → Happened (stays p) xs
stays_earlier p xs ys s h = of (happened_either (stays p) xs ys h) where
  of : Happened (stays p) xs ⊎ Happened (stays p) ys → Happened (stays p) xs
  of (inl k) = k
  of (inr k) = absurd (none_stays p ys s k)

pub stays_among : (p : List ℕ) (xs ys zs : List Event) → Each Still xs → Each Still zs → Happened (stays p) (xs ++ (ys ++ zs)) → Happened (stays p) ys
stays_among p xs ys zs s t h = stays_earlier p ys zs t (stays_later p xs (ys ++ zs) s h)

stays_inside : (p : List ℕ) (xs ys zs : List Event) → Happened (stays p) ys → Happened (stays p) (xs ++ (ys ++ zs))
stays_inside p xs ys zs h = happened_after (stays p) xs (ys ++ zs) (happened_before (stays p) ys zs h)

-- ---- what is said of a file system

-- no name but OUT's has changed by these events, but that of a part that stays, which none had
pub record IsLeft (output : List ℕ) (old : Disk) (events : List Event) (now : Disk) : Type 0 where
  pub others : (p : List ℕ) → (p ≡ output → ⊥) → (Happened (stays p) events → ⊥) → now p ≡ old p
  pub parts : (p : List ℕ) → Happened (stays p) events → (p ≡ output → ⊥) × (old p ≡ None)

-- and OUT has these bytes
pub record IsNow (overwrite : Bool) (output bytes : List ℕ) (old : Disk) (events : List Event) (now : Disk) : Type 0 where
  pub there : now output ≡ Some bytes
  pub fresh : overwrite ≡ false → old output ≡ None
  pub left : IsLeft output old events now

-- or what it had
pub record IsBack (output : List ℕ) (old : Disk) (events : List Event) (now : Disk) : Type 0 where
  pub back : now output ≡ old output
  pub left : IsLeft output old events now

-- the same by other events, as far as parts that stay are concerned
left_by : (output : List ℕ) (old : Disk) (xs ys : List Event) (now : Disk) → ((p : List ℕ) → Happened (stays p) xs → Happened (stays p) ys) → ((p : List ℕ) → Happened (stays p) ys → Happened (stays p) xs) → IsLeft output old xs now → IsLeft output old ys now
left_by output old xs ys now to from n = record { others = λ p o q. n.others p o (λ h. q (to p h)); parts = λ p h. n.parts p (from p h) }

-- ---- a file that is made, and filled

module _ (output name bytes : List ℕ) (disk : Disk) where
  abbrev pub begun : Disk
  begun = put name (Some []) disk

  abbrev pub taken : Disk
  taken = put name (append (begun name) bytes) begun

  taken_is : taken name ≡ Some bytes
  taken_is = put_same name (append (begun name) bytes) begun ∙ ap (λ b. append b bytes) (put_same name (Some []) disk)

  pub taken_other : (p : List ℕ) → (p ≡ name → ⊥) → taken p ≡ disk p
  taken_other p differ = put_other name p (append (begun name) bytes) begun differ ∙ put_other name p (Some []) disk differ

  -- it has OUT's name, too
  abbrev pub both : Disk
  both = put output (taken name) taken

  pub both_whole : both output ≡ Some bytes
  both_whole = put_same output (taken name) taken ∙ taken_is

  both_other : (p : List ℕ) → (p ≡ name → ⊥) → (p ≡ output → ⊥) → both p ≡ disk p
  both_other p e o = put_other output p (taken name) taken o ∙ taken_other p e

  -- it has OUT's name only
  abbrev pub alone : Disk
  alone = put name None both

  -- it has none
  abbrev gone : Disk
  gone = put name None taken

  pub alone_whole : (name ≡ output → ⊥) → alone output ≡ Some bytes
  alone_whole differ = put_other name output None both (λ h. differ (sym h)) ∙ both_whole

  alone_other : disk name ≡ None → (p : List ℕ) → (p ≡ output → ⊥) → alone p ≡ disk p
  alone_other none p o = of (which p name) where
    of : (p ≡ name) ⊎ (p ≡ name → ⊥) → alone p ≡ disk p
    of (inl e) = ap alone e ∙ put_same name None both ∙ sym (ap disk e ∙ none)
    of (inr e) = put_other name p None both e ∙ both_other p e o

  gone_is : disk name ≡ None → (p : List ℕ) → gone p ≡ disk p
  gone_is none p = of (which p name) where
    of : (p ≡ name) ⊎ (p ≡ name → ⊥) → gone p ≡ disk p
    of (inl e) = ap gone e ∙ put_same name None taken ∙ sym (ap disk e ∙ none)
    of (inr e) = put_other name p None taken e ∙ taken_other p e

  was_missing : (name ≡ output → ⊥) → taken output ≡ None → disk output ≡ None
  was_missing differ none = sym (taken_other output (λ h. differ (sym h))) ∙ none

  -- ---- it gets OUT's name

  true_false : true ≡ false → ⊥
  true_false h = cc

  module _ (differ : name ≡ output → ⊥) (none : disk name ≡ None) where
    -- a part that stays
    part_left : (events : List Event) (now : Disk) → ((p : List ℕ) → Happened (stays p) events → p ≡ name) → Happened (stays name) events → ((p : List ℕ) → (p ≡ name → ⊥) → (p ≡ output → ⊥) → now p ≡ disk p) → IsLeft output disk events now
    part_left events now only is other = record {
      others = λ p o q. other p (λ h. q (subst (λ (n : List ℕ). Happened (stays n) events) (sym h) is)) o;
      parts = λ p h. (λ o. differ (sym (only p h) ∙ o), ap disk (only p h) ∙ none);
    }

    -- none does
    none_left : (events : List Event) (now : Disk) → ((p : List ℕ) → Happened (stays p) events → ⊥) → ((p : List ℕ) → (p ≡ output → ⊥) → now p ≡ disk p) → IsLeft output disk events now
    none_left events now no_part other = record { others = λ p o q. other p o; parts = λ p h. absurd (no_part p h) }

    alone_now : (overwrite : Bool) (events : List Event) → ((p : List ℕ) → Happened (stays p) events → ⊥) → (overwrite ≡ false → disk output ≡ None) → IsNow overwrite output bytes disk events alone
    alone_now overwrite events no_part free = record { there = alone_whole differ; fresh = free; left = none_left events alone no_part (alone_other none) }

    linked_now : (overwrite : Bool) (end : Event) → IsEnd name end → disk output ≡ None → IsNow overwrite output bytes disk (linked name output ∷ end ∷ []) (changed end both)
    linked_now overwrite end (inl e) free = subst (λ (x : Event). IsNow overwrite output bytes disk (linked name output ∷ x ∷ []) (changed x both)) (sym e) (alone_now overwrite (linked name output ∷ removed name ∷ []) no_part (λ o. free)) where
      no_part : (p : List ℕ) → Happened (stays p) (linked name output ∷ removed name ∷ []) → ⊥
      no_part p h1 = grind arith
    linked_now overwrite end (inr e) free = subst (λ (x : Event). IsNow overwrite output bytes disk (linked name output ∷ x ∷ []) (changed x both)) (sym e) (record {
      there = both_whole;
      fresh = λ o. free;
      left = part_left (linked name output ∷ stays name ∷ []) both only (inr (inl refl)) both_other;
    }) where
      only : (p : List ℕ) → Happened (stays p) (linked name output ∷ stays name ∷ []) → p ≡ name
      only p h1 = grind arith

    no_moved : (p : List ℕ) → Happened (stays p) (moved name output ∷ []) → ⊥
    no_moved p h1 = grind arith

    no_renamed : (p : List ℕ) → Happened (stays p) (renamed name output ∷ []) → ⊥
    no_renamed p h1 = grind arith

    named_now : (overwrite : Bool) (names : List Event) → Names overwrite output name names → AllowsAll taken names → IsNow overwrite output bytes disk names (after names taken)
    named_now overwrite names (inl n) a = subst (λ (x : List Event). IsNow overwrite output bytes disk x (after x taken)) (sym n.2) (linked_now overwrite n.0 n.1 (was_missing differ (subst (λ (x : List Event). AllowsAll taken x) n.2 a).0))
    named_now overwrite names (inr (inl n)) a = subst (λ (x : List Event). IsNow overwrite output bytes disk x (after x taken)) (sym n) (alone_now overwrite (moved name output ∷ []) no_moved (λ o. was_missing differ (subst (λ (x : List Event). AllowsAll taken x) n a).0))
    named_now overwrite names (inr (inr n)) a = subst (λ (x : List Event). IsNow overwrite output bytes disk x (after x taken)) (sym n.1) (alone_now overwrite (renamed name output ∷ []) no_renamed (λ o. absurd (true_false (sym n.0 ∙ o))))

    -- other names were tried before, and something may fail after
    kept_now : (overwrite : Bool) (keeps : List Event) → Keeps Pbfcutz overwrite output name keeps → AllowsAll taken keeps → IsNow overwrite output bytes disk keeps (after keeps taken)
    kept_now overwrite keeps (tries, names, last, e, t, n, l) a =
        let before = misnames_still tries t in
        let later = misnames_still last l in
        let named = named_now overwrite names n (allows_first names last taken (allows_past tries (names ++ last) taken before (subst (λ (es : List Event). AllowsAll taken es) e a))) in
        let same : after (tries ++ (names ++ last)) taken ≡ after names taken = past_still tries (names ++ last) taken before ∙ after_both names last taken ∙ after_still last (after names taken) later in
        subst (λ (es : List Event). IsNow overwrite output bytes disk es (after es taken)) (sym e) (subst (λ (d : Disk). IsNow overwrite output bytes disk (tries ++ (names ++ last)) d) (sym same) (record {
          there = named.there;
          fresh = named.fresh;
          left = left_by output disk names (tries ++ (names ++ last)) (after names taken) (λ p h. stays_inside p tries names last h) (λ p h. stays_among p tries names last before later h) named.left;
        }))

    -- it is dropped
    ended_back : (end : Event) → IsEnd name end → IsBack output disk (end ∷ []) (changed end taken)
    ended_back end (inl e) = subst (λ (x : Event). IsBack output disk (x ∷ []) (changed x taken)) (sym e) (record { back = gone_is none output; left = none_left (removed name ∷ []) gone no_part (λ p o. gone_is none p) }) where
      no_part : (p : List ℕ) → Happened (stays p) (removed name ∷ []) → ⊥
      no_part p h1 = grind arith
    ended_back end (inr e) = subst (λ (x : Event). IsBack output disk (x ∷ []) (changed x taken)) (sym e) (record { back = taken_other output (λ h. differ (sym h)); left = part_left (stays name ∷ []) taken only (inl refl) (λ p e o. taken_other p e) }) where
      only : (p : List ℕ) → Happened (stays p) (stays name ∷ []) → p ≡ name
      only p h1 = grind arith

    dropped_back : (drops : List Event) → Drops Pbfcutz name drops → IsBack output disk drops (after drops taken)
    dropped_back drops (tries, end, e, t, is) =
        let before = misnames_still tries t in
        let last = ended_back end is in
        subst (λ (es : List Event). IsBack output disk es (after es taken)) (sym e) (subst (λ (d : Disk). IsBack output disk (tries ++ end ∷ []) d) (sym (past_still tries (end ∷ []) taken before)) (record {
          back = last.back;
          left = left_by output disk (end ∷ []) (tries ++ end ∷ []) (changed end taken) (λ p h. happened_after (stays p) tries (end ∷ []) h) (λ p h. stays_later p tries (end ∷ []) before h) last.left;
        }))

  -- under OUT's own name
  module _ (is : name ≡ output) where
    there_whole : taken output ≡ Some bytes
    there_whole = ap taken (sym is) ∙ taken_is

    there_left : IsLeft output disk [] taken
    there_left = record { others = λ p o q. taken_other p (λ h. o (h ∙ is)); parts = λ p h. absurd h }

    there_fresh : disk name ≡ None → disk output ≡ None
    there_fresh none = ap disk (sym is) ∙ none

  kept_out : (program : Program) (overwrite : Bool) (keeps : List Event) → IsName program output name → disk name ≡ None → Keeps program overwrite output name keeps → AllowsAll taken keeps → IsNow overwrite output bytes disk keeps (after keeps taken)
  kept_out Pbfcut overwrite keeps is none k a = subst (λ (es : List Event). IsNow overwrite output bytes disk es (after es taken)) (sym k) (record { there = there_whole is; fresh = λ o. there_fresh is none; left = there_left is })
  kept_out Pbfcutz overwrite keeps differ none k a = kept_now differ none overwrite keeps k a

-- ---- one file among events that change nothing

-- OUT is a file, so it has a name
pub record IsFile (program : Program) (output : List ℕ) (given : Option (List ℕ)) (makes : List Event) : Type 0 where
  pub name : List ℕ
  pub is : given ≡ Some name
  pub tries : List Event
  pub happened : makes ≡ tries ++ made name ∷ []
  pub misses : Each Misses tries
  pub named : IsName program output name

pub file_of : (program : Program) (output : List ℕ) (given : Option (List ℕ)) (makes : List Event) → IsMade program false output given makes → IsFile program output given makes
file_of program output None makes m = absurd m
file_of program output (Some name) makes (tries, misses, named, e) = record { name = name; is = refl; tries = tries; happened = e; misses = misses; named = named }

-- the events of one file, of which these are the last
module _ (program : Program) (output : List ℕ) (w : Writing) (part events : List Event) (x : HasOneFile program output w part events) (disk : Disk) where
  abbrev pub file : IsFile program output w.name x.makes
  file = file_of program output w.name x.makes x.is_made

  abbrev first : Disk
  first = begun output file.name w.bytes disk

  abbrev filled : Disk
  filled = taken output file.name w.bytes disk

  abbrev filling : List Event
  filling = wrote w ∷ (part ++ x.last)

  abbrev making : List Event
  making = x.makes ++ (x.between ++ filling)

  made_after : after x.makes disk ≡ first
  made_after = ap (λ es. after es disk) file.happened ∙ past_still file.tries (made file.name ∷ []) disk (misses_still file.tries file.misses)

  filled_is : appended w.name w.bytes first ≡ filled
  filled_is = ap (λ n. appended n w.bytes first) file.is

  one_after : after events disk ≡ after part filled
  one_after =
      ap (λ es. after es disk) x.happened ∙ past_still x.before making disk x.still.0 ∙ after_both x.makes (x.between ++ filling) disk ∙ ap (λ d. after (x.between ++ filling) d) made_after
      ∙ past_still x.between filling first x.still.1 ∙ ap (λ d. after (part ++ x.last) d) filled_is ∙ after_both part x.last filled ∙ after_still x.last (after part filled) x.still.2

  -- its name was no file's
  pub one_allowed : AllowsAll disk events → (disk file.name ≡ None) × AllowsAll filled part
  one_allowed a =
      let later = allows_past x.before making disk x.still.0 (subst (λ (es : List Event). AllowsAll disk es) x.happened a) in
      let mine = subst (λ (es : List Event). AllowsAll disk es) file.happened (allows_first x.makes (x.between ++ filling) disk later) in
      let more = allows_past x.between filling first x.still.1 (subst (λ (d : Disk). AllowsAll d (x.between ++ filling)) made_after (allows_last x.makes (x.between ++ filling) disk later)) in
      ((allows_past file.tries (made file.name ∷ []) disk (misses_still file.tries file.misses) mine).0, allows_first part x.last filled (subst (λ (d : Disk). AllowsAll d (part ++ x.last)) filled_is more.1))

  stays_in : (p : List ℕ) → Happened (stays p) part → Happened (stays p) events
  stays_in p h = subst (λ (es : List Event). Happened (stays p) es) (sym x.happened)
      (happened_after (stays p) x.before making (happened_after (stays p) x.makes (x.between ++ filling) (happened_after (stays p) x.between filling (inr (happened_before (stays p) part x.last h)))))

  no_wrote : (p : List ℕ) → wrote w ≡ stays p → ⊥
  no_wrote p h = cc

  no_made : (p : List ℕ) → Happened (stays p) (made file.name ∷ []) → ⊥
  no_made p h1 = grind arith

  no_makes : (p : List ℕ) → Happened (stays p) x.makes → ⊥
  no_makes p h = no_made p (stays_later p file.tries (made file.name ∷ []) (misses_still file.tries file.misses) (subst (λ (es : List Event). Happened (stays p) es) file.happened h))

  stays_filling : (p : List ℕ) → Happened (stays p) filling → Happened (stays p) part
  stays_filling p (inl e) = absurd (no_wrote p e)
  stays_filling p (inr h) = stays_earlier p part x.last x.still.2 h

  stays_making : (p : List ℕ) → Happened (stays p) x.makes ⊎ Happened (stays p) (x.between ++ filling) → Happened (stays p) part
  stays_making p (inl h) = absurd (no_makes p h)
  stays_making p (inr h) = stays_filling p (stays_later p x.between filling x.still.1 h)

  stays_of : (p : List ℕ) → Happened (stays p) events → Happened (stays p) part
  stays_of p h = stays_making p (happened_either (stays p) x.makes (x.between ++ filling) (stays_later p x.before making x.still.0 (subst (λ (es : List Event). Happened (stays p) es) x.happened h)))

  all_left : IsLeft output disk part (after part filled) → IsLeft output disk events (after events disk)
  all_left n = subst (λ (d : Disk). IsLeft output disk events d) (sym one_after) (left_by output disk part events (after part filled) stays_in stays_of n)

  all_now : (overwrite : Bool) → IsNow overwrite output w.bytes disk part (after part filled) → IsNow overwrite output w.bytes disk events (after events disk)
  all_now overwrite n = record { there = ap (λ (d : Disk). d output) one_after ∙ n.there; fresh = n.fresh; left = all_left n.left }

  all_back : IsBack output disk part (after part filled) → IsBack output disk events (after events disk)
  all_back n = record { back = ap (λ (d : Disk). d output) one_after ∙ n.back; left = all_left n.left }

-- ---- a file that is kept, or dropped

pub keeps_now : (program : Program) (overwrite : Bool) (output : List ℕ) (w : Writing) (events : List Event) (disk : Disk) → KeepsFile program overwrite output w events → AllowsAll disk events → IsNow overwrite output w.bytes disk events (after events disk)
keeps_now program overwrite output w events disk k a =
    let f = file_of program output w.name k.file.makes k.file.is_made in
    let allowed = one_allowed program output w k.keeps events k.file disk a in
    all_now program output w k.keeps events k.file disk overwrite (kept_out output f.name w.bytes disk program overwrite k.keeps f.named allowed.0 (subst (λ (g : Option (List ℕ)). IsKept program overwrite output g k.keeps) f.is k.is_kept) allowed.1)

pub drops_now : (output : List ℕ) (w : Writing) (events : List Event) (disk : Disk) → DropsFile Pbfcut output w events → AllowsAll disk events → IsNow false output w.bytes disk events (after events disk)
drops_now output w events disk k a =
    let f = file_of Pbfcut output w.name k.file.makes k.file.is_made in
    let there = subst (λ (g : Option (List ℕ)). IsDropped Pbfcut g k.drops) f.is k.is_dropped in
    all_now Pbfcut output w k.drops events k.file disk false (kept_out output f.name w.bytes disk Pbfcut false k.drops f.named (one_allowed Pbfcut output w k.drops events k.file disk a).0 there (one_allowed Pbfcut output w k.drops events k.file disk a).1)

pub drops_back : (output : List ℕ) (w : Writing) (events : List Event) (disk : Disk) → DropsFile Pbfcutz output w events → AllowsAll disk events → IsBack output disk events (after events disk)
drops_back output w events disk k a =
    let f = file_of Pbfcutz output w.name k.file.makes k.file.is_made in
    all_back Pbfcutz output w k.drops events k.file disk (dropped_back output f.name w.bytes disk f.named (one_allowed Pbfcutz output w k.drops events k.file disk a).0 k.drops (subst (λ (g : Option (List ℕ)). IsDropped Pbfcutz g k.drops) f.is k.is_dropped))

pub drops_left : (program : Program) (output : List ℕ) (w : Writing) (events : List Event) (disk : Disk) → DropsFile program output w events → AllowsAll disk events → IsLeft output disk events (after events disk)
drops_left Pbfcut output w events disk k a = (drops_now output w events disk k a).left
drops_left Pbfcutz output w events disk k a = (drops_back output w events disk k a).left
