-- What is so at each moment of the events of one file.
use Rattle.std.proofs.Common.{◌≡◌, ◌⊎◌, inl, inr, ℕ, List, [], ◌∷◌, ◌++◌, Bool, Option, Some, None, refl, sym, subst, ap, ◌∙◌, append_assoc}
use Rattle.pbf_frame.specs.Devices.{append}
use Rattle.pbfcut_cli.specs.declared.programs.Program.{Program}
use Rattle.pbfcut_cli.specs.declared.programs.Program.TheVariants.{Pbfcut, Pbfcutz}
use Rattle.pbfcut_program.specs.Changes.{DropsFile, HasOneFile, KeepsFile}
use Rattle.pbfcut_program.specs.Events.{Event, Writing, made, wrote}
use Rattle.pbfcut_program.specs.Fails.{Each}
use Rattle.pbfcut_program.specs.Files.{AllowsAll, Disk, Drops, IsDropped, IsEnd, IsKept, Keeps, Misses, Names, Still, after, appended, changed, put}
use Rattle.pbfcut_program.proofs.DiskLemmas.{IsFile, alone, alone_whole, begun, both, both_whole, file_of, misnames_still, misses_still, one_allowed, put_other, still_one, taken, taken_other}
use Rattle.pbfcut_program.proofs.EventLemmas.{each_both}

-- this holds of the file system at each moment
abbrev Always : (Disk → Type 0) → List Event → Disk → Type 0
Always holds [] disk = holds disk
Always holds (e ∷ es) disk = holds disk × Always holds es (changed e disk)

always_begins : (holds : Disk → Type 0) (xs : List Event) (disk : Disk) → Always holds xs disk → holds disk
always_begins holds [] disk a = a
always_begins holds (x ∷ xs) disk a = a.0

always_after : (holds : Disk → Type 0) (started later : List Event) (disk : Disk) → Always holds (started ++ later) disk → holds (after started disk)
always_after holds [] later disk a = always_begins holds later disk a
always_after holds (x ∷ xs) later disk a = always_after holds xs later (changed x disk) a.1

-- it held before, nothing changes, and then it goes on to hold
always_still : (holds : Disk → Type 0) (xs ys : List Event) (disk : Disk) → Each Still xs → Always holds ys disk → Always holds (xs ++ ys) disk
always_still holds [] ys disk s a = a
always_still holds (x ∷ xs) ys disk s a = (always_begins holds ys disk a, subst (λ (d : Disk). Always holds (xs ++ ys) d) (sym (still_one x disk s.0)) (always_still holds xs ys disk s.1 a))

always_last : (holds : Disk → Type 0) (xs : List Event) (disk : Disk) → Each Still xs → holds disk → Always holds xs disk
always_last holds [] disk s h = h
always_last holds (x ∷ xs) disk s h = (h, subst (λ (d : Disk). Always holds xs d) (sym (still_one x disk s.0)) (always_last holds xs disk s.1 h))

-- ---- OUT of pbfcutz

module _ (output name bytes : List ℕ) (disk : Disk) (differ : name ≡ output → ⊥) where
  -- it is what it was, or whole
  abbrev Fine : Disk → Type 0
  Fine now = (now output ≡ disk output) ⊎ (now output ≡ Some bytes)

  -- it is what it was
  abbrev Same : Disk → Type 0
  Same now = now output ≡ disk output

  begun_same : Same (begun output name bytes disk)
  begun_same = put_other name output (Some []) disk (λ h. differ (sym h))

  taken_same : Same (taken output name bytes disk)
  taken_same = taken_other output name bytes disk output (λ h. differ (sym h))

  both_fine : Fine (both output name bytes disk)
  both_fine = inr (both_whole output name bytes disk)

  alone_fine : Fine (alone output name bytes disk)
  alone_fine = inr (alone_whole output name bytes disk differ)

  abbrev filled : Disk
  filled = taken output name bytes disk

  ended_fine : (end : Event) (last : List Event) → IsEnd name end → Each Still last → Always Fine (end ∷ last) (both output name bytes disk)
  ended_fine end last (inl e) s = subst (λ (x : Event). Always Fine (x ∷ last) (both output name bytes disk)) (sym e) (both_fine, always_last Fine last (alone output name bytes disk) s alone_fine)
  ended_fine end last (inr e) s = subst (λ (x : Event). Always Fine (x ∷ last) (both output name bytes disk)) (sym e) (both_fine, always_last Fine last (both output name bytes disk) s both_fine)

  named_fine : (overwrite : Bool) (names last : List Event) → Names overwrite output name names → Each Still last → Always Fine (names ++ last) filled
  named_fine overwrite names last (inl n) s = subst (λ (x : List Event). Always Fine (x ++ last) filled) (sym n.2) (inl taken_same, ended_fine n.0 last n.1 s)
  named_fine overwrite names last (inr (inl n)) s = subst (λ (x : List Event). Always Fine (x ++ last) filled) (sym n) (inl taken_same, always_last Fine last (alone output name bytes disk) s alone_fine)
  named_fine overwrite names last (inr (inr n)) s = subst (λ (x : List Event). Always Fine (x ++ last) filled) (sym n.1) (inl taken_same, always_last Fine last (alone output name bytes disk) s alone_fine)

  kept_fine : (overwrite : Bool) (keeps last : List Event) → Keeps Pbfcutz overwrite output name keeps → Each Still last → Always Fine (keeps ++ last) filled
  kept_fine overwrite keeps last (tries, names, more, e, t, n, l) s =
      subst (λ (es : List Event). Always Fine es filled) (sym (ap (λ es. es ++ last) e ∙ append_assoc tries (names ++ more) last ∙ ap (λ es. tries ++ es) (append_assoc names more last)))
      (always_still Fine tries (names ++ (more ++ last)) filled (misnames_still tries t) (named_fine overwrite names (more ++ last) n (each_both Still more last (misnames_still more l) s)))

  gone_same : (end : Event) (last : List Event) → IsEnd name end → Each Still last → Always Same (end ∷ last) filled
  gone_same end last (inl e) s = subst (λ (x : Event). Always Same (x ∷ last) filled) (sym e) (taken_same, always_last Same last (put name None filled) s (put_other name output None filled (λ h. differ (sym h)) ∙ taken_same))
  gone_same end last (inr e) s = subst (λ (x : Event). Always Same (x ∷ last) filled) (sym e) (taken_same, always_last Same last filled s taken_same)

  dropped_same : (drops last : List Event) → Drops Pbfcutz name drops → Each Still last → Always Same (drops ++ last) filled
  dropped_same drops last (tries, end, e, t, is) s =
      subst (λ (es : List Event). Always Same es filled) (sym (ap (λ es. es ++ last) e ∙ append_assoc tries (end ∷ []) last))
      (always_still Same tries (end ∷ last) filled (misnames_still tries t) (gone_same end last is s))

  -- this holds before the file is filled, and then
  module _ (holds : Disk → Type 0) (at_first : holds disk) (at_begun : holds (begun output name bytes disk)) where
    filled_holds : (w : Writing) (before makes between tries part : List Event) → w.name ≡ Some name → w.bytes ≡ bytes → makes ≡ tries ++ made name ∷ [] → Each Still before → Each Misses tries → Each Still between
        → Always holds part filled → Always holds (before ++ (makes ++ (between ++ (wrote w ∷ part)))) disk
    filled_holds w before makes between tries part is are e b t s h =
        let first = begun output name bytes disk in
        let same : appended w.name w.bytes first ≡ filled = ap (λ n. appended n w.bytes first) is ∙ ap (λ b. appended (Some name) b first) are in
        let mine = always_still holds between (wrote w ∷ part) first s (at_begun, subst (λ (d : Disk). Always holds part d) (sym same) h) in
        always_still holds before (makes ++ (between ++ (wrote w ∷ part))) disk b
        (subst (λ (es : List Event). Always holds es disk) (sym (ap (λ es. es ++ (between ++ (wrote w ∷ part))) e ∙ append_assoc tries (made name ∷ []) (between ++ (wrote w ∷ part))))
        (always_still holds tries (made name ∷ (between ++ (wrote w ∷ part))) disk (misses_still tries t) (at_first, mine)))

module _ (output : List ℕ) (w : Writing) (part started later : List Event) (x : HasOneFile Pbfcutz output w part (started ++ later)) (disk : Disk) where
  abbrev file : IsFile Pbfcutz output w.name x.makes
  file = file_of Pbfcutz output w.name x.makes x.is_made

  always_one : (holds : Disk → Type 0) → holds disk → holds (begun output file.name w.bytes disk) → Always holds (part ++ x.last) (taken output file.name w.bytes disk) → holds (after started disk)
  always_one holds at_first at_begun h = always_after holds started later disk (subst (λ (es : List Event). Always holds es disk) (sym x.happened)
      (filled_holds output file.name w.bytes disk file.named holds at_first at_begun w x.before x.makes x.between file.tries (part ++ x.last) file.is refl file.happened x.still.0 file.misses x.still.1 h))

pub kept_whole : (overwrite : Bool) (output : List ℕ) (w : Writing) (started later : List Event) (disk : Disk) → KeepsFile Pbfcutz overwrite output w (started ++ later) → (after started disk output ≡ disk output) ⊎ (after started disk output ≡ Some w.bytes)
kept_whole overwrite output w started later disk k =
    let f = file_of Pbfcutz output w.name k.file.makes k.file.is_made in
    always_one output w k.keeps started later k.file disk (Fine output f.name w.bytes disk f.named) (inl refl) (inl (begun_same output f.name w.bytes disk f.named))
    (kept_fine output f.name w.bytes disk f.named overwrite k.keeps k.file.last (subst (λ (g : Option (List ℕ)). IsKept Pbfcutz overwrite output g k.keeps) f.is k.is_kept) k.file.still.2)

pub dropped_whole : (output : List ℕ) (w : Writing) (started later : List Event) (disk : Disk) → DropsFile Pbfcutz output w (started ++ later) → after started disk output ≡ disk output
dropped_whole output w started later disk k =
    let f = file_of Pbfcutz output w.name k.file.makes k.file.is_made in
    always_one output w k.drops started later k.file disk (Same output f.name w.bytes disk f.named) refl (begun_same output f.name w.bytes disk f.named)
    (dropped_same output f.name w.bytes disk f.named k.drops k.file.last (subst (λ (g : Option (List ℕ)). IsDropped Pbfcutz g k.drops) f.is k.is_dropped) k.file.still.2)

-- ---- each other file

-- an event changes nothing of this name, whatever there is
abbrev Spares : List ℕ → Event → Type 0
Spares p e = (d : Disk) → changed e d p ≡ d p

always_spared : (p : List ℕ) (disk : Disk) (xs : List Event) (now : Disk) → Each (Spares p) xs → now p ≡ disk p → Always (λ (d : Disk). d p ≡ disk p) xs now
always_spared p disk [] now s is = is
always_spared p disk (x ∷ xs) now s is = (is, always_spared p disk xs (changed x now) s.1 (s.0 now ∙ is))

module _ (output name p : List ℕ) (o : p ≡ output → ⊥) (e : p ≡ name → ⊥) where
  still_spares : (xs : List Event) → Each Still xs → Each (Spares p) xs
  still_spares [] s = tt
  still_spares (x ∷ xs) s = ((λ (d : Disk). ap (λ (n : Disk). n p) (still_one x d s.0)), still_spares xs s.1)

  from_to : (bytes : Option (List ℕ)) (d : Disk) → put name None (put output bytes d) p ≡ d p
  from_to bytes d = put_other name p None (put output bytes d) e ∙ put_other output p bytes d o

  end_spares : (end : Event) → IsEnd name end → Spares p end
  end_spares end (inl is) = subst (λ (x : Event). Spares p x) (sym is) (λ (d : Disk). put_other name p None d e)
  end_spares end (inr is) = subst (λ (x : Event). Spares p x) (sym is) (λ (d : Disk). refl)

  names_spare : (overwrite : Bool) (names : List Event) → Names overwrite output name names → Each (Spares p) names
  names_spare overwrite names (inl n) = subst (λ (es : List Event). Each (Spares p) es) (sym n.2) ((λ (d : Disk). put_other output p (d name) d o), (end_spares n.0 n.1, tt))
  names_spare overwrite names (inr (inl n)) = subst (λ (es : List Event). Each (Spares p) es) (sym n) ((λ (d : Disk). from_to (d name) d), tt)
  names_spare overwrite names (inr (inr n)) = subst (λ (es : List Event). Each (Spares p) es) (sym n.1) ((λ (d : Disk). from_to (d name) d), tt)

  keeps_spare : (program : Program) (overwrite : Bool) (keeps : List Event) → Keeps program overwrite output name keeps → Each (Spares p) keeps
  keeps_spare Pbfcut overwrite keeps k = subst (λ (es : List Event). Each (Spares p) es) (sym k) tt
  keeps_spare Pbfcutz overwrite keeps (tries, names, last, is, t, n, l) = subst (λ (es : List Event). Each (Spares p) es) (sym is)
      (each_both (Spares p) tries (names ++ last) (still_spares tries (misnames_still tries t)) (each_both (Spares p) names last (names_spare overwrite names n) (still_spares last (misnames_still last l))))

  drops_spare : (program : Program) (drops : List Event) → Drops program name drops → Each (Spares p) drops
  drops_spare Pbfcut drops k = subst (λ (es : List Event). Each (Spares p) es) (sym k) tt
  drops_spare Pbfcutz drops (tries, end, is, t, n) = subst (λ (es : List Event). Each (Spares p) es) (sym is)
      (each_both (Spares p) tries (end ∷ []) (still_spares tries (misnames_still tries t)) (end_spares end n, tt))

  wrote_spares : (w : Writing) → w.name ≡ Some name → Spares p (wrote w)
  wrote_spares w is = λ (d : Disk). ap (λ (n : Option (List ℕ)). appended n w.bytes d p) is ∙ put_other name p (append (d name) w.bytes) d e

-- a file that is there isn't made
there_differs : (p name bytes : List ℕ) (disk : Disk) → disk p ≡ Some bytes → disk name ≡ None → p ≡ name → ⊥
there_differs p name bytes disk there none is = none_some (sym none ∙ ap disk (sym is) ∙ there) where
  none_some : None ≡ Some bytes → ⊥
  none_some h = cc

module _ (program : Program) (output : List ℕ) (w : Writing) (part started later : List Event) (x : HasOneFile program output w part (started ++ later)) (disk : Disk) (a : AllowsAll disk (started ++ later)) (path bytes : List ℕ)
    (o : path ≡ output → ⊥) (there : disk path ≡ Some bytes) where
  abbrev one : IsFile program output w.name x.makes
  one = file_of program output w.name x.makes x.is_made

  part_differs : path ≡ one.name → ⊥
  part_differs = there_differs path one.name bytes disk there (one_allowed program output w part (started ++ later) x disk a).0

  makes_spare : Each (Spares path) x.makes
  makes_spare = subst (λ (es : List Event). Each (Spares path) es) (sym one.happened)
      (each_both (Spares path) one.tries (made one.name ∷ []) (still_spares output one.name path o part_differs one.tries (misses_still one.tries one.misses)) ((λ (d : Disk). put_other one.name path (Some []) d part_differs), tt))

  still_spare : (xs : List Event) → Each Still xs → Each (Spares path) xs
  still_spare = still_spares output one.name path o part_differs

  one_spares : Each (Spares path) part → Each (Spares path) (started ++ later)
  one_spares s = subst (λ (es : List Event). Each (Spares path) es) (sym x.happened)
      (each_both (Spares path) x.before (x.makes ++ (x.between ++ (wrote w ∷ (part ++ x.last)))) (still_spare x.before x.still.0)
      (each_both (Spares path) x.makes (x.between ++ (wrote w ∷ (part ++ x.last))) makes_spare
      (each_both (Spares path) x.between (wrote w ∷ (part ++ x.last)) (still_spare x.between x.still.1)
      (wrote_spares output one.name path o part_differs w one.is, each_both (Spares path) part x.last s (still_spare x.last x.still.2)))))

  others_one : Each (Spares path) part → after started disk path ≡ Some bytes
  others_one s = always_after (λ (d : Disk). d path ≡ disk path) started later disk (always_spared path disk (started ++ later) disk (one_spares s) refl) ∙ there

pub keeps_others : (program : Program) (overwrite : Bool) (output : List ℕ) (w : Writing) (started later : List Event) (disk : Disk) → KeepsFile program overwrite output w (started ++ later) → AllowsAll disk (started ++ later) → (path bytes : List ℕ) → (path ≡ output → ⊥) → disk path ≡ Some bytes → after started disk path ≡ Some bytes
keeps_others program overwrite output w started later disk k a path bytes o there =
    let f = file_of program output w.name k.file.makes k.file.is_made in
    let e = part_differs program output w k.keeps started later k.file disk a path bytes o there in
    others_one program output w k.keeps started later k.file disk a path bytes o there (keeps_spare output f.name path o e program overwrite k.keeps (subst (λ (g : Option (List ℕ)). IsKept program overwrite output g k.keeps) f.is k.is_kept))

pub drops_others : (program : Program) (output : List ℕ) (w : Writing) (started later : List Event) (disk : Disk) → DropsFile program output w (started ++ later) → AllowsAll disk (started ++ later) → (path bytes : List ℕ) → (path ≡ output → ⊥) → disk path ≡ Some bytes → after started disk path ≡ Some bytes
drops_others program output w started later disk k a path bytes o there =
    let f = file_of program output w.name k.file.makes k.file.is_made in
    let e = part_differs program output w k.drops started later k.file disk a path bytes o there in
    others_one program output w k.drops started later k.file disk a path bytes o there (drops_spare output f.name path o e program k.drops (subst (λ (g : Option (List ℕ)). IsDropped program g k.drops) f.is k.is_dropped))
