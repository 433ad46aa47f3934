-- A part of several files that couldn't be removed: it is the other name of one of them, which no file had.
use Rattle.std.proofs.Common.{arith, ◌≡◌, ◌⊎◌, inl, inr, ℕ, List, [], ◌∷◌, ◌++◌, map, Bool, Some, None, refl, sym, subst, ap, ◌∙◌}
use Rattle.std.specs.List.{AllByRecursion, flat_map}
use Rattle.pbfcut_cli.specs.declared.programs.Program.TheVariants.{Pbfcutz}
use Rattle.pbfcut_program.specs.Events.{Event, linked, made, moved, removed, renamed, stays, wrote}
use Rattle.pbfcut_program.specs.Files.{AllowsAll, Disk, Drops, IsEnd, Keeps, Names}
use Rattle.pbfcut_program.specs.SeveralChanges.{HandlesFiles, IsApart, IsDroppedFile, IsHandled, IsKeptWhole, OneFile, Pairwise}
use Rattle.pbfcut_program.specs.Taking.{Happened}
use Rattle.pbfcut_program.proofs.DiskLemmas.{happened_either, misnames_still, misses_still, some_same, stays_among, stays_earlier, stays_later}
use Rattle.pbfcut_program.proofs.SeveralDisk.{IsOneOf, dropped_named, ends_of, file, kept_named, made_of, mine, part_elsewhere, part_free}

-- ---- the last events of one file

last_is : (p name : List ℕ) (end : Event) → IsEnd name end → Happened (stays p) (end ∷ []) → p ≡ name
last_is p name end (inl e) h = absurd (removed_only (subst (λ (x : Event). Happened (stays p) (x ∷ [])) e h)) where
  removed_only : Happened (stays p) (removed name ∷ []) → ⊥
  removed_only h1 = grind arith
last_is p name end (inr e) h = stays_only (subst (λ (x : Event). Happened (stays p) (x ∷ [])) e h) where
  stays_only : Happened (stays p) (stays name ∷ []) → p ≡ name
  stays_only h1 = grind arith

named_is : (p : List ℕ) (overwrite : Bool) (output name : List ℕ) (names : List Event) → Names overwrite output name names → Happened (stays p) names → p ≡ name
named_is p overwrite output name names (inl n) h = of (subst (λ (es : List Event). Happened (stays p) es) n.2 h) where
  not_linked : linked name output ≡ stays p → ⊥
  not_linked e = cc

  of : Happened (stays p) (linked name output ∷ n.0 ∷ []) → p ≡ name
  of (inl e) = absurd (not_linked e)
  of (inr k) = last_is p name n.0 n.1 k
named_is p overwrite output name names (inr (inl e)) h = absurd (not_moved (subst (λ (es : List Event). Happened (stays p) es) e h)) where
  not_moved : Happened (stays p) (moved name output ∷ []) → ⊥
  not_moved h1 = grind arith
named_is p overwrite output name names (inr (inr n)) h = absurd (not_renamed (subst (λ (es : List Event). Happened (stays p) es) n.1 h)) where
  not_renamed : Happened (stays p) (renamed name output ∷ []) → ⊥
  not_renamed h1 = grind arith

kept_is : (p : List ℕ) (overwrite : Bool) (output name : List ℕ) (es : List Event) → Keeps Pbfcutz overwrite output name es → Happened (stays p) es → p ≡ name
kept_is p overwrite output name es (tries, names, last, e, t, k, l) h =
    named_is p overwrite output name names k (stays_among p tries names last (misnames_still tries t) (misnames_still last l) (subst (λ (x : List Event). Happened (stays p) x) e h))

dropped_is : (p name : List ℕ) (es : List Event) → Drops Pbfcutz name es → Happened (stays p) es → p ≡ name
dropped_is p name es (tries, end, e, t, is) h = last_is p name end is (stays_later p tries (end ∷ []) (misnames_still tries t) (subst (λ (x : List Event). Happened (stays p) x) e h))

-- ---- those of all

no_writes : (p : List ℕ) (files : List OneFile) → Happened (stays p) (map (λ (o : OneFile). wrote o.out) files) → ⊥
no_writes p [] h = h
no_writes p (one ∷ more) (inl e) = not_wrote e where
  not_wrote : wrote one.out ≡ stays p → ⊥
  not_wrote e = cc
no_writes p (one ∷ more) (inr h) = no_writes p more h

module _ (overwrite : Bool) (p : List ℕ) where
  no_make : (one : OneFile) → IsHandled Pbfcutz overwrite one → Happened (stays p) one.makes → ⊥
  no_make one handled h =
      let f = file overwrite one handled in
      not_made f.name (stays_later p f.tries (made f.name ∷ []) (misses_still f.tries f.misses) (subst (λ (es : List Event). Happened (stays p) es) f.happened h)) where
        not_made : (name : List ℕ) → Happened (stays p) (made name ∷ []) → ⊥
        not_made name h1 = grind arith

  no_makes : (files : List OneFile) → AllByRecursion (IsHandled Pbfcutz overwrite) files → Happened (stays p) (flat_map made_of files) → ⊥
  no_makes [] handled h = h
  no_makes (one ∷ more) handled h = of (happened_either (stays p) one.makes (flat_map made_of more) h) (no_makes more handled.1) where
    of : Happened (stays p) one.makes ⊎ Happened (stays p) (flat_map made_of more) → (Happened (stays p) (flat_map made_of more) → ⊥) → ⊥
    of (inl k) rest = no_make one handled.0 k
    of (inr k) rest = rest k

  end_is : (one : OneFile) → IsHandled Pbfcutz overwrite one → Happened (stays p) one.ends → one.out.name ≡ Some p
  end_is one handled h = (file overwrite one handled).is ∙ ap (λ n. Some n) (sym (of handled.1)) where
    of : IsKeptWhole Pbfcutz overwrite one ⊎ IsDroppedFile Pbfcutz one → p ≡ (file overwrite one handled).name
    of (inl k) = kept_is p overwrite one.output (file overwrite one handled).name one.ends (kept_named overwrite one handled k) h
    of (inr d) = dropped_is p (file overwrite one handled).name one.ends (dropped_named overwrite one handled d) h

  ends_are : (files : List OneFile) → AllByRecursion (IsHandled Pbfcutz overwrite) files → Happened (stays p) (flat_map ends_of files) → IsOneOf p files
  ends_are [] handled h = absurd h
  ends_are (one ∷ more) handled h = of (happened_either (stays p) one.ends (flat_map ends_of more) h) (ends_are more handled.1) where
    of : Happened (stays p) one.ends ⊎ Happened (stays p) (flat_map ends_of more) → (Happened (stays p) (flat_map ends_of more) → IsOneOf p more) → IsOneOf p (one ∷ more)
    of (inl k) rest = record { fronts = []; one = one; backs = more; are = refl; is = end_is one handled.0 k }
    of (inr k) rest =
        let r = rest k in
        record { fronts = one ∷ r.fronts; one = r.one; backs = r.backs; are = ap (λ l. one ∷ l) r.are; is = r.is }

  -- of a run only the last events of its files
  module _ (files : List OneFile) (events : List Event) (x : HandlesFiles Pbfcutz overwrite files events) where
    abbrev writes : List Event
    writes = map (λ (o : OneFile). wrote o.out) files

    abbrev ends : List Event
    ends = flat_map ends_of files

    of_writes : Happened (stays p) writes ⊎ Happened (stays p) (ends ++ x.last) → Happened (stays p) ends
    of_writes (inl h) = absurd (no_writes p files h)
    of_writes (inr h) = stays_earlier p ends x.last x.still.2 h

    of_makes : Happened (stays p) (flat_map made_of files) ⊎ Happened (stays p) (x.between ++ (writes ++ (ends ++ x.last))) → Happened (stays p) ends
    of_makes (inl h) = absurd (no_makes files x.each h)
    of_makes (inr h) = of_writes (happened_either (stays p) writes (ends ++ x.last) (stays_later p x.between (writes ++ (ends ++ x.last)) x.still.1 h))

    stays_at_end : Happened (stays p) events → Happened (stays p) ends
    stays_at_end h =
        let rest = x.between ++ (writes ++ (ends ++ x.last)) in
        of_makes (happened_either (stays p) (flat_map made_of files) rest (stays_later p x.before (flat_map made_of files ++ rest) x.still.0 (subst (λ (es : List Event). Happened (stays p) es) x.happened h)))

-- ---- it is new, and no OUT has its path

abbrev IsNew : List ℕ → List OneFile → Disk → Type 0
IsNew p files disk = AllByRecursion (λ (one : OneFile). p ≡ one.output → ⊥) files × (disk p ≡ None)

pub parts_are_new : (overwrite : Bool) (files : List OneFile) (events : List Event) (x : HandlesFiles Pbfcutz overwrite files events) → Pairwise IsApart files → (disk : Disk) → AllowsAll disk events → (p : List ℕ) → Happened (stays p) events → IsNew p files disk
parts_are_new overwrite files events x apart disk a p h =
    let k = ends_are overwrite p files x.each (stays_at_end overwrite p files events x h) in
    let split = subst (λ (fs : List OneFile). HandlesFiles Pbfcutz overwrite fs events) k.are x in
    let pairs = subst (λ (fs : List OneFile). Pairwise IsApart fs) k.are apart in
    let all = k.fronts ++ k.one ∷ k.backs in
    let m = mine overwrite k.fronts k.one k.backs events split pairs disk in
    let new : IsNew m.name all disk = (part_elsewhere overwrite k.fronts k.one k.backs events split pairs disk a, part_free overwrite k.fronts k.one k.backs events split pairs disk a) in
    subst (λ (fs : List OneFile). IsNew p fs disk) (sym k.are) (subst (λ (q : List ℕ). IsNew q all disk) (some_same (sym m.is ∙ k.is)) new)
