-- Several areas in one pass, of which only some take a way.
use Rattle.std.proofs.Common.{◌≡◌, ◌∙◌, ◌<◌, ℕ, zero, suc, ◌+◌, ℤ, Bool, true, false, true≢false, ◌||◌, List, [], ◌∷◌, length, take, map, refl, sym, ap, ap₂, subst, arith, rules}
use Rattle.std.specs.Prelude.{nat_eq, replicate}
use Rattle.std.specs.List.{AllByRecursion, AllZip, list_any}
use Rattle.std.specs.FinSet as set
use Rattle.std.proofs.lemmas.Bool.{or_parts}
use Rattle.osm_ids.specs.Strips.{IsMarked, NamesAll, NamesAny, names_any, named_at}
use Rattle.osm_ids.specs.declared.strips.IdStrips.{IdStrips}
use Rattle.osm_ways.specs.declared.in_area.InArea.{InArea}
use Rattle.osm_ways.specs.InArea.{stepped}
use Rattle.osm_ways.specs.Phases.{Ids}
use Rattle.osm_ways.specs.Selection.{Seen, a_way, is_kept_way}
use Rattle.pbf_pass.specs.EachArea.{CanSkip, CanSkipEach, FindsNobody, IsUnmade, MarksWay, NamesEachSet, SkipsWays, StripsFindAll, member_ids}
use Rattle.pbf_pass.specs.declared.way_strips.WayStrips.{WayStrips}
use Rattle.pbf_pass.specs.declared.way_strips.WayStrips.TheVariants.{Made, Never, Unmade}

-- whether the set of this number is named for an id
abbrev has : IdStrips → ℤ → ℕ → Bool
has strips id number = list_any (nat_eq number) (named_at strips id)

-- ---- which phases take a way

unmarked : (mark : Bool) (marks : List Bool) (named_for : Bool) → (named_for ≡ true → IsMarked (mark ∷ marks) 0) → mark ≡ false → named_for ≡ false
unmarked mark marks true set none = absurd (true≢false (sym (set refl (omega arith)) ∙ none))
unmarked mark marks false set none = refl

is_false : (b : Bool) → (b ≡ true → ⊥) → b ≡ false
is_false true none = absurd (none refl)
is_false false none = refl

module _ (strips : IdStrips) where
  -- no ref is among the ids of a set that isn't named
  unnamed : (number : ℕ) (ids : Ids) (refs : List ℤ) → NamesAll strips number ids → names_any strips refs number ≡ false → is_kept_way (set.contains ids) refs ≡ false
  unnamed number ids [] named none = refl
  unnamed number ids (ref ∷ refs) named none = by (set.contains ids ref) refl (unnamed number ids refs named both.1) where
    both : (has strips ref number ≡ false) × (names_any strips refs number ≡ false)
    both = or_parts (has strips ref number) (names_any strips refs number) none

    by : (b : Bool) → set.contains ids ref ≡ b → is_kept_way (set.contains ids) refs ≡ false → is_kept_way (set.contains ids) (ref ∷ refs) ≡ false
    by true is rest = absurd (true≢false (sym (named ref is) ∙ both.0))
    by false is rest = ap (λ b. b || is_kept_way (set.contains ids) refs) is ∙ rest

  module _ {A S : Type 0} (step : S → Seen → S) (inside : S → Ids) (id : ℤ) (refs : List ℤ) where
    -- a phase that isn't marked
    same : (of : InArea A S) (number : ℕ) → SkipsWays step inside of → NamesAll strips number (inside of.phase) → names_any strips refs number ≡ false → step of.phase (a_way id refs) ≡ of.phase
    same of number skips named none = skips id refs (unnamed number (inside of.phase) refs named none)

    pub all_same : (members : List (InArea A S)) (number : ℕ) → AllByRecursion (SkipsWays step inside) members → NamesEachSet strips number (member_ids inside members) → ((n : ℕ) → NamesAny strips refs n → ⊥)
        → members ≡ map (λ of. stepped step of (a_way id refs)) members
    all_same [] number skips named none = refl
    all_same (of ∷ members) number skips named none = ap₂ (λ (phase : S) (l : List (InArea A S)). record of { phase = phase } ∷ l) (sym (same of number skips.0 named.0 (is_false _ (none number)))) (all_same members (number + 1) skips.1 named.1 none)

    pub skip_each : (members : List (InArea A S)) (marks : List Bool) (number : ℕ) → AllByRecursion (SkipsWays step inside) members → NamesEachSet strips number (member_ids inside members)
        → ((k : ℕ) → names_any strips refs (number + k) ≡ true → IsMarked marks k) → length marks ≡ length members → AllZip (CanSkip step inside (a_way id refs)) members marks
    skip_each [] [] number skips named set as_many = tt
    skip_each [] (mark ∷ marks) number skips named set as_many = absurd (omega (arith, as_many))
    skip_each (of ∷ members) [] number skips named set as_many = absurd (omega (arith, as_many))
    skip_each (of ∷ members) (mark ∷ marks) number skips named set as_many = (
      λ none. (same of number skips.0 named.0 (unmarked mark marks (names_any strips refs number) (λ named_for. set 0 (subst (λ n. names_any strips refs n ≡ true) (omega arith) named_for)) none), skips.0),
      skip_each members marks (number + 1) skips.1 named.1 (λ k named_for within. set (suc k) (subst (λ n. names_any strips refs n ≡ true) (omega arith) named_for) (omega (arith, within))) (omega (arith, as_many)),
    )

-- ---- all phases

pub as_many_zipped : {A B : Type 0} (R : A → B → Type 0) (xs : List A) (ys : List B) → AllZip R xs ys → length xs ≡ length ys
as_many_zipped R [] [] all = refl
as_many_zipped R [] (y ∷ ys) all = absurd all
as_many_zipped R (x ∷ xs) [] all = absurd all
as_many_zipped R (x ∷ xs) (y ∷ ys) all = ap suc (as_many_zipped R xs ys all.1)

-- before there are strips all take the way
pub all_marked : {A S : Type 0} (step : S → Seen → S) (inside : S → Ids) (seen : Seen) (members : List (InArea A S)) → AllZip (CanSkip step inside seen) members (replicate (length members) true)
all_marked step inside seen [] = tt
all_marked step inside seen (of ∷ members) = ((λ none. absurd (true≢false none)), all_marked step inside seen members)

module _ {A S : Type 0} (step : S → Seen → S) (inside : S → Ids) (members : List (InArea A S)) where
  pub find_none : (strips : WayStrips) → IsUnmade strips → StripsFindAll step inside members strips
  find_none (Made made) none = absurd none
  find_none (Unmade alloc) none = tt
  find_none Never none = tt

  -- which phases can be left out
  pub may_skip : (id : ℤ) (refs : List ℤ) (old new : WayStrips) → MarksWay refs old new → StripsFindAll step inside members old → CanSkipEach step inside (a_way id refs) members new
  may_skip id refs (Made old) (Made new) marked find = (
    skip_each old.strips step inside id refs members new.marks.items 0 find.0 find.1 (λ k named_for. marked.1.set k (subst (λ n. names_any old.strips refs n ≡ true) (omega arith) named_for)) (marked.1.as_many ∙ find.2),
    subst (λ s. NamesEachSet s 0 (member_ids inside members)) (sym marked.0) find.1,
  )
  may_skip id refs (Made old) (Unmade alloc) marked find = tt
  may_skip id refs (Made old) Never marked find = tt
  may_skip id refs (Unmade alloc) new marked find = subst (CanSkipEach step inside (a_way id refs) members) (sym marked) tt
  may_skip id refs Never new marked find = subst (CanSkipEach step inside (a_way id refs) members) (sym marked) tt

  pub all_left_out : (id : ℤ) (refs : List ℤ) (old : WayStrips) → FindsNobody refs old → StripsFindAll step inside members old → members ≡ map (λ of. stepped step of (a_way id refs)) members
  all_left_out id refs (Made old) none find = all_same old.strips step inside id refs members 0 find.0 find.1 none
  all_left_out id refs (Unmade alloc) none find = absurd none
  all_left_out id refs Never none find = absurd none
