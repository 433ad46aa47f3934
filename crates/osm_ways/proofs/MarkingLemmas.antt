-- Marking the sets that are named for one after another of a list.
use Rattle.std.proofs.Common.{◌≡◌, ◌∙◌, ℕ, zero, suc, ℤ, Bool, true, false, true≢false, ◌||◌, List, [], ◌∷◌, drop, take, inl, inr, refl, sym, ap}
use Rattle.std.specs.Prelude.{nat_eq}
use Rattle.std.specs.List.{list_any}
use Rattle.std.proofs.lemmas.Bool.{cases_Bool, or_parts}
use Rattle.osm_ids.specs.Strips.{Marks, MarksNamed, names_any, named_at}
use Rattle.osm_ids.specs.declared.strips.IdStrips.{IdStrips}
use Rattle.pbf_wire.specs.declared.span.Span.{Span}
use Rattle.pbf_wire.specs.Spans.{AreAlike, is_in}

-- ---- by any test

module _ {X : Type 0} (names : ℕ → X → Bool) where
  -- the set of this number is named for one of all, and for none of those that are left
  abbrev pub IsPassed : (all left : List X) → ℕ → Type 0
  IsPassed all left number = (list_any (names number) all ≡ true) × (list_any (names number) left ≡ false)

  pub passed_none : (all : List X) (marks : List Bool) → MarksNamed (IsPassed all all) marks marks false
  passed_none all marks = record {
    marked = record {
      set = λ number passed. absurd (true≢false (sym passed.0 ∙ passed.1));
      kept = λ number is. is;
      as_many = refl;
    };
    none = λ none number passed. absurd (true≢false (sym passed.0 ∙ passed.1));
  }

  -- marked for one more: a set that isn't named for it is named for none of the rest, if it is for none of those that are left then
  pub passed_more : (all rest left : List X) (x : X) (old now new : List Bool) (some more : Bool) → ((number : ℕ) → names number x ≡ false → list_any (names number) left ≡ false → list_any (names number) rest ≡ false)
      → MarksNamed (IsPassed all rest) old now some → MarksNamed (λ number. names number x ≡ true) now new more → MarksNamed (IsPassed all left) old new (some || more)
  passed_more all rest left x old now new some more absent so_far next = record {
    marked = record {
      set = λ number passed. elim (cases_Bool (names number x)) [
        | inl e ↦ next.marked.set number e
        | inr e ↦ next.marked.kept number (so_far.marked.set number (passed.0, absent number e passed.1))
      ];
      kept = λ number is. next.marked.kept number (so_far.marked.kept number is);
      as_many = next.marked.as_many ∙ so_far.marked.as_many;
    };
    none = λ none number passed. elim (cases_Bool (names number x)) [
      | inl e ↦ next.none (or_parts some more none).1 number e
      | inr e ↦ so_far.none (or_parts some more none).0 number (passed.0, absent number e passed.1)
    ];
  }

-- ---- by strips of ids

-- whether the set of this number is named for an id
abbrev pub is_named : IdStrips → ℕ → ℤ → Bool
is_named strips number id = list_any (nat_eq number) (named_at strips id)

module _ (strips : IdStrips) (id : ℤ) (number : ℕ) (span : Span) (none : is_named strips number id ≡ false) (alike : (other : ℤ) → is_in span other ≡ true → named_at strips other ≡ named_at strips id) where
  -- a set that isn't named for an id isn't named for those that are alike
  passed_alike : (ids : List ℤ) (k : ℕ) → AreAlike span true (take k ids) → names_any strips (drop k ids) number ≡ false → names_any strips ids number ≡ false
  passed_alike [] zero there left = refl
  passed_alike [] (suc k) there left = refl
  passed_alike (one ∷ ids) zero there left = left
  passed_alike (one ∷ ids) (suc k) there left =
      let absent : is_named strips number one ≡ false = ap (list_any (nat_eq number)) (alike one there.0) ∙ none in
      ap (λ b. b || names_any strips ids number) absent ∙ passed_alike ids k there.1 left

  pub id_passed : (rest next : List ℤ) (k : ℕ) → rest ≡ id ∷ next → AreAlike span true (take k next) → names_any strips (drop k next) number ≡ false → names_any strips rest number ≡ false
  id_passed rest next k is there left = ap (λ (l : List ℤ). names_any strips l number) is ∙ ap (λ b. b || names_any strips next number) none ∙ passed_alike next k there left
