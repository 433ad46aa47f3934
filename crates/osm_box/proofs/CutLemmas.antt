-- The pieces of a text between the bytes that it is cut at.
use Rattle.std.proofs.Common.{◌≡◌, ◌∙◌, ℕ, ◌==◌, ◌<◌, Bool, true, false, List, [], ◌∷◌, length, Option, Some, None, ap, refl, rules}
use Rattle.std.specs.Prelude.{nat_lt, cond}
use Rattle.std.specs.List.{slice_split, position_or_len, before_first, after_first}
use Rattle.std.proofs.lemmas.List.Splits.{slice_split_first}
use Rattle.osm_box.specs.Degrees.{cut_of}

abbrev pub pieces_at : (byte : ℕ) → List ℕ → List (List ℕ)
pieces_at byte text = slice_split (λ b. b == byte) text

lt_is : (a b : ℕ) → nat_lt a b ≡ true → a < b
lt_is a b e = search rules

module _ (byte : ℕ) where
  -- ---- the first piece

  module _ (text piece more : List ℕ) where
    cut_by : (b : Bool) → nat_lt (position_or_len (λ b. b == byte) text) (length text) ≡ b
        → ◌≡◌ {A = Option (List ℕ × List ℕ)} (cond b (Some (before_first (λ b. b == byte) text, after_first (λ b. b == byte) text)) None) (Some (piece, more)) → pieces_at byte text ≡ piece ∷ pieces_at byte more
    cut_by true is e =
        let pair : ◌≡◌ {A = List ℕ × List ℕ} (before_first (λ b. b == byte) text, after_first (λ b. b == byte) text) (piece, more) = cc in
        slice_split_first (λ b. b == byte) text 0 (lt_is _ _ is) ∙ ap (λ (p : List ℕ × List ℕ). p.0 ∷ pieces_at byte p.1) pair
    cut_by false is e = absurd (no e) where
      no : ◌≡◌ {A = Option (List ℕ × List ℕ)} None (Some (piece, more)) → ⊥
      no e = cc

    pub first_piece : cut_of byte text ≡ Some (piece, more) → pieces_at byte text ≡ piece ∷ pieces_at byte more
    first_piece e = cut_by (nat_lt (position_or_len (λ b. b == byte) text) (length text)) refl e

  -- ---- the last one

  whole : (text : List ℕ) → nat_lt (position_or_len (λ b. b == byte) text) (length text) ≡ false → pieces_at byte text ≡ text ∷ []
  whole [] e = refl
  whole (c ∷ cs) e = by (c == byte) refl (whole cs) where
    by : (b : Bool) → (c == byte) ≡ b → (nat_lt (position_or_len (λ b. b == byte) cs) (length cs) ≡ false → pieces_at byte cs ≡ cs ∷ []) → pieces_at byte (c ∷ cs) ≡ (c ∷ cs) ∷ []
    by true is rest = let h = rw is at e in absurd (search rules)
    by false is rest =
        let h = rw is at e in
        let less : nat_lt (position_or_len (λ b. b == byte) cs) (length cs) ≡ false = search rules in
        rw (is, rest less) refl

  module _ (text : List ℕ) where
    uncut_by : (b : Bool) → nat_lt (position_or_len (λ b. b == byte) text) (length text) ≡ b
        → ◌≡◌ {A = Option (List ℕ × List ℕ)} (cond b (Some (before_first (λ b. b == byte) text, after_first (λ b. b == byte) text)) None) None → pieces_at byte text ≡ text ∷ []
    uncut_by true is e = absurd (no e) where
      no : ◌≡◌ {A = Option (List ℕ × List ℕ)} (Some (before_first (λ b. b == byte) text, after_first (λ b. b == byte) text)) None → ⊥
      no e = cc
    uncut_by false is e = whole text is

    pub last_piece : cut_of byte text ≡ None → pieces_at byte text ≡ text ∷ []
    last_piece e = uncut_by (nat_lt (position_or_len (λ b. b == byte) text) (length text)) refl e
