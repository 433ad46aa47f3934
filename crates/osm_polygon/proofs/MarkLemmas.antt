-- A byte order mark.
use Rattle.std.proofs.Common.{◌≡◌, ◌≢◌, ◌==◌, ℕ, Bool, true, false, List, [], ◌∷◌, ◌++◌, refl, rules}
use Rattle.std.specs.Prelude.{◌&&◌}
use Rattle.std.specs.Char.{encode_utf8}
use Rattle.std.proofs.lemmas.Bool.{and_parts}
use Rattle.osm_polygon.specs.Texts.{is_marked, without_mark}

-- a text that begins with the mark
pub mark_gone : (rest : List ℕ) → without_mark (encode_utf8 65279 ++ rest) ≡ rest
unfolding encode_utf8
mark_gone rest = refl

same : (a b : ℕ) → (a == b) ≡ true → a ≡ b
same a b e = search rules

-- and one that doesn't
pub no_mark : (t : List ℕ) → ((rest : List ℕ) → t ≢ encode_utf8 65279 ++ rest) → is_marked t ≡ false
unfolding encode_utf8
no_mark [] h = refl
no_mark (a ∷ []) h = by (a == 239) where
  by : (b : Bool) → (b && (false && false)) ≡ false
  by true = refl
  by false = refl
no_mark (a ∷ b ∷ []) h = by (a == 239) (b == 187) where
  by : (x y : Bool) → (x && (y && false)) ≡ false
  by true true = refl
  by true false = refl
  by false y = refl
no_mark (a ∷ b ∷ c ∷ rest) h = by (is_marked (a ∷ b ∷ c ∷ rest)) refl where
  by : (m : Bool) → is_marked (a ∷ b ∷ c ∷ rest) ≡ m → is_marked (a ∷ b ∷ c ∷ rest) ≡ false
  by false e = e
  by true e =
      let parts = and_parts (a == 239) _ e in
      let more = and_parts (b == 187) (c == 191) parts.1 in
      let first : a ≡ 239 = same a 239 parts.0 in
      let second : b ≡ 187 = same b 187 more.0 in
      let third : c ≡ 191 = same c 191 more.1 in
      absurd (h rest (rw (first, second, third) refl))
