-- Names in lists, and in sets in their order.
use Rattle.std.proofs.Common.{◌≡◌, ◌∙◌, ℕ, Bool, true, false, List, [], ◌∷◌, ◌++◌, map, refl, ap, Bor}
use Rattle.std.specs.Prelude.{◌||◌, cond}
use Rattle.std.specs.Cmp.Lexicographic.{slice_cmp}
use Rattle.std.specs.List.{list_any}
use Rattle.std.specs.Ordering.{is_eq, nat_cmp}
use Rattle.std.specs.Str.{bytes_eq}
use Rattle.std.proofs.lemmas.Cmp.{nat_list_eq_equiv}
use Rattle.std.proofs.lemmas.List.Folds.{list_any-append}
use Rattle.std.proofs.lemmas.Map.Text.{is_eq-slice_cmp}

-- a name is among texts if it is among their bytes
pub any_named : (name : List ℕ) (texts : List (Bor (List ℕ))) → list_any (λ t. bytes_eq t.now name) texts ≡ list_any (λ n. bytes_eq n name) (map (λ t. t.now) texts)
any_named name [] = refl
any_named name (t ∷ texts) = ap (λ b. bytes_eq t.now name || b) (any_named name texts)

-- the names before, and one more
pub with_one : (name q : List ℕ) (before : List (List ℕ)) → cond (is_eq (slice_cmp nat_cmp name q)) true (list_any (bytes_eq q) before) ≡ list_any (bytes_eq q) (before ++ name ∷ [])
with_one name q before = rw (is_eq-slice_cmp name q ∙ nat_list_eq_equiv.symm name q, list_any-append (bytes_eq q) before (name ∷ [])) (by (bytes_eq q name) (list_any (bytes_eq q) before)) where
  by : (b a : Bool) → cond b true a ≡ (a || (b || false))
  by true true = refl
  by true false = refl
  by false true = refl
  by false false = refl
