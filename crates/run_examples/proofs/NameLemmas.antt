-- Whether two names are the same.
use Rattle.std.proofs.Common.{◌≡◌, ◌⊎◌, inl, inr, ℕ, List, Bool, true, false, refl, sym, ◌∙◌}
use Rattle.std.proofs.lemmas.Slice.Eq.{bytes_eq-Decides}
use Rattle.std.specs.Str.{bytes_eq}
use Rattle.run_examples.proofs.FlagLemmas.{true_false}

pub which : (a b : List ℕ) → (a ≡ b) ⊎ (a ≡ b → ⊥)
which a b = of (bytes_eq a b) refl where
  of : (t : Bool) → bytes_eq a b ≡ t → (a ≡ b) ⊎ (a ≡ b → ⊥)
  of true e = inl ((bytes_eq-Decides a b).0 e)
  of false e = inr (λ same. true_false (sym ((bytes_eq-Decides a b).1 same) ∙ e))
