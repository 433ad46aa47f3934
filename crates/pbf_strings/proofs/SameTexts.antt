-- Texts that are compared by numbers of four or eight bytes.
use Rattle.std.proofs.Common.{◌≡◌, ℕ, inl, inr, Bool, false, ◌+◌, ◌-◌, ◌≤◌, ◌<◌, List, length, take, drop, sym, ap, ◌∙◌, arith, IsTrue, nat_eq, take-append-drop, get_or, length-take-le}
use Rattle.std.proofs.lemmas.List.{take_rest, take_all, drop-drop, length-drop, get_or-take, get_or_past}
use Rattle.std.proofs.lemmas.Bool.Decides.{nat_tests}
use Rattle.std.proofs.lemmas.Bool.{cases_lt}

-- runs of bytes that can be read back from their numbers are the same if these are
pub told : (back : ℕ → List ℕ) (read : List ℕ → ℕ) (m n : ℕ) (one other xs ys : List ℕ) → back m ≡ one → back n ≡ other → m ≡ read one → n ≡ read other → one ≡ xs → other ≡ ys
    → (IsTrue (nat_eq m n) → xs ≡ ys) × (xs ≡ ys → IsTrue (nat_eq m n))
told back read m n one other xs ys a b e f g h = (
  λ t. let same : m ≡ n = grind (arith, nat_tests) in sym g ∙ (sym a ∙ (ap back same ∙ (b ∙ h))),
  λ t. let same : m ≡ n = e ∙ (ap read (g ∙ (t ∙ sym h)) ∙ sym f) in grind (arith, nat_tests),
)

-- texts whose first and whose last n bytes are the same, if these meet
pub meet : (n last : ℕ) (xs ys : List ℕ) → length xs ≡ length ys → last + n ≡ length xs → last ≤ n → take n xs ≡ take n ys → take n (drop last xs) ≡ take n (drop last ys) → xs ≡ ys
meet n last xs ys long whole close first e =
    let ends : drop last xs ≡ drop last ys = sym (take_all n (drop last xs) (omega (arith, length-drop last xs))) ∙ (e ∙ take_all n (drop last ys) (omega (arith, length-drop last ys))) in
    let there : last + (n - last) ≡ n = omega arith in
    grind (arith, there, ends, drop-drop (n - last) last xs, drop-drop (n - last) last ys, take-append-drop n xs, take-append-drop n ys, first)

-- the bytes of a prefix are bytes
pub small : (n : ℕ) (xs front : List ℕ) → n ≤ length xs → front ≡ take n xs → ((i : ℕ) → get_or xs i 0 < 256) → (i : ℕ) → get_or front i 0 < 256
small n xs front enough e all i = rw e (elim (cases_lt i n) [
  | inl lt ↦ rw (get_or-take n xs i 0 lt) (all i)
  | inr ge ↦ rw (get_or_past (take n xs) i 0 (omega (arith, length-take-le n xs enough))) (omega arith)
])

-- texts are the same if their first and their last n bytes are, and these meet
pub both_ends : (n last : ℕ) (xs ys : List ℕ) (ends : Bool) → length xs ≡ length ys → last + n ≡ length xs → last ≤ n → take n xs ≡ take n ys
    → ((IsTrue ends → take n (take (length xs - last) (drop last xs)) ≡ take n (take (length ys - last) (drop last ys))) × (take n (take (length xs - last) (drop last xs)) ≡ take n (take (length ys - last) (drop last ys)) → IsTrue ends))
    → (IsTrue ends → xs ≡ ys) × (xs ≡ ys → IsTrue ends)
both_ends n last xs ys ends long whole close first e = (
  λ t. meet n last xs ys long whole close first (ap (take n) (sym (take_rest xs last)) ∙ (e.0 t ∙ ap (take n) (take_rest ys last))),
  λ t. e.1 (ap (λ (w : List ℕ). take n (take (length w - last) (drop last w))) t),
)

pub first_end : (n : ℕ) (xs ys : List ℕ) (first : Bool) → first ≡ false → (take n xs ≡ take n ys → IsTrue first) → (IsTrue first → xs ≡ ys) × (xs ≡ ys → IsTrue first)
first_end n xs ys first other e = (λ t. absurd cc, λ t. e (ap (take n) t))
