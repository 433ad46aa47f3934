-- The least of a joined list is the lesser of the least of its parts.
use Rattle.std.proofs.Common.{◌≡◌, ℕ, List, [], ◌∷◌, ◌++◌, Bool, refl, ap, sym, ◌∙◌, arith, inl, inr}
use Rattle.std.specs.Prelude.{true, false, Option, Some, None, if◌then◌else◌}
use Rattle.pbf_wire.specs.declared.fault.Fault.{Fault}
use Rattle.pbf_wire.specs.Least.{is_less, lesser_by, least_by, lesser, least, fault_rank, IsLeastBy, NoneLess, IsOne}

pub less_less : (xs ys zs : List ℕ) → is_less ys xs ≡ true → is_less zs ys ≡ true → is_less zs xs ≡ true
less_less [] [] zs p q = absurd (cc)
less_less [] (y ∷ ys) zs p q = absurd (cc)
less_less (x ∷ xs) [] [] p q = refl
less_less (x ∷ xs) [] (z ∷ zs) p q = absurd (cc)
less_less (x ∷ xs) (y ∷ ys) [] p q = refl
less_less (x ∷ xs) (y ∷ ys) (z ∷ zs) p q = grind (arith, less_less xs ys zs)

pub not_less : (xs ys zs : List ℕ) → is_less ys xs ≡ false → is_less zs ys ≡ false → is_less zs xs ≡ false
not_less [] [] [] p q = refl
not_less [] [] (z ∷ zs) p q = refl
not_less [] (y ∷ ys) [] p q = absurd (cc)
not_less [] (y ∷ ys) (z ∷ zs) p q = refl
not_less (x ∷ xs) [] zs p q = absurd (cc)
not_less (x ∷ xs) (y ∷ ys) [] p q = absurd (cc)
not_less (x ∷ xs) (y ∷ ys) (z ∷ zs) p q = grind (arith, not_less xs ys zs)

pub lesser_none : {X : Type 0} (key : X → List ℕ) (f : Option X) → lesser_by key f None ≡ f
lesser_none key f = grind arith

pub lesser_joined : {X : Type 0} (key : X → List ℕ) (f g h : Option X) → lesser_by key (lesser_by key f g) h ≡ lesser_by key f (lesser_by key g h)
lesser_joined key f g h = grind (arith, less_less, not_less)

pub least_joined : {X : Type 0} (key : X → List ℕ) (xs ys : List X) → least_by key (xs ++ ys) ≡ lesser_by key (least_by key xs) (least_by key ys)
least_joined key [] ys = refl
least_joined key (x ∷ xs) ys = ap (λ w. lesser_by key (Some x) w) (least_joined key xs ys) ∙ sym (lesser_joined key (Some x) (least_by key xs) (least_by key ys))

-- a least so far, and the parts still to come
pub least_more : (f : Option Fault) (xs ys : List Fault) → lesser (lesser f (least xs)) (least ys) ≡ lesser f (least (xs ++ ys))
least_more f xs ys = lesser_joined fault_rank f (least xs) (least ys) ∙ ap (λ w. lesser f w) (sym (least_joined fault_rank xs ys))

-- nothing is to come
pub lesser_nothing : (f : Option Fault) → lesser f (least []) ≡ f
lesser_nothing f = lesser_none fault_rank f

-- two parts
pub lesser_parts : (xs ys : List Fault) → lesser (least xs) (least ys) ≡ least (xs ++ ys)
lesser_parts xs ys = sym (least_joined fault_rank xs ys)

-- ---- the least of a list is one of it, and none of it is less

never_less : (xs : List ℕ) → is_less xs xs ≡ false
never_less [] = refl
never_less (x ∷ xs) = grind (arith, never_less xs)

one_way : (xs ys : List ℕ) → is_less xs ys ≡ true → is_less ys xs ≡ false
one_way [] [] h = refl
one_way [] (y ∷ ys) h = refl
one_way (x ∷ xs) [] h = absurd (cc)
one_way (x ∷ xs) (y ∷ ys) h = grind (arith, one_way xs ys)

below_all : {X : Type 0} (key : X → List ℕ) (x g : X) (fs : List X) → is_less (key g) (key x) ≡ false → NoneLess key g fs → NoneLess key x fs
below_all key x g [] e h = tt
below_all key x g (y ∷ ys) e h = (not_less (key x) (key g) (key y) e h.0, below_all key x g ys e h.1)

chosen_least : {X : Type 0} (key : X → List ℕ) (x g : X) (fs : List X) (b : Bool) → is_less (key g) (key x) ≡ b → IsOne g fs × NoneLess key g fs → IsLeastBy key (if b then Some g else Some x) (x ∷ fs)
chosen_least key x g fs true e h = (inr h.0, (one_way (key g) (key x) e, h.1))
chosen_least key x g fs false e h = (inl refl, (never_less (key x), below_all key x g fs e h.1))

step_least : {X : Type 0} (key : X → List ℕ) (x : X) (rest : Option X) (fs : List X) → IsLeastBy key rest fs → IsLeastBy key (lesser_by key (Some x) rest) (x ∷ fs)
step_least key x None [] h = (inl refl, (never_less (key x), tt))
step_least key x None (y ∷ ys) h = absurd (cc)
step_least key x (Some g) fs h = chosen_least key x g fs (is_less (key g) (key x)) refl h

pub least_is : {X : Type 0} (key : X → List ℕ) (fs : List X) → IsLeastBy key (least_by key fs) fs
least_is key [] = refl
least_is key (x ∷ fs) = step_least key x (least_by key fs) fs (least_is key fs)
