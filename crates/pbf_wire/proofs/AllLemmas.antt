-- What holds of each element of a list.
use Rattle.std.proofs.Common.{◌≤◌, ℕ, zero, suc, Bool, true, false, cond, List, [], ◌∷◌, ◌++◌, map, take, drop, filter, arith}
use Rattle.std.specs.List.{AllByRecursion}

pub all_append : {X : Type 0} (P : X → Type 0) (xs ys : List X) → AllByRecursion P xs → AllByRecursion P ys → AllByRecursion P (xs ++ ys)
all_append P [] ys p q = q
all_append P (x ∷ xs) ys p q = (p.0, all_append P xs ys p.1 q)

pub all_left : {X : Type 0} (P : X → Type 0) (xs ys : List X) → AllByRecursion P (xs ++ ys) → AllByRecursion P xs
all_left P [] ys h = tt
all_left P (x ∷ xs) ys h = (h.0, all_left P xs ys h.1)

pub all_right : {X : Type 0} (P : X → Type 0) (xs ys : List X) → AllByRecursion P (xs ++ ys) → AllByRecursion P ys
all_right P [] ys h = h
all_right P (x ∷ xs) ys h = all_right P xs ys h.1

pub all_push : {X : Type 0} (P : X → Type 0) (xs : List X) (x : X) → AllByRecursion P xs → P x → AllByRecursion P (xs ++ x ∷ [])
all_push P xs x h p = all_append P xs (x ∷ []) h (p, tt)

pub all_middle : {X : Type 0} (P : X → Type 0) (xs : List X) (x : X) (ys : List X) → AllByRecursion P (xs ++ x ∷ ys) → P x
all_middle P xs x ys h = (all_right P xs (x ∷ ys) h).0

pub all_weaker : {X : Type 0} (P Q : X → Type 0) → ((x : X) → P x → Q x) → (xs : List X) → AllByRecursion P xs → AllByRecursion Q xs
all_weaker P Q each [] h = tt
all_weaker P Q each (x ∷ xs) h = (each x h.0, all_weaker P Q each xs h.1)

pub all_each : {X : Type 0} (P : X → Type 0) → ((x : X) → P x) → (xs : List X) → AllByRecursion P xs
all_each P each [] = tt
all_each P each (x ∷ xs) = (each x, all_each P each xs)

pub all_map : {X Y : Type 0} (P : Y → Type 0) (f : X → Y) (xs : List X) → AllByRecursion (λ x. P (f x)) xs → AllByRecursion P (map f xs)
all_map P f [] h = tt
all_map P f (x ∷ xs) h = (h.0, all_map P f xs h.1)

pub all_take : {X : Type 0} (P : X → Type 0) (n : ℕ) (xs : List X) → AllByRecursion P xs → AllByRecursion P (take n xs)
all_take P (suc n) (x ∷ xs) h = (h.0, all_take P n xs h.1)
all_take P n xs h = tt

pub all_drop : {X : Type 0} (P : X → Type 0) (n : ℕ) (xs : List X) → AllByRecursion P xs → AllByRecursion P (drop n xs)
all_drop P zero xs h = h
all_drop P (suc n) [] h = tt
all_drop P (suc n) (x ∷ xs) h = all_drop P n xs h.1

-- fewer of them
pub all_fewer : {X : Type 0} (P : X → Type 0) (k n : ℕ) (xs : List X) → k ≤ n → AllByRecursion P (take n xs) → AllByRecursion P (take k xs)
all_fewer P (suc k) zero xs le h = absurd (omega (arith, le))
all_fewer P (suc k) (suc n) (x ∷ xs) le h = (h.0, all_fewer P k n xs (omega (arith, le)) h.1)
all_fewer P k n xs le h = tt

kept_or_not : {X : Type 0} (P : X → Type 0) (b : Bool) (x : X) (xs : List X) → P x → AllByRecursion P xs → AllByRecursion P (cond b (x ∷ xs) xs)
kept_or_not P true x xs p h = (p, h)
kept_or_not P false x xs p h = h

pub all_filter : {X : Type 0} (P : X → Type 0) (test : X → Bool) (xs : List X) → AllByRecursion P xs → AllByRecursion P (filter test xs)
all_filter P test [] h = tt
all_filter P test (x ∷ xs) h = kept_or_not P (test x) x (filter test xs) h.0 (all_filter P test xs h.1)
