-- Logs that know what a feed had to give: their numbers, and what they say once the feed is at its end.
use Rattle.std.proofs.Common.{◌≡◌, ◌<◌, ℕ, zero, suc, List, [], ◌∷◌, Option, Some, None, refl, sym, arith}
use Rattle.std.proofs.lemmas.List.{append-nil}
use Rattle.pbf_frame.specs.declared.device.Feed as feed
use Rattle.pbf_frame.proofs.KnownBytes.{prepend_none}
use Rattle.pbf_published.specs.Published.{HasTraced, list_number, log_number, pair_number, start_number}

-- ---- no two pairs, lists or logs have one number

pair_some : (a b : ℕ) → 0 < pair_number a b
pair_some zero b = omega arith
pair_some (suc a) b = omega (arith, pair_some a b)

same_pair : (a b c d : ℕ) → pair_number a b ≡ pair_number c d → (a ≡ c) × (b ≡ d)
same_pair zero b zero d is = (refl, omega (arith, is))
same_pair zero b (suc c) d is = (let bad : ⊥ = omega (arith, is) in absurd bad)
same_pair (suc a) b zero d is = (let bad : ⊥ = omega (arith, is) in absurd bad)
same_pair (suc a) b (suc c) d is = grind (arith, same_pair a b c d (omega (arith, is)))

same_list : (xs ys : List ℕ) → list_number xs ≡ list_number ys → xs ≡ ys
same_list [] [] is = refl
same_list [] (y ∷ ys) is = (let bad : ⊥ = omega (arith, is, pair_some y (list_number ys)) in absurd bad)
same_list (x ∷ xs) [] is = (let bad : ⊥ = omega (arith, is, pair_some x (list_number xs)) in absurd bad)
same_list (x ∷ xs) (y ∷ ys) is = grind (arith, same_pair x (list_number xs) y (list_number ys) is, same_list xs ys ((same_pair x (list_number xs) y (list_number ys) is).1))

same_start : (a b : ℕ) (start other : Option (List ℕ)) → start_number a start ≡ start_number b other → (a ≡ b) × (start ≡ other)
same_start a b None None is = ((same_pair a 0 b 0 is).0, refl)
same_start a b None (Some ys) is = (let bad : ⊥ = (let same = same_pair a 0 b (suc (list_number ys)) is in omega (arith, same.1)) in absurd bad)
same_start a b (Some xs) None is = (let bad : ⊥ = (let same = same_pair a (suc (list_number xs)) b 0 is in omega (arith, same.1)) in absurd bad)
same_start a b (Some xs) (Some ys) is = grind (arith, same_pair a (suc (list_number xs)) b (suc (list_number ys)) is, same_list xs ys (omega (arith, (same_pair a (suc (list_number xs)) b (suc (list_number ys)) is).1)))

same_log : (a b c d : ℕ) (start other : Option (List ℕ)) → log_number a b start ≡ log_number c d other → ((a ≡ c) × (b ≡ d)) × (start ≡ other)
same_log a b c d start other is = grind (arith, same_start (pair_number a b) (pair_number c d) start other is, same_pair a b c d ((same_start (pair_number a b) (pair_number c d) start other is).0))

-- ---- what the logs say

-- at its start a feed has a log for each two below
pub traced_from : {F : Type 0} (f : feed.Ghosts F) (start : F) (one two : ℕ) → f.has_passed start one [] → f.has_passed start two [] → HasTraced f start (log_number one two (f.remaining start)) []
traced_from f start one two passed also = record { one = one; two = two; start = f.remaining start; number = refl; passed = (passed, also); told = sym (prepend_none (f.remaining start)) }

-- what passed below
pub traced_below : {F : Type 0} (f : feed.Ghosts F) (now : F) (one two : ℕ) (start : Option (List ℕ)) (bytes : List ℕ) → HasTraced f now (log_number one two start) bytes → f.has_passed now one bytes × f.has_passed now two bytes
traced_below f now one two start bytes has = grind (arith, same_log one two has.one has.two start has.start has.number, f.has_passed now)

-- and if nothing is left, that is all that there was
pub traced_all : {F : Type 0} (f : feed.Ghosts F) (now : F) (one two : ℕ) (start : Option (List ℕ)) (bytes : List ℕ) → f.remaining now ≡ Some [] → HasTraced f now (log_number one two start) bytes → start ≡ Some bytes
traced_all f now one two start bytes ended has = grind (arith, same_log one two has.one has.two start has.start has.number, append-nil bytes)
