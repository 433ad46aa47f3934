-- Signed numbers, differences and sums undo each other.
use Rattle.std.proofs.Common.{◌≡◌, Option, Some, None, ℕ, zero, suc, ◌+◌, ◌/◌, ◌^◌, ◌<◌, ◌≤◌, true, ℤ, pos, negsuc, ◌+ℤ◌, ◌-ℤ◌, List, [], ◌∷◌, length, map, refl, sym, ap, ap₂, ◌∙◌, arith, rules}
use Rattle.std.specs.Prelude.{◌<ℤ◌, ◌≤ℤ◌, neg_ℤ}
use Rattle.std.specs.List.{range_with_len, AllByRecursion}
use Rattle.std.proofs.Math.Nat.{pow-suc}
use Rattle.std.proofs.lemmas.Int.{ints}
use Rattle.std.proofs.lemmas.Bool.{le-ltb}
use Rattle.std.proofs.lemmas.Bool.Decides.{nat_tests}
use Rattle.pbf_wire.specs.Varint.{shortest, spelled_within}
use Rattle.pbf_wire.specs.Signed.{zigzag, unzigzag, low_i32, low_i64, sign_extended, IsWithin, is_within}
use Rattle.pbf_wire.specs.Sums.{sum_at, sums, sums_from, sums_within, added, differences, deltas}

-- ---- one number

pub unzigzag_zigzag : (z : ℤ) → unzigzag (zigzag z) ≡ z
unzigzag_zigzag z = grind (arith, nat_tests)

zigzag_fits : (z : ℤ) → neg_ℤ (pos (2 ^ 63)) <ℤ z → z <ℤ pos (2 ^ 63) → zigzag z < 2 ^ 64
zigzag_fits z below above = grind (arith, ints)

-- strictly between -2^62 and 2^62
abbrev pub IsSmall : ℤ → Type 0
IsSmall z = IsWithin (pos (2 ^ 62)) z

pub small_zero : IsSmall (pos 0)
small_zero = record { above = omega (arith, ints); below = omega (arith, ints) }

pub difference_fits : (a b : ℤ) → IsSmall a → IsSmall b → zigzag (a -ℤ b) < 2 ^ 64
difference_fits a b p q = zigzag_fits (a -ℤ b) (omega (arith, ints)) (omega (arith, ints))

-- all 64 bits are read back
pub signs_read : (z : ℤ) → neg_ℤ (pos (2 ^ 63)) ≤ℤ z → z <ℤ pos (2 ^ 63) → low_i64 (sign_extended z) ≡ z
signs_read z above below = grind (arith, ints, nat_tests)

pub signs_fit : (z : ℤ) → neg_ℤ (pos (2 ^ 63)) ≤ℤ z → z <ℤ pos (2 ^ 63) → sign_extended z < 2 ^ 64
signs_fit z above below = grind (arith, ints)

-- and the low 32
pub low_signs_read : (z : ℤ) → neg_ℤ (pos (2 ^ 31)) ≤ℤ z → z <ℤ pos (2 ^ 31) → low_i32 (sign_extended z) ≡ z
low_signs_read z above below = grind (arith, ints, nat_tests)

-- ---- a negative number takes ten bytes

power_positive : (n : ℕ) → 1 ≤ 128 ^ n
power_positive zero = omega arith
power_positive (suc n) = omega (arith, pow-suc 128 n, power_positive n)

long : (n v : ℕ) → 128 ^ n ≤ v → length (spelled_within n v) ≡ n + 1
unfolding spelled_within
long zero v le = omega arith
long (suc n) v le = grind (arith, pow-suc, power_positive, le-ltb, long n (v / 128) (omega arith))

pub ten_bytes : (n : ℕ) → n < 2 ^ 63 → length (shortest (sign_extended (negsuc n))) ≡ 10
unfolding shortest
ten_bytes n lt = long 9 (sign_extended (negsuc n)) (omega arith)

-- ---- columns

abbrev below_64 : ℕ → Type 0
below_64 n = n < 2 ^ 64

differences_fit : (start : ℤ) (values : List ℤ) → IsSmall start → AllByRecursion IsSmall values → AllByRecursion below_64 (map zigzag (differences start values))
differences_fit start [] p h = tt
differences_fit start (v ∷ vs) p h = (difference_fits v start h.0 p, differences_fit v vs h.0 h.1)

pub deltas_fit : (values : List ℤ) → AllByRecursion IsSmall values → AllByRecursion (λ n. n < 2 ^ 64) (deltas values)
deltas_fit values h = differences_fit (pos 0) values small_zero h

pub sums_undo_differences : (start : ℤ) (values : List ℤ) → sums_from start (differences start values) ≡ values
sums_undo_differences start [] = refl
sums_undo_differences start (v ∷ vs) = grind (arith, ints, sums_undo_differences v vs)

all_unzigzag : (ds : List ℤ) → map unzigzag (map zigzag ds) ≡ ds
all_unzigzag [] = refl
all_unzigzag (d ∷ ds) = ap₂ (λ (x : ℤ) (xs : List ℤ). x ∷ xs) (unzigzag_zigzag d) (all_unzigzag ds)

pub sums_undo_deltas : (values : List ℤ) → sums_from (pos 0) (map unzigzag (deltas values)) ≡ values
sums_undo_deltas values = ap (sums_from (pos 0)) (all_unzigzag (differences (pos 0) values)) ∙ sums_undo_differences (pos 0) values

-- ---- running sums are the sums of all prefixes, each by itself

shifted : {X : Type 0} (f : ℕ → X) (a n : ℕ) → map f (range_with_len (a + 1) n) ≡ map (λ i. f (i + 1)) (range_with_len a n)
shifted f a zero = refl
shifted {X = X} f a (suc n) = ap (λ (xs : List X). f (a + 1) ∷ xs) (shifted f (a + 1) n)

pub from_index : {X : Type 0} (f : ℕ → X) (n : ℕ) → map f (range_with_len 0 (suc n)) ≡ f 0 ∷ map (λ i. f (i + 1)) (range_with_len 0 n)
from_index {X = X} f n = ap (λ (xs : List X). f 0 ∷ xs) (shifted f 0 n)

pub same_map : {X : Type 0} (f g : ℕ → X) (a n : ℕ) → ((i : ℕ) → f i ≡ g i) → map f (range_with_len a n) ≡ map g (range_with_len a n)
same_map f g a zero h = refl
same_map {X = X} f g a (suc n) h = ap₂ (λ (x : X) (xs : List X). x ∷ xs) (h a) (same_map f g (a + 1) n h)

sum_at-suc : (d : ℤ) (ds : List ℤ) (i : ℕ) → sum_at (d ∷ ds) (i + 1) ≡ d +ℤ sum_at ds i
sum_at-suc d ds i = let e : i + 1 + 1 ≡ suc (i + 1) = omega arith in rw e refl

later_sum : (start d : ℤ) (ds : List ℤ) (i : ℕ) → start +ℤ sum_at (d ∷ ds) (i + 1) ≡ (start +ℤ d) +ℤ sum_at ds i
later_sum start d ds i = rw (sum_at-suc d ds i) (omega (arith, ints))

by_index : (start : ℤ) (ds : List ℤ) → sums_from start ds ≡ map (λ i. start +ℤ sum_at ds i) (range_with_len 0 (length ds))
by_index start [] = refl
by_index start (d ∷ ds) =
    let sum = start +ℤ d in
    let first : start +ℤ sum_at (d ∷ ds) 0 ≡ sum = omega (arith, ints) in
    cc (first, by_index sum ds, same_map (λ i. start +ℤ sum_at (d ∷ ds) (i + 1)) (λ i. sum +ℤ sum_at ds i) 0 (length ds) (later_sum start d ds), from_index (λ i. start +ℤ sum_at (d ∷ ds) i) (length ds))

pub running_sums : (ds : List ℤ) → sums_from (pos 0) ds ≡ sums ds
running_sums ds = by_index (pos 0) ds ∙ same_map (λ i. pos 0 +ℤ sum_at ds i) (sum_at ds) 0 (length ds) (λ i. omega (arith, ints))

pub sums_of_deltas : (values : List ℤ) → sums (map unzigzag (deltas values)) ≡ values
sums_of_deltas values = sym (running_sums (map unzigzag (deltas values))) ∙ sums_undo_deltas values

-- ---- sums that are all in range

pub within_true : (limit n : ℤ) → IsWithin limit n → is_within limit n ≡ true
within_true limit n h = search (rules, h.above, h.below)

pub added_within : (limit total number : ℤ) → IsWithin limit (total +ℤ number) → added limit total number ≡ Some (total +ℤ number)
unfolding added
added_within limit total number h = rw (within_true limit (total +ℤ number) h) refl

pub within_is : (limit n : ℤ) → is_within limit n ≡ true → IsWithin limit n
within_is limit n h = record { above = search rules; below = search rules }

pub added_out : (limit total number : ℤ) → ¬ IsWithin limit (total +ℤ number) → added limit total number ≡ None
unfolding added
added_out limit total number h = grind (arith, within_is)

abbrev pub then_more : ℤ → List ℤ → Option ℤ → List ℤ
then_more limit ds sum = elim sum [ None ↦ [] | Some sum ↦ sum ∷ sums_within limit sum ds ]

pub all_within : (limit start : ℤ) (ds : List ℤ) → AllByRecursion (IsWithin limit) (sums_from start ds) → sums_within limit start ds ≡ sums_from start ds
all_within limit start [] h = refl
all_within limit start (d ∷ ds) h = grind (arith, added_within, all_within limit (start +ℤ d) ds h.1)

pub sums_in_range : (limit : ℤ) (ds : List ℤ) → AllByRecursion (IsWithin limit) (sums ds) → sums_within limit (pos 0) ds ≡ sums ds
sums_in_range limit ds h = grind (arith, all_within, running_sums)
