-- The mask of the bytes below 128, and how many there are.
use Rattle.std.proofs.Common.{◌≡◌, ◌↔◌, ℕ, zero, suc, ◌+◌, ◌-◌, ◌/◌, ◌^◌, ◌<◌, List, [], ◌∷◌, ◌++◌, replicate, Bool, false, cond, ltb, length, get_or, map, refl, sym, ap, ◌∙◌, arith, take, drop, bit_and}
use Rattle.std.specs.Prelude.{nat_lt, count_by, IsBitSet, slice_index}
use Rattle.std.specs.Simd.Lanes.{mask_l}
use Rattle.std.proofs.lemmas.Simd.{bit_mask_l, mask_l-lt}
use Rattle.std.proofs.lemmas.Bool.{ltb-true, ltb-false}
use Rattle.std.proofs.lemmas.Nat.{bit_set_by_shift, and_mask}
use Rattle.std.proofs.lemmas.List.Sums.{sum_by-append, sum_by-cons}
use Rattle.std.proofs.lemmas.List.{take-append-drop, length-map, drop-replicate}

abbrev pub is_end : ℕ → Bool
is_end b = nat_lt b 128

-- a block and what comes after it
pub count_split : (n : ℕ) (bytes : List ℕ) → count_by is_end bytes ≡ count_by is_end (take n bytes) + count_by is_end (drop n bytes)
count_split n bytes = ap (count_by is_end) (sym (take-append-drop n bytes)) ∙ sum_by-append (λ b. cond (is_end b) 1 0) (take n bytes) (drop n bytes)

zeros_end : (n : ℕ) → count_by is_end (replicate n 0) ≡ n
zeros_end zero = refl
zeros_end (suc n) = let one : count_by is_end (replicate (suc n) 0) ≡ 1 + count_by is_end (replicate n 0) = sum_by-cons (λ b. cond (is_end b) 1 0) 0 (replicate n 0) in omega (arith, one, zeros_end n)

-- bytes that are filled up with zeros
pub filled_up : (bytes front : List ℕ) → front ≡ bytes → count_by is_end (front ++ drop (length bytes) (replicate 64 0)) ≡ count_by is_end bytes + (64 - length bytes)
filled_up bytes front is =
    let rest = drop (length bytes) (replicate 64 0) in
    sum_by-append (λ b. cond (is_end b) 1 0) front rest ∙ ap (λ (xs : List ℕ). count_by is_end xs + count_by is_end rest) is ∙ ap (λ n. count_by is_end bytes + n) (ap (λ (xs : List ℕ). count_by is_end xs) (drop-replicate (length bytes) 64 0) ∙ zeros_end (64 - length bytes))

pub mask_small : (lanes : List ℕ) → length lanes ≡ 32 → mask_l (map is_end lanes) < 2 ^ 32
mask_small lanes long = omega (arith, mask_l-lt (map is_end lanes), ap (λ n. 2 ^ n) (length-map lanes is_end ∙ long))

-- ---- one bit

tells : (x : ℕ) (b : Bool) → ltb x 128 ≡ b → (cond {A = ℕ} b 1 0 ≡ 1) ↔ (x < 128)
tells x b e = grind (arith, ltb-true, ltb-false)

lane_test : (v : List ℕ) (i : ℕ) → i < length v → get_or (map is_end v) i false ≡ ltb (slice_index v i) 128
lane_test [] i lt = absurd (omega arith)
lane_test (b ∷ bs) zero lt = refl
lane_test (b ∷ bs) (suc i) lt = lane_test bs i (omega arith)

pub bit_of_ends : (v : List ℕ) (i : ℕ) → i < length v → IsBitSet (mask_l (map is_end v)) i ↔ (slice_index v i < 128)
bit_of_ends v i lt =
    let m = mask_l (map is_end v) in
    let e : bit_and (m / 2 ^ i) 1 ≡ cond (ltb (slice_index v i) 128) 1 0 = and_mask (m / 2 ^ i) 1 ∙ bit_mask_l (map is_end v) i ∙ ap (λ b. cond b 1 0) (lane_test v i lt) in
    let t = tells (slice_index v i) _ refl in
    let s = bit_set_by_shift m i in
    (λ h. t.0 (sym e ∙ s.1 h), λ h. s.0 (e ∙ t.1 h))
