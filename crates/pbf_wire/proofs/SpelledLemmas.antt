-- Bytes that are needed, many at once.
use Rattle.std.proofs.Common.{◌≡◌, ◌<◌, ◌≤◌, ◌+◌, ◌-◌, ◌*◌, ◌/◌, ◌%◌, ◌^◌, ℕ, zero, suc, Bool, true, false, cond, ltb, List, [], ◌∷◌, length, map, replicate, take, drop, refl, sym, ap, subst, ◌∙◌, arith, w8}
use Rattle.std.specs.Simd.Lanes.{mask_l, zip2, top}
use Rattle.std.proofs.lemmas.Bool.Decides.{nat_tests}
use Rattle.std.proofs.lemmas.List.{length-map, length-take-le}
use Rattle.std.proofs.lemmas.Simd.{mask_l-mod, tops_compared, length-zip2}
use mir.Val.{bits, hbits}
use Rattle.pbf_wire.specs.Varint.{AreNeeded}

-- none of the second bytes is 0 if the first beside it goes on
abbrev pub AreMet : List ℕ → List ℕ → Type 0
AreMet [] bs = Unit {0}
AreMet (a ∷ xs) [] = Unit {0}
AreMet (a ∷ xs) (b ∷ bs) = (128 ≤ a → 0 < b) × AreMet xs bs

met_by_mask : (xs bs ls : List ℕ) → ls ≡ map (λ a. a / 128) xs → mask_l (zip2 ltb bs ls) ≡ 0 → AreMet xs bs
met_by_mask [] bs ls is none = tt
met_by_mask (a ∷ xs) [] ls is none = tt
met_by_mask (a ∷ xs) (b ∷ bs) ls is none = by (ltb b (a / 128)) refl (met_by_mask xs bs (map (λ a. a / 128) xs) refl)
  where
    all : cond {A = ℕ} (ltb b (a / 128)) 1 0 + 2 * mask_l (zip2 ltb bs (map (λ a. a / 128) xs)) ≡ 0
    all = sym (ap (λ (w : List ℕ). mask_l (zip2 ltb (b ∷ bs) w)) is) ∙ none

    by : (t : Bool) → ltb b (a / 128) ≡ t → (mask_l (zip2 ltb bs (map (λ a. a / 128) xs)) ≡ 0 → AreMet xs bs) → (128 ≤ a → 0 < b) × AreMet xs bs
    by true e more = absurd (let m = ap (λ t. cond {A = ℕ} t 1 0 + 2 * mask_l (zip2 ltb bs (map (λ a. a / 128) xs))) e in omega (arith, all, m))
    by false e more = ((λ on. let least : a / 128 ≤ b = grind (arith, nat_tests, e) in omega (arith, on, least)), more (let m = ap (λ t. cond {A = ℕ} t 1 0 + 2 * mask_l (zip2 ltb bs (map (λ a. a / 128) xs))) e in omega (arith, all, m)))

from_pairs : (n b : ℕ) (bs : List ℕ) → length bs ≤ n → AreMet (take n (b ∷ bs)) bs → AreNeeded b bs
from_pairs n b [] le h = tt
from_pairs zero b (c ∷ cs) le h = absurd (omega (arith, le))
from_pairs (suc n) b (c ∷ cs) le h = (h.0, from_pairs n c cs (omega (arith, le)) h.1)

shifted : (xs : List ℕ) (n : ℕ) → length xs ≡ n → zip2 (λ a k. a / 2 ^ k) xs (replicate n 7) ≡ map (λ a. a / 128) xs
shifted (x ∷ xs) zero long = absurd (omega (arith, long))
shifted (x ∷ xs) (suc n) long = ap (λ (w : List ℕ). (x / 128) ∷ w) (shifted xs n (omega (arith, long)))
shifted xs n long = refl

mask_is : (bs ls : List ℕ) → length bs ≡ 32 → length bs ≡ length ls → mask_l (map (top (hbits w8)) (zip2 (λ a b. cond (ltb a b) (2 ^ bits w8 - 1) 0) bs ls)) % 2 ^ 64 ≡ mask_l (zip2 ltb bs ls)
mask_is bs ls long same = ap (λ ms. mask_l ms % 2 ^ 64) (tops_compared w8 ltb bs ls) ∙ mask_l-mod (zip2 ltb bs ls) 64 (omega (arith, long, length-zip2 ltb bs ls same))

-- a block, by the test of its first and its last 32 bytes
pub block_needed : (block front back : List ℕ) → length block ≡ 33 → front ≡ take 32 block → back ≡ drop 1 block
    → mask_l (map (top (hbits w8)) (zip2 (λ a b. cond (ltb a b) (2 ^ bits w8 - 1) 0) back (zip2 (λ a k. a / 2 ^ k) front (replicate 32 7)))) % 2 ^ 64 ≡ 0 → AreNeeded 0 block
block_needed [] front back long front_is back_is none = tt
block_needed (b ∷ bs) front back long front_is back_is none =
    let few : length front ≡ 32 = ap (λ (w : List ℕ). length w) front_is ∙ length-take-le 32 (b ∷ bs) (omega (arith, long)) in
    let many : length back ≡ 32 = ap (λ (w : List ℕ). length w) back_is ∙ omega (arith, long) in
    let least = map (λ a. a / 128) front in
    let lanes = shifted front 32 few in
    let same : length back ≡ length least = omega (arith, few, many, length-map front (λ a. a / 128)) in
    let mask = sym (mask_is back least many same) ∙ ap (λ (w : List ℕ). mask_l (map (top (hbits w8)) (zip2 (λ a b. cond (ltb a b) (2 ^ bits w8 - 1) 0) back w)) % 2 ^ 64) (sym lanes) ∙ none in
    let met : AreMet front back = met_by_mask front back least refl mask in
    ((λ on. absurd (omega (arith, on))), from_pairs 32 b bs (omega (arith, long)) (subst (λ w. AreMet w bs) front_is (subst (AreMet front) back_is met)))

-- a block before what is left
pub block_before : (n before : ℕ) (bytes : List ℕ) → AreNeeded before (take (suc n) bytes) → AreNeeded 0 (drop n bytes) → AreNeeded before bytes
block_before n before [] h more = tt
block_before zero before (b ∷ bs) h more = (h.0, more.1)
block_before (suc n) before (b ∷ bs) h more = (h.0, block_before n b bs h.1 more)
