-- Decimal digits and what they write.
use Rattle.std.proofs.Common.{◌≡◌, ◌≢◌, ◌∙◌, ap, refl, sym, arith, rules, ℕ, ◌+◌, ◌-◌, ◌*◌, ◌^◌, ◌<◌, ◌≤◌, ◌==◌, ◌&&◌, Bool, true, false, List, [], ◌∷◌, ◌++◌, length, Some, Result, Ok, Err, slice_index, IfSome, nat_le}
use Rattle.std.specs.List.{list_all}
use Rattle.std.specs.Char.{digit_value, is_ascii_digit, encode_utf8}
use Rattle.std.specs.Str.Parse.{AllDigits, ParsesUnsigned, digits_value, without_leading_plus}
use Rattle.std.specs.Result.{result_ok}
use Rattle.std.proofs.lemmas.Nat.{pow-add}
use Rattle.std.proofs.Math.Nat.{mul-lt-mul_of_pos_right, one-le-pow, pow-le-pow_right}
use Rattle.std.proofs.lemmas.Int.Digits.{digits_value-lt}
use Rattle.std.proofs.lemmas.Bool.{and_parts}
use Rattle.osm_box.specs.Degrees.{are_digits, digits_of}

digit_small : (c : ℕ) → is_ascii_digit c ≡ true → digit_value c < 10
digit_small c e = search rules

not_plus : (c : ℕ) → is_ascii_digit c ≡ true → (c == 43) ≡ false
not_plus c e = search rules

all_small : (t : List ℕ) → list_all is_ascii_digit t ≡ true → AllDigits 10 t
all_small [] e = tt
all_small (c ∷ cs) e =
    let h = and_parts (is_ascii_digit c) (list_all is_ascii_digit cs) e in
    (digit_small c h.0, all_small cs h.1)

no_plus : (t : List ℕ) → 1 ≤ length t → list_all is_ascii_digit t ≡ true → without_leading_plus t ≡ t
no_plus [] h e = refl
no_plus (c ∷ cs) h e =
    let first = not_plus c (and_parts (is_ascii_digit c) (list_all is_ascii_digit cs) e).0 in
    rw first refl

le_true : (a b : ℕ) → a ≤ b → nat_le a b ≡ true
le_true a b h = search rules

-- few digits write a number that fits
few_fit : (t : List ℕ) → length t ≤ 18 → list_all is_ascii_digit t ≡ true → digits_value 10 t < 2 ^ 64
few_fit t h e =
    let below : digits_value 10 t < 10 ^ length t = digits_value-lt 10 t (all_small t e) in
    let most : 10 ^ length t ≤ 10 ^ 18 = pow-le-pow_right (omega arith) h in
    omega (arith, below, most)

chosen : (most : ℕ) (t : List ℕ) → 1 ≤ length t → length t ≤ most → list_all is_ascii_digit t ≡ true
    → digits_of most t ≡ Some (digits_value 10 t)
chosen most t some few e = rw (le_true 1 (length t) some, le_true (length t) most few, e) refl

-- what `parse` reads of digits
pub digits_read : {E : Type 0} (most : ℕ) (t : List ℕ) (r : Result ℕ E) → most ≤ 18 → 1 ≤ length t → length t ≤ most
    → list_all is_ascii_digit t ≡ true → ParsesUnsigned 64 10 t r → result_ok r ≡ digits_of most t
digits_read most t (Ok x) nine some few e h =
    ap Some (h.1 ∙ ap (digits_value 10) (no_plus t some e)) ∙ sym (chosen most t some few e)
digits_read most t (Err x) nine some few e h =
    let same = no_plus t some e in
    let fits : digits_value 10 t < 2 ^ 64 = few_fit t (omega arith) e in
    absurd (h (rw same ((omega arith, all_small t e), fits)))

pub digits_below : (most : ℕ) (t : List ℕ) → IfSome (digits_of most t) (λ n. n < 10 ^ length t)
digits_below most t = go (are_digits most t) refl
  where
    go : (b : Bool) → are_digits most t ≡ b → IfSome (digits_of most t) (λ n. n < 10 ^ length t)
    go false e = rw e tt
    go true e =
        let rest = (and_parts (nat_le 1 (length t)) (nat_le (length t) most && list_all is_ascii_digit t) e).1 in
        let digits = (and_parts (nat_le (length t) most) (list_all is_ascii_digit t) rest).1 in
        rw e (digits_value-lt 10 t (all_small t digits))

-- a text that does not begin with a byte begins with another
pub no_byte : (b : ℕ) (t : List ℕ) → ((rest : List ℕ) → t ≢ encode_utf8 b ++ rest) → encode_utf8 b ≡ b ∷ [] → (0 == b) ≡ false → (slice_index t 0 == b) ≡ false
no_byte b [] h one other = other
no_byte b (c ∷ cs) h one other = go (c == b) refl
  where
    go : (r : Bool) → (c == b) ≡ r → (c == b) ≡ false
    go false e = e
    go true e = let same : c ≡ b = search rules in absurd (h cs (ap (λ x. x ∷ cs) same ∙ ap (λ (l : List ℕ). l ++ cs) (sym one)))

pub no_minus : (t : List ℕ) → ((rest : List ℕ) → t ≢ encode_utf8 45 ++ rest) → (slice_index t 0 == 45) ≡ false
unfolding encode_utf8
no_minus t h = no_byte 45 t h refl refl

-- a part of a number of nanodegrees stays below 10^9
pub scaled_small : (f n : ℕ) → n ≤ 9 → f < 10 ^ n → f * 10 ^ (9 - n) < 10 ^ 9
scaled_small f n h k =
    let one : 1 ≤ 10 ^ (9 - n) = one-le-pow (9 - n) 10 (omega arith) in
    let less : f * 10 ^ (9 - n) < 10 ^ n * 10 ^ (9 - n) = mul-lt-mul_of_pos_right k (omega (arith, one)) in
    let nine : n + (9 - n) ≡ 9 = omega arith in
    let all : 10 ^ n * 10 ^ (9 - n) ≡ 10 ^ 9 = sym (pow-add 10 n (9 - n)) ∙ ap (λ m. 10 ^ m) nine in
    omega (arith, less, all)
