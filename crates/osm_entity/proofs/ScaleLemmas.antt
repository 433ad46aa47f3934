-- Stored numbers multiplied and added, as wide numbers hold them.
use Rattle.std.proofs.Common.{◌≡◌, ◌^◌, ◌≤◌, ◌<◌, ◌/◌, suc, ℤ, pos, negsuc, ◌+ℤ◌, ◌-ℤ◌, ◌≤ℤ◌, ◌<ℤ◌, true, FitsSigned, SFits, of_z, to_z, to_z-of_z, ◌∙◌, refl, arith, rules, mul_comm, div-le_self, le-div_iff_mul-le, div-lt_iff_lt-mul}
use Rattle.std.specs.Prelude.{nat_abs, ◌*ℤ◌, Option, MatchOption, ⊤}
use Rattle.std.specs.Cmp.{both_ways}
use Rattle.std.specs.Int.{int_div_euclid}
use Rattle.pbf_wire.specs.Spans.{is_in}
use Rattle.pbf_wire.specs.declared.span.Span.{Span}
use Rattle.pbf_wire.proofs.SpanLemmas.{in_span, span_has}
use Rattle.osm_box.specs.BoundingBox.{is_between}
use Rattle.osm_entity.specs.Scale.{nano}
use Rattle.std.specs.Int.{Width, w32, w64, w128}
use Rattle.std.proofs.lemmas.Int.{ints, by_lt_z, unsigned_abs-mul}
use Rattle.std.proofs.Math.Nat.{mul-le-mul}

pub product_small : (a b : ℤ) → FitsSigned w32 a → FitsSigned w64 b → nat_abs (a *ℤ b) ≤ 2 ^ 94
product_small a b p q =
    let one : nat_abs a ≤ 2 ^ 31 = omega (arith, ints) in
    let other : nat_abs b ≤ 2 ^ 63 = omega (arith, ints) in
    omega (arith, unsigned_abs-mul a b, mul-le-mul one other)

in_wide : (z : ℤ) → nat_abs z ≤ 2 ^ 95 → SFits w128 z
in_wide (pos n) small = record { sfits = omega arith }
in_wide (negsuc n) small = record { sfits = omega arith }

kept : (z : ℤ) → nat_abs z ≤ 2 ^ 95 → to_z w128 (of_z w128 z) ≡ z
kept z small = to_z-of_z (in_wide z small)

-- a number, widened
widened : {w : Width} (a x : ℤ) → SFits w a → x ≡ to_z w (of_z w a) → x ≡ a
widened a x fits e = e ∙ to_z-of_z fits

pub product_kept : (a b x y : ℤ) → FitsSigned w32 a → FitsSigned w64 b → x ≡ to_z w32 (of_z w32 a) → y ≡ to_z w64 (of_z w64 b)
    → to_z w128 (of_z w128 (to_z w128 (of_z w128 x) *ℤ to_z w128 (of_z w128 y))) ≡ a *ℤ b
product_kept a b x y p q as_a as_b =
    let one : nat_abs a ≤ 2 ^ 95 = omega (arith, ints) in
    let other : nat_abs b ≤ 2 ^ 95 = omega (arith, ints) in
    let both : nat_abs (a *ℤ b) ≤ 2 ^ 95 = omega (arith, product_small a b p q) in
    rw (widened a x p as_a, widened b y q as_b, kept a one, kept b other, kept (a *ℤ b) both) refl

pub total_kept : (a x s : ℤ) → FitsSigned w64 a → x ≡ to_z w64 (of_z w64 a) → nat_abs s ≤ 2 ^ 94
    → to_z w128 (of_z w128 (to_z w128 (of_z w128 x) +ℤ to_z w128 (of_z w128 s))) ≡ a +ℤ s
total_kept a x s p as_a small =
    let one : nat_abs a ≤ 2 ^ 95 = omega (arith, ints) in
    let other : nat_abs s ≤ 2 ^ 95 = omega arith in
    let both : nat_abs (a +ℤ s) ≤ 2 ^ 95 = omega (arith, ints) in
    rw (widened a x p as_a, kept a one, kept s other, kept (a +ℤ s) both) refl

-- a product, as one of the numbers that were passed
pub product_told : (a b r : ℤ) → FitsSigned w32 a → FitsSigned w64 b → r ≡ to_z w32 (of_z w32 a) *ℤ to_z w64 (of_z w64 b) → r ≡ a *ℤ b
product_told a b r p q e = e ∙ rw (to_z-of_z p, to_z-of_z q) refl

-- ---- the stored numbers of a range

pub quotient_small : (x g : ℤ) → pos 1 ≤ℤ g → nat_abs (int_div_euclid x g) ≤ nat_abs x
quotient_small (pos n) (pos g) one = div-le_self n g
quotient_small (negsuc n) (pos g) one = omega (arith, div-le_self n g)
quotient_small x (negsuc g) one = absurd (omega (arith, ints, one))

-- a number of units is up to a quotient only if the units are up to the dividend
pub units_fit : (g v x : ℤ) → pos 1 ≤ℤ g → v ≤ℤ int_div_euclid x g → (g *ℤ v) ≤ℤ x
units_fit (negsuc g) v x one fits = absurd (omega (arith, ints, one))
units_fit (pos g) (pos v) (pos x) one fits =
    let positive : 0 < g = omega (arith, ints, one) in
    let up_to : v ≤ x / g = omega (arith, ints, fits) in
    omega (arith, ints, mul_comm v g, (le-div_iff_mul-le {x = v} {y = x} positive).0 up_to)
units_fit (pos g) (pos v) (negsuc x) one fits = absurd (omega (arith, ints, fits))
units_fit (pos g) (negsuc v) (pos x) one fits = omega (arith, ints)
units_fit (pos g) (negsuc v) (negsuc x) one fits =
    let positive : 0 < g = omega (arith, ints, one) in
    let up_to : x / g < suc v = omega (arith, ints, fits) in
    omega (arith, ints, mul_comm (suc v) g, (div-lt_iff_lt-mul {x = x} {y = suc v} positive).0 up_to)

-- and above it only if they are above that
pub units_exceed : (g v x : ℤ) → pos 1 ≤ℤ g → int_div_euclid x g <ℤ v → x <ℤ (g *ℤ v)
units_exceed (negsuc g) v x one exceeds = absurd (omega (arith, ints, one))
units_exceed (pos g) (pos v) (pos x) one exceeds =
    let positive : 0 < g = omega (arith, ints, one) in
    let above : x / g < v = omega (arith, ints, exceeds) in
    omega (arith, ints, mul_comm v g, (div-lt_iff_lt-mul {x = x} {y = v} positive).0 above)
units_exceed (pos g) (pos v) (negsuc x) one exceeds = omega (arith, ints)
units_exceed (pos g) (negsuc v) (pos x) one exceeds = absurd (omega (arith, ints, exceeds))
units_exceed (pos g) (negsuc v) (negsuc x) one exceeds =
    let positive : 0 < g = omega (arith, ints, one) in
    let above : suc v ≤ x / g = omega (arith, ints, exceeds) in
    omega (arith, ints, mul_comm (suc v) g, (le-div_iff_mul-le {x = suc v} {y = x} positive).0 above)

pub between : (low high n : ℤ) → low ≤ℤ n → n ≤ℤ high → is_between low high n ≡ true
between low high n above below = search (rules, above, below)

pub ends : (low high n : ℤ) → is_between low high n ≡ true → (low ≤ℤ n) × (n ≤ℤ high)
ends low high n h = (search rules, search rules)

-- the span of these quotients has the stored numbers from low to high
pub span_is : (offset g low high above below : ℤ) → pos 1 ≤ℤ g → above ≡ int_div_euclid ((low -ℤ offset) -ℤ pos 1) g → below ≡ int_div_euclid (high -ℤ offset) g +ℤ pos 1
    → (stored : ℤ) → is_in (record { above = above; below = below }) stored ≡ is_between low high (nano offset g stored)
span_is offset g low high above below one e f stored =
    let span : Span = record { above = above; below = below } in
    let first = int_div_euclid ((low -ℤ offset) -ℤ pos 1) g in
    let last = int_div_euclid (high -ℤ offset) g in
    let there = λ (h : is_in span stored ≡ true).
    let inside = in_span span stored h in
    let over : first <ℤ stored = omega (arith, ints, inside.0, e) in
    let under : stored ≤ℤ last = omega (arith, ints, inside.1, f) in
    let exceeds = units_exceed g stored ((low -ℤ offset) -ℤ pos 1) one over in
    let fits = units_fit g stored (high -ℤ offset) one under in
    between low high (nano offset g stored) (omega (arith, ints, exceeds)) (omega (arith, ints, fits)) in
    let back = λ (h : is_between low high (nano offset g stored) ≡ true).
    let inside = ends low high (nano offset g stored) h in
    let over : first <ℤ stored = by_lt_z first stored (λ over. over) (λ under.
    let fits = units_fit g stored ((low -ℤ offset) -ℤ pos 1) one under in absurd (omega (arith, ints, fits, inside.0))) in
    let under : stored ≤ℤ last = by_lt_z last stored (λ over.
    let exceeds = units_exceed g stored (high -ℤ offset) one over in absurd (omega (arith, ints, exceeds, inside.1))) (λ under. under) in
    span_has span stored (omega (arith, ints, over, e)) (omega (arith, ints, under, f)) in
    both_ways _ _ there back

-- ---- numbers far from the limits of 64 bits

pub in_64 : (z : ℤ) → nat_abs z ≤ 2 ^ 62 → SFits w64 z
in_64 (pos n) small = record { sfits = omega arith }
in_64 (negsuc n) small = record { sfits = omega arith }

kept_64 : (z : ℤ) → nat_abs z ≤ 2 ^ 62 → to_z w64 (of_z w64 z) ≡ z
kept_64 z small = to_z-of_z (in_64 z small)

-- the dividends, as they are passed
pub first_kept : (low offset x y : ℤ) → nat_abs low ≤ 2 ^ 60 → nat_abs offset ≤ 2 ^ 60 → x ≡ low → y ≡ offset
    → to_z w64 (of_z w64 (to_z w64 (of_z w64 (x -ℤ y)) -ℤ pos 1)) ≡ (low -ℤ offset) -ℤ pos 1
first_kept low offset x y a b e f =
    let one : nat_abs (low -ℤ offset) ≤ 2 ^ 62 = omega (arith, ints) in
    let other : nat_abs ((low -ℤ offset) -ℤ pos 1) ≤ 2 ^ 62 = omega (arith, ints) in
    rw (e, f, kept_64 (low -ℤ offset) one, kept_64 ((low -ℤ offset) -ℤ pos 1) other) refl

pub last_kept : (high offset x y : ℤ) → nat_abs high ≤ 2 ^ 60 → nat_abs offset ≤ 2 ^ 60 → x ≡ high → y ≡ offset
    → to_z w64 (of_z w64 (x -ℤ y)) ≡ high -ℤ offset
last_kept high offset x y a b e f =
    let one : nat_abs (high -ℤ offset) ≤ 2 ^ 62 = omega (arith, ints) in
    rw (e, f, kept_64 (high -ℤ offset) one) refl

-- and the quotients
pub next_kept : (q x : ℤ) → nat_abs q ≤ nat_abs x → nat_abs x ≤ 2 ^ 61 → to_z w64 (of_z w64 (to_z w64 (of_z w64 q) +ℤ pos 1)) ≡ q +ℤ pos 1
next_kept q x a b =
    let one : nat_abs q ≤ 2 ^ 62 = omega arith in
    let other : nat_abs (q +ℤ pos 1) ≤ 2 ^ 62 = omega (arith, ints) in
    rw (kept_64 q one, kept_64 (q +ℤ pos 1) other) refl

pub next_fits : (q x : ℤ) → nat_abs q ≤ nat_abs x → nat_abs x ≤ 2 ^ 61 → SFits w64 (to_z w64 (of_z w64 q) +ℤ pos 1)
next_fits q x a b =
    let one : nat_abs q ≤ 2 ^ 62 = omega arith in
    let other : nat_abs (q +ℤ pos 1) ≤ 2 ^ 62 = omega (arith, ints) in
    rw (kept_64 q one) (in_64 (q +ℤ pos 1) other)

pub one_less_fits : (x : ℤ) → nat_abs x ≤ 2 ^ 61 → SFits w64 (to_z w64 (of_z w64 x) -ℤ pos 1)
one_less_fits x small =
    let one : nat_abs x ≤ 2 ^ 62 = omega arith in
    let other : nat_abs (x -ℤ pos 1) ≤ 2 ^ 62 = omega (arith, ints) in
    rw (kept_64 x one) (in_64 (x -ℤ pos 1) other)

-- the span of the numbers, as they are passed
pub span_kept : (span : Option Span) (offset g low high a b x y : ℤ) → a ≡ offset → b ≡ g → x ≡ low → y ≡ high
    → MatchOption span ⊤ (λ s. (stored : ℤ) → is_in s stored ≡ is_between x y (nano a b stored))
    → MatchOption span ⊤ (λ s. (stored : ℤ) → is_in s stored ≡ is_between low high (nano offset g stored))
span_kept span offset g low high a b x y offset_is g_is low_is high_is told = rw (← offset_is, ← g_is, ← low_is, ← high_is) told

pub apart : (a b : ℤ) → nat_abs a ≤ 2 ^ 60 → nat_abs b ≤ 2 ^ 60 → nat_abs (a -ℤ b) ≤ 2 ^ 61
apart a b p q = omega (arith, ints)
