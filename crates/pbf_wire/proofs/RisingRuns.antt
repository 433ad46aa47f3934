-- Entries of one byte that aren't negative, sixteen at once.
use Rattle.std.proofs.Common.{◌≡◌, ◌<◌, ◌≤◌, ◌+◌, ◌-◌, ◌*◌, ◌/◌, ◌%◌, ◌^◌, ℕ, zero, suc, Bool, true, false, not, cond, leb, ◌≢◌, List, [], ◌∷◌, ◌++◌, length, map, take, drop, replicate, bit_and, ℤ, pos, negsuc, ◌+ℤ◌, ◌<ℤ◌, refl, sym, ap, subst, ◌∙◌, arith, w8, take-append-drop}
use Rattle.std.specs.List.{AllByRecursion, fold, prefix_len, sum}
use Rattle.std.specs.Simd.Lanes.{mask_l, sum_l, zip2, top}
use Rattle.std.proofs.lemmas.Bool.{eq-eqb, le-leb}
use Rattle.std.proofs.lemmas.Bool.Decides.{nat_tests}
use Rattle.std.proofs.lemmas.Int.{ints}
use Rattle.std.proofs.lemmas.List.{length-map, take-replicate, take-take}
use Rattle.std.proofs.lemmas.Nat.{and_mask}
use Rattle.std.proofs.lemmas.List.Sums.{prefix_len-le-length}
use Rattle.std.proofs.lemmas.Simd.{mask_l-mod, tops_compared, trailing_mask_l, zip2_splat_left}
use Rattle.std.specs.Int.Count.{count_trailing_zeros}
use mir.Val.{bits, hbits}
use Rattle.pbf_wire.specs.Columns.{entries, read_entries, placed}
use Rattle.pbf_wire.specs.Cursors.{numbers_left, sums_left}
use Rattle.pbf_wire.specs.Rising.{IsHalved, AreRising}
use Rattle.pbf_wire.specs.Signed.{delta_in, unzigzag, IsWithin}
use Rattle.pbf_wire.specs.Spans.{ArePassed}
use Rattle.pbf_wire.specs.Sums.{sums_within}
use Rattle.pbf_wire.specs.declared.column.Column.{Column}
use Rattle.pbf_wire.specs.declared.span.Span.{Span}
use Rattle.pbf_wire.specs.declared.sums.Sums.{Sums}
use Rattle.pbf_wire.proofs.Columns.{entries_ok}
use Rattle.pbf_wire.proofs.SpanLemmas.{one_past, span_has}
use Rattle.pbf_wire.proofs.NextLemmas.{value_after}
use Rattle.pbf_wire.proofs.Varints.{one_byte}
use Rattle.pbf_wire.proofs.AllLemmas.{all_weaker}

-- ---- lanes

fold_is : (a : ℕ) (xs : List ℕ) → fold (λ s x. s + x) a xs ≡ a + sum_l xs
fold_is a [] = omega arith
fold_is a (x ∷ xs) = fold_is (a + x) xs ∙ omega arith

sum_is : (xs : List ℕ) → sum_l xs ≡ sum xs
sum_is xs = omega (arith, fold_is 0 xs)

pub sum_cons : (x : ℕ) (xs : List ℕ) → sum (x ∷ xs) ≡ x + sum xs
sum_cons x xs = sym (sum_is (x ∷ xs)) ∙ ap (λ n. x + n) (sum_is xs)

-- the tests of sixteen lanes, as a mask
pub mask_is : (bound : ℕ) (xs : List ℕ) → length xs ≡ 16 → mask_l (map (top (hbits w8)) (zip2 (λ a b. cond (leb a b) (2 ^ bits w8 - 1) 0) (replicate 16 bound) xs)) % 2 ^ 64 ≡ mask_l (map (λ b. leb bound b) xs)
mask_is bound xs long = ap (λ ms. mask_l ms % 2 ^ 64) (tops_compared w8 leb (replicate 16 bound) xs ∙ zip2_splat_left leb bound 16 xs long) ∙ mask_l-mod (map (λ b. leb bound b) xs) 64 (omega (arith, long, length-map xs (λ b. leb bound b)))

none_above : (bound : ℕ) (xs : List ℕ) → mask_l (map (λ b. leb bound b) xs) ≡ 0 → AllByRecursion (λ b. b < bound) xs
none_above bound [] none = tt
none_above bound (x ∷ xs) none = by (leb bound x) refl (none_above bound xs)
  where
    by : (t : Bool) → leb bound x ≡ t → (mask_l (map (λ b. leb bound b) xs) ≡ 0 → AllByRecursion (λ b. b < bound) xs) → (x < bound) × AllByRecursion (λ b. b < bound) xs
    by true e more = absurd (let m = ap (λ t. cond {A = ℕ} t 1 0 + 2 * mask_l (map (λ b. leb bound b) xs)) e in omega (arith, none, m))
    by false e more = (grind (arith, nat_tests, e), more (let m = ap (λ t. cond {A = ℕ} t 1 0 + 2 * mask_l (map (λ b. leb bound b) xs)) e in omega (arith, none, m)))

pub all_below : (bound : ℕ) (xs : List ℕ) → length xs ≡ 16 → mask_l (map (top (hbits w8)) (zip2 (λ a b. cond (leb a b) (2 ^ bits w8 - 1) 0) (replicate 16 bound) xs)) % 2 ^ 64 ≡ 0 → AllByRecursion (λ b. b < bound) xs
all_below bound xs long none = none_above bound xs (sym (mask_is bound xs long) ∙ none)

-- bytes below 128 whose lowest bits are 0
pub all_halved : (xs : List ℕ) (n : ℕ) → length xs ≡ n → AllByRecursion (λ b. b < 128) xs → AllByRecursion (λ b. b < 1) (zip2 bit_and xs (replicate n 1)) → AllByRecursion IsHalved xs
all_halved [] n long small even = tt
all_halved (x ∷ xs) zero long small even = absurd (omega arith)
all_halved (x ∷ xs) (suc n) long small even = ((small.0, omega (arith, and_mask x 1, even.0)), all_halved xs n (omega (arith, long)) small.1 even.1)

pub run_small : (xs : List ℕ) → AllByRecursion IsHalved xs → sum_l xs ≤ 127 * length xs
run_small [] h = omega arith
run_small (x ∷ xs) h = omega (arith, h.0.0, run_small xs h.1)

-- ---- as numbers

first_read : (b : ℕ) (bytes : List ℕ) → b < 128 → read_entries (entries (b ∷ bytes)) ≡ b ∷ read_entries (entries bytes)
first_read b bytes small = ap read_entries (entries_ok (b ∷ bytes) b 1 (omega arith) (omega arith) (one_byte (b ∷ bytes) (omega arith) small))

pub all_read : (front rest : List ℕ) → AllByRecursion (λ b. b < 128) front → read_entries (entries (front ++ rest)) ≡ front ++ read_entries (entries rest)
all_read [] rest h = refl
all_read (b ∷ bs) rest h = first_read b (bs ++ rest) h.0 ∙ ap (λ (ns : List ℕ). b ∷ ns) (all_read bs rest h.1)

pub single : (xs : List ℕ) → AllByRecursion IsHalved xs → AllByRecursion (λ b. b < 128) xs
single = all_weaker IsHalved (λ b. b < 128) (λ b h. h.0)

pub zeros_halved : (n : ℕ) → AllByRecursion IsHalved (replicate n 0)
zeros_halved zero = tt
zeros_halved (suc n) = ((omega arith, refl), zeros_halved n)

pub run_read : (bytes front : List ℕ) (rise : ℕ) → front ≡ take 16 bytes → AreRising front rise → read_entries (entries bytes) ≡ front ++ read_entries (entries (drop 16 bytes))
run_read bytes front rise is h = cc (take-append-drop 16 bytes, is, all_read front (drop 16 bytes) (single front h.each))

-- before those that follow in the occurrence, and after it
pub placed_run : (front ns : List ℕ) (place : ℕ) (more : List (ℕ × ℕ)) → map {B = ℕ} (λ p. p.0) (placed place (front ++ ns) ++ more) ≡ front ++ map (λ p. p.0) (placed place ns ++ more)
placed_run [] ns place more = refl
placed_run (b ∷ bs) ns place more = ap (λ (xs : List ℕ). b ∷ xs) (placed_run bs ns place more)

-- ---- as entries

abbrev pub values : ℤ → ℤ → Bool → List ℕ → List ℤ
values limit total narrow ns = sums_within limit total (map (delta_in narrow) ns)

pub half_is : (b : ℕ) → b % 2 ≡ 0 → unzigzag b ≡ pos (b / 2)
half_is b even = ap (λ (t : Bool). cond t (pos (b / 2)) (negsuc (b / 2))) (eq-eqb _ _ even)

pub rise_doubled : (rise : ℕ) → unzigzag (2 * rise) ≡ pos rise
rise_doubled rise = let same : (2 * rise) / 2 ≡ rise = omega arith in half_is (2 * rise) (omega arith) ∙ ap pos same

run_past : (bytes more : List ℕ) (span : Span) (vs : List ℤ) (limit total : ℤ) (n : ℕ) (narrow : Bool) → AllByRecursion IsHalved bytes → IsWithin limit total → IsWithin limit (total +ℤ pos (sum bytes / 2)) → span.above <ℤ total → (total +ℤ pos (sum bytes / 2)) <ℤ span.below
    → ArePassed span true vs (values limit total narrow (bytes ++ more)) n → ArePassed span true vs (values limit (total +ℤ pos (sum bytes / 2)) narrow more) (n + length bytes)
run_past [] more span vs limit total n narrow each here there above below past =
    let still : total ≡ total +ℤ pos (sum [] / 2) = omega (arith, ints) in
    let none : n ≡ n + length {A = ℕ} [] = omega arith in
    subst (λ m. ArePassed span true vs (values limit (total +ℤ pos (sum [] / 2)) narrow more) m) none (subst (λ t. ArePassed span true vs (values limit t narrow more) n) still past)
run_past (b ∷ bs) more span vs limit total n narrow each here there above below past =
    let half = half_is b each.0.1 in
    let value = total +ℤ unzigzag b in
    let sums = sum_cons b bs in
    let even = each.0.1 in
    let low : span.above <ℤ value = omega (arith, ints, half, above) in
    let end : value +ℤ pos (sum bs / 2) ≡ total +ℤ pos (sum (b ∷ bs) / 2) = omega (arith, ints, half, sums, even) in
    let high : (value +ℤ pos (sum bs / 2)) <ℤ span.below = omega (arith, ints, end, below) in
    let inside : value <ℤ span.below = omega (arith, ints, high) in
    let next : IsWithin limit value = record { above = omega (arith, ints, half, here.above); below = omega (arith, ints, end, there.below) } in
    let is = value_after limit total narrow b (bs ++ more) (omega (arith, each.0.0)) next in
    let first = one_past span true vs _ value n (subst (λ zs. ArePassed span true vs zs n) is past) (span_has span value low inside) in
    let count : suc n + length bs ≡ n + length (b ∷ bs) = omega arith in
    let more_past = run_past bs more span vs limit value (suc n) narrow each.1 next (subst (IsWithin limit) (sym end) there) low high first in
    subst (λ m. ArePassed span true vs (values limit (total +ℤ pos (sum (b ∷ bs) / 2)) narrow more) m) count (subst (λ t. ArePassed span true vs (values limit t narrow more) (suc n + length bs)) end more_past)

-- ---- of cursors

pub run_is : (old new : Sums) (entries : Column) (rise : ℕ) (span : Span) (vs : List ℤ) (n : ℕ) → AreRising (take 16 old.entries.packed.now) rise → numbers_left old.entries ≡ take 16 old.entries.packed.now ++ numbers_left entries → span.above <ℤ old.total → new.total <ℤ span.below
    → new.total ≡ old.total +ℤ unzigzag (2 * rise) → new.entries ≡ entries → new.limit ≡ old.limit → new.narrow ≡ old.narrow → ArePassed span true vs (sums_left old) n → ArePassed span true vs (sums_left new) (n + 16)
run_is old new entries rise span vs n h numbers above below is entries_are limit_is narrow_is past =
    let front = take 16 old.entries.packed.now in
    let end : new.total ≡ old.total +ℤ pos (sum front / 2) = is ∙ ap (λ (d : ℤ). old.total +ℤ d) (rise_doubled rise) ∙ ap (λ (r : ℕ). old.total +ℤ pos r) h.all in
    let within : IsWithin old.limit new.total = subst (λ z. IsWithin z new.total) limit_is new.within in
    let before : ArePassed span true vs (values old.limit old.total old.narrow (front ++ numbers_left entries)) n = subst (λ ns. ArePassed span true vs (values old.limit old.total old.narrow ns) n) numbers past in
    let after = run_past front (numbers_left entries) span vs old.limit old.total n old.narrow h.each old.within (subst (IsWithin old.limit) end within) above (subst (λ z. z <ℤ span.below) end below) before in
    let counted = subst (λ m. ArePassed span true vs (values old.limit (old.total +ℤ pos (sum front / 2)) old.narrow (numbers_left entries)) (n + m)) h.many after in
    rw (end, entries_are, limit_is, narrow_is) counted

-- ---- zeros before the first byte that isn't

zeros_first : (xs : List ℕ) → take (prefix_len (λ b. not (leb 1 b)) xs) xs ≡ replicate (prefix_len (λ b. not (leb 1 b)) xs) 0
zeros_first [] = refl
zeros_first (zero ∷ xs) = grind (arith, zeros_first xs)
zeros_first (suc b ∷ xs) = grind (arith, le-leb)

module _ (xs : List ℕ) (long : length xs ≡ 16) (some : mask_l (map (top (hbits w8)) (zip2 (λ a b. cond (leb a b) (2 ^ bits w8 - 1) 0) (replicate 16 1) xs)) % 2 ^ 64 ≢ 0) where
  zeros_counted : count_trailing_zeros 64 (mask_l (map (top (hbits w8)) (zip2 (λ a b. cond (leb a b) (2 ^ bits w8 - 1) 0) (replicate 16 1) xs)) % 2 ^ 64) ≡ prefix_len (λ b. not (leb 1 b)) xs
  zeros_counted = rw (mask_is 1 xs long) (trailing_mask_l (λ b. leb 1 b) 64 xs (omega (arith, long)) (omega (arith, mask_is 1 xs long, some)))

  pub zeros_are : take (count_trailing_zeros 64 (mask_l (map (top (hbits w8)) (zip2 (λ a b. cond (leb a b) (2 ^ bits w8 - 1) 0) (replicate 16 1) xs)) % 2 ^ 64)) xs ≡ replicate (count_trailing_zeros 64 (mask_l (map (top (hbits w8)) (zip2 (λ a b. cond (leb a b) (2 ^ bits w8 - 1) 0) (replicate 16 1) xs)) % 2 ^ 64)) 0
  zeros_are = rw zeros_counted (zeros_first xs)

  pub zeros_few : count_trailing_zeros 64 (mask_l (map (top (hbits w8)) (zip2 (λ a b. cond (leb a b) (2 ^ bits w8 - 1) 0) (replicate 16 1) xs)) % 2 ^ 64) ≤ 16
  zeros_few = omega (arith, zeros_counted, long, prefix_len-le-length (λ b. not (leb 1 b)) xs)

-- at most so many of them, and what is left
pub zeros_front : (bytes : List ℕ) (zeros n : ℕ) → take zeros (take 16 bytes) ≡ replicate zeros 0 → zeros ≤ 16 → n ≤ zeros → bytes ≡ replicate n 0 ++ drop n bytes
zeros_front bytes zeros n are few fewer =
    let front : take n bytes ≡ replicate n 0 =
    sym (take-take n 16 bytes (omega (arith, few, fewer))) ∙ sym (take-take n zeros (take 16 bytes) fewer) ∙ ap (take n) are ∙ take-replicate n zeros 0 fewer in
    sym (take-append-drop n bytes) ∙ ap (λ (w : List ℕ). w ++ drop n bytes) front
