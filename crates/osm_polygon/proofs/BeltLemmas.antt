-- Belts: a finer strip lies in one belt, and each place of the belt in one of its bands.
use Rattle.std.proofs.Common.{◌≡◌, ℕ, zero, suc, ◌+◌, ◌-◌, ◌*◌, ◌/◌, ◌^◌, ◌<◌, ◌≤◌, Bool, true, false, ◌&&◌, List, [], ◌∷◌, ◌++◌, length, Option, Some, None, refl, sym, ap, subst, ◌∙◌, arith, rules}
use Rattle.std.specs.Prelude.{filter, nat_le, min, max}
use Rattle.std.specs.List.{slice_get}
use Rattle.std.proofs.lemmas.Nat.{le-div, pow-add}
use Rattle.std.proofs.Math.Nat.{div-div-eq-div-mul, div-lt_iff_lt-mul, div-mul-le_self, one-le-pow}
use Rattle.std.proofs.lemmas.List.Sums.{sum_by-append}
use Rattle.osm_polygon.specs.declared.edge.Edge.{Edge}
use Rattle.osm_polygon.specs.declared.edge.Axis.TheVariants.{Latitude}
use Rattle.osm_polygon.specs.declared.place.Place.{Place}
use Rattle.osm_polygon.specs.declared.bands.Band.{Band}
use Rattle.osm_polygon.specs.declared.belts.Belt.{Belt}
use Rattle.osm_polygon.specs.declared.belts.Belt.TheVariants.{One, Many}
use Rattle.osm_polygon.specs.declared.belts.BeltBands.{BeltBands}
use Rattle.osm_polygon.specs.Edges.{along, strip_number, lowest, highest, is_in_strip}
use Rattle.osm_polygon.specs.Bands.{IsBand, AreBands}
use Rattle.osm_polygon.specs.Belts.{AreBeltBands, IsBelt, IsNarrow, AreNarrow, AreBelts, held_of, held_in, cells_of, cells_in}
use Rattle.osm_polygon.proofs.Counting.{filter_near}
use Rattle.osm_polygon.proofs.EdgeLemmas.{both}
use Rattle.osm_polygon.proofs.StripLemmas.{le_true, nat_le_is}

-- ---- numbers of finer strips

some_power : (k : ℕ) → 0 < 2 ^ k
some_power k = omega (arith, one-le-pow k 2 (omega arith))

finer_number : (finer shift a : ℕ) → finer ≤ shift → a / 2 ^ finer / 2 ^ (shift - finer) ≡ a / 2 ^ shift
finer_number finer shift a h =
    div-div-eq-div-mul a (2 ^ finer) (2 ^ (shift - finer))
    ∙ ap (λ n. a / n) (sym (pow-add 2 finer (shift - finer)) ∙ ap (λ n. 2 ^ n) (omega (arith, h)))

-- what lies at or before a number of the strip, and at or past one, in wider strips
down : (n m x k : ℕ) → 0 < m → x ≤ k → k < (n + 1) * m → x / m ≤ n
down n m x k some le below = let h = (div-lt_iff_lt-mul {k = m} {x = x} {y = n + 1} some).1 (omega (arith, le, below)) in omega (arith, h)

up : (n m x k : ℕ) → 0 < m → k ≤ x → n * m ≤ k → n ≤ x / m
up n m x k some le begun = le-div n x m some (omega (arith, le, begun))

wider_by : (n m x y k : ℕ) → 0 < m → n * m ≤ k → k < (n + 1) * m → min x y ≤ k → k ≤ max x y → (nat_le (min (x / m) (y / m)) n && nat_le n (max (x / m) (y / m))) ≡ true
wider_by n m x y k some begun below low high =
    rw (le_true (min (x / m) (y / m)) n (lower (nat_le x k) refl), le_true n (max (x / m) (y / m)) (upper (nat_le k x) refl)) refl
  where
    not_le : (a b : ℕ) → nat_le a b ≡ false → b < a
    not_le a b e = search rules

    lower : (b : Bool) → nat_le x k ≡ b → min (x / m) (y / m) ≤ n
    lower true is = let h = down n m x k some (nat_le_is x k is) below in omega (arith, h)
    lower false is = let off = not_le x k is in let h = down n m y k some (omega (arith, off, low)) below in omega (arith, h)

    upper : (b : Bool) → nat_le k x ≡ b → n ≤ max (x / m) (y / m)
    upper true is = let h = up n m x k some (nat_le_is k x is) begun in omega (arith, h)
    upper false is = let off = not_le k x is in let h = up n m y k some (omega (arith, off, high)) begun in omega (arith, h)

-- ---- the bands of a belt

module _ (shift number finer : ℕ) (narrow : finer ≤ shift) where
  abbrev parts : ℕ
  parts = 2 ^ (shift - finer)

  -- an edge with a place in one of the bands has it in the belt
  in_belt : (k : ℕ) (e : Edge) → number * parts ≤ k → k < (number + 1) * parts → is_in_strip Latitude finer k e ≡ true → is_in_strip Latitude shift number e ≡ true
  in_belt k e begun below is =
      let h = both (nat_le (lowest Latitude finer e) k) (nat_le k (highest Latitude finer e)) is in
      subst (λ (n : ℕ). (nat_le (min n (strip_number Latitude shift e.to)) number && nat_le number (max n (strip_number Latitude shift e.to))) ≡ true)
      (finer_number finer shift (along Latitude e.from) narrow)
      (subst (λ (n : ℕ). (nat_le (min (strip_number Latitude finer e.from / parts) n) number && nat_le number (max (strip_number Latitude finer e.from / parts) n)) ≡ true)
      (finer_number finer shift (along Latitude e.to) narrow)
      (wider_by number parts (strip_number Latitude finer e.from) (strip_number Latitude finer e.to) k (some_power (shift - finer)) begun below
      (nat_le_is (lowest Latitude finer e) k h.0) (nat_le_is k (highest Latitude finer e) h.1)))

  bands_in : (k : ℕ) (all : List Edge) (bands : List Band) → AreBands finer k (filter (is_in_strip Latitude shift number) all) bands
      → number * parts ≤ k → k + length bands ≤ (number + 1) * parts → AreBands finer k all bands
  bands_in k all [] are begun ends = tt
  bands_in k all (band ∷ bands) are begun ends = (
    subst (λ (l : List Edge). IsBand (record { shift = finer; band = k }) l band)
        (filter_near (is_in_strip Latitude finer k) (is_in_strip Latitude shift number) (λ e is. in_belt k e begun (omega (arith, ends)) is) all) are.0,
    bands_in (k + 1) all bands are.1 (omega (arith, begun)) (omega (arith, ends)),
  )

  first_place : (p : Place) → strip_number Latitude shift p ≡ number → number * parts ≤ strip_number Latitude finer p
  first_place p is =
      subst (λ (n : ℕ). n * parts ≤ strip_number Latitude finer p) (finer_number finer shift (along Latitude p) narrow ∙ is)
      (div-mul-le_self (strip_number Latitude finer p) parts)

  last_place : (p : Place) → strip_number Latitude shift p ≡ number → strip_number Latitude finer p < (number + 1) * parts
  last_place p is =
      let at : strip_number Latitude finer p / parts ≡ number = finer_number finer shift (along Latitude p) narrow ∙ is in
      (div-lt_iff_lt-mul {k = parts} {x = strip_number Latitude finer p} {y = number + 1} (some_power (shift - finer))).0 (omega (arith, at))

pub are_belt_bands : (shift number : ℕ) (all : List Edge) (parts : BeltBands) → parts.shift ≤ shift → shift < 64
    → parts.first ≡ number * 2 ^ (shift - parts.shift) → parts.first + length parts.bands.items ≡ (number + 1) * 2 ^ (shift - parts.shift)
    → AreBands parts.shift parts.first (filter (is_in_strip Latitude shift number) all) parts.bands.items → AreBeltBands shift number all parts
are_belt_bands shift number all parts narrow width first end are = record {
  bands = bands_in shift number parts.shift narrow parts.first all parts.bands.items are (omega (arith, first)) (omega (arith, end));
  begun = λ p is. rw first (first_place shift number parts.shift narrow p is);
  ends = λ p is. rw end (last_place shift number parts.shift narrow p is);
  width = omega (arith, narrow, width);
}

pub all_narrow : (shift number : ℕ) (edges : List Edge) (bands : List Band) → AreBands shift number edges bands → AreNarrow bands
all_narrow shift number edges [] are = tt
all_narrow shift number edges (band ∷ bands) are = (are.0.width, all_narrow shift (number + 1) edges bands are.1)

pub narrow_at : (bands : List Band) (i : ℕ) (band : Band) → AreNarrow bands → slice_get bands i ≡ Some band → band.shift < 64
narrow_at [] i band are e = absurd (none_some e) where
  none_some : ◌≡◌ {A = Option Band} None (Some band) → ⊥
  none_some e = cc
narrow_at (first ∷ bands) zero band are e = subst (λ (b : Band). b.shift < 64) (same e) are.0 where
  same : Some first ≡ Some band → first ≡ band
  same e = cc
narrow_at (first ∷ bands) (suc i) band are e = narrow_at bands i band are.1 e

pub belt_narrow : (shift number : ℕ) (edges : List Edge) (belt : Belt) → IsBelt shift number edges belt → IsNarrow belt
belt_narrow shift number edges (One band) is = is.width
belt_narrow shift number edges (Many parts) is = (is.width, all_narrow parts.shift parts.first edges parts.bands.items is.bands)

-- ---- lists of belts

pub belts_more : (shift number : ℕ) (edges : List Edge) (belts : List Belt) (belt : Belt) → AreBelts shift number edges belts
    → IsBelt shift (number + length belts) edges belt → AreBelts shift number edges (belts ++ belt ∷ [])
belts_more shift number edges [] belt are is =
    let here : number + 0 ≡ number = omega arith in
    (subst (λ (n : ℕ). IsBelt shift n edges belt) here is, tt)
belts_more shift number edges (first ∷ belts) belt are is =
    let same : number + suc (length belts) ≡ (number + 1) + length belts = omega arith in
    (are.0, belts_more shift (number + 1) edges belts belt are.1 (subst (λ (n : ℕ). IsBelt shift n edges belt) same is))

pub belt_at : (shift number : ℕ) (edges : List Edge) (belts : List Belt) (i : ℕ) (belt : Belt) → AreBelts shift number edges belts
    → slice_get belts i ≡ Some belt → IsBelt shift (number + i) edges belt
belt_at shift number edges [] i belt are e = absurd (none_some e) where
  none_some : ◌≡◌ {A = Option Belt} None (Some belt) → ⊥
  none_some e = cc
belt_at shift number edges (first ∷ belts) zero belt are e =
    let here : number ≡ number + 0 = omega arith in
    subst (λ (n : ℕ). IsBelt shift n edges belt) here (subst (λ (b : Belt). IsBelt shift number edges b) (same e) are.0) where
      same : Some first ≡ Some belt → first ≡ belt
      same e = cc
belt_at shift number edges (first ∷ belts) (suc i) belt are e =
    let same : (number + 1) + i ≡ number + suc i = omega arith in
    subst (λ (n : ℕ). IsBelt shift n edges belt) same (belt_at shift (number + 1) edges belts i belt are.1 e)

pub held_in_more : (belts : List Belt) (belt : Belt) → held_in (belts ++ belt ∷ []) ≡ held_in belts + held_of belt
held_in_more belts belt = omega (arith, sum_by-append held_of belts (belt ∷ []))

pub cells_in_more : (belts : List Belt) (belt : Belt) → cells_in (belts ++ belt ∷ []) ≡ cells_in belts + cells_of belt
cells_in_more belts belt = omega (arith, sum_by-append cells_of belts (belt ∷ []))
