-- Strips of longitude, and the boxes that reach into each.
use Rattle.std.proofs.Common.{◌≡◌, ℕ, zero, suc, ◌+◌, ◌-◌, ◌/◌, ◌^◌, ◌<◌, ◌≤◌, ℤ, ◌-ℤ◌, ◌≤ℤ◌, Bool, true, false, true≢false, List, [], ◌∷◌, ◌++◌, length, Option, Some, None, refl, sym, ap, subst, ◌∙◌, arith, rules}
use Rattle.std.specs.Prelude.{◌&&◌, nat_abs, int_le, nat_le, if◌then◌else◌}
use Rattle.std.specs.Global.{Vec}
use Rattle.std.specs.Int.Count.{count_leading_zeros}
use Rattle.std.specs.List.{AllByRecursion, slice_get}
use Rattle.std.proofs.Math.Pow.{pow_mono, shr_mono}
use Rattle.std.proofs.lemmas.Bool.{and_parts}
use Rattle.std.proofs.lemmas.Int.{ints}
use Rattle.std.proofs.lemmas.Nat.{leading_length, shr_below}
use Rattle.osm_box.specs.declared.bounding_box.BoundingBox.{BoundingBox}
use Rattle.osm_box.specs.BoundingBox.{is_between}
use Rattle.osm_area.specs.declared.strips.AreaStrips.{AreaStrips}
use Rattle.osm_area.specs.declared.strip_span.StripSpan.{StripSpan}
use Rattle.osm_area.specs.Strips.{AskEnough, ListBoxes, LieBetween, Asks, HasLon, asked_at, is_met, listed_in, tested_numbers, lon_strip}

-- as wide as they are, strips are at most 1,024
pub few_strips : (a : ℕ) → a < 2 ^ 64 → a / 2 ^ ((64 - count_leading_zeros 64 a) - 10) < 1024
few_strips a small =
    let found = leading_length 64 a small in
    let m = found.0 in
    let bits : 64 - count_leading_zeros 64 a ≡ m = omega (arith, found.1) in
    let wide : m ≤ 10 + (m - 10) = omega arith in
    let below : a < 2 ^ (10 + (m - 10)) = omega (arith, found.2, pow_mono wide) in
    subst (λ (b : ℕ). a / 2 ^ (b - 10) < 1024) (sym bits) (shr_below a 10 (m - 10) below)

-- a box more lies between the ends
pub ends_more : (west east low high : ℤ) (b : BoundingBox) (rest later : List BoundingBox) → rest ≡ b ∷ later → low ≤ℤ b.left → b.right ≤ℤ high → west ≤ℤ low → high ≤ℤ east
    → LieBetween west east later → LieBetween west east rest
ends_more west east low high b rest later is left right from to within = subst (λ (l : List BoundingBox). LieBetween west east l) (sym is) ((omega (arith, ints), omega (arith, ints)), within)

-- a strip more
pub strip_more : (span : StripSpan) (number : ℕ) (boxes : List BoundingBox) (strips : List (Vec ℕ)) (strip : Vec ℕ) → ListBoxes span number boxes strips
    → strip.items ≡ tested_numbers (is_met span (number + length strips)) 0 boxes → ListBoxes span number boxes (strips ++ strip ∷ [])
strip_more span number boxes [] strip are is =
    let here : number + 0 ≡ number = omega arith in
    (subst (λ (n : ℕ). strip.items ≡ tested_numbers (is_met span n) 0 boxes) here is, tt)
strip_more span number boxes (first ∷ strips) strip are is =
    let here : number + length (first ∷ strips) ≡ (number + 1) + length strips = omega arith in
    (are.0, strip_more span (number + 1) boxes strips strip are.1 (subst (λ (n : ℕ). strip.items ≡ tested_numbers (is_met span n) 0 boxes) here is))

strip_at : (span : StripSpan) (number : ℕ) (boxes : List BoundingBox) (strips : List (Vec ℕ)) (i : ℕ) → ListBoxes span number boxes strips → i < length strips
    → listed_in (slice_get strips i) ≡ tested_numbers (is_met span (number + i)) 0 boxes
strip_at span number boxes [] i are few = absurd (omega (arith, few))
strip_at span number boxes (first ∷ strips) zero are few =
    let here : number ≡ number + 0 = omega arith in
    subst (λ (n : ℕ). first.items ≡ tested_numbers (is_met span n) 0 boxes) here are.0
strip_at span number boxes (first ∷ strips) (suc i) are few =
    let here : (number + 1) + i ≡ number + suc i = omega arith in
    subst (λ (n : ℕ). listed_in (slice_get strips i) ≡ tested_numbers (is_met span n) 0 boxes) here (strip_at span (number + 1) boxes strips i are.1 (omega (arith, few)))

-- ---- the boxes that have a longitude

none_asked : {X : Type 0} (number : ℕ) (xs : List X) → [] ≡ tested_numbers (λ _. false) number xs
none_asked number [] = refl
none_asked number (x ∷ xs) = none_asked (number + 1) xs

farther : (west a b : ℤ) → west ≤ℤ a → a ≤ℤ b → nat_abs (a -ℤ west) ≤ nat_abs (b -ℤ west)
farther west a b h k = omega (arith, ints)

le_is : (a b : ℤ) → int_le a b ≡ true → a ≤ℤ b
le_is a b e = search rules

int_le_true : (a b : ℤ) → a ≤ℤ b → int_le a b ≡ true
int_le_true a b h = search rules

le_true : (a b : ℕ) → a ≤ b → nat_le a b ≡ true
le_true a b h = search rules

both : {a b : Bool} → a ≡ true → b ≡ true → (a && b) ≡ true
both e f = rw (e, f) refl

module _ (span : StripSpan) (lon : ℤ) where
  -- a box that has the longitude has one in its strip
  met : (b : BoundingBox) → span.west ≤ℤ b.left → is_between b.left b.right lon ≡ true → is_met span (lon_strip span lon) b ≡ true
  met b from e =
      let parts = and_parts _ _ e in
      let low = le_is b.left lon parts.0 in
      let high = le_is lon b.right parts.1 in
      let after : span.west ≤ℤ lon = omega (arith, ints) in
      both (le_true _ _ (shr_mono span.shift (farther span.west b.left lon from low))) (le_true _ _ (shr_mono span.shift (farther span.west lon b.right after high)))

  all_met : (boxes : List BoundingBox) → LieBetween span.west span.east boxes → AllByRecursion (λ b. is_between b.left b.right lon ≡ true → is_met span (lon_strip span lon) b ≡ true) boxes
  all_met [] within = tt
  all_met (b ∷ boxes) within = (met b within.0.0, all_met boxes within.1)

  beyond : (b : BoundingBox) → (span.west ≤ℤ b.left) × (b.right ≤ℤ span.east) → is_between span.west span.east lon ≡ false → is_between b.left b.right lon ≡ true → ◌≡◌ {A = Bool} false true
  beyond b within out e =
      let parts = and_parts _ _ e in
      let low = le_is b.left lon parts.0 in
      let high = le_is lon b.right parts.1 in
      sym out ∙ both (int_le_true span.west lon (omega (arith, ints, within.0))) (int_le_true lon span.east (omega (arith, ints, within.1)))

  none_within : (boxes : List BoundingBox) → LieBetween span.west span.east boxes → is_between span.west span.east lon ≡ false → AllByRecursion (λ b. is_between b.left b.right lon ≡ true → ◌≡◌ {A = Bool} false true) boxes
  none_within [] within out = tt
  none_within (b ∷ boxes) within out = (beyond b within.0 out, none_within boxes within.1 out)

-- what the strips say, if it is known whether they reach the longitude
pub asked_by : (strips : AreaStrips) (lon : ℤ) {b : Bool} → is_between strips.span.west strips.span.east lon ≡ b
    → asked_at strips lon ≡ (if b then listed_in (slice_get strips.strips.items (lon_strip strips.span lon)) else [])
unfolding asked_at
asked_by strips lon is = ap (λ (b : Bool). if b then listed_in (slice_get strips.strips.items (lon_strip strips.span lon)) else []) is

pub are_asked : (strips : AreaStrips) (boxes : List BoundingBox) → LieBetween strips.span.west strips.span.east boxes → lon_strip strips.span strips.span.east < length strips.strips.items
    → ListBoxes strips.span 0 boxes strips.strips.items → AskEnough boxes strips
are_asked strips boxes within few are lon = by (is_between span.west span.east lon) refl where
  span : StripSpan
  span = strips.span

  by : (b : Bool) → is_between span.west span.east lon ≡ b → Asks (HasLon lon) 0 boxes (asked_at strips lon)
  by true is =
      let here : 0 + lon_strip span lon ≡ lon_strip span lon = omega arith in
      let parts = and_parts _ _ is in
      let near = shr_mono span.shift (farther span.west lon span.east (le_is _ _ parts.0) (le_is _ _ parts.1)) in
      record {
        test = is_met span (lon_strip span lon);
        numbers = asked_by strips lon is ∙ strip_at span 0 boxes strips.strips.items (lon_strip span lon) are (omega (arith, few, near)) ∙ ap (λ (n : ℕ). tested_numbers (is_met span n) 0 boxes) here;
        all = all_met span lon boxes within;
      }
  by false is = record {
    test = λ _. false;
    numbers = asked_by strips lon is ∙ none_asked 0 boxes;
    all = none_within span lon boxes within is;
  }
