-- Rings: in which direction and from which place their places come.
use Rattle.std.proofs.Common.{◌≡◌, ◌∙◌, zero, suc, ℤ, pos, ◌+ℤ◌, ◌-ℤ◌, Bool, true, false, not, cond, List, [], ◌∷◌, ◌++◌, append_assoc, ap, ap₂, sym, refl, arith}
use Rattle.std.specs.Prelude.{◌*ℤ◌, negsuc, neg_ℤ, ◌&&◌, ◌||◌, int_le, int_lt, reverse}
use Rattle.std.specs.List.{list_any}
use Rattle.std.specs.Ordering.{int_eq}
use Rattle.std.proofs.lemmas.Int.{ints}
use Rattle.std.proofs.Math.IntN.{suc_ℤ, pred_ℤ, suc_ℤ-*ℤ, pred_ℤ-*ℤ, zero-*ℤ, *ℤ_comm}
use Rattle.std.proofs.lemmas.List.{append-nil, reverse-append}
use Rattle.std.proofs.lemmas.List.Folds.{list_any-append}
use Rattle.osm_polygon.specs.Earth.{is_on_earth}
use Rattle.osm_polygon.specs.Polygon.{Point, Side, turn, is_on, crosses, is_in_polygon}
use Rattle.osm_polygon.specs.Rings.{sides_back, ring_sides, rings_sides, polygon_of}
use Rattle.osm_polygon.specs.Bands.{differ, is_odd_of}
use Rattle.osm_polygon.proofs.Counting.{differ_swap, odd_cons, odd_append}
use Rattle.osm_polygon.proofs.EdgeLemmas.{neg_mul, not_le_lt}
use Rattle.osm_polygon.proofs.BoundsLemmas.{box_takes_none}

-- ---- products of integers

suc_is : (x : ℤ) → suc_ℤ x ≡ x +ℤ pos 1
suc_is (pos n) = omega (arith, ints)
suc_is (negsuc zero) = omega (arith, ints)
suc_is (negsuc (suc n)) = omega (arith, ints)

pred_is : (x : ℤ) → pred_ℤ x ≡ x -ℤ pos 1
pred_is (pos zero) = omega (arith, ints)
pred_is (pos (suc n)) = omega (arith, ints)
pred_is (negsuc n) = omega (arith, ints)

more : (m k : ℤ) → ((m +ℤ pos 1) *ℤ k) ≡ (m *ℤ k) +ℤ k
more m k = ap (λ (n : ℤ). n *ℤ k) (sym (suc_is m)) ∙ suc_ℤ-*ℤ m k

fewer : (m k : ℤ) → ((m -ℤ pos 1) *ℤ k) ≡ (m *ℤ k) -ℤ k
fewer m k = ap (λ (n : ℤ). n *ℤ k) (sym (pred_is m)) ∙ pred_ℤ-*ℤ m k

-- a number more, and a number fewer, in both
step_up : (a b k c : ℤ) → c ≡ a +ℤ pos 1 → ((a +ℤ b) *ℤ k) ≡ (a *ℤ k) +ℤ (b *ℤ k) → ((c +ℤ b) *ℤ k) ≡ (c *ℤ k) +ℤ (b *ℤ k)
step_up a b k c is so_far =
    let one : (c +ℤ b) ≡ (a +ℤ b) +ℤ pos 1 = omega (arith, ints, is) in
    let left : ((c +ℤ b) *ℤ k) ≡ ((a +ℤ b) *ℤ k) +ℤ k = ap (λ (n : ℤ). n *ℤ k) one ∙ more (a +ℤ b) k in
    let right : (c *ℤ k) ≡ (a *ℤ k) +ℤ k = ap (λ (n : ℤ). n *ℤ k) is ∙ more a k in
    omega (arith, ints, left, right, so_far)

step_down : (a b k c : ℤ) → c ≡ a -ℤ pos 1 → ((a +ℤ b) *ℤ k) ≡ (a *ℤ k) +ℤ (b *ℤ k) → ((c +ℤ b) *ℤ k) ≡ (c *ℤ k) +ℤ (b *ℤ k)
step_down a b k c is so_far =
    let one : (c +ℤ b) ≡ (a +ℤ b) -ℤ pos 1 = omega (arith, ints, is) in
    let left : ((c +ℤ b) *ℤ k) ≡ ((a +ℤ b) *ℤ k) -ℤ k = ap (λ (n : ℤ). n *ℤ k) one ∙ fewer (a +ℤ b) k in
    let right : (c *ℤ k) ≡ (a *ℤ k) -ℤ k = ap (λ (n : ℤ). n *ℤ k) is ∙ fewer a k in
    omega (arith, ints, left, right, so_far)

nothing : (b k : ℤ) → ((pos 0 +ℤ b) *ℤ k) ≡ (pos 0 *ℤ k) +ℤ (b *ℤ k)
nothing b k =
    let one : (pos 0 +ℤ b) ≡ b = omega (arith, ints) in
    let left : ((pos 0 +ℤ b) *ℤ k) ≡ (b *ℤ k) = ap (λ (n : ℤ). n *ℤ k) one in
    omega (arith, ints, left, zero-*ℤ k)

sum_times : (a b k : ℤ) → ((a +ℤ b) *ℤ k) ≡ (a *ℤ k) +ℤ (b *ℤ k)
sum_times (pos zero) b k = nothing b k
sum_times (pos (suc n)) b k = step_up (pos n) b k (pos (suc n)) (omega (arith, ints)) (sum_times (pos n) b k)
sum_times (negsuc zero) b k = step_down (pos 0) b k (negsuc zero) (omega (arith, ints)) (nothing b k)
sum_times (negsuc (suc n)) b k = step_down (negsuc n) b k (negsuc (suc n)) (omega (arith, ints)) (sum_times (negsuc n) b k)

-- ---- an edge turned round

abbrev flip : Side → Side
flip s = record { from = s.to; to = s.from }

product_back : (a u b back rest : ℤ) → back ≡ neg_ℤ a → rest ≡ u -ℤ b → (back *ℤ rest) ≡ (b *ℤ a) -ℤ (a *ℤ u)
product_back a u b back rest one two =
    let same : (u -ℤ b) ≡ u +ℤ neg_ℤ b = omega (arith, ints) in
    let whole : (back *ℤ rest) ≡ neg_ℤ ((u +ℤ neg_ℤ b) *ℤ a)
    = ap₂ (λ (m n : ℤ). m *ℤ n) one (two ∙ same) ∙ neg_mul a (u +ℤ neg_ℤ b) ∙ ap neg_ℤ (*ℤ_comm a (u +ℤ neg_ℤ b)) in
    omega (arith, ints, whole, sum_times u (neg_ℤ b) a, neg_mul b a, *ℤ_comm u a)

-- what lies left of it lies right of it then
turn_flip : (p : Point) (s : Side) → turn (flip s) p ≡ neg_ℤ (turn s p)
turn_flip p s = by s.from.lat s.from.lon s.to.lat s.to.lon p.lat p.lon where
  by : (fa fl ta tl pa pl : ℤ)
      → (((fl -ℤ tl) *ℤ (pa -ℤ ta)) -ℤ ((fa -ℤ ta) *ℤ (pl -ℤ tl))) ≡ neg_ℤ (((tl -ℤ fl) *ℤ (pa -ℤ fa)) -ℤ ((ta -ℤ fa) *ℤ (pl -ℤ fl)))
  by fa fl ta tl pa pl =
      let one = product_back (tl -ℤ fl) (pa -ℤ fa) (ta -ℤ fa) (fl -ℤ tl) (pa -ℤ ta) (omega (arith, ints)) (omega (arith, ints)) in
      let two = product_back (ta -ℤ fa) (pl -ℤ fl) (tl -ℤ fl) (fa -ℤ ta) (pl -ℤ tl) (omega (arith, ints)) (omega (arith, ints)) in
      omega (arith, ints, one, two, *ℤ_comm (tl -ℤ fl) (ta -ℤ fa))

zero_neg : (x : ℤ) → int_eq (neg_ℤ x) (pos 0) ≡ int_eq x (pos 0)
zero_neg x = grind (arith, ints)

above_neg : (x : ℤ) → int_lt (pos 0) (neg_ℤ x) ≡ int_lt x (pos 0)
above_neg x = grind (arith, ints)

below_neg : (x : ℤ) → int_lt (neg_ℤ x) (pos 0) ≡ int_lt (pos 0) x
below_neg x = grind (arith, ints)

or_swap : (a b : Bool) → (a || b) ≡ (b || a)
or_swap true true = refl
or_swap true false = refl
or_swap false true = refl
or_swap false false = refl

on_flip : (p : Point) (s : Side) → is_on p (flip s) ≡ is_on p s
on_flip p s =
    ap₂ (λ a b. a && b) (ap (λ (t : ℤ). int_eq t (pos 0)) (turn_flip p s) ∙ zero_neg (turn s p))
    (ap₂ (λ a b. a && b) (or_swap (int_le s.to.lat p.lat && int_le p.lat s.from.lat) (int_le s.from.lat p.lat && int_le p.lat s.to.lat))
    (or_swap (int_le s.to.lon p.lon && int_le p.lon s.from.lon) (int_le s.from.lon p.lon && int_le p.lon s.to.lon)))

crosses_flip : (p : Point) (s : Side) → crosses p (flip s) ≡ crosses p s
crosses_flip p s =
    by (int_le s.from.lat p.lat) (int_le s.to.lat p.lat) (int_lt p.lat s.from.lat) (int_lt p.lat s.to.lat)
    (int_lt (pos 0) (turn (flip s) p)) (int_lt (turn (flip s) p) (pos 0)) (int_lt (pos 0) (turn s p)) (int_lt (turn s p) (pos 0))
    (not_le_lt p.lat s.from.lat) (not_le_lt p.lat s.to.lat)
    (ap (λ (t : ℤ). int_lt (pos 0) t) (turn_flip p s) ∙ above_neg (turn s p)) (ap (λ (t : ℤ). int_lt t (pos 0)) (turn_flip p s) ∙ below_neg (turn s p))
  where
    by : (f t pf pt l r l' r' : Bool) → pf ≡ not f → pt ≡ not t → l ≡ r' → r ≡ l' → cond t (pf && l) (f && r) ≡ cond f (pt && l') (t && r')
    by true true pf pt l r l' r' one two three four = rw (one, two) refl
    by true false pf pt l r l' r' one two three four = rw (two, four) refl
    by false true pf pt l r l' r' one two three four = rw (one, three) refl
    by false false pf pt l r l' r' one two three four = refl

-- ---- what a ring and others say, edge by edge

path_more : (end from last : Point) (rest : List Point) → sides_back end from (rest ++ last ∷ []) ≡ sides_back last from rest ++ (record { from = last; to = end }) ∷ []
path_more end from last [] = refl
path_more end from last (to ∷ rest) = ap (λ l. record { from = from; to = to } ∷ l) (path_more end to last rest)

module _ (join : Bool → Bool → Bool) (says : List Side → Bool) (parts : (xs ys : List Side) → says (xs ++ ys) ≡ join (says xs) (says ys))
    (swap : (a b : Bool) → join a b ≡ join b a) (flipped : (s : Side) → says (flip s ∷ []) ≡ says (s ∷ [])) where
  moved : (xs ys : List Side) → says (xs ++ ys) ≡ says (ys ++ xs)
  moved xs ys = parts xs ys ∙ swap (says xs) (says ys) ∙ sym (parts ys xs)

  first_last : (first : Point) (rest : List Point) → says (ring_sides (rest ++ first ∷ [])) ≡ says (ring_sides (first ∷ rest))
  first_last first [] = refl
  first_last first (second ∷ rest) =
      ap says (path_more second second first rest) ∙ moved (sides_back first second rest) (record { from = first; to = second } ∷ [])

  begun : (front back : List Point) → says (ring_sides (back ++ front)) ≡ says (ring_sides (front ++ back))
  begun [] back = ap (λ l. says (ring_sides l)) (append-nil back)
  begun (first ∷ front) back =
      ap (λ l. says (ring_sides l)) (sym (append_assoc back (first ∷ []) front)) ∙ begun front (back ++ first ∷ [])
      ∙ ap (λ l. says (ring_sides l)) (sym (append_assoc front back (first ∷ []))) ∙ first_last first (front ++ back)

  path_back : (start end : Point) (places : List Point) → says (sides_back start end (reverse places)) ≡ says (sides_back end start places)
  path_back start end [] = flipped (record { from = start; to = end })
  path_back start end (to ∷ places) =
      ap (λ l. says (sides_back start end l)) (reverse-append (to ∷ []) places) ∙ ap says (path_more start end to (reverse places))
      ∙ parts (sides_back to end (reverse places)) (record { from = to; to = start } ∷ [])
      ∙ ap₂ join (path_back to end places) (flipped (record { from = start; to = to }))
      ∙ swap (says (sides_back end to places)) (says (record { from = start; to = to } ∷ []))
      ∙ sym (parts (record { from = start; to = to } ∷ []) (sides_back end to places))

  turned : (ring : List Point) → says (ring_sides (reverse ring)) ≡ says (ring_sides ring)
  turned [] = refl
  turned (first ∷ rest) = ap (λ l. says (ring_sides l)) (reverse-append (first ∷ []) rest) ∙ first_last first (reverse rest) ∙ path_back first first rest

  among : (before after : List (List Point)) (one two : List Point) → says (ring_sides one) ≡ says (ring_sides two)
      → says (rings_sides (before ++ one ∷ after)) ≡ says (rings_sides (before ++ two ∷ after))
  among [] after one two same =
      parts (ring_sides one) (rings_sides after) ∙ ap (λ b. join b (says (rings_sides after))) same ∙ sym (parts (ring_sides two) (rings_sides after))
  among (ring ∷ before) after one two same =
      parts (ring_sides ring) (rings_sides (before ++ one ∷ after)) ∙ ap (join (says (ring_sides ring))) (among before after one two same)
      ∙ sym (parts (ring_sides ring) (rings_sides (before ++ two ∷ after)))

-- ---- which of its edges a place lies on, and how many its ray crosses

module _ (lat lon : ℤ) where
  abbrev place : Point
  place = record { lat = lat; lon = lon }

  abbrev lies : List Side → Bool
  lies sides = list_any (is_on place) sides

  abbrev odd : List Side → Bool
  odd sides = is_odd_of (crosses place) sides

  lies_flip : (s : Side) → lies (flip s ∷ []) ≡ lies (s ∷ [])
  lies_flip s = ap (λ b. b || false) (on_flip place s)

  odd_flip : (s : Side) → odd (flip s ∷ []) ≡ odd (s ∷ [])
  odd_flip s = odd_cons (crosses place) (flip s) [] ∙ ap (λ b. differ b false) (crosses_flip place s) ∙ sym (odd_cons (crosses place) s [])

  same_places : (before after : List (List Point)) (one two : List Point) → lies (ring_sides one) ≡ lies (ring_sides two) → odd (ring_sides one) ≡ odd (ring_sides two)
      → is_in_polygon (polygon_of (before ++ one ∷ after)) lat lon ≡ is_in_polygon (polygon_of (before ++ two ∷ after)) lat lon
  same_places before after one two on crossed =
      box_takes_none (before ++ one ∷ after) lat lon
      ∙ ap₂ (λ a b. is_on_earth lat lon && (a || b))
      (among (λ a b. a || b) lies (list_any-append (is_on place)) or_swap lies_flip before after one two on)
      (among differ odd (odd_append (crosses place)) differ_swap odd_flip before after one two crossed)
      ∙ sym (box_takes_none (before ++ two ∷ after) lat lon)

pub ring_turned : (before after : List (List Point)) (ring : List Point) (lat lon : ℤ)
    → is_in_polygon (polygon_of (before ++ reverse ring ∷ after)) lat lon ≡ is_in_polygon (polygon_of (before ++ ring ∷ after)) lat lon
ring_turned before after ring lat lon =
    same_places lat lon before after (reverse ring) ring
    (turned (λ a b. a || b) (lies lat lon) (list_any-append (is_on (place lat lon))) or_swap (lies_flip lat lon) ring)
    (turned differ (odd lat lon) (odd_append (crosses (place lat lon))) differ_swap (odd_flip lat lon) ring)

pub ring_begun : (before after : List (List Point)) (front back : List Point) (lat lon : ℤ)
    → is_in_polygon (polygon_of (before ++ (back ++ front) ∷ after)) lat lon ≡ is_in_polygon (polygon_of (before ++ (front ++ back) ∷ after)) lat lon
ring_begun before after front back lat lon =
    same_places lat lon before after (back ++ front) (front ++ back)
    (begun (λ a b. a || b) (lies lat lon) (list_any-append (is_on (place lat lon))) or_swap (lies_flip lat lon) front back)
    (begun differ (odd lat lon) (odd_append (crosses (place lat lon))) differ_swap (odd_flip lat lon) front back)
