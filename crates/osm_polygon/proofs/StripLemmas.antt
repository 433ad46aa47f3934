-- The strips of edges.
use Rattle.std.proofs.Common.{◌≡◌, ◌≢◌, ℕ, zero, suc, ◌+◌, ◌-◌, ◌*◌, ◌/◌, ◌^◌, ◌<◌, ◌≤◌, Bool, true, false, ◌&&◌, ◌⊎◌, inl, inr, List, [], ◌∷◌, ◌++◌, length, length-append, get_or, Option, Some, None, refl, sym, ap, ap₂, subst, ◌∙◌, arith, rules}
use Rattle.std.specs.Prelude.{filter, slice_set, nat_le, nat_lt, min, max, if◌then◌else◌, cond}
use Rattle.std.specs.List.{slice_get, sum_by}
use Rattle.std.proofs.lemmas.Nat.{le-div}
use Rattle.std.proofs.Math.Nat.{div-mul-le_self, one-le-pow, mul-le-mul}
use Rattle.std.proofs.lemmas.List.{append-nil, length-map}
use Rattle.std.proofs.lemmas.List.Sums.{sum_by-append, sum_by-cons}
use Rattle.std.proofs.lemmas.List.Elements.{filter-append}
use Rattle.osm_polygon.specs.declared.edge.Edge.{Edge}
use Rattle.osm_polygon.specs.declared.edge.Axis.{Axis}
use Rattle.osm_polygon.specs.declared.place.Place.{Place}
use Rattle.osm_polygon.specs.declared.strips.Strip.{Strip}
use Rattle.osm_polygon.specs.declared.strips.StripRange.{StripRange}
use Rattle.osm_polygon.specs.Edges.{along, strip_number, lowest, highest, is_in_strip}
use Rattle.osm_polygon.specs.Strips.{AreStrips, AreWithin, lists_of, cut_at, pushed_at, with_edge, end_strip, span_of, spans_of, edges_held}

pub le_true : (a b : ℕ) → a ≤ b → nat_le a b ≡ true
le_true a b h = search rules

pub nat_le_is : (a b : ℕ) → nat_le a b ≡ true → a ≤ b
nat_le_is a b e = search rules

pub nat_lt_is : (a b : ℕ) → nat_lt a b ≡ true → a < b
nat_lt_is a b e = search rules

pub lt_true : (a b : ℕ) → a < b → nat_lt a b ≡ true
lt_true a b h = search rules

pub not_below : (a b : ℕ) → b ≤ a → nat_lt a b ≡ false
not_below a b h = search rules

pub not_lt : (a b : ℕ) → nat_lt a b ≡ false → b ≤ a
not_lt a b e = search rules

pub le_false : (a b : ℕ) → b < a → nat_le a b ≡ false
le_false a b h = search rules

and_false : (b : Bool) → (b && false) ≡ false
and_false true = refl
and_false false = refl

-- ---- lists of strips

pub no_edges : (axis : Axis) (shift number : ℕ) (strips : List Strip) (strip : Strip) → AreStrips axis shift number [] (lists_of strips) → strip.edges.items ≡ []
    → AreStrips axis shift number [] (lists_of (strips ++ strip ∷ []))
no_edges axis shift number [] strip are is = (is, tt)
no_edges axis shift number (first ∷ strips) strip are is = (are.0, no_edges axis shift (number + 1) strips strip are.1 is)

pub strip_at : (axis : Axis) (shift number : ℕ) (edges : List Edge) (strips : List Strip) (i : ℕ) (strip : Strip) → AreStrips axis shift number edges (lists_of strips)
    → slice_get strips i ≡ Some strip → strip.edges.items ≡ filter (is_in_strip axis shift (number + i)) edges
strip_at axis shift number edges [] i strip are e = absurd (none_some e) where
  none_some : ◌≡◌ {A = Option Strip} None (Some strip) → ⊥
  none_some e = cc
strip_at axis shift number edges (first ∷ strips) zero strip are e =
    let here : number ≡ number + 0 = omega arith in
    subst (λ (n : ℕ). strip.edges.items ≡ filter (is_in_strip axis shift n) edges) here (subst (λ (b : Strip). b.edges.items ≡ filter (is_in_strip axis shift number) edges) (same e) are.0) where
      same : Some first ≡ Some strip → first ≡ strip
      same e = cc
strip_at axis shift number edges (first ∷ strips) (suc i) strip are e =
    let same : (number + 1) + i ≡ number + suc i = omega arith in
    subst (λ (n : ℕ). strip.edges.items ≡ filter (is_in_strip axis shift n) edges) same (strip_at axis shift (number + 1) edges strips i strip are.1 e)

-- ---- the numbers of strips

div_mono : (k a b : ℕ) → 0 < k → a ≤ b → a / k ≤ b / k
div_mono k a b some h = le-div (a / k) b k some (omega (arith, div-mul-le_self a k))

pub number_mono : (axis : Axis) (shift : ℕ) (p q : Place) → along axis p ≤ along axis q → strip_number axis shift p ≤ strip_number axis shift q
number_mono axis shift p q h =
    let some : 1 ≤ 2 ^ shift = one-le-pow shift 2 (omega arith) in
    div_mono (2 ^ shift) (along axis p) (along axis q) (omega (arith, some)) h

pub within_wider : (axis : Axis) (shift first end first' end' : ℕ) (edges : List Edge) → AreWithin axis shift first end edges → first' ≤ first → end ≤ end'
    → AreWithin axis shift first' end' edges
within_wider axis shift first end first' end' [] are low high = tt
within_wider axis shift first end first' end' (e ∷ edges) are low high =
    ((omega (arith, are.0.0, low), omega (arith, are.0.1, high)), within_wider axis shift first end first' end' edges are.1 low high)

pub within_more : (axis : Axis) (shift first end : ℕ) (edges : List Edge) (e : Edge) → AreWithin axis shift first end edges
    → first ≤ lowest axis shift e → highest axis shift e < end → AreWithin axis shift first end (edges ++ e ∷ [])
within_more axis shift first end [] e are low high = ((low, high), tt)
within_more axis shift first end (other ∷ edges) e are low high = (are.0, within_more axis shift first end edges e are.1 low high)

-- in wider strips
pub within_cut : (axis : Axis) (shift first last : ℕ) (edges : List Edge) → AreWithin axis 0 first (last + 1) edges
    → AreWithin axis shift (first / 2 ^ shift) (last / 2 ^ shift + 1) edges
within_cut axis shift first last [] are = tt
within_cut axis shift first last (e ∷ edges) are =
    (by (along axis e.from) (along axis e.to) are.0.0 are.0.1, within_cut axis shift first last edges are.1)
  where
    by : (a b : ℕ) → first ≤ min (a / 2 ^ 0) (b / 2 ^ 0) → max (a / 2 ^ 0) (b / 2 ^ 0) < last + 1
        → (first / 2 ^ shift ≤ min (a / 2 ^ shift) (b / 2 ^ shift)) × (max (a / 2 ^ shift) (b / 2 ^ shift) < last / 2 ^ shift + 1)
    by a b low high =
        let some : 0 < 2 ^ shift = omega (arith, one-le-pow shift 2 (omega arith)) in
        let one = div_mono (2 ^ shift) first a some (omega (arith, low)) in
        let two = div_mono (2 ^ shift) first b some (omega (arith, low)) in
        let three = div_mono (2 ^ shift) a last some (omega (arith, high)) in
        let four = div_mono (2 ^ shift) b last some (omega (arith, high)) in
        (omega (arith, one, two), omega (arith, three, four))

none_in : (low high n first end : ℕ) → first ≤ low → high < end → low ≤ high → (n < first) ⊎ (end ≤ n) → (nat_le low n && nat_le n high) ≡ false
none_in low high n first end one two three (inl h) = rw (le_false low n (omega (arith, one, h))) refl
none_in low high n first end one two three (inr h) = rw (le_false n high (omega (arith, two, h))) (and_false (nat_le low n))

-- no edge has a place in another strip
pub none_beyond : (axis : Axis) (shift first end n : ℕ) (edges : List Edge) → AreWithin axis shift first end edges → (n < first) ⊎ (end ≤ n)
    → filter (is_in_strip axis shift n) edges ≡ []
none_beyond axis shift first end n [] are beyond = refl
none_beyond axis shift first end n (e ∷ edges) are beyond =
    rw (none_in (lowest axis shift e) (highest axis shift e) n first end are.0.0 are.0.1 (omega arith) beyond) (none_beyond axis shift first end n edges are.1 beyond)

-- ---- how much that is

zero_div : (n : ℕ) → n < 2 ^ 39 → n / 2 ^ 39 ≡ 0
zero_div n h = omega (arith, h)

-- an edge is in no more strips than there are
span_most : (cut : StripRange) (e : Edge) → span_of cut e ≤ cut.end - cut.first
span_most cut e = by (lowest cut.axis cut.shift e) (highest cut.axis cut.shift e) cut.first cut.end where
  by : (low high first end : ℕ) → min (high + 1) end - max low first ≤ end - first
  by low high first end = omega arith

pub one_strip : (cut : StripRange) (edges : List Edge) → cut.end - cut.first ≤ 1 → spans_of cut edges ≤ length edges
one_strip cut [] one = omega arith
one_strip cut (e ∷ edges) one = omega (arith, sum_by-cons (span_of cut) e edges, span_most cut e, one, one_strip cut edges one)

pub all_few : (axis : Axis) (first last times : ℕ) (edges : List Edge) → last < 2 ^ 39 → 1 ≤ times → spans_of (cut_at axis 39 first last) edges ≤ times * length edges
all_few axis first last times edges small some =
    omega (arith, one_strip (cut_at axis 39 first last) edges (omega (arith, zero_div last small)), mul-le-mul some (le_self (length edges))) where
      le_self : (n : ℕ) → n ≤ n
      le_self n = omega arith

pub none_held : (strips : List Strip) (strip : Strip) → edges_held strips ≡ 0 → strip.edges.items ≡ [] → edges_held (strips ++ strip ∷ []) ≡ 0
none_held [] strip none is = rw is refl
none_held (first ∷ strips) strip none is =
    let here : edges_held (first ∷ strips) ≡ length first.edges.items + edges_held strips = sum_by-cons length first.edges.items (lists_of strips) in
    let more : edges_held ((first ∷ strips) ++ strip ∷ []) ≡ length first.edges.items + edges_held (strips ++ strip ∷ []) = sum_by-cons length first.edges.items (lists_of (strips ++ strip ∷ [])) in
    omega (arith, here, more, none, none_held strips strip (omega (arith, here, none)) is)

pub spans_more : (cut : StripRange) (edges : List Edge) (e : Edge) → spans_of cut (edges ++ e ∷ []) ≡ spans_of cut edges + span_of cut e
spans_more cut edges e = omega (arith, sum_by-append (span_of cut) edges (e ∷ []))

-- ---- an edge more in one strip

pub set_pushed : (strips : List Strip) (i : ℕ) (strip more : Strip) (e : Edge) → i < length strips → strip ≡ get_or strips i strip
    → more.edges.items ≡ strip.edges.items ++ e ∷ [] → lists_of (slice_set strips i more) ≡ pushed_at i e (lists_of strips)
set_pushed [] i strip more e below is pushed = absurd (omega (arith, below))
set_pushed (first ∷ strips) zero strip more e below is pushed = ap (λ near. near ∷ lists_of strips) (pushed ∙ ap (λ (b : Strip). b.edges.items ++ e ∷ []) is)
set_pushed (first ∷ strips) (suc i) strip more e below is pushed =
    ap (λ rest. first.edges.items ∷ rest) (set_pushed strips i strip more e (omega (arith, below)) is pushed)

pub past_pushed : (l : List (List Edge)) (i : ℕ) (e : Edge) → length l ≤ i → l ≡ pushed_at i e l
past_pushed [] i e past = refl
past_pushed (near ∷ more) zero e past = absurd (omega (arith, past))
past_pushed (near ∷ more) (suc i) e past = ap (λ rest. near ∷ rest) (past_pushed more i e (omega (arith, past)))

pub pushed_held : (l : List (List Edge)) (i : ℕ) (e : Edge) → sum_by length (pushed_at i e l) ≤ sum_by length l + 1
pushed_held [] i e = omega arith
pushed_held (near ∷ more) zero e =
    omega (arith, sum_by-cons length near more, sum_by-cons length (near ++ e ∷ []) more, length-append near (e ∷ []))
pushed_held (near ∷ more) (suc i) e =
    omega (arith, sum_by-cons length near more, sum_by-cons length near (pushed_at i e more), pushed_held more i e)

length_with : (test : ℕ → Bool) (e : Edge) (number : ℕ) (l : List (List Edge)) → length (with_edge test e number l) ≡ length l
length_with test e number [] = refl
length_with test e number (near ∷ more) = ap suc (length_with test e (number + 1) more)

pub same_number : (test : ℕ → Bool) (e : Edge) (number : ℕ) (before after : List Strip) → lists_of after ≡ with_edge test e number (lists_of before)
    → length after ≡ length before
same_number test e number before after is =
    sym (length-map after (λ s. s.edges.items)) ∙ ap length is ∙ length_with test e number (lists_of before) ∙ length-map before (λ s. s.edges.items)

-- ---- an edge more in those strips whose number passes a test

abbrev with_by : Bool → Edge → List Edge → List (List Edge) → List (List Edge)
with_by b e near more = (if b then near ++ e ∷ [] else near) ∷ more

with_upto : (test other : ℕ → Bool) (e : Edge) (k : ℕ) (l : List (List Edge)) → ((n : ℕ) → k ≤ n → n < k + length l → test n ≡ other n)
    → with_edge test e k l ≡ with_edge other e k l
with_upto test other e k [] h = refl
with_upto test other e k (near ∷ more) h =
    ap₂ (λ b rest. with_by b e near rest) (h k (omega arith) (omega arith))
    (with_upto test other e (k + 1) more (λ n le below. h n (omega (arith, le)) (omega (arith, below))))

with_same : (test other : ℕ → Bool) (e : Edge) (k : ℕ) (l : List (List Edge)) → ((n : ℕ) → k ≤ n → test n ≡ other n)
    → with_edge test e k l ≡ with_edge other e k l
with_same test other e k l h = with_upto test other e k l (λ n le below. h n le)

pub with_none : (test : ℕ → Bool) (e : Edge) (k : ℕ) (l : List (List Edge)) → ((n : ℕ) → k ≤ n → test n ≡ false) → with_edge test e k l ≡ l
with_none test e k [] h = refl
with_none test e k (near ∷ more) h =
    ap₂ (λ b rest. with_by b e near rest) (h k (omega arith)) (with_none test e (k + 1) more (λ n le. h n (omega (arith, le))))

with_one : (test other : ℕ → Bool) (e : Edge) (near : List Edge) (rest rest' : List (List Edge)) (k : ℕ) → test k ≡ false → other k ≡ true → rest ≡ rest'
    → pushed_at 0 e (with_by (test k) e near rest) ≡ with_by (other k) e near rest'
with_one test other e near rest rest' k off on same = rw (off, on, same) refl

pub with_pushed : (l : List (List Edge)) (test other : ℕ → Bool) (e : Edge) (k i : ℕ) → test (k + i) ≡ false → other (k + i) ≡ true
    → ((n : ℕ) → k ≤ n → n ≢ k + i → test n ≡ other n) → pushed_at i e (with_edge test e k l) ≡ with_edge other e k l
with_pushed [] test other e k i off on h = refl
with_pushed (near ∷ more) test other e k zero off on h =
    let here : k + 0 ≡ k = omega arith in
    with_one test other e near (with_edge test e (k + 1) more) (with_edge other e (k + 1) more) k
    (subst (λ n. test n ≡ false) here off) (subst (λ n. other n ≡ true) here on)
    (with_same test other e (k + 1) more (λ n le. h n (omega (arith, le)) (λ is. absurd (past n k le is))))
  where
    past : (n k : ℕ) → k + 1 ≤ n → n ≡ k + 0 → ⊥
    past n k le is = omega (arith, le, is)
with_pushed (near ∷ more) test other e k (suc i) off on h =
    let here : k + suc i ≡ (k + 1) + i = omega arith in
    ap₂ (λ b rest. with_by b e near rest) (h k (omega arith) (λ is. before i k is))
    (with_pushed more test other e (k + 1) i (subst (λ n. test n ≡ false) here off) (subst (λ n. other n ≡ true) here on)
    (λ n le other. h n (omega (arith, le)) (λ is. other (is ∙ here))))
  where
    before : (i k : ℕ) → k ≡ k + suc i → ⊥
    before i k is = omega (arith, is)

one_edge : (test : Edge → Bool) (e : Edge) (done near : List Edge) → near ≡ filter test done
    → (if test e then near ++ e ∷ [] else near) ≡ filter test (done ++ e ∷ [])
one_edge test e done near is = rw (is, filter-append test done (e ∷ [])) (by (test e)) where
  by : (b : Bool) → (if b then filter test done ++ e ∷ [] else filter test done) ≡ filter test done ++ cond b (e ∷ []) []
  by true = refl
  by false = sym (append-nil (filter test done))

-- an edge more in each strip that it has a place in
pub strips_with : (l : List (List Edge)) (axis : Axis) (shift number : ℕ) (done : List Edge) (e : Edge) → AreStrips axis shift number done l
    → AreStrips axis shift number (done ++ e ∷ []) (with_edge (λ n. is_in_strip axis shift n e) e number l)
strips_with [] axis shift number done e are = tt
strips_with (near ∷ more) axis shift number done e are =
    (one_edge (is_in_strip axis shift number) e done near are.0, strips_with more axis shift (number + 1) done e are.1)

-- the strips of an edge before a number
abbrev pub in_strip_below : Axis → ℕ → Edge → ℕ → ℕ → Bool
in_strip_below axis shift e number n = is_in_strip axis shift n e && nat_lt n number

none_below_self : (b : Bool) (n : ℕ) → (b && nat_lt n n) ≡ false
none_below_self false n = refl
none_below_self true n = not_below n n (omega arith)

pub none_below : (axis : Axis) (shift : ℕ) (e : Edge) (first from n : ℕ) → from ≡ max (lowest axis shift e) first → first ≤ n → in_strip_below axis shift e from n ≡ false
none_below axis shift e first from n is le = by (nat_le (lowest axis shift e) n) (nat_le n (highest axis shift e)) (nat_lt n from) refl refl
  where
    never : (low : ℕ) → low ≤ n → n < from → from ≡ max low first → ⊥
    never low one two is = omega (arith, one, two, is, le)

    by : (a b c : Bool) → nat_le (lowest axis shift e) n ≡ a → nat_lt n from ≡ c → ((a && b) && c) ≡ false
    by false b c low high = refl
    by true false c low high = refl
    by true true false low high = refl
    by true true true low high = absurd (never (lowest axis shift e) (nat_le_is (lowest axis shift e) n low) (nat_lt_is n from high) is)

-- at a number that an edge has a place in, its strips below the next one are one more
pub next_pushed : (l : List (List Edge)) (axis : Axis) (shift : ℕ) (e : Edge) (first number : ℕ) → first ≤ number → lowest axis shift e ≤ number → number ≤ highest axis shift e
    → pushed_at (number - first) e (with_edge (in_strip_below axis shift e number) e first l) ≡ with_edge (in_strip_below axis shift e (number + 1)) e first l
next_pushed l axis shift e first number begun low high =
    let here : number ≡ first + (number - first) = omega (arith, begun) in
    with_pushed l (in_strip_below axis shift e number) (in_strip_below axis shift e (number + 1)) e first (number - first)
    (subst (λ n. in_strip_below axis shift e number n ≡ false) here off) (subst (λ n. in_strip_below axis shift e (number + 1) n ≡ true) here on)
    (λ n le other. ap (λ b. is_in_strip axis shift n e && b) (others n (λ is. other (is ∙ here))))
  where
    off : in_strip_below axis shift e number number ≡ false
    off = none_below_self (is_in_strip axis shift number e) number

    on : in_strip_below axis shift e (number + 1) number ≡ true
    on = rw (le_true (lowest axis shift e) number low, le_true number (highest axis shift e) high, lt_true number (number + 1) (omega arith)) refl

    others : (n : ℕ) → n ≢ number → nat_lt n number ≡ nat_lt n (number + 1)
    others n other = search (arith, other)

-- at the end the strips of an edge below that number are all of them that there are
past_all : (a b : Bool) (n high first end number size : ℕ) → nat_le n high ≡ b → first ≤ n → n < first + size → size ≡ end - first → min (high + 1) end ≤ number
    → ((a && b) && nat_lt n number) ≡ (a && b)
past_all false b n high first end number size is low below all past = refl
past_all true false n high first end number size is low below all past = refl
past_all true true n high first end number size is low below all past =
    lt_true n number (let most = nat_le_is n high is in omega (arith, most, low, below, all, past))

pub all_pushed : (cut : StripRange) (e : Edge) (number : ℕ) (l : List (List Edge)) → length l ≡ cut.end - cut.first → end_strip cut e ≤ number
    → with_edge (in_strip_below cut.axis cut.shift e number) e cut.first l ≡ with_edge (λ n. is_in_strip cut.axis cut.shift n e) e cut.first l
all_pushed cut e number l all past =
    with_upto (in_strip_below cut.axis cut.shift e number) (λ n. is_in_strip cut.axis cut.shift n e) e cut.first l
    (λ n low below. past_all (nat_le (lowest cut.axis cut.shift e) n) (nat_le n (highest cut.axis cut.shift e)) n (highest cut.axis cut.shift e) cut.first cut.end number (length l) refl low below all past)
