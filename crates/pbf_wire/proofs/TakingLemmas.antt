-- Values that are taken over as they are spelled.
use Rattle.std.proofs.Common.{◌≡◌, ◌+◌, ◌-◌, ◌*◌, ◌/◌, ◌<◌, ◌≤◌, ℕ, zero, suc, Bool, ℤ, pos, ◌+ℤ◌, ◌-ℤ◌, List, [], ◌∷◌, ◌++◌, length, replicate, take, drop, refl, sym, ap, ap₂, subst, ◌∙◌, arith, append_assoc, append-nil, length-append, take-append-drop}
use Rattle.std.specs.List.{AllByRecursion, sum}
use Rattle.std.proofs.lemmas.Bool.Decides.{nat_tests}
use Rattle.std.proofs.lemmas.Int.{ints}
use Rattle.std.proofs.lemmas.Grind.{flat_map-append}
use Rattle.std.proofs.Math.Seq.{take-add, take-nil, drop-nil}
use Rattle.std.proofs.lemmas.List.{map-append, length-replicate, take_at, drop_at, drop-drop}
use Rattle.pbf_wire.specs.Varint.{shortest, AreNeeded, Spells}
use Rattle.pbf_wire.specs.Cursors.{numbers_left, sums_left}
use Rattle.pbf_wire.specs.Packed.{HoldsDeltas, last_from, values_of}
use Rattle.pbf_wire.specs.Passing.{PassesSome}
use Rattle.pbf_wire.specs.Rising.{IsHalved, AreRising}
use Rattle.pbf_wire.specs.Signed.{zigzag, unzigzag, IsNear, IsWithin}
use Rattle.pbf_wire.specs.Sums.{differences}
use Rattle.pbf_wire.specs.Taking.{Left, left_of, deltas_after, PassesSpelled}
use Rattle.pbf_wire.specs.declared.column.Column.{Column}
use Rattle.pbf_wire.specs.declared.sums.Sums.{Sums}
use Rattle.pbf_wire.proofs.NextLemmas.{value_after, next_is}
use Rattle.pbf_wire.proofs.PackedLemmas.{values_held}
use Rattle.pbf_wire.proofs.RisingRuns.{values, half_is, rise_doubled, sum_cons, zeros_halved}
use Rattle.pbf_wire.proofs.Shortest.{one_byte}
use Rattle.pbf_wire.proofs.SumLemmas.{IsSmall}
use Rattle.pbf_wire.proofs.AllLemmas.{all_append, all_take}

-- ---- joined runs

differences_append : (start : ℤ) (xs ys : List ℤ) → differences start (xs ++ ys) ≡ differences start xs ++ differences (last_from start xs) ys
differences_append start [] ys = refl
differences_append start (x ∷ xs) ys = ap (λ (ds : List ℤ). (x -ℤ start) ∷ ds) (differences_append x xs ys)

last_append : (start : ℤ) (xs ys : List ℤ) → last_from start (xs ++ ys) ≡ last_from (last_from start xs) ys
last_append start [] ys = refl
last_append start (x ∷ xs) ys = last_append x xs ys

written_append : (start : ℤ) (xs ys : List ℤ) → deltas_after start (xs ++ ys) ≡ deltas_after start xs ++ deltas_after (last_from start xs) ys
written_append start xs ys = grind (arith, differences_append, map-append, flat_map-append)

pub none_taken : (left : Left) → PassesSpelled left left 0
none_taken left = record { taken = []; counted = refl; given = refl; last = refl; front = []; bytes = refl; spelled = λ _. refl }

needed_parts : (before : ℕ) (xs ys : List ℕ) → AreNeeded before (xs ++ ys) → AreNeeded before xs × AreNeeded 0 ys
needed_parts before [] [] h = (tt, tt)
needed_parts before [] (y ∷ ys) h = (tt, (λ none. absurd (omega (arith, none)), h.1))
needed_parts before (x ∷ xs) ys h = let rest = needed_parts x xs ys h.1 in ((h.0, rest.0), rest.1)

pub then_taken : (a b c : Left) (m n : ℕ) → PassesSpelled a b m → PassesSpelled b c n → PassesSpelled a c (m + n)
then_taken a b c m n h k = record {
  taken = h.taken ++ k.taken;
  counted = length-append h.taken k.taken ∙ ap₂ (λ x y. x + y) h.counted k.counted;
  given = h.given ∙ ap (λ (w : List ℤ). h.taken ++ w) k.given ∙ sym (append_assoc h.taken k.taken c.values);
  last = k.last ∙ ap (λ z. last_from z k.taken) h.last ∙ sym (last_append a.last h.taken k.taken);
  front = h.front ++ k.front;
  bytes = h.bytes ∙ ap (λ (w : List ℕ). h.front ++ w) k.bytes ∙ sym (append_assoc h.front k.front c.bytes);
  spelled = λ needed.
      let both = needed_parts 0 h.front k.front needed in
      ap₂ (λ (x y : List ℕ). x ++ y) (h.spelled both.0) (k.spelled both.1 ∙ ap (λ z. deltas_after z k.taken) h.last) ∙ sym (written_append a.last h.taken k.taken);
}

-- ---- one value

pub zigzag_unzigzag : (n : ℕ) → zigzag (unzigzag n) ≡ n
zigzag_unzigzag n = grind (arith, nat_tests)

difference_is : (a d : ℤ) → (a +ℤ d) -ℤ a ≡ d
difference_is a d = omega (arith, ints)

one_taken : (old new : Left) (number : ℕ) → new.last ≡ old.last +ℤ unzigzag number → old.values ≡ new.last ∷ new.values → Spells number old.bytes new.bytes → PassesSpelled old new 1
one_taken old new number sum values spells =
    let code : zigzag (new.last -ℤ old.last) ≡ number = ap (λ z. zigzag (z -ℤ old.last)) sum ∙ ap zigzag (difference_is old.last (unzigzag number)) ∙ zigzag_unzigzag number in
    record {
      taken = new.last ∷ [];
      counted = refl;
      given = values;
      last = refl;
      front = spells.front;
      bytes = spells.parts;
      spelled = λ needed. spells.spelled needed ∙ sym (append-nil (shortest number)) ∙ ap (λ n. shortest n ++ []) (sym code);
    }

-- ---- entries of one byte

abbrev left_at : ℤ → ℤ → Bool → List ℕ → List ℕ → Left
left_at limit total narrow bytes ns = record { bytes = bytes; values = values limit total narrow ns; last = total }

byte_taken : (limit total : ℤ) (narrow : Bool) (b : ℕ) (bytes ns : List ℕ) → b < 128 → IsWithin limit (total +ℤ unzigzag b)
    → PassesSpelled (left_at limit total narrow (b ∷ bytes) (b ∷ ns)) (left_at limit (total +ℤ unzigzag b) narrow bytes ns) 1
byte_taken limit total narrow b bytes ns small within =
    one_taken (left_at limit total narrow (b ∷ bytes) (b ∷ ns)) (left_at limit (total +ℤ unzigzag b) narrow bytes ns) b refl
    (value_after limit total narrow b ns (omega (arith, small)) within)
    (record { front = b ∷ []; parts = refl; spelled = λ _. sym (one_byte b small) })

-- entries that rise, up to a total that is in range
run_taken : (front bytes more : List ℕ) (limit total : ℤ) (narrow : Bool) → AllByRecursion IsHalved front → IsWithin limit total → IsWithin limit (total +ℤ pos (sum front / 2))
    → PassesSpelled (left_at limit total narrow (front ++ bytes) (front ++ more)) (left_at limit (total +ℤ pos (sum front / 2)) narrow bytes more) (length front)
run_taken [] bytes more limit total narrow each here there =
    let still : total ≡ total +ℤ pos (sum [] / 2) = omega (arith, ints) in
    subst (λ z. PassesSpelled (left_at limit total narrow bytes more) (left_at limit z narrow bytes more) 0) still (none_taken (left_at limit total narrow bytes more))
run_taken (b ∷ bs) bytes more limit total narrow each here there =
    let half = half_is b each.0.1 in
    let value = total +ℤ unzigzag b in
    let sums = sum_cons b bs in
    let even = each.0.1 in
    let end : value +ℤ pos (sum bs / 2) ≡ total +ℤ pos (sum (b ∷ bs) / 2) = omega (arith, ints, half, sums, even) in
    let next : IsWithin limit value = record { above = omega (arith, ints, half, here.above); below = omega (arith, ints, end, there.below) } in
    let one = byte_taken limit total narrow b (bs ++ bytes) (bs ++ more) each.0.0 next in
    let rest = run_taken bs bytes more limit value narrow each.1 next (subst (IsWithin limit) (sym end) there) in
    let count : 1 + length bs ≡ length (b ∷ bs) = omega arith in
    subst (PassesSpelled (left_at limit total narrow (b ∷ bs ++ bytes) (b ∷ bs ++ more)) (left_at limit (total +ℤ pos (sum (b ∷ bs) / 2)) narrow bytes more)) count
    (then_taken (left_at limit total narrow (b ∷ bs ++ bytes) (b ∷ bs ++ more)) (left_at limit value narrow (bs ++ bytes) (bs ++ more)) (left_at limit (total +ℤ pos (sum (b ∷ bs) / 2)) narrow bytes more) 1 (length bs) one
    (subst (λ z. PassesSpelled (left_at limit value narrow (bs ++ bytes) (bs ++ more)) (left_at limit z narrow bytes more) (length bs)) end rest))

-- ---- what a column holds after a run

pub holds_more : (bytes : List ℕ) (last : ℤ) (values more : List ℤ) → HoldsDeltas bytes last values → AllByRecursion IsSmall more → HoldsDeltas (bytes ++ deltas_after last more) (last_from last more) (values ++ more)
holds_more bytes last values more h small = record {
  bytes_are = ap₂ (λ (w : List ℕ) (z : ℤ). w ++ deltas_after z more) h.bytes_are h.last_is ∙ sym (written_append (pos 0) values more);
  last_is = ap (λ z. last_from z more) h.last_is ∙ sym (last_append (pos 0) values more);
  within = all_append IsSmall values more h.within small;
}

-- ---- of cursors

abbrev pub left_with : Sums → Column → ℤ → Left
left_with sums entries total = left_at sums.limit total sums.narrow entries.packed.now (numbers_left entries)

pub entry_taken : (old new : Sums) (entries : Column) (number : ℕ) → IsNear old.narrow number → numbers_left old.entries ≡ number ∷ numbers_left entries → Spells number old.entries.packed.now entries.packed.now
    → new.total ≡ old.total +ℤ unzigzag number → new.entries ≡ entries → new.limit ≡ old.limit → new.narrow ≡ old.narrow → PassesSpelled (left_of old) (left_of new) 1
entry_taken old new entries number small numbers bytes is entries_are limit_is narrow_is =
    one_taken (left_of old) (left_of new) number is (next_is old new entries old.narrow number (λ h. h) small numbers is entries_are limit_is narrow_is) (rw entries_are bytes)

run_passed : (old : Sums) (entries : Column) (front : List ℕ) → AllByRecursion IsHalved front → IsWithin old.limit (old.total +ℤ pos (sum front / 2)) → numbers_left old.entries ≡ front ++ numbers_left entries → old.entries.packed.now ≡ front ++ entries.packed.now
    → PassesSpelled (left_of old) (left_with old entries (old.total +ℤ pos (sum front / 2))) (length front)
run_passed old entries front each there numbers bytes =
    let end = left_with old entries (old.total +ℤ pos (sum front / 2)) in
    subst (λ (w : List ℕ). PassesSpelled (left_at old.limit old.total old.narrow w (numbers_left old.entries)) end (length front)) (sym bytes)
    (subst (λ (ns : List ℕ). PassesSpelled (left_at old.limit old.total old.narrow (front ++ entries.packed.now) ns) end (length front)) (sym numbers)
    (run_taken front entries.packed.now (numbers_left entries) old.limit old.total old.narrow each old.within there))

zeros_sum : (n : ℕ) → sum (replicate n 0) ≡ 0
zeros_sum zero = refl
zeros_sum (suc n) = omega (arith, sum_cons 0 (replicate n 0), zeros_sum n)

pub zeros_taken : (n : ℕ) (old : Sums) (entries : Column) → numbers_left old.entries ≡ replicate n 0 ++ numbers_left entries → old.entries.packed.now ≡ replicate n 0 ++ entries.packed.now → PassesSpelled (left_of old) (left_with old entries old.total) n
zeros_taken n old entries numbers bytes =
    let none = zeros_sum n in
    let still : old.total +ℤ pos (sum (replicate n 0) / 2) ≡ old.total = omega (arith, ints, none) in
    let run = run_passed old entries (replicate n 0) (zeros_halved n) (subst (IsWithin old.limit) (sym still) old.within) numbers bytes in
    subst (PassesSpelled (left_of old) (left_with old entries old.total)) (length-replicate n 0) (subst (λ z. PassesSpelled (left_of old) (left_with old entries z) (length {A = ℕ} (replicate n 0))) still run)

pub rising_taken : (old new : Sums) (entries : Column) (rise : ℕ) → AreRising (take 16 old.entries.packed.now) rise → numbers_left old.entries ≡ take 16 old.entries.packed.now ++ numbers_left entries → entries.packed.now ≡ drop 16 old.entries.packed.now
    → new.total ≡ old.total +ℤ unzigzag (2 * rise) → new.entries ≡ entries → new.limit ≡ old.limit → new.narrow ≡ old.narrow → PassesSpelled (left_of old) (left_of new) 16
rising_taken old new entries rise rising numbers bytes is entries_are limit_is narrow_is =
    let front = take 16 old.entries.packed.now in
    let whole : old.entries.packed.now ≡ front ++ entries.packed.now = sym (take-append-drop 16 old.entries.packed.now) ∙ ap (λ (w : List ℕ). front ++ w) (sym bytes) in
    let end : new.total ≡ old.total +ℤ pos (sum front / 2) = is ∙ ap (λ (d : ℤ). old.total +ℤ d) (rise_doubled rise) ∙ ap (λ (r : ℕ). old.total +ℤ pos r) rising.all in
    let within : IsWithin old.limit new.total = subst (λ z. IsWithin z new.total) limit_is new.within in
    let run = run_passed old entries front rising.each (subst (IsWithin old.limit) end within) numbers whole in
    rw (entries_are, limit_is, narrow_is) (subst (λ z. PassesSpelled (left_of old) (left_with old entries z) 16) (sym end) (subst (PassesSpelled (left_of old) (left_with old entries (old.total +ℤ pos (sum front / 2)))) rising.many run))

-- one run more, of those that are counted down
pub more_taken : (a b c : Left) (count left n : ℕ) → left ≤ count → n ≤ left → PassesSpelled a b (count - left) → PassesSpelled b c n → PassesSpelled a c (count - (left - n))
more_taken a b c count left n fewer enough h k = let all : count - left + n ≡ count - (left - n) = omega arith in subst (PassesSpelled a c) all (then_taken a b c (count - left) n h k)

pub start_taken : (left : Left) (count : ℕ) → PassesSpelled left left (count - count)
start_taken left count = let none : 0 ≡ count - count = omega arith in subst (PassesSpelled left left) none (none_taken left)

module _ (a b : Left) (n : ℕ) (h : PassesSpelled a b n) where
  taken_are : h.taken ≡ take n a.values
  taken_are = sym (ap (take n) h.given ∙ take_at h.taken b.values n h.counted)

  pub rest_are : b.values ≡ drop n a.values
  rest_are = sym (ap (drop n) h.given ∙ drop_at h.taken b.values n h.counted)

  pub last_is : b.last ≡ last_from a.last (take n a.values)
  last_is = h.last ∙ ap (last_from a.last) taken_are

  pub front_is : (front : List ℕ) → front ≡ take (length a.bytes - length b.bytes) a.bytes → AreNeeded 0 front → front ≡ deltas_after a.last (take n a.values)
  front_is front is needed = grind (arith, length-append, take_at, taken_are)

-- what is left to be skipped then
pub some_passed : (old new : Sums) (count left : ℕ) → PassesSpelled (left_of old) (left_of new) (count - left) → left ≤ count → PassesSome old new count left
some_passed old new count left h fewer =
    let whole : count - left + left ≡ count = omega (arith, fewer) in
    record {
      passed = ap (drop left) (rest_are (left_of old) (left_of new) (count - left) h) ∙ drop-drop left (count - left) (sums_left old) ∙ ap (λ n. drop n (sums_left old)) whole;
      there = omega (arith, fewer, h.counted, ap (λ (zs : List ℤ). length zs) h.given, length-append h.taken (sums_left new));
      fewer = fewer;
    }

-- ---- what a column holds after it

pub taken_values : (bytes : List ℕ) (last : ℤ) (more : List ℤ) → HoldsDeltas bytes last (values_of bytes) → AllByRecursion IsSmall more → values_of (bytes ++ deltas_after last more) ≡ values_of bytes ++ more
taken_values bytes last more h small = values_held _ _ _ (holds_more bytes last (values_of bytes) more h small)

pub taken_deltas : (bytes : List ℕ) (last : ℤ) (more : List ℤ) → HoldsDeltas bytes last (values_of bytes) → AllByRecursion IsSmall more → HoldsDeltas (bytes ++ deltas_after last more) (last_from last more) (values_of (bytes ++ deltas_after last more))
taken_deltas bytes last more h small =
    let all = bytes ++ deltas_after last more in
    subst (HoldsDeltas all (last_from last more)) (sym (taken_values bytes last more h small)) (holds_more bytes last (values_of bytes) more h small)

-- ---- values that move from one list to another

pub small_front : (values : List ℤ) (n : ℕ) → AllByRecursion IsSmall values → AllByRecursion IsSmall (take n values)
small_front values n h = all_take IsSmall n values h

-- so many of the count are still to be moved
pub record HaveMoved (all old new rest : List ℤ) (count left : ℕ) : Type 0 where
  pub fewer : left ≤ count
  pub taken : new ≡ old ++ take (count - left) all
  pub dropped : rest ≡ drop (count - left) all

pub more_moved : (all old new rest later left_over : List ℤ) (count left after : ℕ) → HaveMoved all old new rest count left → after ≤ left → later ≡ new ++ take (left - after) rest → left_over ≡ drop (left - after) rest → HaveMoved all old later left_over count after
more_moved all old new rest later left_over count left after h enough taken dropped =
    let n = count - left in
    let m = left - after in
    let both : count - after ≡ n + m = omega (arith, h.fewer, enough) in
    record {
      fewer = omega (arith, h.fewer, enough);
      taken = taken ∙ ap₂ (λ (x y : List ℤ). x ++ take m y) h.taken h.dropped ∙ append_assoc old (take n all) (take m (drop n all)) ∙ ap (λ (w : List ℤ). old ++ w) (sym (take-add n m all) ∙ ap (λ k. take k all) (sym both));
      dropped = dropped ∙ ap (drop m) h.dropped ∙ drop-drop m n all ∙ ap (λ k. drop k all) (sym both);
    }

pub one_moved : (all old new rest later left_over : List ℤ) (value : ℤ) (count left : ℕ) → HaveMoved all old new rest count left → 0 < left → rest ≡ value ∷ left_over → later ≡ new ++ value ∷ [] → HaveMoved all old later left_over count (left - 1)
one_moved all old new rest later left_over value count left h some first taken =
    let one : left - (left - 1) ≡ 1 = omega (arith, some) in
    more_moved all old new rest later left_over count left (left - 1) h (omega arith) (rw (one, first) taken) (rw (one, first) refl)

-- there are no more
pub all_moved : (all old new rest : List ℤ) (count left : ℕ) → HaveMoved all old new rest count left → rest ≡ [] → (new ≡ old ++ take count all) × (rest ≡ drop count all)
all_moved all old new rest count left h none =
    let end = more_moved all old new rest new rest count left 0 h (omega arith)
    (sym (ap (λ (w : List ℤ). new ++ take (left - 0) w) none ∙ ap (λ (w : List ℤ). new ++ w) (take-nil (left - 0)) ∙ append-nil new))
    (none ∙ sym (ap (drop (left - 0)) none ∙ drop-nil (left - 0))) in
    let whole : count - 0 ≡ count = omega arith in
    (end.taken ∙ ap (λ k. old ++ take k all) whole, end.dropped ∙ ap (λ k. drop k all) whole)
