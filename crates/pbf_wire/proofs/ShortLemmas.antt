-- Columns whose numbers take at most five bytes each have no wire fault, and their numbers and sums are small.
use Rattle.std.proofs.Common.{◌≡◌, ℕ, zero, suc, ◌+◌, ◌-◌, ◌*◌, ◌/◌, ◌%◌, ◌^◌, ◌<◌, ◌≤◌, bit_and, bit_or, leb, ◌==◌, Bool, true, false, ℤ, pos, ◌+ℤ◌, List, [], ◌∷◌, length, map, get_or, take, drop, refl, sym, ap, subst, ◌∙◌, arith, inl, inr, ◌⊎◌}
use Rattle.std.specs.Prelude.{unsigned_abs, Ok, Option, None, Some, MatchOption, ⊤, count_by, nat_lt, IsBitSet, slice_index, ◌≤ℤ◌, neg_ℤ, if◌then◌else◌}
use Rattle.std.specs.List.{prefix_len, AllByRecursion}
use Rattle.std.specs.Int.{bit_at}
use Rattle.std.proofs.lemmas.Nat.{bit_set_by_shift, and_mask, shr-shr}
use Rattle.std.proofs.lemmas.Nat.Bits.{bit_at_or, bit_at_and, bit_at_ones, bit_at-lt, bit_at_cat_low, bit_at_cat_high}
use Rattle.std.proofs.Math.Pow.{pow_mono}
use Rattle.std.proofs.lemmas.Bool.{cases_lt, leb-true, leb-false, eqb-true}
use Rattle.std.proofs.lemmas.Int.{ints}
use Rattle.std.proofs.lemmas.List.Sums.{prefix_len_passes, prefix_len_stops}
use Rattle.std.proofs.lemmas.List.{get_or-take, get_or-drop, length-append, length-map, length-take, length-drop}
use Rattle.pbf_wire.specs.Varint.{value_of, varint_at}
use Rattle.pbf_wire.specs.declared.fields.Fields.{Fields}
use Rattle.pbf_wire.specs.declared.column.Column.{Column}
use Rattle.pbf_wire.specs.declared.sums.Sums.{Sums}
use Rattle.pbf_wire.specs.Cursors.{fields_left, column_left, sums_left, found_left}
use Rattle.pbf_wire.specs.Occurrence.{Occurrence, found}
use Rattle.pbf_wire.specs.Columns.{Entry, entries, read_entries, entry_fault, placed, content_numbers, column_of, joined}
use Rattle.pbf_wire.specs.Signed.{delta_in, unzigzag, IsWithin}
use Rattle.pbf_wire.specs.Faults.{fields_in, sum_faults}
use Rattle.pbf_wire.specs.Short.{EndsWithin, IsShort}
use Rattle.pbf_wire.proofs.Varints.{pow_128, ended_at}
use Rattle.pbf_wire.proofs.Spellings.{value_below}
use Rattle.pbf_wire.proofs.Columns.{entries_none, entries_ok}
use Rattle.pbf_wire.specs.Sums.{sums_from, sums_within}
use Rattle.pbf_wire.proofs.SumLemmas.{all_within, running_sums}
use Rattle.pbf_wire.proofs.NoFaultLemmas.{sums_good_written}
use Rattle.pbf_wire.proofs.FaultLemmas.{column_short, ends_counted, numbers_within}
use Rattle.pbf_wire.proofs.SoundLemmas.{ends_are_numbers}
use Rattle.pbf_wire.proofs.AllLemmas.{all_append, all_map}

-- ---- a mask of ends

bit_is : (mask i : ℕ) → IsBitSet mask i → bit_at mask i ≡ 1
bit_is mask i h = sym (and_mask (mask / 2 ^ i) 1) ∙ (bit_set_by_shift mask i).1 h

is_set : (mask i : ℕ) → bit_at mask i ≡ 1 → IsBitSet mask i
is_set mask i e = (bit_set_by_shift mask i).0 (and_mask (mask / 2 ^ i) 1 ∙ e)

-- an end within the whole is one within one of the halves
pub both_halves : (front back i : ℕ) → front < 2 ^ 32 → IsBitSet (back * 2 ^ 32 + front) i → (i < 32) × IsBitSet front i ⊎ (32 ≤ i) × IsBitSet back (i - 32)
both_halves front back i small h =
    elim (cases_lt i 32) [
      | inl lt ↦ inl (lt, is_set front i (sym (bit_at_cat_low back 32 front i lt) ∙ bit_is _ i h))
      | inr ge ↦ inr (ge, is_set back (i - 32) (sym (bit_at_cat_high back 32 front i small ge) ∙ bit_is _ i h))
    ]

moved : (mask k i : ℕ) → bit_at (mask / 2 ^ k) i ≡ bit_at mask (i + k)
moved mask k i = let e : k + i ≡ i + k = omega arith in ap (λ n. n % 2) (shr-shr mask k i) ∙ ap (bit_at mask) e

-- a bit of a mask joined with a shifted one is in the one, or so many places on in the other
either : (a b k i : ℕ) → bit_at (bit_or a (b / 2 ^ k)) i ≡ 1 → (bit_at a i ≡ 1) ⊎ (bit_at b (i + k) ≡ 1)
either a b k i e = grind (arith, cases_lt, bit_at_or, moved, bit_at-lt)

-- one of so many places from i on
abbrev Near : ℕ → ℕ → ℕ → Type 0
Near mask places i = (j : ℕ) × (j < places) × (bit_at mask (i + j) ≡ 1)

double : (mask two i k : ℕ) → ((i : ℕ) → bit_at two i ≡ 1 → Near mask k i) → bit_at (bit_or two (two / 2 ^ k)) i ≡ 1 → Near mask (k + k) i
double mask two i k h e =
    elim (either two two k i e) [
      | inl here ↦ let n = h i here in (n.0, omega (arith, n.1), n.2)
      | inr later ↦
          let n = h (i + k) later in
          let at : i + k + n.0 ≡ i + (k + n.0) = omega arith in
          (k + n.0, omega (arith, n.1), sym (ap (bit_at mask) at) ∙ n.2)
    ]

-- one of five, where the mask and what it is shifted by are joined in three steps
abbrev two_of : ℕ → ℕ
two_of mask = bit_or mask (mask / 2 ^ 1)

abbrev four_of : ℕ → ℕ
four_of mask = bit_or (two_of mask) (two_of mask / 2 ^ 2)

one : (mask i : ℕ) → bit_at mask i ≡ 1 → Near mask 1 i
one mask i e = let at : i + 0 ≡ i = omega arith in (0, omega arith, ap (bit_at mask) at ∙ e)

five : (mask i : ℕ) → bit_at (bit_or (four_of mask) (mask / 2 ^ 4)) i ≡ 1 → Near mask 5 i
five mask i e =
    elim (either (four_of mask) mask 4 i e) [
      | inl here ↦
          let n = double mask (two_of mask) i 2 (λ i e. double mask mask i 1 (one mask) e) here in
          (n.0, omega (arith, n.1), n.2)
      | inr later ↦ (4, omega arith, later)
    ]

-- a window whose mask leaves none of the first 60 bytes out
pub all_told : (window : List ℕ) (mask : ℕ) → length window ≡ 64 → ((i : ℕ) → i < 64 → IsBitSet mask i → slice_index window i < 128)
    → bit_and (bit_or (four_of mask) (mask / 2 ^ 4)) (2 ^ 60 - 1) ≡ 2 ^ 60 - 1 → (i : ℕ) → i < 60 → EndsWithin 5 window i
all_told window mask long tells all i lt =
    let whole = bit_or (four_of mask) (mask / 2 ^ 4) in
    let bit : bit_at whole i ≡ 1 = omega (arith, ap (λ n. bit_at n i) all, bit_at_and whole (2 ^ 60 - 1) i, bit_at_ones 60 i lt, bit_at-lt whole i) in
    let n = five mask i bit in
    (n.0, n.1, omega (arith, n.1), tells (i + n.0) (omega (arith, n.1)) (is_set mask (i + n.0) n.2))

-- ---- of a part, of the whole

soon_in_front : (bytes : List ℕ) (n i : ℕ) → EndsWithin 5 (take n bytes) i → EndsWithin 5 bytes i
soon_in_front bytes n i h =
    let within : i + h.0 < n = omega (arith, h.2, length-take n bytes) in
    (h.0, h.1, omega (arith, h.2, length-take n bytes), omega (arith, h.3, get_or-take n bytes (i + h.0) 0 within))

soon_in_rest : (bytes : List ℕ) (n i : ℕ) → EndsWithin 5 (drop n bytes) i → EndsWithin 5 bytes (n + i)
soon_in_rest bytes n i h =
    let at : n + (i + h.0) ≡ n + i + h.0 = omega arith in
    (h.0, h.1, omega (arith, h.2, length-drop n bytes), omega (arith, h.3, get_or-drop n bytes (i + h.0) 0, ap (λ k. get_or bytes k 0) at))

-- from each of the last bytes on, if the last of all ends a varint
last_ends : (most : ℕ) (bytes : List ℕ) (i : ℕ) → i < length bytes → length bytes ≤ i + most → slice_index bytes (length bytes - 1) < 128 → EndsWithin most bytes i
last_ends most bytes i lt near last =
    let at : i + (length bytes - 1 - i) ≡ length bytes - 1 = omega (arith, lt) in
    (length bytes - 1 - i, omega (arith, lt, near), omega (arith, lt), omega (arith, last, ap (λ k. get_or bytes k 0) at))

-- one more window of the bytes, which are read from the left
pub one_more : (bytes window : List ℕ) (n : ℕ) → window ≡ take 64 (drop n bytes) → ((i : ℕ) → i < 60 → EndsWithin 5 window i) → ((i : ℕ) → i < n → EndsWithin 5 bytes i) → (i : ℕ) → i < n + 60 → EndsWithin 5 bytes i
one_more bytes window n is here done i lt =
    elim (cases_lt i n) [
      | inl below ↦ done i below
      | inr from ↦
          let at : n + (i - n) ≡ i = omega arith in
          subst (λ (k : ℕ). EndsWithin 5 bytes k) at (soon_in_rest bytes n (i - n) (soon_in_front (drop n bytes) 64 (i - n) (subst (λ (w : List ℕ). EndsWithin 5 w (i - n)) is (here (i - n) (omega arith)))))
    ]

last_soon : (window : List ℕ) (i : ℕ) → length window ≡ 64 → i < 64 → slice_index window 63 < 128 → ((i : ℕ) → i < 60 → EndsWithin 5 window i) → EndsWithin 5 window i
last_soon window i size lt last here =
    elim (cases_lt i 60) [
      | inl early ↦ here i early
      | inr late ↦
          let end : length window - 1 ≡ 63 = omega (arith, size) in
          last_ends 5 window i (omega (arith, size)) (omega (arith, size)) (omega (arith, last, ap (λ k. get_or window k 0) end))
    ]

-- the last window holds what is left, and its last byte ends the last number
pub all_short : (bytes window : List ℕ) (n : ℕ) → 64 ≤ length bytes → length bytes < n + 64 → window ≡ drop (length bytes - 64) bytes → slice_index window 63 < 128
    → ((i : ℕ) → i < 60 → EndsWithin 5 window i) → ((i : ℕ) → i < n → EndsWithin 5 bytes i) → IsShort bytes
all_short bytes window n long left is last here done i lt =
    elim (cases_lt i n) [
      | inl below ↦ done i below
      | inr from ↦
          let m = length bytes - 64 in
          let at : m + (i - m) ≡ i = omega arith in
          let size : length window ≡ 64 = omega (arith, ap length is, length-drop m bytes) in
          subst (λ (k : ℕ). EndsWithin 5 bytes k) at (soon_in_rest bytes m (i - m) (subst (λ (w : List ℕ). EndsWithin 5 w (i - m)) is (last_soon window (i - m) size (omega arith) last here)))
    ]

-- a window that begins with the bytes, of which the last ends the last number
pub short_few : (bytes window : List ℕ) → length bytes < 64 → take (length bytes) window ≡ bytes → slice_index bytes (length bytes - 1) < 128
    → ((i : ℕ) → i < 60 → EndsWithin 5 window i) → IsShort bytes
short_few bytes window few is last here i lt =
    elim (cases_lt (i + 5) (length bytes)) [
      | inl early ↦
          let h = here i (omega (arith, early, few)) in
          let within : i + h.0 < length bytes = omega (arith, early, h.1) in
          let same : get_or window (i + h.0) 0 ≡ get_or bytes (i + h.0) 0 = sym (get_or-take (length bytes) window (i + h.0) 0 within) ∙ ap (λ w. get_or w (i + h.0) 0) is in
          (h.0, h.1, within, omega (arith, h.3, same))
      | inr late ↦ last_ends 5 bytes i lt late last
    ]

-- ---- what the numbers of columns are in which a varint ends within so many bytes from each byte on

abbrev EachEnds : ℕ → List ℕ → Type 0
EachEnds most bytes = (i : ℕ) → i < length bytes → EndsWithin most bytes i

each_of_rest : (most : ℕ) (bytes : List ℕ) (n : ℕ) → EachEnds most bytes → EachEnds most (drop n bytes)
each_of_rest most bytes n h = λ i lt.
    let e = h (n + i) (omega (arith, lt, length-drop n bytes)) in
    let at : n + (i + e.0) ≡ n + i + e.0 = omega arith in
    (e.0, e.1, omega (arith, e.2, length-drop n bytes), omega (arith, e.3, get_or-drop n bytes (i + e.0) 0, ap (λ k. get_or bytes k 0) at))

-- the number at the start
record Front (most : ℕ) (bytes : List ℕ) : Type 0 where
  value : ℕ
  size : ℕ
  positive : 0 < size
  within : size ≤ length bytes
  small : value < 2 ^ (7 * most)
  read : varint_at bytes ≡ Ok (value, size)

front_of : (most : ℕ) (bytes : List ℕ) → most ≤ 9 → EndsWithin most bytes 0 → Front most bytes
front_of most bytes few h =
    let n = prefix_len (leb 128) bytes in
    let passes : (k : ℕ) → k < n → 128 ≤ get_or bytes k 0 = λ k l. leb-true _ _ (prefix_len_passes (leb 128) bytes k 0 l) in
    let at : 0 + h.0 ≡ h.0 = omega arith in
    let end : get_or bytes h.0 0 < 128 = subst (λ (k : ℕ). get_or bytes k 0 < 128) at h.3 in
    let early : n ≤ h.0 = elim (cases_lt h.0 n) [ inl lt ↦ absurd (omega (arith, end, passes h.0 lt)) | inr ge ↦ ge ] in
    let value = value_of (take (n + 1) bytes) in
    let small : value < 2 ^ (7 * most) =
    omega (arith, value_below bytes (n + 1) (omega (arith, h.2, early)), pow_128 (n + 1), pow_mono {i = 7 * (n + 1)} {j = 7 * most} (omega (arith, early, h.1))) in
    let fits : value < 2 ^ 64 = omega (arith, small, pow_mono {i = 7 * most} {j = 63} (omega (arith, few))) in
    let within : n < length bytes = omega (arith, h.2, early) in
    record {
      value = value;
      size = n + 1;
      positive = omega arith;
      within = omega (arith, within);
      small = small;
      read = ended_at bytes n value within (omega (arith, early, h.1, few)) passes (leb-false _ _ (prefix_len_stops (leb 128) bytes 0 within)) refl fits;
    }

-- there is no fault, and the numbers are small
abbrev AreRead : ℕ → List Entry → Type 0
AreRead most es = (entry_fault es ≡ None) × AllByRecursion (λ v. v < 2 ^ (7 * most)) (read_entries es)

all_read : (most : ℕ) → most ≤ 9 → (fuel : ℕ) (bytes : List ℕ) → length bytes ≤ fuel → EachEnds most bytes → AreRead most (entries bytes)
all_read most few fuel [] le h = subst (AreRead most) (sym (entries_none [] refl)) (refl, tt)
all_read most few zero (b ∷ bs) le h = absurd (omega arith)
all_read most few (suc fuel) (b ∷ bs) le h =
    let front = front_of most (b ∷ bs) few (h 0 (omega arith)) in
    let rest = drop front.size (b ∷ bs) in
    let more = all_read most few fuel rest (omega (arith, front.positive, length-drop front.size (b ∷ bs))) (each_of_rest most (b ∷ bs) front.size h) in
    subst (AreRead most) (sym (entries_ok (b ∷ bs) front.value front.size front.positive front.within front.read)) (more.0, (front.small, more.1))

pub short_column : (bytes : List ℕ) → IsShort bytes → entry_fault (entries bytes) ≡ None
short_column bytes h = (all_read 5 (omega arith) (length bytes) bytes (omega arith) h).0

pub short_numbers : (bytes : List ℕ) → IsShort bytes → AllByRecursion (λ v. v < 2 ^ 35) (read_entries (entries bytes))
short_numbers bytes h = (all_read 5 (omega arith) (length bytes) bytes (omega arith) h).1

-- of nine bytes none begins a number that is too long
pub few_bytes : (bytes : List ℕ) → length bytes ≤ 9 → slice_index bytes (length bytes - 1) < 128 → entry_fault (entries bytes) ≡ None
few_bytes bytes few last = (all_read 9 (omega arith) (length bytes) bytes (omega arith) (λ i lt. last_ends 9 bytes i lt (omega (arith, few)) last)).0

-- they are as many as the bytes that end one
pub short_counted : (r : Option ℕ) (bytes : List ℕ) → MatchOption r ⊤ (λ _. IsShort bytes) → MatchOption r ⊤ (λ n. n ≡ count_by (λ b. nat_lt b 128) bytes) → MatchOption r ⊤ (λ n. n ≡ length (read_entries (entries bytes)))
short_counted None bytes h n = tt
short_counted (Some count) bytes h n = n ∙ sym (ends_counted bytes) ∙ ends_are_numbers bytes (short_column bytes h)

pub short_below : (r : Option ℕ) (bytes : List ℕ) → MatchOption r ⊤ (λ _. IsShort bytes) → MatchOption r ⊤ (λ _. AllByRecursion (λ v. v < 2 ^ 35) (read_entries (entries bytes)))
short_below r bytes h = grind (arith, short_numbers)

-- ---- columns of such numbers

abbrev pub AllSmallPlaced : List (ℕ × ℕ) → Type 0
AllSmallPlaced xs = AllByRecursion (λ x. x.0 < 2 ^ 35) xs

-- one field more, whose numbers are small if they are the column's
pub column_more : (k : ℕ) (os rest : List Occurrence) (o : Occurrence) → os ≡ o ∷ rest → (o.number ≡ k → AllByRecursion (λ v. v < 2 ^ 35) (content_numbers o.content))
    → AllSmallPlaced (joined k rest) → AllSmallPlaced (joined k os)
column_more k os rest o is here later = subst (λ (w : List Occurrence). AllSmallPlaced (joined k w)) (sym is) (all_append _ (column_of k o) (joined k rest) (by (o.number == k) refl) later) where
  by : (b : Bool) → (o.number == k) ≡ b → AllSmallPlaced (if b then placed o.place (content_numbers o.content) else [])
  by true e = all_map (λ (x : ℕ × ℕ). x.0 < 2 ^ 35) (λ v. (v, o.place)) (content_numbers o.content) (here (eqb-true _ _ e))
  by false e = tt

-- and as many more as it has
pub count_more : (k : ℕ) (os rest : List Occurrence) (o : Occurrence) → os ≡ o ∷ rest → o.number ≡ k → length (joined k os) ≡ length (content_numbers o.content) + length (joined k rest)
count_more k os rest o is same = grind (arith, length-append, length-map)

-- the numbers of the occurrence that was begun, and those of the fields after it
pub begun_counted : (column : Column) (begun left : ℕ) → begun ≡ count_by (λ b. nat_lt b 128) column.packed.now → IsShort column.packed.now → left ≡ length (joined column.number (found_left column.fields)) → begun + left ≡ length (column_left column)
unfolding column_left
begun_counted column begun left few short more =
    let ns = read_entries (entries column.packed.now) in
    omega (arith, short_counted (Some begun) column.packed.now short few, more, length-append (placed column.packed_place ns) (joined column.number (found_left column.fields)), length-map {B = ℕ × ℕ} ns (λ v. (v, column.packed_place)))

pub begun_small : (column : Column) → IsShort column.packed.now → AllSmallPlaced (joined column.number (found_left column.fields)) → AllSmallPlaced (column_left column)
unfolding column_left
begun_small column short more =
    all_append _ (placed column.packed_place (read_entries (entries column.packed.now))) (joined column.number (found_left column.fields)) (all_map (λ (x : ℕ × ℕ). x.0 < 2 ^ 35) (λ v. (v, column.packed_place)) _ (short_numbers column.packed.now short)) more

-- they are no more than the bytes that are left
pub left_short : (k : ℕ) (fields : Fields) → length (joined k (found (fields_left fields))) ≤ length fields.rest.now
unfolding fields_left
left_short k fields = column_short k fields.at fields.rest.now

pub numbers_fit : (column : Column) → length (column_left column) ≤ length column.packed.now + length column.fields.0.rest.now
unfolding column_left
numbers_fit column = grind (arith, numbers_within, left_short, length-append, length-map)

-- ---- their sums

-- not beyond this distance
pub record IsNear (distance : ℕ) (n : ℤ) : Type 0 where
  pub above : neg_ℤ (pos distance) ≤ℤ n
  pub below : n ≤ℤ pos distance

small_number : (v : ℕ) → v < 2 ^ 35 → IsNear (2 ^ 35) (unzigzag v)
small_number v lt = record { above = grind (arith, ints); below = grind (arith, ints) }

-- of 32 bits no entry is further
small_delta : (narrow : Bool) (v : ℕ) → v < 2 ^ 35 → IsNear (2 ^ 35) (delta_in narrow v)
small_delta false v lt = small_number v lt
small_delta true v lt = small_number (v % 2 ^ 32) (omega arith)

abbrev limit : ℤ
limit = pos (2 ^ 62)

-- of at most 2^26 of them each is in range
each_within : (narrow : Bool) (start : ℤ) (xs : List (ℕ × ℕ)) (distance : ℕ) → IsNear distance start → distance + 2 ^ 35 * length xs < 2 ^ 62 → AllSmallPlaced xs
    → AllByRecursion (IsWithin limit) (sums_from start (map (delta_in narrow) (map (λ x. x.0) xs)))
each_within narrow start [] distance near room h = tt
each_within narrow start (x ∷ xs) distance near room h =
    let step = small_delta narrow x.0 h.0 in
    let sum = start +ℤ delta_in narrow x.0 in
    let next : IsNear (distance + 2 ^ 35) sum = record { above = omega (arith, ints, near.above, step.above); below = omega (arith, ints, near.below, step.below) } in
    (record { above = omega (arith, ints, next.above); below = omega (arith, ints, next.below) }, each_within narrow sum xs (distance + 2 ^ 35) next (omega (arith, room)) h.1)

pub small_sums : (k : ℕ) (fields : Fields) → length fields.rest.now ≤ 2 ^ 26 → AllSmallPlaced (joined k (found (fields_left fields))) → sum_faults (pos (2 ^ 62)) false (joined k (found (fields_left fields))) ≡ []
unfolding fields_left
small_sums k fields few h =
    let xs = joined k (fields_in fields.at fields.rest.now) in
    let none : IsNear 0 (pos 0) = record { above = omega (arith, ints); below = omega (arith, ints) } in
    let each = each_within false (pos 0) xs 0 none (omega (arith, few, column_short k fields.at fields.rest.now)) h in
    sums_good_written limit false xs (subst (λ (zs : List ℤ). AllByRecursion (IsWithin limit) zs) (running_sums (map (delta_in false) (map (λ x. x.0) xs))) each)

pub start_near : (start : ℤ) → unsigned_abs start < 2 ^ 61 → IsNear (2 ^ 61 - 1) start
start_near start low = record { above = omega (arith, ints, low); below = omega (arith, ints, low) }

sums_counted : (start : ℤ) (ds : List ℤ) → length (sums_from start ds) ≡ length ds
sums_counted start [] = refl
sums_counted start (d ∷ ds) = ap suc (sums_counted (start +ℤ d) ds)

-- a cursor over such a column, whose last value isn't far from 0: its values are as many as its numbers, and each is in range
module _ (values : Sums) (near : IsNear (2 ^ 61 - 1) values.total) (whole : values.limit ≡ pos (2 ^ 62)) where
  abbrev numbers : List (ℕ × ℕ)
  numbers = column_left values.entries

  abbrev entered : List ℤ
  entered = map (delta_in values.narrow) (map (λ x. x.0) numbers)

  record HasAll : Type 0 where
    counted : length (sums_left values) ≡ length numbers
    within : AllByRecursion (IsWithin limit) (sums_left values)

  all_there : (n : ℕ) → (n ≡ length numbers) × (n ≤ 2 ^ 26) → AllSmallPlaced numbers → HasAll
  all_there n few h =
      let each = each_within values.narrow values.total numbers (2 ^ 61 - 1) near (omega (arith, few.0, few.1)) h in
      let is = ap (λ most. sums_within most values.total entered) whole ∙ all_within limit values.total entered each in
      record {
        counted = ap (λ (zs : List ℤ). length zs) is ∙ sums_counted values.total entered ∙ length-map (map (λ (x : ℕ × ℕ). x.0) numbers) (delta_in values.narrow) ∙ length-map {B = ℕ} numbers (λ x. x.0);
        within = subst (λ (zs : List ℤ). AllByRecursion (IsWithin limit) zs) (sym is) each;
      }

  pub values_counted : (r : Option ℕ) → MatchOption r ⊤ (λ n. (n ≡ length numbers) × (n ≤ 2 ^ 26)) → MatchOption r ⊤ (λ _. AllSmallPlaced numbers) → MatchOption r ⊤ (λ n. n ≡ length (sums_left values))
  values_counted None few h = tt
  values_counted (Some n) few h = few.0 ∙ sym (all_there n few h).counted

  pub values_within : (r : Option ℕ) → MatchOption r ⊤ (λ n. (n ≡ length numbers) × (n ≤ 2 ^ 26)) → MatchOption r ⊤ (λ _. AllSmallPlaced numbers) → MatchOption r ⊤ (λ _. AllByRecursion (IsWithin (pos (2 ^ 62))) (sums_left values))
  values_within None few h = tt
  values_within (Some n) few h = (all_there n few h).within
