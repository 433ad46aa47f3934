-- Columns that are written hold the list that was pushed.
use Rattle.std.proofs.Common.{◌≡◌, ℕ, ◌^◌, ◌<◌, List, [], ◌∷◌, ◌++◌, ℤ, pos, ◌-ℤ◌, map, refl, sym, ap, subst, ◌∙◌, arith, append_assoc, append-nil}
use Rattle.std.specs.List.{AllByRecursion}
use Rattle.std.proofs.lemmas.Int.{ints}
use Rattle.std.proofs.lemmas.List.{map-append}
use mir.Syntax.{w64}
use mir.Val.{of_z, to_z}
use Rattle.pbf_wire.specs.Varint.{shortest}
use Rattle.pbf_wire.specs.Columns.{read_entries, packed}
use Rattle.pbf_wire.specs.Signed.{zigzag}
use Rattle.pbf_wire.specs.Sums.{differences, deltas}
use Rattle.pbf_wire.specs.Packed.{IsPacked, numbers_of, last_from, HoldsDeltas, values_of}
use Rattle.pbf_wire.proofs.Written.{column_reads_back, all_entries}
use Rattle.pbf_wire.proofs.SumLemmas.{IsSmall, small_zero, deltas_fit, sums_undo_deltas}
use Rattle.pbf_wire.proofs.AllLemmas.{all_push}

-- ---- plain numbers

all_read : (ns : List ℕ) → read_entries (all_entries ns) ≡ ns
all_read [] = refl
all_read (n ∷ ns) = ap (λ (xs : List ℕ). n ∷ xs) (all_read ns)

-- the numbers of a packed column are those that it was packed of
pub column_read : (ns : List ℕ) → AllByRecursion (λ n. n < 2 ^ 64) ns → numbers_of (packed ns) ≡ ns
column_read ns h = ap read_entries (column_reads_back ns h) ∙ all_read ns

pub packed_push : (ns : List ℕ) (n : ℕ) → packed ns ++ shortest n ≡ packed (ns ++ n ∷ [])
packed_push [] n = sym (append-nil (shortest n))
packed_push (m ∷ ms) n = append_assoc (shortest m) (packed ms) (shortest n) ∙ ap (λ (w : List ℕ). shortest m ++ w) (packed_push ms n)

is_packed_push : (bytes ns : List ℕ) (n : ℕ) → IsPacked bytes ns → n < 2 ^ 64 → IsPacked (bytes ++ shortest n) (ns ++ n ∷ [])
is_packed_push bytes ns n h lt = record {
  bytes_are = ap (λ (w : List ℕ). w ++ shortest n) h.bytes_are ∙ packed_push ns n;
  fit = all_push (λ n. n < 2 ^ 64) ns n h.fit lt;
}

pub is_read : (bytes ns : List ℕ) → IsPacked bytes ns → numbers_of bytes ≡ ns
is_read bytes ns h = ap numbers_of h.bytes_are ∙ column_read ns h.fit

-- what `push` leaves, if the numbers are read from the bytes
pub pushed_numbers : (bytes : List ℕ) (n : ℕ) → IsPacked bytes (numbers_of bytes) → n < 2 ^ 64 → numbers_of (bytes ++ shortest n) ≡ numbers_of bytes ++ n ∷ []
pushed_numbers bytes n h lt = is_read _ _ (is_packed_push bytes (numbers_of bytes) n h lt)

pub pushed_packed : (bytes : List ℕ) (n : ℕ) → IsPacked bytes (numbers_of bytes) → n < 2 ^ 64 → IsPacked (bytes ++ shortest n) (numbers_of (bytes ++ shortest n))
pushed_packed bytes n h lt = subst (IsPacked (bytes ++ shortest n)) (sym (pushed_numbers bytes n h lt)) (is_packed_push bytes (numbers_of bytes) n h lt)

-- ---- differences

differences_push : (start : ℤ) (values : List ℤ) (value : ℤ) → differences start (values ++ value ∷ []) ≡ differences start values ++ (value -ℤ last_from start values) ∷ []
differences_push start [] value = refl
differences_push start (v ∷ vs) value = ap (λ (ds : List ℤ). (v -ℤ start) ∷ ds) (differences_push v vs value)

deltas_push : (values : List ℤ) (value : ℤ) → deltas (values ++ value ∷ []) ≡ deltas values ++ zigzag (value -ℤ last_from (pos 0) values) ∷ []
deltas_push values value = ap (map zigzag) (differences_push (pos 0) values value) ∙ map-append zigzag (differences (pos 0) values) ((value -ℤ last_from (pos 0) values) ∷ [])

last_push : (start : ℤ) (values : List ℤ) (value : ℤ) → last_from start (values ++ value ∷ []) ≡ value
last_push start [] value = refl
last_push start (v ∷ vs) value = last_push v vs value

last_small : (start : ℤ) (values : List ℤ) → IsSmall start → AllByRecursion IsSmall values → IsSmall (last_from start values)
last_small start [] p h = p
last_small start (v ∷ vs) p h = last_small v vs h.0 h.1

pub held_last : (bytes : List ℕ) (last : ℤ) (values : List ℤ) → HoldsDeltas bytes last values → IsSmall last
held_last bytes last values h = subst IsSmall (sym h.last_is) (last_small (pos 0) values small_zero h.within)

holds_push : (bytes : List ℕ) (last : ℤ) (values : List ℤ) (value : ℤ) → HoldsDeltas bytes last values → IsSmall value → HoldsDeltas (bytes ++ shortest (zigzag (value -ℤ last))) value (values ++ value ∷ [])
holds_push bytes last values value h p = record {
  bytes_are = rw (h.bytes_are, h.last_is) (packed_push (deltas values) (zigzag (value -ℤ last_from (pos 0) values)) ∙ ap packed (sym (deltas_push values value)));
  last_is = sym (last_push (pos 0) values value);
  within = all_push IsSmall values value h.within p;
}

pub values_held : (bytes : List ℕ) (last : ℤ) (values : List ℤ) → HoldsDeltas bytes last values → values_of bytes ≡ values
values_held bytes last values h = grind (arith, column_read, deltas_fit, sums_undo_deltas)

-- what `push` leaves, if the values are read from the bytes
pub pushed_values : (bytes : List ℕ) (last value : ℤ) → HoldsDeltas bytes last (values_of bytes) → IsSmall value → values_of (bytes ++ shortest (zigzag (value -ℤ last))) ≡ values_of bytes ++ value ∷ []
pushed_values bytes last value h p = values_held _ _ _ (holds_push bytes last (values_of bytes) value h p)

pub pushed_deltas : (bytes : List ℕ) (last value : ℤ) → HoldsDeltas bytes last (values_of bytes) → IsSmall value → HoldsDeltas (bytes ++ shortest (zigzag (value -ℤ last))) value (values_of (bytes ++ shortest (zigzag (value -ℤ last))))
pushed_deltas bytes last value h p = subst (HoldsDeltas (bytes ++ shortest (zigzag (value -ℤ last))) value) (sym (pushed_values bytes last value h p)) (holds_push bytes last (values_of bytes) value h p)

-- ---- what the code computes on 64 bits

pub same_value : (value : ℤ) → IsSmall value → to_z w64 (of_z w64 value) ≡ value
same_value value p = omega (arith, ints)

pub same_difference : (value last : ℤ) → IsSmall value → IsSmall last → to_z w64 (of_z w64 (to_z w64 (of_z w64 value) -ℤ to_z w64 (of_z w64 last))) ≡ value -ℤ last
same_difference value last p q = omega (arith, ints)

pub appended : (old new : List ℕ) (value last : ℤ) (code : ℕ) → IsSmall value → IsSmall last → code ≡ zigzag (to_z w64 (of_z w64 (to_z w64 (of_z w64 value) -ℤ to_z w64 (of_z w64 last)))) → new ≡ old ++ shortest code
    → new ≡ old ++ shortest (zigzag (value -ℤ last))
appended old new value last code p q e f = f ∙ ap (λ n. old ++ shortest n) (e ∙ ap zigzag (same_difference value last p q))
