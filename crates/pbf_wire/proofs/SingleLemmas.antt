-- Numbers of one byte, many at once.
use Rattle.std.proofs.Common.{◌≡◌, ◌-◌, ◌^◌, ◌<◌, ◌≤◌, ℕ, List, [], ◌∷◌, ◌++◌, length, map, take, drop, refl, sym, ap, ap₂, subst, ◌∙◌, arith, append_assoc, length-append, get_or, take-append-drop}
use Rattle.std.specs.List.{AllByRecursion}
use Rattle.std.proofs.lemmas.Grind.{flat_map-append}
use Rattle.std.proofs.lemmas.List.{take_at}
use Rattle.pbf_wire.specs.Varint.{shortest}
use Rattle.pbf_wire.specs.Columns.{entries, read_entries, packed, placed, joined}
use Rattle.pbf_wire.specs.Cursors.{column_left, found_left, numbers_left}
use Rattle.pbf_wire.specs.Packed.{IsPacked, numbers_of}
use Rattle.pbf_wire.specs.Rising.{AreSingle}
use Rattle.pbf_wire.specs.declared.column.Column.{Column}
use Rattle.pbf_wire.proofs.PackedLemmas.{is_read}
use Rattle.pbf_wire.proofs.RisingRuns.{all_read, placed_run}
use Rattle.pbf_wire.proofs.Shortest.{one_byte}
use Rattle.pbf_wire.proofs.AllLemmas.{all_append, all_weaker}

abbrev pub AllSingle : List ℕ → Type 0
AllSingle bytes = AllByRecursion (λ b. b < 128) bytes

pub more_single : (bytes rest after front : List ℕ) → AreSingle bytes rest → rest ≡ front ++ after → AllSingle front → AreSingle bytes after
more_single bytes rest after front h parts each = record {
  front = h.front ++ front;
  parts = h.parts ∙ ap (λ (w : List ℕ). h.front ++ w) parts ∙ sym (append_assoc h.front front after);
  each = all_append (λ b. b < 128) h.front front h.each each;
}

pub first_single : (bytes rest : List ℕ) → AreSingle bytes rest → 1 ≤ length rest → get_or rest 0 0 < 128 → AreSingle bytes (drop 1 rest)
first_single bytes [] h some small = absurd (omega arith)
first_single bytes (b ∷ bs) h some small = more_single bytes (b ∷ bs) bs (b ∷ []) h refl (small, tt)

-- the bytes that passed the test, of those that were tested: the first ones of the column
module _ (within rest : List ℕ) (h : AreSingle within rest) where
  pub front_is : (bytes : List ℕ) (n : ℕ) → within ≡ take n bytes → take (length within - length rest) bytes ≡ h.front
  front_is bytes n is =
      let long : length h.front ≡ length within - length rest = omega (arith, ap length h.parts, length-append h.front rest) in
      let whole : bytes ≡ h.front ++ (rest ++ drop n bytes) = sym (take-append-drop n bytes) ∙ ap (λ (w : List ℕ). w ++ drop n bytes) (sym is ∙ h.parts) ∙ append_assoc h.front rest (drop n bytes) in
      ap (take (length within - length rest)) whole ∙ take_at h.front (rest ++ drop n bytes) (length within - length rest) long

-- the first numbers of a column
pub singles_passed : (column : Column) (front : List ℕ) (n : ℕ) → take n column.packed.now ≡ front → AllSingle front
    → numbers_left column ≡ front ++ map (λ p. p.0) (placed column.packed_place (read_entries (entries (drop n column.packed.now))) ++ joined column.number (found_left column.fields))
unfolding column_left
singles_passed column front n is each =
    let bytes = column.packed.now in
    let more = joined column.number (found_left column.fields) in
    let whole : bytes ≡ front ++ drop n bytes = sym (take-append-drop n bytes) ∙ ap (λ (w : List ℕ). w ++ drop n bytes) is in
    ap (λ (w : List ℕ). map {B = ℕ} (λ p. p.0) (placed column.packed_place (read_entries (entries w)) ++ more)) whole
    ∙ ap (λ (ns : List ℕ). map {B = ℕ} (λ p. p.0) (placed column.packed_place ns ++ more)) (all_read front (drop n bytes) each)
    ∙ placed_run front (read_entries (entries (drop n bytes))) column.packed_place more

-- ---- written

packed_single : (ns : List ℕ) → AllSingle ns → packed ns ≡ ns
packed_single [] h = refl
packed_single (n ∷ ns) h = ap (λ (w : List ℕ). w ++ packed ns) (one_byte n h.0) ∙ ap (λ (w : List ℕ). n ∷ w) (packed_single ns h.1)

is_packed_more : (bytes ns more : List ℕ) → IsPacked bytes ns → AllSingle more → IsPacked (bytes ++ more) (ns ++ more)
is_packed_more bytes ns more h each = record {
  bytes_are = ap₂ (λ (x y : List ℕ). x ++ y) h.bytes_are (sym (packed_single more each)) ∙ sym (flat_map-append shortest ns more);
  fit = all_append (λ n. n < 2 ^ 64) ns more h.fit (all_weaker (λ n. n < 128) (λ n. n < 2 ^ 64) (λ n lt. omega (arith, lt)) more each);
}

pub taken_numbers : (bytes more : List ℕ) → IsPacked bytes (numbers_of bytes) → AllSingle more → numbers_of (bytes ++ more) ≡ numbers_of bytes ++ more
taken_numbers bytes more h each = is_read _ _ (is_packed_more bytes (numbers_of bytes) more h each)

pub taken_packed : (bytes more : List ℕ) → IsPacked bytes (numbers_of bytes) → AllSingle more → IsPacked (bytes ++ more) (numbers_of (bytes ++ more))
taken_packed bytes more h each = subst (IsPacked (bytes ++ more)) (sym (taken_numbers bytes more h each)) (is_packed_more bytes (numbers_of bytes) more h each)
