-- What is written is read back.
use Rattle.std.proofs.Common.{◌≡◌, ℕ, ◌+◌, ◌*◌, ◌^◌, ◌<◌, List, [], ◌∷◌, ◌++◌, length, refl, sym, ap, ap₂, subst, arith, add-zero}
use Rattle.std.specs.Prelude.{Ok, map}
use Rattle.std.specs.List.{flat_map, AllByRecursion}
use Rattle.std.proofs.lemmas.List.{append-nil, drop_at}
use Rattle.pbf_wire.specs.Varint.{IsVarint, shortest}
use Rattle.pbf_wire.specs.Occurrence.{IsSpelled, Joins, items}
use Rattle.pbf_wire.specs.Columns.{Entry, entries}
use Rattle.pbf_wire.specs.Writing.{Part, Single, Whole, spelling, written, IsWritablePart, occurrence_of, occurrences_of}
use Rattle.pbf_wire.proofs.Shortest.{shortest_spells}
use Rattle.pbf_wire.proofs.Spellings.{spelling_is_read, varint_ok, prefix_free}
use Rattle.pbf_wire.proofs.Items.{items_none}
use Rattle.pbf_wire.proofs.Cutting.{all_ok, walks}
use Rattle.pbf_wire.proofs.Columns.{entries_none, entries_ok}

spelled : (at : ℕ) (p : Part) → IsWritablePart p → IsSpelled (occurrence_of at p) (spelling p)
spelled at (Single number value) h =
    let same : number * 8 ≡ number * 8 + 0 = sym (add-zero (number * 8)) in
    record {
      kind = 0;
      tag = shortest (number * 8);
      body = shortest value;
      whole = refl;
      tagged = subst (λ (v : ℕ). IsVarint v (shortest (number * 8))) same (shortest_spells (number * 8) (omega arith));
      numbered = h.0;
      small = omega arith;
      holds = (refl, shortest_spells value h.2);
    }
spelled at (Whole number bytes) h =
    record {
      kind = 2;
      tag = shortest (number * 8 + 2);
      body = shortest (length bytes) ++ bytes;
      whole = refl;
      tagged = shortest_spells (number * 8 + 2) (omega arith);
      numbered = h.0;
      small = omega arith;
      holds = (refl, (shortest (length bytes), shortest_spells (length bytes) h.2, refl, refl));
    }

place_is : (at : ℕ) (p : Part) → (occurrence_of at p).place ≡ at
place_is at p = grind arith

pub joins : (at : ℕ) (ps : List Part) → AllByRecursion IsWritablePart ps → Joins at (written ps) (occurrences_of at ps)
joins at [] h = refl
joins at (p ∷ ps) h = (spelling p, written ps, refl, place_is at p, spelled at p h.0, joins (at + length (spelling p)) ps h.1)

pub reads_back : (at : ℕ) (ps : List Part) → AllByRecursion IsWritablePart ps → items at (written ps) ≡ map Ok (occurrences_of at ps)
reads_back at ps h = cc (append-nil (written ps), walks at (written ps) [] (occurrences_of at ps) (joins at ps h), items_none (at + length (written ps)) [] refl, append-nil (all_ok (occurrences_of at ps)))

-- ---- spellings, joined

abbrev pub AllSpell : List (ℕ × List ℕ) → Type 0
AllSpell pairs = AllByRecursion (λ p. IsVarint p.0 p.1) pairs

abbrev pub bytes_of_all : List (ℕ × List ℕ) → List ℕ
bytes_of_all pairs = flat_map (λ p. p.1) pairs

pub joined_read : (pairs : List (ℕ × List ℕ)) → AllSpell pairs → entries (bytes_of_all pairs) ≡ map (λ p. Ok p.0) pairs
joined_read [] h = entries_none [] refl
joined_read ((v, s) ∷ pairs) h =
    let rest = bytes_of_all pairs in
    let one = spelling_is_read s rest v h.0 in
    let f = varint_ok (s ++ rest) v (length s) one in
    cc (entries_ok (s ++ rest) v (length s) f.positive f.within one, drop_at s rest (length s) refl, joined_read pairs h.1)

not_empty : (v : ℕ) (s rest : List ℕ) → IsVarint v s → s ++ rest ≡ [] → ⊥
not_empty v s rest h e =
    let f = varint_ok (s ++ rest) v (length s) (spelling_is_read s rest v h) in
    omega (arith, f.positive, f.within, ap (λ (w : List ℕ). length w) e)

pub joined_only : (pairs others : List (ℕ × List ℕ)) → AllSpell pairs → AllSpell others → bytes_of_all pairs ≡ bytes_of_all others → pairs ≡ others
joined_only [] [] h k e = refl
joined_only [] ((w, t) ∷ others) h k e = absurd (not_empty w t (bytes_of_all others) k.0 (sym e))
joined_only ((v, s) ∷ pairs) [] h k e = absurd (not_empty v s (bytes_of_all pairs) h.0 e)
joined_only ((v, s) ∷ pairs) ((w, t) ∷ others) h k e =
    let one = prefix_free s t (bytes_of_all pairs) (bytes_of_all others) v w h.0 k.0 e in
    let front : ◌≡◌ {A = ℕ × List ℕ} (v, s) (w, t) = ap₂ (λ (n : ℕ) (xs : List ℕ). (n, xs)) one.1 one.0 in
    ap₂ (λ (p : ℕ × List ℕ) (ps : List (ℕ × List ℕ)). p ∷ ps) front (joined_only pairs others h.1 k.1 one.2)

abbrev pub all_entries : List ℕ → List Entry
all_entries ns = map Ok ns

pub column_reads_back : (ns : List ℕ) → AllByRecursion (λ n. n < 2 ^ 64) ns → entries (flat_map shortest ns) ≡ all_entries ns
column_reads_back [] h = entries_none [] refl
column_reads_back (n ∷ ns) h =
    let one = spelling_is_read (shortest n) (flat_map shortest ns) n (shortest_spells n h.0) in
    let f = varint_ok (shortest n ++ flat_map shortest ns) n (length (shortest n)) one in
    cc (entries_ok (shortest n ++ flat_map shortest ns) n (length (shortest n)) f.positive f.within one, drop_at (shortest n) (flat_map shortest ns) (length (shortest n)) refl, column_reads_back ns h.1)
