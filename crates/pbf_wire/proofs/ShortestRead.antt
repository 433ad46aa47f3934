-- Bytes that spell a number without a needless byte are its shortest spelling.
use Rattle.std.proofs.Common.{◌≡◌, ℕ, zero, suc, ◌+◌, ◌/◌, ◌%◌, ◌<◌, ◌≤◌, List, [], ◌∷◌, length, get_or, take, drop, take-append-drop, refl, sym, ap, ◌∙◌, arith, inl, inr}
use Rattle.std.specs.Prelude.{Ok}
use Rattle.std.proofs.lemmas.Bool.{cases_lt}
use Rattle.std.proofs.lemmas.List.{length-take-le, get_or-take, get_or_past}
use Rattle.pbf_wire.specs.Varint.{AreNeeded, EndsOnce, Spells, value_of, varint_at, spelled_within, shortest}
use Rattle.pbf_wire.proofs.Shortest.{value_of-cons, last_byte, first_byte}
use Rattle.pbf_wire.proofs.Spellings.{varint_ok}

-- each is a byte, and the last one isn't 0
abbrev NoneNeedless : List ℕ → Type 0
NoneNeedless [] = ⊥
NoneNeedless (b ∷ []) = 0 < b
NoneNeedless (b ∷ c ∷ bs) = (b < 256) × NoneNeedless (c ∷ bs)

-- what they spell isn't 0
some : (s : List ℕ) → EndsOnce s → NoneNeedless s → 0 < value_of s
some [] h n = absurd h
some (b ∷ []) h n = omega (arith, value_of-cons b [], h, n)
some (b ∷ c ∷ bs) h n = omega (arith, value_of-cons b (c ∷ bs), some (c ∷ bs) h.1 n.1)

respelled : (n : ℕ) (s : List ℕ) → EndsOnce s → length s ≤ n + 1 → NoneNeedless s → spelled_within n (value_of s) ≡ s
respelled n [] h le many = absurd h
respelled n (b ∷ []) h le many =
    let nothing : value_of [] ≡ 0 = unfold value_of in refl in
    let is : value_of (b ∷ []) ≡ b = omega (arith, value_of-cons b [], nothing, h) in
    rw is (last_byte n b h)
respelled zero (b ∷ c ∷ bs) h le many = absurd (omega (arith, le))
respelled (suc n) (b ∷ c ∷ bs) h le many =
    let v = value_of (b ∷ c ∷ bs) in
    let e = value_of-cons b (c ∷ bs) in
    let more = some (c ∷ bs) h.1 many.1 in
    let large : 128 ≤ v = omega (arith, e, more) in
    let rest : v / 128 ≡ value_of (c ∷ bs) = omega (arith, e) in
    let first : v % 128 + 128 ≡ b = omega (arith, e, h.0, many.0) in
    first_byte n v large ∙ rw (rest, first) (ap (λ (w : List ℕ). b ∷ w) (respelled n (c ∷ bs) h.1 (omega (arith, le)) many.1))

after_more : (before : ℕ) (s : List ℕ) → 128 ≤ before → EndsOnce s → AreNeeded before s → ((k : ℕ) → get_or s k 0 < 256) → NoneNeedless s
after_more before [] more h needed byte = absurd h
after_more before (b ∷ []) more h needed byte = needed.0 more
after_more before (b ∷ c ∷ bs) more h needed byte = (byte 0, after_more b (c ∷ bs) h.0 h.1 needed.1 (λ k. byte (suc k)))

spelled_shortest : (s : List ℕ) → EndsOnce s → length s ≤ 10 → AreNeeded 0 s → ((k : ℕ) → get_or s k 0 < 256) → spelled_within 9 (value_of s) ≡ s
spelled_shortest [] h le needed byte = absurd h
spelled_shortest (b ∷ []) h le needed byte =
    let nothing : value_of [] ≡ 0 = unfold value_of in refl in
    let is : value_of (b ∷ []) ≡ b = omega (arith, value_of-cons b [], nothing, h) in
    rw is (last_byte 9 b h)
spelled_shortest (b ∷ c ∷ bs) h le needed byte = respelled 9 (b ∷ c ∷ bs) h le (byte 0, after_more b (c ∷ bs) h.0 h.1 needed.1 (λ k. byte (suc k)))

module _ (bytes : List ℕ) (byte : (k : ℕ) → get_or bytes k 0 < 256) (v n : ℕ) (read : varint_at bytes ≡ Ok (v, n)) where
  front_byte : (k : ℕ) → get_or (take n bytes) k 0 < 256
  front_byte k = elim (cases_lt k n) [
    | inl lt ↦ rw (get_or-take n bytes k 0 lt) (byte k)
    | inr ge ↦ rw (get_or_past (take n bytes) k 0 (omega (arith, length-take-le n bytes (varint_ok bytes v n read).within, ge))) (omega arith)
  ]

  -- the bytes of a number that was read
  pub read_spells : Spells v bytes (drop n bytes)
  unfolding shortest
  read_spells =
      let f = varint_ok bytes v n read in
      record {
        front = take n bytes;
        parts = sym (take-append-drop n bytes);
        spelled = λ needed. sym (spelled_shortest (take n bytes) f.spelled.ended f.spelled.short needed front_byte) ∙ ap (spelled_within 9) (sym f.spelled.value);
      }
