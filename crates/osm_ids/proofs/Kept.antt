-- A page of rising ids that was read, and what it says of a set.
use Rattle.std.proofs.Common.{◌≡◌, ℕ, ◌+◌, ◌-◌, ◌*◌, ◌<◌, List, length, take, drop, get_or, false, true, ℤ, pos, nat_abs, ◌-ℤ◌, ◌<ℤ◌, ◌≤ℤ◌, inl, inr, sym, ap, subst, ◌∙◌, arith}
use Rattle.std.specs.List.{list_any}
use Rattle.std.specs.Ordering.{int_eq}
use Rattle.std.specs.FinSet as set
use Rattle.std.proofs.lemmas.Bool.{cases_lt}
use Rattle.std.proofs.lemmas.Int.{ints}
use Rattle.std.proofs.lemmas.List.{get_or-drop, get_or-take, length-drop, length-take}
use Rattle.osm_ids.specs.declared.page.PageIds.{PageIds}
use Rattle.osm_ids.specs.Index.{HasPage, first_of, ArePagesUpTo, IsPageRead}
use Rattle.osm_ids.specs.Pages.{IsRising, rising}
use Rattle.osm_ids.specs.Windows.{IsTruePage, IsPageOf, held, first_held, last_held}
use Rattle.osm_ids.proofs.Sets.{Ids, contains-ids_of}
use Rattle.osm_ids.proofs.Rising.{rising_rises, ids_of-rising}
use Rattle.osm_ids.proofs.Places.{far, at_most, all_between, any_between, any_at, any_up, any_part, rising_part, last_most, last_there}

-- a set has the ids of its rising list
pub has_rising : (s : Ids) (id : ℤ) → set.contains s id ≡ list_any (int_eq id) (rising s)
has_rising s id = ap (λ (t : Ids). set.contains t id) (sym (ids_of-rising s)) ∙ contains-ids_of (rising s) id

module _ (s : Ids) (n : ℕ) (lt : HasPage (rising s) n) (p : PageIds) (r : IsPageRead (rising s) n p) where
  abbrev all : List ℤ
  all = rising s

  h : IsRising all
  h = rising_rises s

  size : length (held p) ≡ length (take 128 (drop (128 * n) all))
  size = ap length r.held_is

  some : 0 < length (held p)
  some = omega (arith, size, length-take 128 (drop (128 * n) all), length-drop (128 * n) all, lt)

  counted : 0 < p.count
  counted = omega (arith, some, length-take p.count p.ids)

  at : (i : ℕ) → i < length (held p) → get_or (held p) i (pos 0) ≡ get_or all (128 * n + i) (pos 0)
  at i le = ap (λ (l : List ℤ). get_or l i (pos 0)) r.held_is ∙ get_or-take 128 (drop (128 * n) all) i (pos 0) (omega (arith, le, size, length-take 128 (drop (128 * n) all))) ∙ get_or-drop (128 * n) all i (pos 0)

  within : (i : ℕ) → i < length (held p) → 128 * n + i < length all
  within i le = omega (arith, le, size, length-take 128 (drop (128 * n) all), length-drop (128 * n) all)

  first : first_held p ≡ first_of all n
  first = sym (get_or-take p.count p.ids 0 (pos 0) counted) ∙ at 0 some ∙ ap (λ k. get_or all k (pos 0)) (omega arith)

  rises : IsRising (held p)
  rises = subst IsRising (sym r.held_is) (rising_part all (128 * n) 128 h)

  inside : (id : ℤ) → list_any (int_eq id) (held p) ≡ true → set.contains s id ≡ true
  inside id there = has_rising s id ∙ any_part all (128 * n) 128 id (ap (list_any (int_eq id)) (sym r.held_is) ∙ there)

  -- an id from its first up to the next page's can only be one of its ids
  answered : (id : ℤ) → first_of all n ≤ℤ id → (HasPage all (n + 1) → id <ℤ first_of all (n + 1)) → set.contains s id ≡ list_any (int_eq id) (held p)
  answered id low high =
      has_rising s id
      ∙ any_between all (128 * n) 128 id
      (λ i lt' _. let up = far all i (128 * n) (pos 0) h (omega (arith, lt')) lt in omega (arith, ints, up, low, lt'))
      (λ i ge le.
      let below = high (omega (arith, ge, le)) in
      let up = at_most all (128 * (n + 1)) i (pos 0) h (omega (arith, ge)) le in
      omega (arith, ints, up, below))
      ∙ ap (list_any (int_eq id)) (sym r.held_is)

  -- it is kept of the set
  pub is_kept : IsTruePage s p
  is_kept = record {
    rising = rises;
    within = r.within;
    some = λ _. counted;
    top = λ id there.
        elim (cases_lt (128 * (n + 1)) (length all)) [
          | inl more ↦
              let below = r.next more in
              any_up (held p) id p.below (λ i le.
              let up = at_most all (128 * n + i) (128 * (n + 1)) (pos 0) h (omega (arith, le, size, length-take 128 (drop (128 * n) all))) more in
              let same = at i le in
              omega (arith, ints, up, same, below)) there
          | inr end ↦ let up = (r.last end).low in let most = last_most (held p) id rises there in omega (arith, ints, up, most)
        ];
    inside = inside;
    answer = λ id low high. answered id (omega (arith, ints, first, low)) (λ more. let below = r.next more in omega (arith, ints, below, high));
    reached = λ id low high.
        elim (cases_lt (128 * (n + 1)) (length all)) [
          | inl more ↦ let below = r.next more in (first_of all (n + 1), has_rising s _ ∙ any_at all (128 * (n + 1)) more, omega (arith, ints, below, high))
          | inr end ↦ let up = (r.last end).high in (last_held p, inside _ (last_there (held p) some), omega (arith, ints, up, high))
        ];
  }

  -- and an id is looked up in it, if so many pages begin at or below
  pub is_page_of : (id : ℤ) → ArePagesUpTo all id (n + 1) → IsPageOf s id p
  is_page_of id passed =
      let same : (n + 1) - 1 ≡ n = omega arith in
      grind (arith, is_kept, rises, some, counted, within, first, answered)

-- ---- without a page being read

-- an id below the first page's isn't there
pub absent_first : (s : Ids) (id : ℤ) → (HasPage (rising s) 0 → id <ℤ first_of (rising s) 0) → set.contains s id ≡ false
absent_first s id below = grind (arith, has_rising s id, any_between (rising s) 0 0 id (λ i lt _. absurd (omega (arith, lt))) (λ i _ lt. let up = at_most (rising s) 0 i (pos 0) (rising_rises s) (omega arith) lt in let low = below (omega (arith, lt)) in omega (arith, ints, up, low)), at_most (rising s) 0, rising_rises s)

-- and those up to the next page's are, if it begins 128 above, as the code takes the difference
pub whole_page : (s : Ids) (n : ℕ) (first next : ℤ) (room : ℕ) (id : ℤ) → HasPage (rising s) (n + 1) → first ≡ first_of (rising s) n → next ≡ first_of (rising s) (n + 1) → room ≡ nat_abs (next -ℤ first) → room ≡ 128 → first_of (rising s) n ≤ℤ id → id ≤ℤ first_of (rising s) (n + 1) → set.contains s id ≡ true
whole_page s n first next room id lt e f apart near low high = grind (arith, nat_abs, has_rising s id, all_between (rising s) (128 * n) (128 * (n + 1)) id (pos 0) (rising_rises s) (omega arith) lt, rising_rises s)
