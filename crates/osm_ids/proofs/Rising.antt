-- Rising ids, and where an id can be among them.
use Rattle.std.proofs.Common.{◌≡◌, true, false, List, [], ◌∷◌, length, ℤ, ◌<ℤ◌, ◌≤ℤ◌, refl, sym, ap, ◌∙◌, arith, Less, Greater, true≢false}
use Rattle.std.specs.List.{list_any}
use Rattle.std.specs.List.Sorted.{IsStrictlySortedBy}
use Rattle.std.specs.BTreeSet.{insert_key}
use Rattle.std.specs.Ordering.{int_eq, int_cmp}
use Rattle.std.specs.Cmp.{int_cmp_total, int_ranked}
use Rattle.std.specs.FinSet as set
use Rattle.std.proofs.lemmas.Bool.Decides.{Decides-int_eq}
use Rattle.std.proofs.lemmas.Int.{ints}
use Rattle.std.proofs.lemmas.Map.Keys.{sorted_head, sorted_tail}
use Rattle.osm_ids.proofs.Sets.{Ids, ids_of, contains-ids_of, ids_of-insert_key}
use Rattle.osm_ids.specs.Pages.{Rises, IsRising, in_order, rising}

pub other_above : (a b : ℤ) → a <ℤ b → int_eq a b ≡ false
other_above a b h = grind (arith, ints)

pub other_below : (a b : ℤ) → b <ℤ a → int_eq a b ≡ false
other_below a b h = grind (arith, ints)

pub rising_tail : (low : ℤ) (ids : List ℤ) → Rises low ids → IsRising ids
rising_tail low ids h1 = grind arith

-- no id at or below low comes after low
pub none_above : (low : ℤ) (ids : List ℤ) (id : ℤ) → Rises low ids → id ≤ℤ low → list_any (int_eq id) ids ≡ false
none_above low [] id h le = refl
none_above low (x ∷ ids) id h le = grind (arith, other_above id x (omega (arith, ints)), none_above x ids id h.1 (omega (arith, ints)))

rises_from_sorted : (low : ℤ) (ids : List ℤ) → IsStrictlySortedBy int_cmp (low ∷ ids) → Rises low ids
rises_from_sorted low [] h = tt
rises_from_sorted low (id ∷ ids) h = grind (arith, sorted_head int_cmp low (id ∷ ids) h, int_ranked low id Less (sym (sorted_head int_cmp low (id ∷ ids) h).0), rises_from_sorted id ids (sorted_tail int_cmp low (id ∷ ids) h), sorted_tail int_cmp low (id ∷ ids) h)

-- a tree's keys rise
pub rising_from_sorted : (ids : List ℤ) → IsStrictlySortedBy int_cmp ids → IsRising ids
rising_from_sorted ids h1 = grind (arith, rises_from_sorted)

pub len-rising : (ids : List ℤ) → IsRising ids → set.len (ids_of ids) ≡ length ids
len-rising [] h = set.len-empty int_cmp
len-rising (x ∷ ids) h = grind (arith, ints, set.members, contains-ids_of ids x, none_above x ids x h (omega (arith, ints)), len-rising ids (rising_tail x ids h), rising_tail x ids h)

pub rises_from : (low x : ℤ) (ids : List ℤ) → low <ℤ x → Rises x ids → Rises low ids
rises_from low x [] h r = tt
rises_from low x (id ∷ ids) h r = let up = r.0 in (omega (arith, ints), r.1)

-- ---- a set has one rising list

pub first_among : (x : ℤ) (xs : List ℤ) → list_any (int_eq x) (x ∷ xs) ≡ true
first_among x xs = grind (arith, ints)

module _ (x : ℤ) (xs : List ℤ) (y : ℤ) (ys : List ℤ) (alike : (id : ℤ) → list_any (int_eq id) (x ∷ xs) ≡ list_any (int_eq id) (y ∷ ys)) where
  -- the least of one is no less than the least of the other
  not_below : Rises y ys → x <ℤ y → ⊥
  not_below rises below = grind (arith, other_above x y below, none_above y ys x rises (omega (arith, ints)), first_among x xs, alike x)

  tails_alike : x ≡ y → Rises x xs → Rises y ys → (id : ℤ) → list_any (int_eq id) xs ≡ list_any (int_eq id) ys
  tails_alike e rises others id = grind (arith, alike id, Decides-int_eq id x, e, none_above x xs x rises (omega (arith, ints)), none_above y ys y others (omega (arith, ints)))

pub same_rising : (xs ys : List ℤ) → IsRising xs → IsRising ys → ((id : ℤ) → list_any (int_eq id) xs ≡ list_any (int_eq id) ys) → xs ≡ ys
same_rising [] [] h k alike = refl
same_rising [] (y ∷ ys) h k alike = absurd (true≢false (sym (first_among y ys) ∙ sym (alike y)))
same_rising (x ∷ xs) [] h k alike = absurd (true≢false (sym (first_among x xs) ∙ alike x))
same_rising (x ∷ xs) (y ∷ ys) h k alike = grind (arith, not_below x xs y ys alike k, not_below y ys x xs (λ id. sym (alike id)) h, same_rising xs ys (rising_tail x xs h) (rising_tail y ys k), rising_tail x xs h, rising_tail y ys k, tails_alike x xs y ys alike)

-- the rising list of a set is the only one
pub rising_of_set : (xs ys : List ℤ) → IsRising xs → IsRising ys → ids_of xs ≡ ids_of ys → xs ≡ ys
rising_of_set xs ys h k e = same_rising xs ys h k (λ id. sym (contains-ids_of xs id) ∙ ap (λ s. set.contains s id) e ∙ contains-ids_of ys id)

-- ---- and it has one

pub insert_rises : (low : ℤ) (ids : List ℤ) (new : ℤ) → low <ℤ new → Rises low ids → Rises low (insert_key int_cmp ids new)
insert_rises low [] new above h = (above, tt)
insert_rises low (x ∷ ids) new above h = grind (arith, int_ranked new x Less, insert_rises x ids new, int_ranked new x Greater)

pub insert_rising : (ids : List ℤ) (new : ℤ) → IsRising ids → IsRising (insert_key int_cmp ids new)
insert_rising ids new h1 = grind (arith, insert_rises)

in_order_rises : (ids : List ℤ) → IsRising (in_order ids)
unfolding in_order
in_order_rises [] = tt
in_order_rises (id ∷ ids) = insert_rising (in_order ids) id (in_order_rises ids)

ids_of-in_order : (ids : List ℤ) → ids_of (in_order ids) ≡ ids_of ids
unfolding in_order
ids_of-in_order [] = refl
ids_of-in_order (id ∷ ids) = ids_of-insert_key (in_order ids) id ∙ ap (λ s. set.insert s id) (ids_of-in_order ids)

pub rising_rises : (s : Ids) → IsRising (rising s)
rising_rises s = in_order_rises (set.items s)

pub ids_of-rising : (s : Ids) → ids_of (rising s) ≡ s
ids_of-rising s = ids_of-in_order (set.items s) ∙ set.same_set int_cmp_total set.int_cmp-IsAntisymmetric _ _ (λ id. contains-ids_of (set.items s) id ∙ sym (set.contains-items s id))
