-- The ids that came out of order.
use Rattle.std.proofs.Common.{◌≡◌, true, false, ◌||◌, List, [], ◌∷◌, ◌++◌, length, ℤ, ◌<ℤ◌, sym, ap, ◌∙◌, arith}
use Rattle.std.specs.List.{list_any}
use Rattle.std.specs.Ordering.{int_eq, int_cmp}
use Rattle.std.specs.Cmp.{int_cmp_total}
use Rattle.std.specs.BTreeSet.{insert_key}
use Rattle.std.specs.FinSet as set
use Rattle.std.proofs.lemmas.Bool.{false_from_ne_true, or_cases}
use Rattle.std.proofs.lemmas.Int.{ints}
use Rattle.std.proofs.lemmas.List.Folds.{list_any-append}
use Rattle.osm_ids.specs.Order.{IsAbove, IsReached, AreLate}
use Rattle.osm_ids.proofs.Sets.{Ids, ids_of, contains-ids_of, any-insert_key, ids_of-insert_key, insert_has}
use Rattle.osm_ids.proofs.Rising.{other_above}

-- ---- the ids that came out of order

pub above_apart : (ids : Ids) (id : ℤ) → IsAbove ids id → set.contains ids id ≡ false
above_apart ids id up = false_from_ne_true (set.contains ids id) (λ e. let below = up id e in omega (arith, ints))

-- an id below the greatest is not above all
late_below : (ids : Ids) (late : List ℤ) (id x : ℤ) → AreLate ids late → IsAbove ids id → list_any (int_eq x) late ≡ true → x <ℤ id
late_below ids late id x l up e = let reached = (l x e).1 in let below = up reached.0 reached.1 in let low = reached.2 in omega (arith, ints)

pub late_lay : (ids : Ids) (late : List ℤ) (id : ℤ) → AreLate ids late → IsAbove ids id → AreLate (set.insert ids id) late
late_lay ids late id l up x e = grind (arith, ints, set.members, other_above x id (late_below ids late id x l up e), late_below ids late id x l up e, l x e, insert_has ids id (((l x e).1).0) (((l x e).1).1))

pub late_insert : (ids : Ids) (late : List ℤ) (id : ℤ) → AreLate ids late → set.contains ids id ≡ false → IsReached ids id → AreLate ids (insert_key int_cmp late id)
late_insert ids late id l none reached x e = grind (arith, or_cases (int_eq x id) (list_any (int_eq x) late) (sym (any-insert_key int_cmp_total set.int_cmp-IsAntisymmetric late id x) ∙ e), any-insert_key int_cmp_total set.int_cmp-IsAntisymmetric late id x, l x)

-- ---- both together

abbrev pub with_late : Ids → List ℤ → Ids
with_late ids late = set.union ids (ids_of late)

pub contains-with_late : (ids : Ids) (late : List ℤ) (x : ℤ) → set.contains (with_late ids late) x ≡ (set.contains ids x || list_any (int_eq x) late)
contains-with_late ids late x = set.contains-union int_cmp_total ids (ids_of late) x ∙ ap (λ b. set.contains ids x || b) (contains-ids_of late x)

pub new_above : (ids : Ids) (late : List ℤ) (id : ℤ) → AreLate ids late → IsAbove ids id → set.contains (with_late ids late) id ≡ false
new_above ids late id l up = grind (arith, ints, set.members, above_apart ids id up, false_from_ne_true (list_any (int_eq id) late) (λ e. let below = late_below ids late id id l up e in omega (arith, ints)), late_below ids late id id l up)

pub same_ids : (s t : Ids) → ((x : ℤ) → set.contains s x ≡ set.contains t x) → s ≡ t
same_ids s t = set.same_set int_cmp_total set.int_cmp-IsAntisymmetric s t

pub lay-with_late : (ids : Ids) (late : List ℤ) (id : ℤ) → with_late (set.insert ids id) late ≡ set.insert (with_late ids late) id
lay-with_late ids late id = same_ids _ _ (λ x. grind (arith, set.members))

pub insert-with_late : (ids : Ids) (late : List ℤ) (id : ℤ) → with_late ids (insert_key int_cmp late id) ≡ set.insert (with_late ids late) id
insert-with_late ids late id = ap (set.union ids) (ids_of-insert_key late id) ∙ same_ids _ _ (λ x. grind (arith, set.members))

pub ids_of-append : (ids late : List ℤ) → ids_of (ids ++ late) ≡ with_late (ids_of ids) late
ids_of-append ids late = same_ids _ _ (λ x. grind (arith, set.members, list_any-append (int_eq x) ids late))

pub none_late : (ids : Ids) → with_late ids [] ≡ ids
none_late ids = same_ids _ _ (λ x. grind (arith, set.members))

pub known_laid : (ids : Ids) (late : List ℤ) (id : ℤ) → set.contains ids id ≡ true → set.contains (with_late ids late) id ≡ true
known_laid ids late id e = grind (arith, set.members)

pub new_late : (ids : Ids) (late : List ℤ) (id : ℤ) → set.contains ids id ≡ false → set.contains (with_late ids late) id ≡ list_any (int_eq id) late
new_late ids late id e = grind (arith, set.members)

pub empty_late : (ids : Ids) (late : List ℤ) → length late ≡ 0 → with_late ids late ≡ ids
empty_late ids [] none = none_late ids
empty_late ids (x ∷ late) none = absurd (omega (arith, none))
