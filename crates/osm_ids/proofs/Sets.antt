-- The keys of an ordered set as a finite set.
use Rattle.std.proofs.Common.{◌≡◌, true, ◌||◌, ◌⊎◌, ℕ, zero, suc, List, [], ◌∷◌, ℤ, refl, sym, ◌∙◌, arith, Ordering}
use Rattle.std.specs.List.{list_any, AllByRecursion}
use Rattle.std.proofs.Math.ListN.{set as set_at}
use Rattle.std.specs.Ordering.{int_eq, int_cmp, eq_by_cmp}
use Rattle.std.specs.Cmp.{IsTotalOrder, int_cmp_total}
use Rattle.std.specs.BTreeSet.{insert_key}
use Rattle.std.specs.FinSet as set
use Rattle.std.proofs.lemmas.Bool.{or_cases, or_right}
use Rattle.std.proofs.lemmas.Int.{ints}

module _ {K : Type 0} {R : K → K → Ordering} (o : IsTotalOrder R) (same : set.IsAntisymmetric R) where
  pub any-insert_key : (keys : List K) (new k : K) → list_any (eq_by_cmp R k) (insert_key R keys new) ≡ (eq_by_cmp R k new || list_any (eq_by_cmp R k) keys)
  any-insert_key [] new k = refl
  any-insert_key (x ∷ keys) new k = grind (arith, R new x, same new x, any-insert_key keys new k)

  -- to insert a key is to insert it into the set
  pub from_list-insert_key : (keys : List K) (new : K) → set.from_list {R = R} (insert_key R keys new) ≡ set.insert (set.from_list keys) new
  from_list-insert_key keys new = grind (arith, ints, set.members, set.same_set o same, any-insert_key keys new)

-- ---- ids

abbrev pub Ids : Type 0
Ids = set.FinSet int_cmp

abbrev pub ids_of : List ℤ → Ids
ids_of = set.from_list

pub contains-ids_of : (keys : List ℤ) (id : ℤ) → set.contains (ids_of keys) id ≡ list_any (int_eq id) keys
contains-ids_of keys id = set.contains-from_list int_cmp_total keys id

pub ids_of-insert_key : (keys : List ℤ) (new : ℤ) → ids_of (insert_key int_cmp keys new) ≡ set.insert (ids_of keys) new
ids_of-insert_key = from_list-insert_key int_cmp_total set.int_cmp-IsAntisymmetric

-- ---- lists of which something holds

pub all_set : {X : Type 0} (P : X → Type 0) (xs : List X) (i : ℕ) (y : X) → AllByRecursion P xs → P y → AllByRecursion P (set_at xs i y)
all_set P [] i y h p = tt
all_set P (x ∷ xs) zero y h p = (p, h.1)
all_set P (x ∷ xs) (suc i) y h p = (h.0, all_set P xs i y h.1 p)

pub insert_cases : (s : Ids) (p x : ℤ) → set.contains (set.insert s p) x ≡ true → (x ≡ p) ⊎ (set.contains s x ≡ true)
insert_cases s p x h = grind (arith, or_cases (int_eq x p) (set.contains s x) (sym (set.contains-insert int_cmp_total s p x) ∙ h), set.contains-insert int_cmp_total s p x)

pub insert_has : (s : Ids) (p x : ℤ) → set.contains s x ≡ true → set.contains (set.insert s p) x ≡ true
insert_has s p x h = set.contains-insert int_cmp_total s p x ∙ or_right (int_eq x p) (set.contains s x) h
