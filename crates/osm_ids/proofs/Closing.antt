-- A work list that closes a set under links.
use Rattle.std.proofs.lemmas.Int.{ints}
use Rattle.std.proofs.Common.{◌≡◌, ◌+◌, ◌≤◌, ◌⊎◌, ℤ, Bool, true, false, not, cond, List, [], ◌∷◌, ◌++◌, refl, arith, length-append}
use Rattle.std.specs.List.{filter}
use Rattle.std.specs.Ordering.{int_eq, eq_by_cmp}
use Rattle.std.specs.Cmp.{int_cmp_total}
use Rattle.std.specs.FinSet as set
use Rattle.std.proofs.lemmas.Bool.{and_parts, or_cases, or_left, or_right, both_ways}
use Rattle.std.proofs.lemmas.Bool.Decides.{Decides-int_eq}
use Rattle.std.proofs.lemmas.List.Folds.{list_any-append}
use Rattle.std.proofs.lemmas.List.Sums.{sum_by-cons}
use Rattle.osm_ids.specs.declared.links.Link.{Link}
use Rattle.osm_ids.specs.Links.{link_cmp, HoldsOfEach, IsClosed, IsLeast, is_link_among, is_of, is_in_work, missing_parents, GrowsToLeast, to_follow}
use Rattle.osm_ids.proofs.Sets.{Ids, ids_of, contains-ids_of, insert_cases, insert_has}
use Rattle.osm_ids.proofs.LinkOrder.{found_is, found_itself, kept_among}

insert_new : (s : Ids) (p : ℤ) → set.contains (set.insert s p) p ≡ true
insert_new s p = grind (arith, ints, set.members)

-- to add what is there changes nothing
pub insert_same : (s : Ids) (p : ℤ) → set.contains s p ≡ true → set.insert s p ≡ s
insert_same s p h = set.same_set int_cmp_total set.int_cmp-IsAntisymmetric _ _ (λ x. grind (arith, set.members, h, Decides-int_eq x p))

push_has : (work : List ℤ) (p x : ℤ) → is_in_work work x ≡ true → is_in_work (work ++ p ∷ []) x ≡ true
push_has work p x h = grind (arith, list_any-append (int_eq x) work (p ∷ []))

push_new : (work : List ℤ) (p : ℤ) → is_in_work (work ++ p ∷ []) p ≡ true
push_new work p = grind (arith, list_any-append (int_eq p) work (p ∷ []), Decides-int_eq p p)

pub push_cases : (work : List ℤ) (p x : ℤ) → is_in_work (work ++ p ∷ []) x ≡ true → (is_in_work work x ≡ true) ⊎ (x ≡ p)
push_cases work p x h = grind (arith, or_cases (is_in_work work x) (int_eq x p) (grind (arith, list_any-append (int_eq x) work (p ∷ []), h)), list_any-append (int_eq x) work (p ∷ []))

abbrev lacks : Ids → Link → Bool
lacks s l = not (set.contains s l.parent)

missing_cons : (s : Ids) (l : Link) (links : List Link) → missing_parents (l ∷ links) s ≡ cond (lacks s l) 1 0 + missing_parents links s
missing_cons s l links = sum_by-cons (λ (x : Link). cond (lacks s x) 1 0) l links

missing_le : (links : List Link) (s : Ids) (p : ℤ) → missing_parents links (set.insert s p) ≤ missing_parents links s
missing_le [] s p = omega arith
missing_le (l ∷ links) s p = grind (arith, set.members, missing_cons s l links, missing_cons (set.insert s p) l links, missing_le links s p)

missing_less : (links : List Link) (x : Link) (s : Ids) → is_link_among links x ≡ true → set.contains s x.parent ≡ false → missing_parents links (set.insert s x.parent) + 1 ≤ missing_parents links s
missing_less [] x s here e = absurd (cc)
missing_less (l ∷ links) x s here e = grind (arith, ints, set.members, or_cases (eq_by_cmp link_cmp x l) (is_link_among links x) here, found_is x l, missing_cons s l links, missing_cons (set.insert s x.parent) l links, missing_le links s x.parent, insert_new s x.parent, missing_less links x s)

-- ---- following links

-- a link whose parent is there is done
pub follow_same : (links rest : List Link) (x : Link) (start ids : Ids) (work : List ℤ) → GrowsToLeast links (x ∷ rest) start ids work → set.contains ids x.parent ≡ true → GrowsToLeast links rest start ids work
follow_same links rest x start ids work c here = grind (arith, or_right, or_cases, found_is)

-- an id that is due is added, and its links are to be followed
add_due : (links rest : List Link) (start ids : Ids) (work : List ℤ) (p : ℤ) → GrowsToLeast links rest start ids work → ((test : ℤ → Bool) → HoldsOfEach start test → IsClosed (is_link_among links) test → test p ≡ true) → GrowsToLeast links rest start (set.insert ids p) (work ++ p ∷ [])
add_due links rest start ids work p c due =
    record {
      holds = λ y h. insert_has ids p y (c.holds y h);
      known = λ y h. grind (arith, push_cases work p y h, c.known y, insert_has ids p y, insert_new ids p);
      left = λ l e. let h = c.left l e in (h.0, insert_has ids p l.member h.1);
      done = λ l among has. grind (arith, insert_cases ids p l.member has, push_new work p, c.done l among, push_has work p l.member, insert_has ids p l.parent);
      least = λ test has closed y h. grind (arith, insert_cases ids p y h, due test has closed, c.least test has closed y);
    }

-- a link whose parent is new
pub follow_new : (links rest : List Link) (x : Link) (start ids : Ids) (work : List ℤ) → GrowsToLeast links (x ∷ rest) start ids work → set.contains ids x.parent ≡ false → GrowsToLeast links rest start (set.insert ids x.parent) (work ++ x.parent ∷ []) × (to_follow links (set.insert ids x.parent) (work ++ x.parent ∷ []) ≤ to_follow links ids work)
follow_new links rest x start ids work c none =
    let here = c.left x (or_left (eq_by_cmp link_cmp x x) (is_link_among rest x) (found_itself x)) in (
      follow_same links rest x start _ _ (add_due links (x ∷ rest) start ids work x.parent c (λ test has closed. closed x here.0 (c.least test has closed x.member here.1))) (insert_new ids x.parent),
      omega (arith, missing_less links x ids here.0 none, length-append work (x.parent ∷ [])),
    )

-- ---- the work list

pub closing_start : (links : List Link) (start : Ids) (work : List ℤ) → ids_of work ≡ start → GrowsToLeast links [] start start work
closing_start links start work e = grind (arith, contains-ids_of work)

-- the links of the last id of the work are to be followed
pub closing_pop : (links : List Link) (start ids : Ids) (work : List ℤ) (id : ℤ) → GrowsToLeast links [] start ids (work ++ id ∷ []) → GrowsToLeast links (filter (is_of id) links) start ids work
closing_pop links start ids work id c = grind (arith, push_has work id, and_parts, kept_among id links, c.known id (push_new work id), push_new work id, push_cases work id, both_ways false refl)

pub closing_end : (links : List Link) (start ids : Ids) (work : List ℤ) → GrowsToLeast links [] start ids work → work ≡ [] → IsLeast (is_link_among links) start ids
closing_end links start ids work c none = grind arith

-- ---- the least set

pub least_only : (is_link : Link → Bool) (start ids others : Ids) → IsLeast is_link start ids → IsLeast is_link start others → ids ≡ others
least_only is_link start ids others h k = grind (arith, set.same_set int_cmp_total set.int_cmp-IsAntisymmetric ids others, h.least (set.contains others), k.least (set.contains ids))
