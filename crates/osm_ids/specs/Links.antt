-- Links between ids, and the least set that follows them.
use Rattle.std.specs.Prelude.{◌≡◌, refl, ◌≤◌, ◌*◌, ◌+◌, ℕ, ℤ, Bool, true, not, ◌⊎◌, List, length, FitsSigned}
use Rattle.std.specs.Int.{w64}
use Rattle.std.specs.List.{list_any, count_by}
use Rattle.std.specs.Coded.{Coded, code_by, coded×, coded_ℤ}
use Rattle.std.specs.declared.cmp.Ordering.{Ordering}
use Rattle.std.specs.Ordering.{int_cmp, int_eq, ordering_then, eq_by_cmp}
use Rattle.std.specs.FinSet as set
use Rattle.osm_ids.specs.declared.links.Link.{Link}

-- by member, then by parent
abbrev pub link_cmp : Link → Link → Ordering
link_cmp a b = ordering_then (int_cmp a.member b.member) (int_cmp a.parent b.parent)

abbrev pub link_code : Coded Link
link_code = code_by (ℤ × ℤ) (coded× coded_ℤ coded_ℤ) (λ l. (l.member, l.parent)) (λ p. record { member = p.0; parent = p.1 }) (λ _. refl)

-- ---- the least set

-- the test holds of each id of the set
abbrev pub HoldsOfEach : set.FinSet int_cmp → (ℤ → Bool) → Type 0
HoldsOfEach ids test = (id : ℤ) → set.contains ids id ≡ true → test id ≡ true

-- of each of the links: if the test holds of the member it holds of the parent
abbrev pub IsClosed : (Link → Bool) → (ℤ → Bool) → Type 0
IsClosed is_link test = (l : Link) → is_link l ≡ true → test l.member ≡ true → test l.parent ≡ true

-- the least set that holds the start and the parent of each link whose member it holds
pub record IsLeast (is_link : Link → Bool) (start ids : set.FinSet int_cmp) : Type 0 where
  pub holds : HoldsOfEach start (set.contains ids)
  pub closed : IsClosed is_link (set.contains ids)
  pub least : (test : ℤ → Bool) → HoldsOfEach start test → IsClosed is_link test → HoldsOfEach ids test

-- ---- following the links of one id

abbrev pub is_link_among : List Link → Link → Bool
is_link_among links l = list_any (eq_by_cmp link_cmp l) links

-- whether it is a link of the id
abbrev pub is_of : ℤ → Link → Bool
is_of id l = int_eq l.member id

-- whether an id is in a list of work
abbrev pub is_in_work : List ℤ → ℤ → Bool
is_in_work work id = list_any (int_eq id) work

-- links whose parent the set lacks
abbrev pub missing_parents : List Link → set.FinSet int_cmp → ℕ
missing_parents links ids = count_by (λ (l : Link). not (set.contains ids l.parent)) links

-- a set grows towards the least one: the work has ids whose links are still to be followed, and of one more id these links are
pub record GrowsToLeast (links rest : List Link) (start ids : set.FinSet int_cmp) (work : List ℤ) : Type 0 where
  pub holds : HoldsOfEach start (set.contains ids)
  pub known : (x : ℤ) → is_in_work work x ≡ true → set.contains ids x ≡ true
  pub left : (l : Link) → is_link_among rest l ≡ true → (is_link_among links l ≡ true) × (set.contains ids l.member ≡ true)
  pub done : (l : Link) → is_link_among links l ≡ true → set.contains ids l.member ≡ true → (is_in_work work l.member ≡ true) ⊎ ((set.contains ids l.parent ≡ true) ⊎ (is_link_among rest l ≡ true))
  pub least : (test : ℤ → Bool) → HoldsOfEach start test → IsClosed (is_link_among links) test → HoldsOfEach ids test

-- a measure of what is to be done
abbrev pub to_follow : List Link → set.FinSet int_cmp → List ℤ → ℕ
to_follow links ids work = 2 * missing_parents links ids + length work

-- of one id these links were followed, and these are left
abbrev pub FollowsLinks : List Link → List Link → List Link → set.FinSet int_cmp → List ℤ → set.FinSet int_cmp → List ℤ → Type 0
FollowsLinks links all rest old old_work new new_work = (start : set.FinSet int_cmp) → GrowsToLeast links all start old old_work → GrowsToLeast links rest start new new_work × (to_follow links new new_work ≤ to_follow links old old_work)

-- the parents are numbers of 64 bits
abbrev pub ParentsFit : List Link → Type 0
ParentsFit links = (l : Link) → is_link_among links l ≡ true → FitsSigned w64 l.parent
