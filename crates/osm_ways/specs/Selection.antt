-- What an extract keeps of a whole list, by a strategy. A set of ids is a test.
use Rattle.std.specs.Prelude.{◌≡◌, ℕ, zero, suc, ℤ, Bool, true, false, ◌&&◌, ◌||◌, List, map, length}
use Rattle.std.specs.List.{list_any, filter}
use Rattle.std.specs.Ordering.{int_eq}
use Rattle.osm_entity.specs.Entity.{TagSpec}

-- what the selection sees of a relation's member
pub data MemberSeen : Type 0 where
  node_member : ℤ → MemberSeen
  way_member : ℤ → MemberSeen
  relation_member : ℤ → MemberSeen

-- what the selection sees of an entity: its id, of a node whether it is inside, of a way its refs, of a relation whether it is of a
-- type that is wanted whole, and its members
pub data Seen : Type 0 where
  a_node : (id : ℤ) (inside : Bool) → Seen
  a_way : (id : ℤ) (refs : List ℤ) → Seen
  a_relation : (id : ℤ) (whole : Bool) (members : List MemberSeen) → Seen

-- what is kept besides the nodes inside, the ways with one of them, and the relations of these nodes and ways
pub record Strategy : Type 0 where
  -- all refs of kept ways
  pub refs : Bool
  -- the relations of these refs
  pub of_refs : Bool
  -- the relations of kept relations
  pub parents : Bool
  -- the nodes and ways of relations that are wanted whole, if a node or a way selects them
  pub members : Bool
  -- which relations are wanted whole, by their tags
  pub whole : List TagSpec → Bool

abbrev pub none_whole : List TagSpec → Bool
none_whole tags = false

abbrev pub complete_ways : Strategy
complete_ways = record { refs = true; of_refs = true; parents = false; members = false; whole = none_whole }

abbrev pub all_parents : Strategy
all_parents = record { refs = true; of_refs = true; parents = true; members = false; whole = none_whole }

-- keeps the most
abbrev pub smart : (List TagSpec → Bool) → Strategy
smart whole = record { refs = true; of_refs = true; parents = true; members = true; whole = whole }

abbrev pub IdTest : Type 0
IdTest = ℤ → Bool

abbrev pub no_ids : IdTest
no_ids id = false

-- ---- what lies inside selects

abbrev pub is_box_node : ℤ → Seen → Bool
is_box_node id (a_node own inside) = inside && int_eq id own
is_box_node _ _ = false

-- the ids of the nodes inside
abbrev pub box_ids : List Seen → IdTest
box_ids seen id = list_any (is_box_node id) seen

-- a way that has a ref among the nodes inside
abbrev pub is_kept_way : IdTest → List ℤ → Bool
is_kept_way in_box refs = list_any in_box refs

-- such a way, of this id
abbrev pub is_kept_id : IdTest → ℤ → Seen → Bool
is_kept_id in_box id (a_way own refs) = is_kept_way in_box refs && int_eq id own
is_kept_id _ _ _ = false

-- the ids of these ways
abbrev pub way_ids : List Seen → IdTest
way_ids seen id = list_any (is_kept_id (box_ids seen) id) seen

-- a way that is kept and refers to this id
abbrev pub is_ref : (ℤ → List ℤ → Bool) → ℤ → Seen → Bool
is_ref keep id (a_way own refs) = keep own refs && list_any (int_eq id) refs
is_ref _ _ _ = false

-- one that has a ref among the nodes inside
abbrev pub is_kept_ref : IdTest → ℤ → Seen → Bool
is_kept_ref in_box = is_ref (λ own refs. is_kept_way in_box refs)

-- the nodes that select relations: those inside, and with them the refs of these ways, also to nodes that the list doesn't have
abbrev pub node_ids : Strategy → List Seen → IdTest
node_ids by seen id = box_ids seen id || (by.of_refs && list_any (is_kept_ref (box_ids seen) id) seen)

-- ---- relations

-- whether a member selects its relation
abbrev pub is_selecting : IdTest → IdTest → IdTest → MemberSeen → Bool
is_selecting nodes ways relations (node_member id) = nodes id
is_selecting nodes ways relations (way_member id) = ways id
is_selecting nodes ways relations (relation_member id) = relations id

abbrev pub is_kept_relation : IdTest → IdTest → IdTest → List MemberSeen → Bool
is_kept_relation nodes ways relations members = list_any (is_selecting nodes ways relations) members

-- a relation of this id that has a selecting member
abbrev pub is_selected : IdTest → IdTest → IdTest → ℤ → Seen → Bool
is_selected nodes ways relations id (a_relation own whole members) = is_kept_relation nodes ways relations members && int_eq id own
is_selected _ _ _ _ _ = false

-- the ids of the relations that have a selecting member
abbrev pub selected : IdTest → IdTest → List Seen → IdTest → IdTest
selected nodes ways seen relations id = list_any (is_selected nodes ways relations id) seen

-- so many levels of parents
abbrev pub levels : IdTest → IdTest → List Seen → ℕ → IdTest
levels nodes ways seen zero = no_ids
levels nodes ways seen (suc n) = selected nodes ways seen (levels nodes ways seen n)

-- all levels: a list has no more of them than entities
abbrev pub all_levels : Strategy → List Seen → IdTest
all_levels by seen = levels (node_ids by seen) (way_ids seen) seen (length seen)

-- the relations that select relations
abbrev pub relation_ids : Strategy → List Seen → IdTest
relation_ids by seen id = by.parents && all_levels by seen id

-- ---- members of relations that are wanted whole

abbrev pub is_member : MemberSeen → MemberSeen → Bool
is_member (node_member id) (node_member own) = int_eq id own
is_member (way_member id) (way_member own) = int_eq id own
is_member _ _ = false

-- a relation that is wanted whole, that a node or a way selects, and that has this member
abbrev pub has_member : IdTest → IdTest → MemberSeen → Seen → Bool
has_member nodes ways member (a_relation own whole members) = (whole && is_kept_relation nodes ways no_ids members) && list_any (is_member member) members
has_member _ _ _ _ = false

-- what is added for their sake; it selects nothing
abbrev pub is_added : Strategy → List Seen → MemberSeen → Bool
is_added by seen member = by.members && list_any (has_member (node_ids by seen) (way_ids seen) member) seen

-- ---- the extract

abbrev pub keeps_way : Strategy → List Seen → ℤ → List ℤ → Bool
keeps_way by seen id refs = is_added by seen (way_member id) || is_kept_way (box_ids seen) refs

abbrev pub keeps_node : Strategy → List Seen → IdTest
keeps_node by seen id = is_added by seen (node_member id) || (box_ids seen id || (by.refs && list_any (is_ref (keeps_way by seen) id) seen))

-- of two ways or relations of one id each is judged by itself
abbrev pub keeps : Strategy → List Seen → Seen → Bool
keeps by seen (a_node id inside) = keeps_node by seen id
keeps by seen (a_way id refs) = keeps_way by seen id refs
keeps by seen (a_relation id whole members) = is_kept_relation (node_ids by seen) (way_ids seen) (relation_ids by seen) members

-- the extract of a list of any type, by what the selection sees of each element: the sublist of what is kept
abbrev pub extract : Strategy → {X : Type 0} → (X → Seen) → List X → List X
extract by look xs = filter (λ x. keeps by (map look xs) (look x)) xs

-- ---- a cut within another

-- the second wants the relations whole that the first does, and maybe more
abbrev pub WantsMore : (List TagSpec → Bool) → (List TagSpec → Bool) → Type 0
WantsMore some more = (tags : List TagSpec) → some tags ≡ true → more tags ≡ true

-- the second strategy keeps what the first keeps, and maybe more
pub record IsWider (narrow wide : Strategy) : Type 0 where
  pub refs : narrow.refs ≡ true → wide.refs ≡ true
  pub of_refs : narrow.of_refs ≡ true → wide.of_refs ≡ true
  pub parents : narrow.parents ≡ true → wide.parents ≡ true
  pub members : narrow.members ≡ true → wide.members ≡ true
  pub whole : WantsMore narrow.whole wide.whole

-- a small look and a large one see an entity alike, but a node that is outside by the small one may be inside by the large one, and a
-- relation that isn't wanted whole by the small one may be by the large one
abbrev pub IsSeenWithin : Seen → Seen → Type 0
IsSeenWithin (a_node id inside) (a_node own within) = (id ≡ own) × (inside ≡ true → within ≡ true)
IsSeenWithin (a_relation id whole members) (a_relation own wider others) = (id ≡ own) × ((whole ≡ true → wider ≡ true) × (members ≡ others))
IsSeenWithin some other = some ≡ other

-- so they see each element
abbrev pub AreSeenWithin : {X : Type 0} → (X → Seen) → (X → Seen) → Type 0
AreSeenWithin {X} small large = (x : X) → IsSeenWithin (small x) (large x)
