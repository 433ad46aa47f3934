-- The relations that are kept with all parents, as a least set, and by links.
use Rattle.std.specs.Prelude.{◌≡◌, ℤ, Bool, true, false, ◌&&◌, List}
use Rattle.std.specs.List.{list_any}
use Rattle.std.specs.Ordering.{int_eq}
use Rattle.osm_ids.specs.declared.links.Link.{Link}
use Rattle.osm_ways.specs.Selection.{MemberSeen, relation_member, Seen, a_relation, Strategy, IdTest, no_ids, node_ids, way_ids, selected}

abbrev pub HasAllSelected : IdTest → IdTest → List Seen → IdTest → Type 0
HasAllSelected nodes ways seen relations = (id : ℤ) → selected nodes ways seen relations id ≡ true → relations id ≡ true

-- the least set of ids that has the id of each relation with a member in it, in the nodes or in the ways
pub record IsLeastSelected (nodes ways : IdTest) (seen : List Seen) (relations : IdTest) : Type 0 where
  pub closed : HasAllSelected nodes ways seen relations
  pub least : (test : IdTest) → HasAllSelected nodes ways seen test → (id : ℤ) → relations id ≡ true → test id ≡ true

-- ---- the same by links

abbrev pub is_relation_member : ℤ → MemberSeen → Bool
is_relation_member id (relation_member own) = int_eq id own
is_relation_member _ _ = false

-- a relation that links its member to itself
abbrev pub has_link : Link → Seen → Bool
has_link link (a_relation own whole members) = int_eq link.parent own && list_any (is_relation_member link.member) members
has_link _ _ = false

-- a link from each relation member to its relation
abbrev pub links_in : List Seen → Link → Bool
links_in seen link = list_any (has_link link) seen

-- the ids of the relations that a node or a way selects
abbrev pub start_in : Strategy → List Seen → IdTest
start_in by seen = selected (node_ids by seen) (way_ids seen) seen no_ids
