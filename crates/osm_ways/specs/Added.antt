-- What is added for relations that are wanted whole: their nodes and ways, and the refs of these ways.
use Rattle.std.specs.Prelude.{Bool, ◌||◌, if◌then◌else◌, ℤ, List, Option, Some, None, refl}
use Rattle.std.specs.Coded.{Coded, code_by, coded×, coded_ℤ}
use Rattle.std.specs.List.{fold}
use Rattle.std.specs.Ordering.{int_cmp}
use Rattle.std.specs.FinSet as set
use Rattle.osm_ways.specs.Selection.{MemberSeen, node_member, way_member}

pub record AddedSets : Type 0 where
  pub nodes : set.FinSet int_cmp
  pub ways : set.FinSet int_cmp

abbrev pub added_code : Coded AddedSets
added_code = code_by (set.FinSet int_cmp × set.FinSet int_cmp) (coded× (set.code coded_ℤ) (set.code coded_ℤ)) (λ a. (a.nodes, a.ways)) (λ p. record { nodes = p.0; ways = p.1 }) (λ _. refl)

abbrev pub nothing_added : AddedSets
nothing_added = record { nodes = set.empty; ways = set.empty }

abbrev pub added_or_none : Option AddedSets → AddedSets
added_or_none None = nothing_added
added_or_none (Some added) = added

-- a member besides; one that is a relation is not added
abbrev pub with_member : AddedSets → MemberSeen → AddedSets
with_member added (node_member id) = record added { nodes = set.insert added.nodes id }
with_member added (way_member id) = record added { ways = set.insert added.ways id }
with_member added _ = added

abbrev pub members_if : Bool → AddedSets → List MemberSeen → AddedSets
members_if wanted added members = if wanted then fold with_member added members else added

-- the refs of a way that was added besides
abbrev pub with_added_refs : AddedSets → ℤ → List ℤ → AddedSets
with_added_refs added id refs = if set.contains added.ways id then record added { nodes = fold set.insert added.nodes refs } else added
