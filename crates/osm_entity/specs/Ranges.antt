-- The entities that can be written: their numbers are in their ranges, and they aren't too heavy.
use Rattle.std.specs.Prelude.{◌≡◌, ◌⊎◌, ◌≤◌, ◌≤ℤ◌, ◌<ℤ◌, neg_ℤ, ◌^◌, ℤ, pos, List, [], length, Option, Some, None}
use Rattle.std.specs.List.{AllByRecursion}
use Rattle.pbf_wire.specs.Signed.{IsWithin}
use Rattle.osm_entity.specs.declared.scale.Scale.{Scale}
use Rattle.osm_entity.specs.Scale.{ScaleFits}
use Rattle.osm_entity.specs.Entity.{MetaSpec, MemberSpec, LocationSpec, NodeSpec, WaySpec, RelationSpec, EntitySpec, node, way, relation, entity_meta, entity_scale}
use Rattle.osm_entity.specs.Weight.{node_weight, way_weight, relation_weight}
use Rattle.osm_entity.specs.declared.weight.TheConstants.{HIGHEST_WEIGHT}
use Rattle.pbf_wire.specs.declared.limits.TheConstants.{SUM_LIMIT}

-- an id, a coordinate, a time or a changeset is strictly between -2^62 and 2^62
abbrev pub IsStored : ℤ → Type 0
IsStored number = IsWithin (pos SUM_LIMIT) number

-- a uid is strictly between -2^30 and 2^30
abbrev pub IsUid : ℤ → Type 0
IsUid number = IsWithin (pos (2 ^ 30)) number

-- a field that is present
abbrev pub IfPresent : (ℤ → Type 0) → Option ℤ → Type 0
IfPresent P None = Unit {0}
IfPresent P (Some number) = P number

pub record MetaFits (meta : MetaSpec) : Type 0 where
  pub timestamp : IfPresent IsStored meta.timestamp
  pub changeset : IfPresent IsStored meta.changeset
  pub uid : IfPresent IsUid meta.uid

abbrev pub LocationFits : LocationSpec → Type 0
LocationFits location = IsStored location.0 × IsStored location.1

abbrev pub MemberFits : MemberSpec → Type 0
MemberFits member = IsStored member.id

-- there are no locations, or as many as refs
abbrev pub AreLocated : List ℤ → List LocationSpec → Type 0
AreLocated refs locations = (locations ≡ []) ⊎ (length locations ≡ length refs)

pub record NodeFits (n : NodeSpec) : Type 0 where
  pub id : IsStored n.id
  pub lat : IsStored n.lat
  pub lon : IsStored n.lon
  pub meta : MetaFits n.meta
  pub scale : ScaleFits n.scale
  pub light : node_weight n ≤ HIGHEST_WEIGHT

pub record WayFits (w : WaySpec) : Type 0 where
  pub id : IsStored w.id
  pub meta : MetaFits w.meta
  pub scale : ScaleFits w.scale
  pub refs : AllByRecursion IsStored w.refs
  pub locations : AllByRecursion LocationFits w.locations
  pub located : AreLocated w.refs w.locations
  pub light : way_weight w ≤ HIGHEST_WEIGHT

pub record RelationFits (r : RelationSpec) : Type 0 where
  pub id : IsStored r.id
  pub meta : MetaFits r.meta
  pub scale : ScaleFits r.scale
  pub members : AllByRecursion MemberFits r.members
  pub light : relation_weight r ≤ HIGHEST_WEIGHT

abbrev pub EntityFits : EntitySpec → Type 0
EntityFits (node n) = NodeFits n
EntityFits (way w) = WayFits w
EntityFits (relation r) = RelationFits r

-- ---- the types of the format, which numbers in the code have anyway

abbrev pub IsInt32 : ℤ → Type 0
IsInt32 number = (neg_ℤ (pos (2 ^ 31)) ≤ℤ number) × (number <ℤ pos (2 ^ 31))

abbrev pub IsInt64 : ℤ → Type 0
IsInt64 number = (neg_ℤ (pos (2 ^ 63)) ≤ℤ number) × (number <ℤ pos (2 ^ 63))

pub record ScaleTyped (scale : Scale) : Type 0 where
  pub granularity : IsInt32 scale.granularity
  pub date_granularity : IsInt32 scale.date_granularity
  pub lat_offset : IsInt64 scale.lat_offset
  pub lon_offset : IsInt64 scale.lon_offset

pub record EntityTyped (e : EntitySpec) : Type 0 where
  pub version : IfPresent IsInt32 (entity_meta e).version
  pub scale : ScaleTyped (entity_scale e)
