-- Entities as the format means them: numbers without bounds, texts as lists of bytes.
use Rattle.std.specs.Prelude.{ℕ, ℤ, Bool, List, map, Option}
use Rattle.std.specs.Option.{option_map}
use Rattle.osm_entity.specs.declared.scale.Scale.{Scale}
use Rattle.osm_entity.specs.declared.member.MemberKind.{MemberKind}
use Rattle.osm_entity.specs.Scale.{nano_lat, nano_lon, millis}

-- a key and its value
abbrev pub TagSpec : Type 0
TagSpec = List ℕ × List ℕ

-- a latitude and a longitude
abbrev pub LocationSpec : Type 0
LocationSpec = ℤ × ℤ

pub record MetaSpec : Type 0 where
  pub version : Option ℤ
  pub timestamp : Option ℤ
  pub changeset : Option ℤ
  pub uid : Option ℤ
  pub user : Option (List ℕ)
  pub visible : Option Bool

pub record MemberSpec : Type 0 where
  pub kind : MemberKind
  pub id : ℤ
  pub role : List ℕ

-- ---- with stored numbers, and the scale that says what they mean

pub record NodeSpec : Type 0 where
  pub id : ℤ
  pub lat : ℤ
  pub lon : ℤ
  pub meta : MetaSpec
  pub tags : List TagSpec
  pub scale : Scale

pub record WaySpec : Type 0 where
  pub id : ℤ
  pub meta : MetaSpec
  pub tags : List TagSpec
  pub refs : List ℤ
  pub locations : List LocationSpec
  pub scale : Scale

pub record RelationSpec : Type 0 where
  pub id : ℤ
  pub meta : MetaSpec
  pub tags : List TagSpec
  pub members : List MemberSpec
  pub scale : Scale

pub data EntitySpec : Type 0 where
  node : NodeSpec → EntitySpec
  way : WaySpec → EntitySpec
  relation : RelationSpec → EntitySpec

abbrev pub entity_id : EntitySpec → ℤ
entity_id (node n) = n.id
entity_id (way w) = w.id
entity_id (relation r) = r.id

abbrev pub entity_meta : EntitySpec → MetaSpec
entity_meta (node n) = n.meta
entity_meta (way w) = w.meta
entity_meta (relation r) = r.meta

abbrev pub entity_tags : EntitySpec → List TagSpec
entity_tags (node n) = n.tags
entity_tags (way w) = w.tags
entity_tags (relation r) = r.tags

abbrev pub entity_scale : EntitySpec → Scale
entity_scale (node n) = n.scale
entity_scale (way w) = w.scale
entity_scale (relation r) = r.scale

-- ---- decoded: places in nanodegrees, times in milliseconds, without the scale

pub data Decoded : Type 0 where
  node_at : (id lat lon : ℤ) (meta : MetaSpec) (tags : List TagSpec) → Decoded
  way_through : (id : ℤ) (meta : MetaSpec) (tags : List TagSpec) (refs : List ℤ) (locations : List LocationSpec) → Decoded
  relation_among : (id : ℤ) (meta : MetaSpec) (tags : List TagSpec) (members : List MemberSpec) → Decoded

abbrev pub meta_in_millis : Scale → MetaSpec → MetaSpec
meta_in_millis scale meta = record meta { timestamp = option_map (millis scale) meta.timestamp }

abbrev pub nano_location : Scale → LocationSpec → LocationSpec
nano_location scale location = (nano_lat scale location.0, nano_lon scale location.1)

abbrev pub decoded : EntitySpec → Decoded
decoded (node n) = node_at n.id (nano_lat n.scale n.lat) (nano_lon n.scale n.lon) (meta_in_millis n.scale n.meta) n.tags
decoded (way w) = way_through w.id (meta_in_millis w.scale w.meta) w.tags w.refs (map (nano_location w.scale) w.locations)
decoded (relation r) = relation_among r.id (meta_in_millis r.scale r.meta) r.tags r.members
