-- Ways and relations as they are written, each a message of its own. Indexes are those in a table that has all texts of the
-- entity: the one before it was written, with its texts used in order, or any later one.
use Rattle.std.specs.Prelude.{◌≡◌, ℕ, ◌+◌, ◌*◌, ℤ, List, [], ◌∷◌, ◌++◌, Some, length, map, Result, OnOk}
use Rattle.std.specs.Option.{option_map}
use Rattle.pbf_wire.specs.Columns.{packed}
use Rattle.pbf_wire.specs.Message.{Slot, Scalar, Column, Each, message, slot_bytes, unless_empty}
use Rattle.pbf_wire.specs.Signed.{sign_extended}
use Rattle.pbf_wire.specs.Sums.{deltas}
use Rattle.pbf_strings.specs.TableOut.{index_in}
use Rattle.osm_entity.specs.declared.member.MemberKind.{MemberKind}
use Rattle.osm_entity.specs.declared.member.MemberKind.TheVariants as kind
use Rattle.osm_entity.specs.Entity.{TagSpec, MetaSpec, MemberSpec, WaySpec, RelationSpec}
use Rattle.pbf_dense.specs.WrittenDense.{bit_of}
use Rattle.pbf_block.specs.declared.entity_out.EntityOut.{EntityOut}
use Rattle.pbf_dense.specs.declared.dense_info.TheConstants.{VERSION, TIMESTAMP, CHANGESET, UID, USER_SID, VISIBLE}
use Rattle.pbf_block.specs.declared.entity.TheConstants.{ID, KEYS, VALS, INFO}
use Rattle.pbf_block.specs.declared.way.TheConstants.{REFS, WAY_LAT, WAY_LON}
use Rattle.pbf_block.specs.declared.relation.TheConstants.{ROLES_SID, MEMIDS, TYPES}

-- ---- what ways and relations have in common

abbrev pub key_index : List (List ℕ) → TagSpec → ℕ
key_index texts tag = index_in texts tag.0

abbrev pub value_index : List (List ℕ) → TagSpec → ℕ
value_index texts tag = index_in texts tag.1

-- an Info: the fields that are present
abbrev pub info_slots : List (List ℕ) → MetaSpec → List Slot
info_slots texts meta =
    Scalar VERSION (option_map sign_extended meta.version)
    ∷ Scalar TIMESTAMP (option_map sign_extended meta.timestamp)
    ∷ Scalar CHANGESET (option_map sign_extended meta.changeset)
    ∷ Scalar UID (option_map sign_extended meta.uid)
    ∷ Scalar USER_SID (option_map (index_in texts) meta.user)
    ∷ Scalar VISIBLE (option_map bit_of meta.visible)
    ∷ []

unfoldable pub info_message : List (List ℕ) → MetaSpec → List ℕ
info_message texts meta = message (info_slots texts meta)

-- the slots of an entity, of which these are its own
abbrev pub entity_slots : List (List ℕ) → ℤ → MetaSpec → List TagSpec → List Slot → List Slot
entity_slots texts id meta tags own =
    Scalar ID (Some (sign_extended id))
    ∷ Column KEYS (map (key_index texts) tags)
    ∷ Column VALS (map (value_index texts) tags)
    ∷ Each INFO (unless_empty (info_message texts meta))
    ∷ own

-- ---- ways

abbrev pub way_slots : List (List ℕ) → WaySpec → List Slot
way_slots texts w =
    entity_slots texts w.id w.meta w.tags
    (Column REFS (deltas w.refs)
    ∷ Column WAY_LAT (deltas (map (λ l. l.0) w.locations))
    ∷ Column WAY_LON (deltas (map (λ l. l.1) w.locations))
    ∷ [])

unfoldable pub way_message : List (List ℕ) → WaySpec → List ℕ
way_message texts w = message (way_slots texts w)

-- ---- relations

abbrev pub kind_number : MemberKind → ℕ
kind_number kind.Node = 0
kind_number kind.Way = 1
kind_number kind.Relation = 2

abbrev pub role_index : List (List ℕ) → MemberSpec → ℕ
role_index texts member = index_in texts member.role

abbrev pub relation_slots : List (List ℕ) → RelationSpec → List Slot
relation_slots texts r =
    entity_slots texts r.id r.meta r.tags
    (Column ROLES_SID (map (role_index texts) r.members)
    ∷ Column MEMIDS (deltas (map (λ m. m.id) r.members))
    ∷ Column TYPES (map (λ m. kind_number m.kind) r.members)
    ∷ [])

unfoldable pub relation_message : List (List ℕ) → RelationSpec → List ℕ
relation_message texts r = message (relation_slots texts r)

-- ---- as the code has them

-- the lengths of a writer's columns and messages
abbrev pub writer_length : EntityOut → ℕ
writer_length out =
    length (packed out.keys) + length (packed out.values) + length out.info.items
    + length (packed (deltas out.refs)) + length (packed (deltas out.lats)) + length (packed (deltas out.lons))
    + length (packed out.roles) + length (packed (deltas out.members)) + length (packed out.kinds) + length out.message.items

-- those that each entity begins with
abbrev pub begun_length : EntityOut → ℕ
begun_length out = length (packed out.keys) + length (packed out.values) + length out.info.items

-- the columns of a way's and of a relation's own are as they were
pub record KeepsColumns (old new : EntityOut) : Type 0 where
  pub refs : new.refs ≡ old.refs
  pub lats : new.lats ≡ old.lats
  pub lons : new.lons ≡ old.lons
  pub roles : new.roles ≡ old.roles
  pub members : new.members ≡ old.members
  pub kinds : new.kinds ≡ old.kinds

-- the most that a writer holds of a way, and of a relation
abbrev pub most_way_held : WaySpec → ℕ
most_way_held w = 380 + 40 * length w.tags + 20 * length w.refs + 40 * length w.locations

abbrev pub most_relation_held : RelationSpec → ℕ
most_relation_held r = 380 + 40 * length r.tags + 42 * length r.members

-- the message is appended to a group, as the field of this number, and nothing of it stays in the writer
pub record MovesMessage {X E : Type 0} (number : ℕ) (old new : EntityOut) (before now : List ℕ) (result : Result X E) : Type 0 where
  pub written : OnOk result (now ≡ before ++ slot_bytes (Each number (old.message.items ∷ [])))
  pub empty : OnOk result (writer_length new ≡ 0)
