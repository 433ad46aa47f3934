-- A PrimitiveBlock as it is written, and the entities that may share one.
use Rattle.std.specs.Prelude.{ℕ, ℤ, Bool, true, false, ◌&&◌, not, nat_le, if◌then◌else◌, List, [], ◌∷◌, ◌++◌, length, map, Option, Some, None}
use Rattle.std.specs.List.{flat_map, list_all, sum_by}
use Rattle.std.specs.Option.{is_some}
use Rattle.std.specs.Ordering.{int_eq}
use Rattle.pbf_wire.specs.Message.{Slot, Scalar, Each, slot_bytes, message, unless_empty}
use Rattle.pbf_wire.specs.Signed.{sign_extended}
use Rattle.pbf_strings.specs.TableOut.{texts_after, table_message}
use Rattle.osm_entity.specs.declared.scale.Scale.{Scale}
use Rattle.osm_entity.specs.Entity.{MetaSpec, NodeSpec, WaySpec, RelationSpec, EntitySpec, node, way, relation, entity_scale}
use Rattle.osm_entity.specs.EntityTexts.{entity_texts}
use Rattle.osm_entity.specs.Weight.{entity_weight}
use Rattle.pbf_dense.specs.WrittenDense.{dense_message}
use Rattle.pbf_block.specs.declared.primitive_block.TheConstants.{STRINGTABLE, PRIMITIVEGROUP, GRANULARITY, DATE_GRANULARITY, LAT_OFFSET, LON_OFFSET}
use Rattle.pbf_block.specs.declared.group.TheConstants.{DENSE, WAYS, RELATIONS}
use Rattle.pbf_block.specs.WrittenEntity.{way_message, relation_message}
use Rattle.osm_entity.specs.declared.weight.TheConstants.{HIGHEST_WEIGHT}
use Rattle.pbf_block.specs.declared.block_write.TheConstants.{MOST_ENTITIES}
use Rattle.pbf_block.specs.declared.scale.TheConstants.{DEFAULT_SCALE}

-- ---- what may share one block

abbrev pub same_scale : Scale → Scale → Bool
same_scale s t =
    int_eq s.granularity t.granularity && int_eq s.date_granularity t.date_granularity
    && int_eq s.lat_offset t.lat_offset && int_eq s.lon_offset t.lon_offset

abbrev pub iff : Bool → Bool → Bool
iff true b = b
iff false b = not b

-- the same fields of metadata are present
abbrev pub same_fields : MetaSpec → MetaSpec → Bool
same_fields m n =
    iff (is_some m.version) (is_some n.version) && iff (is_some m.timestamp) (is_some n.timestamp)
    && iff (is_some m.changeset) (is_some n.changeset) && iff (is_some m.uid) (is_some n.uid)
    && iff (is_some m.user) (is_some n.user) && iff (is_some m.visible) (is_some n.visible)

-- two entities are of one kind and one scale; and nodes, which are in columns, have the same fields of metadata
abbrev pub are_alike : EntitySpec → EntitySpec → Bool
are_alike (node m) (node n) = same_scale m.scale n.scale && same_fields m.meta n.meta
are_alike (way v) (way w) = same_scale v.scale w.scale
are_alike (relation q) (relation r) = same_scale q.scale r.scale
are_alike _ _ = false

-- all are like the first
abbrev pub all_alike : List EntitySpec → Bool
all_alike [] = true
all_alike (e ∷ es) = list_all (are_alike e) es

-- they may share one block: they are alike, not too many, and together no heavier than one entity may be
unfoldable pub is_block : List EntitySpec → Bool
is_block es = all_alike es && (nat_le (length es) MOST_ENTITIES && nat_le (sum_by entity_weight es) HIGHEST_WEIGHT)

-- ---- the entities of each kind

abbrev pub nodes_among : List EntitySpec → List NodeSpec
nodes_among [] = []
nodes_among (node n ∷ es) = n ∷ nodes_among es
nodes_among (_ ∷ es) = nodes_among es

abbrev pub ways_among : List EntitySpec → List WaySpec
ways_among [] = []
ways_among (way w ∷ es) = w ∷ ways_among es
ways_among (_ ∷ es) = ways_among es

abbrev pub relations_among : List EntitySpec → List RelationSpec
relations_among [] = []
relations_among (relation r ∷ es) = r ∷ relations_among es
relations_among (_ ∷ es) = relations_among es

-- ---- the message

-- a group: the nodes as one message, if there are any, and a message for each way and each relation
abbrev pub group_slots : List (List ℕ) → List EntitySpec → List Slot
group_slots texts es =
    Each DENSE (unless_empty (dense_message texts (nodes_among es)))
    ∷ Each WAYS (map (way_message texts) (ways_among es))
    ∷ Each RELATIONS (map (relation_message texts) (relations_among es))
    ∷ []

unfoldable pub group_message : List (List ℕ) → List EntitySpec → List ℕ
group_message texts es = message (group_slots texts es)

-- only the fields of ways and relations
abbrev pub messages_among : List (List ℕ) → List EntitySpec → List ℕ
messages_among texts es =
    slot_bytes (Each WAYS (map (way_message texts) (ways_among es))) ++ slot_bytes (Each RELATIONS (map (relation_message texts) (relations_among es)))

-- a number that isn't the default
abbrev pub unless_default : ℤ → ℤ → Option ℕ
unless_default default number = if int_eq number default then None else Some (sign_extended number)

-- a block: its table, one group with these bytes, and what of the scale isn't the default
abbrev pub block_slots : Scale → List (List ℕ) → List ℕ → List Slot
block_slots scale texts group =
    Each STRINGTABLE (table_message texts ∷ [])
    ∷ Each PRIMITIVEGROUP (group ∷ [])
    ∷ Scalar GRANULARITY (unless_default DEFAULT_SCALE.granularity scale.granularity)
    ∷ Scalar DATE_GRANULARITY (unless_default DEFAULT_SCALE.date_granularity scale.date_granularity)
    ∷ Scalar LAT_OFFSET (unless_default DEFAULT_SCALE.lat_offset scale.lat_offset)
    ∷ Scalar LON_OFFSET (unless_default DEFAULT_SCALE.lon_offset scale.lon_offset)
    ∷ []

-- the scale of all entities, which is that of the first
abbrev pub scale_among : List EntitySpec → Scale
scale_among [] = DEFAULT_SCALE
scale_among (e ∷ es) = entity_scale e

-- the texts of all entities in order of first use
abbrev pub texts_of_all : List EntitySpec → List (List ℕ)
texts_of_all es = texts_after [] (flat_map entity_texts es)

-- the PrimitiveBlock of entities that may share one block
unfoldable pub block_message : List EntitySpec → List ℕ
block_message es = message (block_slots (scale_among es) (texts_of_all es) (group_message (texts_of_all es) es))
