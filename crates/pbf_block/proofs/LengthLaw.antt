-- What entities take as they are written, beside what they weigh: a written block is no longer than twice its weight and a little
-- more, and what is held of it while it is open no longer than that.
use Rattle.std.proofs.Common.{◌≡◌, ℕ, zero, suc, ◌+◌, ◌*◌, ◌/◌, ◌%◌, ◌^◌, ◌<◌, ◌≤◌, ◌&&◌, Bool, true, false, cond, ltb, ℤ, pos, List, [], ◌∷◌, ◌++◌, length, map, Option, Some, None, refl, arith, length-append, ap}
use Rattle.std.specs.Prelude.{nat_le}
use Rattle.std.specs.List.{flat_map, filter_map, cons_option, sum_by}
use Rattle.std.specs.Option.{option_map, option_to_list}
use Rattle.std.proofs.lemmas.Bool.{lt-ltb, leb-true, le-leb, and_parts}
use Rattle.std.proofs.lemmas.List.{length-map}
use Rattle.std.proofs.lemmas.List.Sums.{sum_by-cons}
use Rattle.pbf_wire.specs.Columns.{packed}
use Rattle.pbf_wire.specs.Message.{Slot, Column, Each, slot_bytes, message, unless_empty}
use Rattle.pbf_wire.specs.Signed.{sign_extended}
use Rattle.pbf_wire.specs.Sums.{deltas}
use Rattle.pbf_wire.specs.Varint.{shortest, spelled_within}
use Rattle.pbf_strings.specs.TableOut.{has_text, with_text, texts_after, index_in, table_of, text_held, table_message}
use Rattle.pbf_strings.proofs.UsedTexts.{length_after}
use Rattle.osm_entity.specs.declared.member.MemberKind.{MemberKind}
use Rattle.osm_entity.specs.declared.member.MemberKind.TheVariants as kind
use Rattle.osm_entity.specs.Entity.{TagSpec, MetaSpec, MemberSpec, NodeSpec, WaySpec, RelationSpec, EntitySpec, node, way, relation}
use Rattle.osm_entity.specs.EntityTexts.{tag_texts, entity_texts, way_texts, relation_texts}
use Rattle.osm_entity.specs.Weight.{tags_weight, members_weight, text_weight, entity_weight, way_weight, relation_weight}
use Rattle.osm_entity.specs.Ranges.{WayFits, RelationFits}
use Rattle.pbf_dense.specs.Info.{InfoSpec}
use Rattle.pbf_dense.specs.WrittenDense.{bit_of, tag_numbers, run_of, info_columns, dense_info_slots, dense_info_message, columns_of, dense_slots, dense_message, info_length, dense_length}
use Rattle.pbf_dense.proofs.InfoLaw.{deltas_length}
use Rattle.pbf_block.specs.WrittenEntity.{key_index, value_index, role_index, kind_number, info_slots, info_message, entity_slots, way_message, relation_message, writer_length, begun_length, KeepsColumns, most_way_held, most_relation_held}
use Rattle.pbf_block.specs.WrittenBlock.{all_alike, is_block, nodes_among, ways_among, relations_among, group_slots, group_message, block_slots, scale_among, texts_of_all, messages_among, block_message}
use Rattle.pbf_wire.proofs.LengthLemmas.{packed_short, each_room, each_short, message_short}
use Rattle.osm_entity.specs.declared.weight.TheConstants.{HIGHEST_WEIGHT}
use Rattle.pbf_block.specs.declared.block_write.TheConstants.{MOST_ENTITIES}
use Rattle.pbf_wire.specs.Writing.{Whole, spelling, written}
use Rattle.pbf_wire.proofs.WritingLemmas.{message_one}
use Rattle.pbf_block.specs.declared.entity_out.EntityOut.{EntityOut}

-- ---- small numbers have few bytes

abbrev below : ℕ → ℕ
below zero = 128
below (suc k) = 128 * below k

spelled_below : (k n v : ℕ) → k ≤ n → v < below k → length (spelled_within n v) ≤ k + 1
unfolding spelled_within
spelled_below zero zero v le h = omega arith
spelled_below zero (suc n) v le h = rw (lt-ltb v 128 h) (omega arith)
spelled_below (suc k) zero v le h = absurd (omega (arith, le))
spelled_below (suc k) (suc n) v le h =
    elim (ltb v 128) as (λ b. length (cond b (v ∷ []) ((v % 128 + 128) ∷ spelled_within n (v / 128))) ≤ suc k + 1)
    [ true ↦ omega arith | false ↦ omega (arith, spelled_below k n (v / 128) (omega (arith, le)) (omega (arith, h))) ]

pub one_byte : (v : ℕ) → v < 128 → length (shortest v) ≤ 1
unfolding shortest
one_byte v h = spelled_below 0 9 v (omega arith) h

pub five_bytes : (v : ℕ) → v < 34359738368 → length (shortest v) ≤ 5
unfolding shortest
five_bytes v h = spelled_below 4 9 v (omega arith) h

-- ---- texts: their bytes, and how many they are

abbrev pub text_bytes : List (List ℕ) → ℕ
text_bytes [] = 0
text_bytes (text ∷ texts) = length text + text_bytes texts

bytes_append : (xs ys : List (List ℕ)) → text_bytes (xs ++ ys) ≡ text_bytes xs + text_bytes ys
bytes_append [] ys = omega arith
bytes_append (x ∷ xs) ys = let rest = bytes_append xs ys in omega (arith, rest)

with_bytes : (texts : List (List ℕ)) (text : List ℕ) → text_bytes (with_text texts text) ≤ text_bytes texts + length text
with_bytes texts text =
    elim (has_text texts text) as (λ b. text_bytes (cond b texts (texts ++ text ∷ [])) ≤ text_bytes texts + length text) [ true ↦ omega arith | false ↦ omega (arith, bytes_append texts (text ∷ [])) ]

pub after_bytes : (texts used : List (List ℕ)) → text_bytes (texts_after texts used) ≤ text_bytes texts + text_bytes used
after_bytes texts [] = omega arith
after_bytes texts (text ∷ used) = omega (arith, after_bytes (with_text texts text) used, with_bytes texts text)

-- as fields, and as they are held
fields_bytes : (texts : List (List ℕ)) → each_room texts ≡ text_bytes texts + 20 * length texts
fields_bytes [] = omega arith
fields_bytes (text ∷ texts) = let rest = fields_bytes texts in omega (arith, rest)

pub held_bytes : (texts : List (List ℕ)) → sum_by text_held texts ≡ text_bytes texts + 4 * length texts
held_bytes [] = omega arith
held_bytes (text ∷ texts) = let rest = held_bytes texts in omega (arith, rest, sum_by-cons text_held text texts)

-- ---- an entity weighs 160, 32 for each of its parts, and its texts

tags_weigh : (tags : List TagSpec) → (tags_weight tags ≡ 32 * length tags + text_bytes (tag_texts tags)) × (length (tag_texts tags) ≡ 2 * length tags)
tags_weigh [] = (omega arith, omega arith)
tags_weigh (tag ∷ tags) = let rest = tags_weigh tags in (omega (arith, rest.0), omega (arith, rest.1))

roles_weigh : (members : List MemberSpec) → members_weight members ≡ 32 * length members + text_bytes (map (λ m. m.role) members)
roles_weigh [] = omega arith
roles_weigh (m ∷ ms) = let rest = roles_weigh ms in omega (arith, rest)

user_weighs : (user : Option (List ℕ)) → (text_weight user ≡ text_bytes (option_to_list user)) × (length (option_to_list user) ≤ 1)
user_weighs None = (omega arith, omega arith)
user_weighs (Some text) = (omega arith, omega arith)

-- so many tags, members, and refs and locations; the texts are two a tag, one a member, and the user
pub record Weighs (e : EntitySpec) (tags members others : ℕ) : Type 0 where
  pub weight : entity_weight e ≡ 160 + 32 * (tags + members + others) + text_bytes (entity_texts e)
  pub few : length (entity_texts e) ≤ 2 * tags + members + 1

-- of nodes and ways
tags_and_user : (tags : List TagSpec) (user : Option (List ℕ))
    → (text_weight user + tags_weight tags ≡ 32 * length tags + text_bytes (tag_texts tags ++ option_to_list user)) × (length (tag_texts tags ++ option_to_list user) ≤ 2 * length tags + 1)
tags_and_user tags user =
    let t = tags_weigh tags in
    let u = user_weighs user in
    (omega (arith, t.0, u.0, bytes_append (tag_texts tags) (option_to_list user)), omega (arith, t.1, u.1, length-append (tag_texts tags) (option_to_list user)))

node_weighs : (n : NodeSpec) → Weighs (node n) (length n.tags) 0 0
node_weighs n = let h = tags_and_user n.tags n.meta.user in record { weight = omega (arith, h.0); few = omega (arith, h.1) }

pub way_weighs : (w : WaySpec) → Weighs (way w) (length w.tags) 0 (length w.refs + length w.locations)
way_weighs w = let h = tags_and_user w.tags w.meta.user in record { weight = omega (arith, h.0); few = omega (arith, h.1) }

pub relation_weighs : (r : RelationSpec) → Weighs (relation r) (length r.tags) (length r.members) 0
relation_weighs r =
    let user = option_to_list r.meta.user in
    let roles = map (λ (m : MemberSpec). m.role) r.members in
    let t = tags_weigh r.tags in
    let u = user_weighs r.meta.user in
    record {
      weight = omega (arith, t.0, u.0, roles_weigh r.members, bytes_append (tag_texts r.tags) (user ++ roles), bytes_append user roles);
      few = omega (arith, t.1, u.1, length-map r.members (λ m. m.role), length-append (tag_texts r.tags) (user ++ roles), length-append user roles);
    }

-- ---- messages

unless_room : (m : List ℕ) → each_room (unless_empty m) ≤ 20 + length m
unless_room [] = omega arith
unless_room (b ∷ bs) = omega arith

pub numbers_short : {X : Type 0} (f : X → ℕ) (xs : List X) → length (packed (map f xs)) ≤ 10 * length xs
numbers_short f xs = omega (arith, packed_short (map f xs), length-map xs f)

pub deltas_short : (values : List ℤ) → length (packed (deltas values)) ≤ 10 * length values
deltas_short values = omega (arith, packed_short (deltas values), deltas_length values)

pub values_short : {X : Type 0} (f : X → ℤ) (xs : List X) → length (packed (deltas (map f xs))) ≤ 10 * length xs
values_short f xs = omega (arith, deltas_short (map f xs), length-map xs f)

kind_short : (k : MemberKind) → length (shortest (kind_number k)) ≤ 1
kind_short kind.Node = one_byte 0 (omega arith)
kind_short kind.Way = one_byte 1 (omega arith)
kind_short kind.Relation = one_byte 2 (omega arith)

pub kinds_short : (members : List MemberSpec) → length (packed (map (λ m. kind_number m.kind) members)) ≤ length members
kinds_short [] = omega arith
kinds_short (m ∷ ms) = let rest = kinds_short ms in omega (arith, length-append (shortest (kind_number m.kind)) (packed (map (λ m. kind_number m.kind) ms)), kind_short m.kind, rest)

pub info_short : (texts : List (List ℕ)) (meta : MetaSpec) → length (info_message texts meta) ≤ 120
unfolding info_message
info_short texts meta = message_short (info_slots texts meta)

-- the three columns that a way and a relation each have of their own
abbrev pub own_columns : (a b c : List ℕ) → List Slot
own_columns a b c = Column 8 a ∷ Column 9 b ∷ Column 10 c ∷ []

entity_room : (texts : List (List ℕ)) (id : ℤ) (meta : MetaSpec) (tags : List TagSpec) (a b c : List ℕ)
    → length (message (entity_slots texts id meta tags (own_columns a b c))) ≤ 260 + 20 * length tags + length (packed a) + length (packed b) + length (packed c)
entity_room texts id meta tags a b c =
    omega (
      arith,
      message_short (entity_slots texts id meta tags (own_columns a b c)),
      unless_room (info_message texts meta),
      info_short texts meta,
      numbers_short (key_index texts) tags,
      numbers_short (value_index texts) tags,
    )

pub way_room : (texts : List (List ℕ)) (w : WaySpec) → length (way_message texts w) ≤ 260 + 20 * length w.tags + 10 * length w.refs + 20 * length w.locations
unfolding way_message
way_room texts w =
    let lats = map (λ l. l.0) w.locations in
    let lons = map (λ l. l.1) w.locations in
    omega (arith, entity_room texts w.id w.meta w.tags (deltas w.refs) (deltas lats) (deltas lons), deltas_short w.refs, values_short (λ l. l.0) w.locations, values_short (λ l. l.1) w.locations)

pub relation_room : (texts : List (List ℕ)) (r : RelationSpec) → length (relation_message texts r) ≤ 260 + 20 * length r.tags + 21 * length r.members
unfolding relation_message
relation_room texts r =
    let roles = map (role_index texts) r.members in
    let ids = map (λ m. m.id) r.members in
    let kinds = map (λ m. kind_number m.kind) r.members in
    omega (arith, entity_room texts r.id r.meta r.tags roles (deltas ids) kinds, numbers_short (role_index texts) r.members, values_short (λ m. m.id) r.members, kinds_short r.members)

-- ---- nodes

filter_short : {X Y : Type 0} (f : X → Option Y) (xs : List X) → length (filter_map f xs) ≤ length xs
filter_short f [] = omega arith
filter_short f (x ∷ xs) = let rest = filter_short f xs in elim (f x) as (λ o. length (cons_option o (filter_map f xs)) ≤ suc (length xs)) [ None ↦ omega (arith, rest) | Some y ↦ omega (arith, rest) ]

numbers_room : (f : MetaSpec → Option ℕ) (metas : List MetaSpec) → length (packed (filter_map f metas)) ≤ 10 * length metas
numbers_room f metas = omega (arith, packed_short (filter_map f metas), filter_short f metas)

sums_room : (f : MetaSpec → Option ℤ) (metas : List MetaSpec) → length (packed (deltas (filter_map f metas))) ≤ 10 * length metas
sums_room f metas = omega (arith, deltas_short (filter_map f metas), filter_short f metas)

-- the columns of metadata
info_columns_room : (texts : List (List ℕ)) (metas : List MetaSpec) → info_length (info_columns texts metas) ≤ 60 * length metas
info_columns_room texts metas =
    let versions = numbers_room (λ m. option_map sign_extended m.version) metas in
    let timestamps = sums_room (λ m. m.timestamp) metas in
    let changesets = sums_room (λ m. m.changeset) metas in
    let uids = sums_room (λ m. m.uid) metas in
    let users = sums_room (λ m. option_map (λ text. pos (index_in texts text)) m.user) metas in
    let visible = numbers_room (λ m. option_map bit_of m.visible) metas in
    omega (arith, versions, timestamps, changesets, uids, users, visible)

infos_room : (info : InfoSpec) → each_room (unless_empty (dense_info_message info)) ≤ 140 + info_length info
unfolding dense_info_message
infos_room info = omega (arith, unless_room (message (dense_info_slots info)), message_short (dense_info_slots info))

abbrev pub tag_count : List NodeSpec → ℕ
tag_count [] = 0
tag_count (n ∷ ns) = length n.tags + tag_count ns

numbers_long : (texts : List (List ℕ)) (tags : List TagSpec) → length (tag_numbers texts tags) ≡ 2 * length tags
numbers_long texts [] = omega arith
numbers_long texts (tag ∷ tags) = let rest = numbers_long texts tags in omega (arith, rest)

runs_long : (texts : List (List ℕ)) (ns : List NodeSpec) → length (flat_map (λ n. run_of texts n.tags) ns) ≡ 2 * tag_count ns + length ns
runs_long texts [] = omega arith
runs_long texts (n ∷ ns) =
    let rest = runs_long texts ns in
    omega (arith, length-append (run_of texts n.tags) (flat_map (λ n. run_of texts n.tags) ns), length-append (tag_numbers texts n.tags) (0 ∷ []), numbers_long texts n.tags, rest)

runs_room : (tagged : Bool) (runs : List ℕ) → length (packed (cond tagged runs [])) ≤ length (packed runs)
runs_room true runs = omega arith
runs_room false runs = omega arith

-- all columns
pub columns_room : (texts : List (List ℕ)) (ns : List NodeSpec) → dense_length (columns_of texts ns) ≤ 100 * length ns + 20 * tag_count ns
columns_room texts ns =
    let ids = values_short (λ n. n.id) ns in
    let lats = values_short (λ n. n.lat) ns in
    let lons = values_short (λ n. n.lon) ns in
    let infos = info_columns_room texts (map (λ n. n.meta) ns) in
    let runs = packed_short (flat_map (λ n. run_of texts n.tags) ns) in
    omega (arith, ids, lats, lons, infos, length-map ns (λ n. n.meta), runs, runs_long texts ns)

pub dense_room : (texts : List (List ℕ)) (ns : List NodeSpec) → length (dense_message texts ns) ≤ 220 + 100 * length ns + 20 * tag_count ns
unfolding dense_message
dense_room texts ns =
    let columns = columns_of texts ns in
    omega (arith, message_short (dense_slots columns), infos_room columns.info, runs_room columns.tagged columns.runs, columns_room texts ns)

-- ---- the block

-- what the message of an entity takes in a group, or a node in the columns
abbrev part : List (List ℕ) → EntitySpec → ℕ
part texts (node n) = 100 + 20 * length n.tags
part texts (way w) = 20 + length (way_message texts w)
part texts (relation r) = 20 + length (relation_message texts r)

-- what those of all entities take, but for the fields that dense columns have once
abbrev pub beside : List (List ℕ) → List EntitySpec → ℕ
beside texts es =
    100 * length (nodes_among es) + 20 * tag_count (nodes_among es)
    + (each_room (map (way_message texts) (ways_among es)) + each_room (map (relation_message texts) (relations_among es)))

beside_more : (texts : List (List ℕ)) (e : EntitySpec) (es : List EntitySpec) → beside texts (e ∷ es) ≡ part texts e + beside texts es
beside_more texts (node n) es = omega arith
beside_more texts e es = omega arith

-- so many entities take so much beside these texts: with the texts as fields less than twice their weight, and with short fields
-- hardly more than it
pub record IsRoom (beside : ℕ) (used : List (List ℕ)) (weight count : ℕ) : Type 0 where
  pub twice : beside + text_bytes used + 20 * length used ≤ 2 * weight
  pub once : beside + text_bytes used + 6 * length used ≤ weight + 126 * count
  pub few : 16 * length used ≤ weight

pub entity_is : (texts : List (List ℕ)) (e : EntitySpec) → IsRoom (part texts e) (entity_texts e) (entity_weight e) 1
entity_is texts (node n) = let h = node_weighs n in record { twice = omega (arith, h.weight, h.few); once = omega (arith, h.weight, h.few); few = omega (arith, h.weight, h.few) }
entity_is texts (way w) =
    let h = way_weighs w in
    let m = way_room texts w in
    record { twice = omega (arith, h.weight, h.few, m); once = omega (arith, h.weight, h.few, m); few = omega (arith, h.weight, h.few) }
entity_is texts (relation r) =
    let h = relation_weighs r in
    let m = relation_room texts r in
    record { twice = omega (arith, h.weight, h.few, m); once = omega (arith, h.weight, h.few, m); few = omega (arith, h.weight, h.few) }

pub parts_are : (texts : List (List ℕ)) (es : List EntitySpec) → IsRoom (beside texts es) (flat_map entity_texts es) (sum_by entity_weight es) (length es)
parts_are texts [] = record { twice = omega arith; once = omega arith; few = omega arith }
parts_are texts (e ∷ es) =
    let one = entity_is texts e in
    let rest = parts_are texts es in
    let b = beside_more texts e es in
    let w = sum_by-cons entity_weight e es in
    let n = length-append (entity_texts e) (flat_map entity_texts es) in
    let t = bytes_append (entity_texts e) (flat_map entity_texts es) in
    record { twice = omega (arith, b, w, n, t, one.twice, rest.twice); once = omega (arith, b, w, n, t, one.once, rest.once); few = omega (arith, w, n, one.few, rest.few) }

-- what the texts of all take in a table, each once
pub once_bytes : (es : List EntitySpec) → text_bytes (texts_of_all es) ≤ text_bytes (flat_map entity_texts es)
once_bytes es = omega (arith, after_bytes [] (flat_map entity_texts es))

pub once_few : (es : List EntitySpec) → length (texts_of_all es) ≤ length (flat_map entity_texts es)
once_few es = omega (arith, length_after (flat_map entity_texts es) [])

pub group_room : (texts : List (List ℕ)) (es : List EntitySpec) → length (group_message texts es) ≤ 240 + beside texts es
unfolding group_message
group_room texts es = omega (arith, message_short (group_slots texts es), unless_room (dense_message texts (nodes_among es)), dense_room texts (nodes_among es))

pub block_short : (es : List EntitySpec) → length (block_message es) ≤ 380 + 2 * sum_by entity_weight es
unfolding block_message
block_short es =
    let texts = texts_of_all es in
    omega (
      arith,
      message_short (block_slots (scale_among es) texts (group_message texts es)),
      message_short (Each 1 (table_of texts) ∷ []),
      fields_bytes texts,
      once_bytes es,
      once_few es,
      group_room texts es,
      (parts_are texts es).twice,
    )

-- ---- entities that may share one block

pub record IsSmall (es : List EntitySpec) : Type 0 where
  pub alike : all_alike es ≡ true
  pub few : length es ≤ MOST_ENTITIES
  pub light : sum_by entity_weight es ≤ HIGHEST_WEIGHT

pub block_parts : (es : List EntitySpec) → is_block es ≡ true → IsSmall es
unfolding is_block
block_parts es h =
    let first = and_parts (all_alike es) (nat_le (length es) MOST_ENTITIES && nat_le (sum_by entity_weight es) HIGHEST_WEIGHT) h in
    let second = and_parts (nat_le (length es) MOST_ENTITIES) (nat_le (sum_by entity_weight es) HIGHEST_WEIGHT) first.1 in
    record { alike = first.0; few = leb-true _ _ second.0; light = leb-true _ _ second.1 }

pub block_from : (es : List EntitySpec) → IsSmall es → is_block es ≡ true
unfolding is_block
block_from es h = rw (h.alike, le-leb _ _ h.few, le-leb _ _ h.light) refl

-- they are written as a block that a frame may have
pub block_fits : (es : List EntitySpec) → is_block es ≡ true → length (block_message es) < 33554432
block_fits es h = omega (arith, (block_parts es h).light, block_short es)

-- ---- a block that is open

pub messages_room : (texts : List (List ℕ)) (es : List EntitySpec) → length (messages_among texts es) ≤ each_room (map (way_message texts) (ways_among es)) + each_room (map (relation_message texts) (relations_among es))
unfolding slot_bytes
messages_room texts es =
    let ways = map (way_message texts) (ways_among es) in
    let relations = map (relation_message texts) (relations_among es) in
    omega (arith, length-append (slot_bytes (Each 3 ways)) (slot_bytes (Each 4 relations)), each_short 3 ways, each_short 4 relations)

-- the texts of its entities, the columns of its nodes and the messages of the others are no longer than twice its weight
pub open_short : (texts : List (List ℕ)) (es : List EntitySpec) → sum_by text_held (texts_of_all es) + dense_length (columns_of texts (nodes_among es)) + length (messages_among texts es) ≤ 2 * sum_by entity_weight es
open_short texts es =
    omega (arith, held_bytes (texts_of_all es), once_bytes es, once_few es, columns_room texts (nodes_among es), messages_room texts es, (parts_are texts es).twice)

-- ---- entities that fit

pub way_short : (texts : List (List ℕ)) (w : WaySpec) → WayFits w → length (way_message texts w) < 2 ^ 64
way_short texts w h = omega (arith, h.light, (entity_is texts (way w)).twice)

pub relation_short : (texts : List (List ℕ)) (r : RelationSpec) → RelationFits r → length (relation_message texts r) < 2 ^ 64
relation_short texts r h = omega (arith, h.light, (entity_is texts (relation r)).twice)

-- ---- the table

-- an entry takes six bytes beside its text, if that is short
entries_short : (texts : List (List ℕ)) → text_bytes texts < 34359738368 → length (written (map (Whole 1) texts)) ≤ text_bytes texts + 6 * length texts
entries_short [] h = omega arith
entries_short (text ∷ texts) h =
    omega (
      arith,
      length-append (spelling (Whole 1 text)) (written (map (Whole 1) texts)),
      length-append (shortest (1 * 8 + 2)) (shortest (length text) ++ text),
      length-append (shortest (length text)) text,
      one_byte (1 * 8 + 2) (omega arith),
      five_bytes (length text) (omega (arith, h)),
      entries_short texts (omega (arith, h)),
    )

table_short : (texts : List (List ℕ)) → text_bytes texts < 34359738368 → length (table_message texts) ≤ 6 + text_bytes texts + 6 * length texts
unfolding slot_bytes
table_short texts h = omega (arith, ap (λ (bs : List ℕ). length bs) (message_one (Each 1 (table_of texts))), entries_short (table_of texts) (omega (arith, h)))

-- ---- a block that is closed

-- the texts, once, and what their entities take beside them
parts_bound : (texts : List (List ℕ)) (es : List EntitySpec) → is_block es ≡ true → beside texts es + text_bytes (texts_of_all es) + 6 * length (texts_of_all es) ≤ 13008000
parts_bound texts es h = let small = block_parts es h in omega (arith, small.few, small.light, once_bytes es, once_few es, (parts_are texts es).once)

table_bound : (texts : List (List ℕ)) (es : List EntitySpec) → is_block es ≡ true → length (table_message (texts_of_all es)) + beside texts es ≤ 13008006
table_bound texts es h = let parts = parts_bound texts es h in omega (arith, parts, table_short (texts_of_all es) (omega (arith, parts)))

-- while the table is written: what the open block holds, and the table
pub table_fits : (texts : List (List ℕ)) (es : List EntitySpec) → is_block es ≡ true
    → sum_by text_held (texts_of_all es) + dense_length (columns_of texts (nodes_among es)) + length (messages_among texts es) + length (table_message (texts_of_all es)) ≤ 28000000
table_fits texts es h =
    omega (arith, held_bytes (texts_of_all es), parts_bound texts es h, table_bound texts es h, columns_room texts (nodes_among es), messages_room texts es)

-- while the message of its nodes is made: its table, what the open block holds but for its texts, and that message
pub nodes_fit : (texts : List (List ℕ)) (es : List EntitySpec) → is_block es ≡ true
    → length (table_message (texts_of_all es)) + (dense_length (columns_of texts (nodes_among es)) + length (messages_among texts es)) + length (dense_message texts (nodes_among es)) ≤ 28000000
nodes_fit texts es h = omega (arith, table_bound texts es h, columns_room texts (nodes_among es), messages_room texts es, dense_room texts (nodes_among es))

-- when it is in the group: its table, that message and the group
pub group_fits : (texts : List (List ℕ)) (es : List EntitySpec) → is_block es ≡ true
    → length (table_message (texts_of_all es)) + length (dense_message texts (nodes_among es)) + length (group_message texts es) ≤ 28000000
group_fits texts es h = omega (arith, table_bound texts es h, dense_room texts (nodes_among es), group_room texts es)

-- when the block is put together: its table, its group and itself
pub closing_fits : (es : List EntitySpec) → is_block es ≡ true
    → length (table_message (texts_of_all es)) + length (group_message (texts_of_all es) es) + length (block_message es) ≤ 28000000
unfolding block_message
closing_fits es h =
    let texts = texts_of_all es in
    omega (arith, message_short (block_slots (scale_among es) texts (group_message texts es)), group_room texts es, table_bound texts es h)

-- ---- columns

-- the columns that each entity begins with
pub begun_held : (texts others : List (List ℕ)) (tags : List TagSpec) (meta : MetaSpec) (keys values info : List ℕ) → keys ≡ map (key_index texts) tags → values ≡ map (value_index texts) tags → info ≡ info_message others meta
    → length (packed keys) + length (packed values) + length info ≤ 120 + 20 * length tags
begun_held texts others tags meta keys values info k v i = rw (k, v, i) (omega (arith, numbers_short (key_index texts) tags, numbers_short (value_index texts) tags, info_short others meta))

-- if nothing was there before, the columns of a way's and of a relation's own are empty then
none_own : (old begun : EntityOut) → writer_length old ≡ 0 → KeepsColumns old begun
    → length (packed (deltas begun.refs)) + length (packed (deltas begun.lats)) + length (packed (deltas begun.lons)) + length (packed begun.roles) + length (packed (deltas begun.members)) + length (packed begun.kinds) ≡ 0
none_own old begun e k = rw (k.refs, k.lats, k.lons, k.roles, k.members, k.kinds) (omega (arith, e))

-- ---- what a writer holds

pub way_held : (old begun : EntityOut) (refs lats lons : List ℤ) (message : List ℕ) (texts : List (List ℕ)) (w : WaySpec) (tags : ℕ) → writer_length old ≡ 0 → begun_length begun ≤ 120 + 20 * tags → tags ≡ length w.tags → KeepsColumns old begun
    → refs ≡ w.refs → lats ≡ map (λ l. l.0) w.locations → lons ≡ map (λ l. l.1) w.locations → message ≡ way_message texts w
    → length (packed begun.keys) + length (packed begun.values) + length begun.info.items + length (packed (deltas refs)) + length (packed (deltas lats)) + length (packed (deltas lons)) + length (packed begun.roles) + length (packed (deltas begun.members)) + length (packed begun.kinds) + length message ≤ most_way_held w
way_held old begun refs lats lons message texts w tags e b t k fs ls os m =
    let la = values_short (λ l. l.0) w.locations in
    let lo = values_short (λ l. l.1) w.locations in
    rw (fs, ls, os, m) (omega (arith, none_own old begun e k, b, t, deltas_short w.refs, la, lo, way_room texts w))

pub relation_held : (old begun : EntityOut) (roles kinds message : List ℕ) (members : List ℤ) (texts : List (List ℕ)) (r : RelationSpec) (tags : ℕ) → writer_length old ≡ 0 → begun_length begun ≤ 120 + 20 * tags → tags ≡ length r.tags → KeepsColumns old begun
    → roles ≡ map (role_index texts) r.members → members ≡ map (λ m. m.id) r.members → kinds ≡ map (λ m. kind_number m.kind) r.members → message ≡ relation_message texts r
    → length (packed begun.keys) + length (packed begun.values) + length begun.info.items + length (packed (deltas begun.refs)) + length (packed (deltas begun.lats)) + length (packed (deltas begun.lons)) + length (packed roles) + length (packed (deltas members)) + length (packed kinds) + length message ≤ most_relation_held r
relation_held old begun roles kinds message members texts r tags e b t k rs ms ks m =
    let ids = values_short (λ m. m.id) r.members in
    rw (rs, ms, ks, m) (omega (arith, none_own old begun e k, b, t, numbers_short (role_index texts) r.members, ids, kinds_short r.members, relation_room texts r))

-- ---- beside its texts

-- texts that are added take no more than they have
pub after_held : (texts used : List (List ℕ)) → sum_by text_held (texts_after texts used) ≤ sum_by text_held texts + sum_by text_held used
after_held texts used = omega (arith, after_bytes texts used, length_after used texts, held_bytes (texts_after texts used), held_bytes texts, held_bytes used)

-- texts, columns and message of a way, and the field of the message, which takes 20 bytes more: two and a quarter of its weight
pub way_beside : (texts : List (List ℕ)) (w : WaySpec) → 4 * (sum_by text_held (way_texts w) + most_way_held w + (20 + length (way_message texts w))) ≤ 9 * way_weight w + 1216
way_beside texts w = let h = way_weighs w in omega (arith, way_room texts w, held_bytes (way_texts w), h.weight, h.few)

-- of a relation
pub relation_beside : (texts : List (List ℕ)) (r : RelationSpec) → 4 * (sum_by text_held (relation_texts r) + most_relation_held r + (20 + length (relation_message texts r))) ≤ 9 * relation_weight r + 1216
relation_beside texts r = let h = relation_weighs r in omega (arith, relation_room texts r, held_bytes (relation_texts r), h.weight, h.few)
