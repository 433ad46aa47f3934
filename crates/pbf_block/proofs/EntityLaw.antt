-- Written entities: an Info, ways and relations have no fault and are read as what they were written for.
use Rattle.std.proofs.Common.{pos, [], ◌≡◌, ℕ, ◌%◌, ◌^◌, ◌<◌, ◌≤◌, ◌==◌, Bool, true, false, not, ℤ, List, length, Option, Some, None, unwrap_or, refl, ap, ◌∙◌, arith, ◌∷◌, ◌++◌, map, sym, ap₂, subst, inl, inr, ◌&&◌, ◌||◌}
use Rattle.std.specs.List.{AllByRecursion, flat_map, zip}
use Rattle.std.specs.Option.{option_map, option_to_list, option_map_or}
use Rattle.std.proofs.lemmas.Int.{ints}
use Rattle.pbf_wire.specs.declared.fault.Reason.TheVariants.{StringIndex, MemberKind as WrongKind}
use Rattle.pbf_wire.specs.declared.fault.Fault.{Fault}
use Rattle.pbf_wire.specs.Faults.{below_fault, fields_in, leaf_faults, entered, embedded, nested_faults, in_last, missing, twice, column_count, index_faults}
use Rattle.pbf_wire.proofs.NoFaultLemmas.{leaf_quiet, SlotQuiet, column_quiet, fields_quiet, no_fault_within, counted_written, indexes_good, present_written, once_written, embedded_or_none, in_last_written, unless_all, unless_below, unless_few, column_passed, below_good}
use Rattle.std.proofs.lemmas.Bool.{lt-ltb}
use Rattle.pbf_wire.specs.Message.{Scalar, SlotFits, Slot, message, unless_empty, SlotIs, messages_at}
use Rattle.pbf_wire.specs.Signed.{is_within, low_i32, low_i64, sign_extended, unzigzag}
use Rattle.pbf_wire.proofs.SumLemmas.{within_true, signs_read, signs_fit, low_signs_read, sums_of_deltas, deltas_fit}
use Rattle.pbf_strings.specs.Texts.{text}
use Rattle.pbf_strings.specs.TableOut.{has_text, index_in, table_of}
use Rattle.pbf_strings.proofs.UsedTexts.{text_at_index, index_below}
use Rattle.osm_entity.specs.Entity.{MetaSpec, TagSpec, LocationSpec, WaySpec, way, MemberSpec, RelationSpec, relation}
use Rattle.osm_entity.specs.Ranges.{IsInt32, IsStored, IsUid, IfPresent, MetaFits, LocationFits, AreLocated, WayFits, EntityTyped, RelationFits}
use Rattle.osm_entity.specs.Sources.{named, paired_tags, member_kind, column_members}
use Rattle.pbf_dense.specs.WrittenDense.{bit_of}
use Rattle.pbf_dense.specs.declared.dense_info.TheConstants.{VERSION, TIMESTAMP, CHANGESET, UID, USER_SID, VISIBLE}
use Rattle.pbf_block.specs.declared.info.TheConstants.{INFO_KINDS}
use Rattle.pbf_block.specs.Info.{out_of_range, info_values, info_in}
use Rattle.pbf_block.specs.WrittenEntity.{info_slots, info_message, key_index, value_index, entity_slots, way_message, kind_number, role_index, relation_message}
use Rattle.osm_entity.proofs.RangeLemmas.{present}
use Rattle.pbf_wire.proofs.SlotLemmas.{IfSome}
use Rattle.pbf_header.proofs.OneNumber.{number_read, number_quiet}
use Rattle.std.proofs.lemmas.Bool.Decides.{nat_tests}
use Rattle.std.proofs.lemmas.List.{append-nil, length-map}
use Rattle.pbf_wire.specs.Occurrence.{Occurrence}
use Rattle.pbf_wire.specs.Columns.{column, joined}
use Rattle.pbf_wire.specs.Sums.{sums, deltas}
use Rattle.pbf_wire.proofs.MessageLemmas.{column_written, last_written, embedded_below}
use Rattle.osm_entity.specs.EntityTexts.{tag_texts, way_texts, relation_texts}
use Rattle.pbf_block.specs.declared.entity.TheConstants.{ID, KEYS, VALS, INFO}
use Rattle.pbf_block.specs.declared.way.TheConstants.{WAY_KINDS, REFS, WAY_LAT, WAY_LON}
use Rattle.pbf_block.specs.Entity.{values_in, tags_in, entity_structure, entity_values}
use Rattle.pbf_block.specs.PrimitiveBlock.{indexed}
use Rattle.pbf_block.specs.Scale.{number_or}
use Rattle.pbf_block.proofs.LengthLaw.{own_columns, way_short, relation_short}
use Rattle.pbf_wire.proofs.AllLemmas.{all_weaker, all_left, all_right, all_map}
use Rattle.pbf_dense.proofs.InfoLaw.{deltas_length, wide_good}
use Rattle.pbf_block.specs.Way.{way_in, are_located, way_structure, way_values}
use Rattle.osm_entity.specs.declared.member.MemberKind.{MemberKind}
use Rattle.osm_entity.specs.declared.member.MemberKind.TheVariants as kind
use Rattle.pbf_block.specs.declared.relation.TheConstants.{RELATION_KINDS, ROLES_SID, MEMIDS, TYPES}
use Rattle.pbf_block.specs.Relation.{relation_in, are_members, relation_structure, relation_values}

-- ---- texts and their indexes

abbrev pub IsAmong : List (List ℕ) → List ℕ → Type 0
IsAmong texts t = has_text texts t ≡ true

module _ (texts : List (List ℕ)) (few : length (table_of texts) ≤ 1048576) where
  pub low_index : (t : List ℕ) → IsAmong texts t → index_in texts t % 2 ^ 32 ≡ index_in texts t
  low_index t h = omega (arith, few, index_below texts t h)

  pub index_fits : (t : List ℕ) → IsAmong texts t → index_in texts t < 2 ^ 64
  index_fits t h = omega (arith, few, index_below texts t h)

  -- and names the text
  pub named_read : (t : List ℕ) → IsAmong texts t → named (table_of texts) (index_in texts t) ≡ t
  named_read t h =
      ap (λ i. text (table_of texts) i) (low_index t h) ∙ ap (λ (o : Option (List ℕ)). unwrap_or o []) (text_at_index texts t h)

-- ---- numbers

pub int32_fits : (z : ℤ) → IsInt32 z → sign_extended z < 2 ^ 64
int32_fits z h = signs_fit z (omega (arith, ints, h.0)) (omega (arith, ints, h.1))

int32_read : (z : ℤ) → IsInt32 z → low_i32 (sign_extended z) ≡ z
int32_read z h = low_signs_read z h.0 h.1

pub stored_fits : (z : ℤ) → IsStored z → sign_extended z < 2 ^ 64
stored_fits z h = signs_fit z (omega (arith, ints, h.above)) (omega (arith, ints, h.below))

pub stored_read : (z : ℤ) → IsStored z → low_i64 (sign_extended z) ≡ z
stored_read z h = signs_read z (omega (arith, ints, h.above)) (omega (arith, ints, h.below))

uid_fits : (z : ℤ) → IsUid z → sign_extended z < 2 ^ 64
uid_fits z h = signs_fit z (omega (arith, ints, h.above)) (omega (arith, ints, h.below))

uid_read : (z : ℤ) → IsUid z → low_i32 (sign_extended z) ≡ z
uid_read z h = low_signs_read z (omega (arith, ints, h.above)) (omega (arith, ints, h.below))

bit_small : (b : Bool) → bit_of b < 2 ^ 64
bit_small true = omega arith
bit_small false = omega arith

bit_read : (b : Bool) → not (bit_of b == 0) ≡ b
bit_read true = refl
bit_read false = refl

any : (b : Option Bool) → IfSome (λ b. Unit {0}) b
any None = tt
any (Some b) = tt

-- ---- one field

-- a value that may be absent is written as a number that fits, is read back, and has no fault
record IsField {X : Type 0} (k : ℕ) (write : X → ℕ) (read : ℕ → X) (judge : ℕ → ℕ → List Fault) (value : Option X) : Type 0 where
  fits : SlotFits (Scalar k (option_map write value))
  back : option_map read (option_map write value) ≡ value
  quiet : AllByRecursion (λ v. (place : ℕ) → judge place v ≡ []) (option_to_list (option_map write value))

module _ {X : Type 0} (k : ℕ) (positive : 0 < k) (small : k < 2 ^ 29) (write : X → ℕ) (read : ℕ → X) (judge : ℕ → ℕ → List Fault) (P : X → Type 0) where
  is_field : ((x : X) → P x → write x < 2 ^ 64) → ((x : X) → P x → read (write x) ≡ x) → ((x : X) → P x → (place : ℕ) → judge place (write x) ≡ []) → (value : Option X) → IfSome P value → IsField k write read judge value
  is_field fit back quiet None h = record { fits = tt; back = refl; quiet = tt }
  is_field fit back quiet (Some x) h = record { fits = (positive, small, fit x h); back = ap Some (back x h); quiet = (quiet x h, tt) }

abbrev unjudged : ℕ → ℕ → List Fault
unjudged place v = []

stored_quiet : (z : ℤ) → IsStored z → (place : ℕ) → out_of_range 62 low_i64 place (sign_extended z) ≡ []
stored_quiet z s place = let e : is_within (pos (2 ^ 62)) (low_i64 (sign_extended z)) ≡ true = ap (is_within (pos (2 ^ 62))) (stored_read z s) ∙ within_true (pos (2 ^ 62)) z s in rw e refl

uid_quiet : (z : ℤ) → IsUid z → (place : ℕ) → out_of_range 30 low_i32 place (sign_extended z) ≡ []
uid_quiet z s place = let e : is_within (pos (2 ^ 30)) (low_i32 (sign_extended z)) ≡ true = ap (is_within (pos (2 ^ 30))) (uid_read z s) ∙ within_true (pos (2 ^ 30)) z s in rw e refl

-- ---- the Info

-- the user is among the texts, and all numbers are in range
pub record MetaReady (texts : List (List ℕ)) (meta : MetaSpec) : Type 0 where
  pub version : IfPresent IsInt32 meta.version
  pub fits : MetaFits meta
  pub user : IfSome (IsAmong texts) meta.user
  pub few : length (table_of texts) ≤ 1048576

module _ (texts : List (List ℕ)) (meta : MetaSpec) (h : MetaReady texts meta) where
  abbrev table : List (List ℕ)
  table = table_of texts

  user_quiet : (t : List ℕ) → IsAmong texts t → (place : ℕ) → below_fault StringIndex (length table) (index_in texts t, place) ≡ []
  user_quiet t s place =
      let below : index_in texts t % 2 ^ 32 < length table = omega (arith, low_index texts h.few t s, index_below texts t s) in
      rw (lt-ltb (index_in texts t % 2 ^ 32) (length table) below) refl

  version : IsField VERSION sign_extended low_i32 unjudged meta.version
  version = is_field VERSION (omega arith) (omega arith) sign_extended low_i32 unjudged IsInt32 int32_fits int32_read (λ _ _ _. refl) meta.version (present IsInt32 meta.version h.version)

  timestamp : IsField TIMESTAMP sign_extended low_i64 (out_of_range 62 low_i64) meta.timestamp
  timestamp = is_field TIMESTAMP (omega arith) (omega arith) sign_extended low_i64 _ IsStored stored_fits stored_read stored_quiet meta.timestamp (present IsStored meta.timestamp h.fits.timestamp)

  changeset : IsField CHANGESET sign_extended low_i64 (out_of_range 62 low_i64) meta.changeset
  changeset = is_field CHANGESET (omega arith) (omega arith) sign_extended low_i64 _ IsStored stored_fits stored_read stored_quiet meta.changeset (present IsStored meta.changeset h.fits.changeset)

  uid : IsField UID sign_extended low_i32 (out_of_range 30 low_i32) meta.uid
  uid = is_field UID (omega arith) (omega arith) sign_extended low_i32 _ IsUid uid_fits uid_read uid_quiet meta.uid (present IsUid meta.uid h.fits.uid)

  user : IsField USER_SID (index_in texts) (named table) (λ place v. below_fault StringIndex (length table) (v, place)) meta.user
  user = is_field USER_SID (omega arith) (omega arith) (index_in texts) (named table) _ (IsAmong texts) (index_fits texts h.few) (named_read texts h.few) user_quiet meta.user h.user

  visible : IsField VISIBLE bit_of (λ n. not (n == 0)) unjudged meta.visible
  visible = is_field VISIBLE (omega arith) (omega arith) bit_of _ unjudged (λ b. Unit {0}) (λ b _. bit_small b) (λ b _. bit_read b) (λ _ _ _. refl) meta.visible (any meta.visible)

  info_fits : AllByRecursion SlotFits (info_slots texts meta)
  info_fits = (version.fits, (timestamp.fits, (changeset.fits, (uid.fits, (user.fits, (visible.fits, tt))))))

  module _ (at : ℕ) (room : length (info_message texts meta) < 2 ^ 64) where
    pub info_read : info_in table (fields_in at (info_message texts meta)) ≡ meta
    unfolding info_message
    info_read =
        let read = number_read at (info_slots texts meta) info_fits room in
        let versions = ap (option_map low_i32) (read VERSION _ refl) ∙ version.back in
        let timestamps = ap (option_map low_i64) (read TIMESTAMP _ refl) ∙ timestamp.back in
        let changesets = ap (option_map low_i64) (read CHANGESET _ refl) ∙ changeset.back in
        let uids = ap (option_map low_i32) (read UID _ refl) ∙ uid.back in
        let users = ap (option_map (named table)) (read USER_SID _ refl) ∙ user.back in
        let visibles = ap (option_map (λ n. not (n == 0))) (read VISIBLE _ refl) ∙ visible.back in
        rw (versions, timestamps, changesets, uids, users, visibles) refl

    -- ---- it has no fault

    pub info_wire : (place : ℕ) → leaf_faults INFO_KINDS place at (info_message texts meta) ≡ []
    unfolding info_message
    info_wire place = leaf_quiet INFO_KINDS place at (info_slots texts meta) (refl, (refl, (refl, (refl, (refl, (refl, tt)))))) info_fits room

    pub info_quiet : (place : ℕ) → info_values (length table) place at (info_message texts meta) ≡ []
    unfolding info_message
    info_quiet place =
        let quiet = number_quiet at (info_slots texts meta) info_fits room in
        let timestamps = quiet TIMESTAMP _ refl (out_of_range 62 low_i64) timestamp.quiet in
        let changesets = quiet CHANGESET _ refl (out_of_range 62 low_i64) changeset.quiet in
        let uids = quiet UID _ refl (out_of_range 30 low_i32) uid.quiet in
        let users = quiet USER_SID _ refl (λ place v. below_fault StringIndex (length table) (v, place)) user.quiet in
        rw (timestamps, changesets, uids, users) refl

-- ---- texts and their indexes

abbrev pub AreAmong : List (List ℕ) → List (List ℕ) → Type 0
AreAmong texts used = AllByRecursion (IsAmong texts) used

-- an index that the table has a text for
abbrev pub IsNamed : List (List ℕ) → ℕ → Type 0
IsNamed texts i = i < length (table_of texts)

tags_named : (texts : List (List ℕ)) (tags : List TagSpec) → AreAmong texts (tag_texts tags) → AllByRecursion (IsNamed texts) (map (key_index texts) tags) × AllByRecursion (IsNamed texts) (map (value_index texts) tags)
tags_named texts [] h = (tt, tt)
tags_named texts (tag ∷ tags) h = let rest = tags_named texts tags h.1.1 in ((index_below texts tag.0 h.0, rest.0), (index_below texts tag.1 h.1.0, rest.1))

abbrev pub AreSmall : List ℕ → Type 0
AreSmall numbers = AllByRecursion (λ v. v < 2 ^ 64) numbers

module _ (texts : List (List ℕ)) (few : length (table_of texts) ≤ 1048576) where
  pub named_fit : (indexes : List ℕ) → AllByRecursion (IsNamed texts) indexes → AreSmall indexes
  named_fit indexes h = all_weaker (IsNamed texts) (λ v. v < 2 ^ 64) (λ i lt. omega (arith, few, lt)) indexes h

  pub named_good : (entries : List (ℕ × ℕ)) (indexes : List ℕ) → map (λ p. p.0) entries ≡ indexes → AllByRecursion (IsNamed texts) indexes → index_faults (length (table_of texts)) entries ≡ []
  named_good entries indexes e h =
      let low = all_weaker (IsNamed texts) (λ v. v % 2 ^ 32 < length (table_of texts)) (λ i lt. omega (arith, few, lt)) indexes h in
      indexes_good (length (table_of texts)) entries (subst (λ (ns : List ℕ). AllByRecursion (λ v. v % 2 ^ 32 < length (table_of texts)) ns) (sym e) low)

  tags_given : (tags : List TagSpec) → AreAmong texts (tag_texts tags) → paired_tags (table_of texts) (map (key_index texts) tags) (map (value_index texts) tags) ≡ tags
  tags_given [] h = refl
  tags_given (tag ∷ tags) h =
      ap₂ (λ (x : TagSpec) (xs : List TagSpec). x ∷ xs) (ap₂ (λ (k v : List ℕ). (k, v)) (named_read texts few tag.0 h.0) (named_read texts few tag.1 h.1.0)) (tags_given tags h.1.1)

pub user_among : (texts : List (List ℕ)) (user : Option (List ℕ)) → AreAmong texts (option_to_list user) → IfSome (IsAmong texts) user
user_among texts None h = tt
user_among texts (Some text) h = h.0

-- ---- columns of differences

pub values_read : (k : ℕ) (os : List Occurrence) (values : List ℤ) → column k os ≡ deltas values → values_in indexed k os ≡ values
values_read k os values e = ap (λ (ns : List ℕ). sums (map unzigzag ns)) e ∙ sums_of_deltas values

-- ---- an entity

-- the parts of an entity that can be written with these texts
pub record IsReady (texts : List (List ℕ)) (id : ℤ) (meta : MetaSpec) (tags : List TagSpec) : Type 0 where
  pub stored : IsStored id
  pub good : MetaReady texts meta
  pub named : AreAmong texts (tag_texts tags)

-- a message without a fault in what all entities have, which says these, and has these columns. Ways and relations have the same
-- kinds of fields
pub record IsWritten (texts : List (List ℕ)) (id : ℤ) (meta : MetaSpec) (tags : List TagSpec) (a b c : List ℕ) (at : ℕ) (m : List ℕ) : Type 0 where
  pub id_read : number_or (pos 0) low_i64 ID (fields_in at m) ≡ id
  pub meta_read : info_in (table_of texts) (embedded INFO (fields_in at m)) ≡ meta
  pub tags_read : tags_in (table_of texts) (fields_in at m) ≡ tags
  pub first : column 8 (fields_in at m) ≡ a
  pub second : column 9 (fields_in at m) ≡ b
  pub third : column 10 (fields_in at m) ≡ c
  pub firsts : column_count 8 (fields_in at m) ≡ length a
  pub seconds : column_count 9 (fields_in at m) ≡ length b
  pub thirds : column_count 10 (fields_in at m) ≡ length c
  pub wire : (place : ℕ) → nested_faults WAY_KINDS INFO INFO_KINDS place at m ≡ []
  pub structure : (place : ℕ) → entity_structure place (fields_in at m) ≡ []
  pub id_value : in_last ID (out_of_range 62 low_i64) (fields_in at m) ≡ []
  pub values : entity_values (length (table_of texts)) (fields_in at m) ≡ []

abbrev Judge : Type 0
Judge = ℕ → ℕ → List ℕ → List Fault

module _ (texts : List (List ℕ)) (id : ℤ) (meta : MetaSpec) (tags : List TagSpec) (a b c : List ℕ) (ready : IsReady texts id meta tags) (small : AreSmall a × AreSmall b × AreSmall c) (at : ℕ)
    (room : length (message (entity_slots texts id meta tags (own_columns a b c))) < 2 ^ 64) where
  abbrev slots : List Slot
  slots = entity_slots texts id meta tags (own_columns a b c)

  abbrev os : List Occurrence
  os = fields_in at (message slots)

  abbrev limit : ℕ
  limit = length (table_of texts)

  fits : AllByRecursion SlotFits slots
  fits =
      let named = tags_named texts tags ready.named in
      let keys = named_fit texts ready.good.few (map (key_index texts) tags) named.0 in
      let values = named_fit texts ready.good.few (map (value_index texts) tags) named.1 in
      let own : AllByRecursion SlotFits (own_columns a b c) = ((omega arith, omega arith, small.0), ((omega arith, omega arith, small.1), ((omega arith, omega arith, small.2), tt))) in
      ((omega arith, omega arith, stored_fits id ready.stored), ((omega arith, omega arith, keys), ((omega arith, omega arith, values), ((omega arith, omega arith), own))))

  known : AllByRecursion (SlotIs WAY_KINDS) slots
  known = (refl, (refl, (refl, (refl, (refl, (refl, (refl, tt)))))))

  info_short : length (info_message texts meta) < 2 ^ 64
  info_short = unless_below (2 ^ 64) (info_message texts meta) (omega arith) (embedded_below (2 ^ 64) slots room).1.1.1.0

  keys_column : column KEYS os ≡ map (key_index texts) tags
  keys_column = column_written KEYS at slots fits room ∙ append-nil _

  values_column : column VALS os ≡ map (value_index texts) tags
  values_column = column_written VALS at slots fits room ∙ append-nil _

  info_messages : flat_map (messages_at INFO) slots ≡ unless_empty (info_message texts meta)
  info_messages =
      column_passed INFO KEYS (map (key_index texts) tags) _ refl ∙ column_passed INFO VALS (map (value_index texts) tags) _ refl
      ∙ ap (λ (ms : List (List ℕ)). unless_empty (info_message texts meta) ++ ms) (column_passed INFO 8 a _ refl ∙ column_passed INFO 9 b _ refl ∙ column_passed INFO 10 c [] refl) ∙ append-nil _

  meta_is : info_in (table_of texts) (embedded INFO os) ≡ meta
  meta_is =
      let held = embedded_or_none INFO at slots (info_message texts meta) fits room info_messages refl in
      ap (λ (os : List Occurrence). info_in (table_of texts) os) held.1 ∙ info_read texts meta ready.good held.0 info_short

  -- ---- no fault

  -- what finds nothing in the Info finds nothing in the entity's Infos
  quiet : (f : Judge) → ((place begin : ℕ) → f place begin (info_message texts meta) ≡ []) → AllByRecursion (SlotQuiet (entered INFO f)) slots
  quiet f none =
      let g = entered INFO f in
      let infos = unless_all (λ m. (place begin : ℕ) → f place begin m ≡ []) (info_message texts meta) none in
      let own : AllByRecursion (SlotQuiet g) (own_columns a b c) = (column_quiet g 8 a (λ _ _ _. refl), (column_quiet g 9 b (λ _ _ _. refl), (column_quiet g 10 c (λ _ _ _. refl), tt))) in
      ((λ place. refl), (column_quiet g KEYS _ (λ _ _ _. refl), (column_quiet g VALS _ (λ _ _ _. refl), (infos, own))))

  no_structure : (place : ℕ) → entity_structure place os ≡ []
  no_structure place =
      let there : missing ID place os ≡ [] = present_written ID place at slots fits room (omega arith) in
      let once : twice INFO os ≡ [] = once_written INFO at slots fits room (omega (arith, unless_few (info_message texts meta), ap (λ (ms : List (List ℕ)). length ms) info_messages)) in
      let keys = counted_written WAY_KINDS KEYS at slots refl known fits room ∙ ap (λ (ns : List ℕ). length ns) (append-nil _) ∙ length-map tags (key_index texts) in
      let values = counted_written WAY_KINDS VALS at slots refl known fits room ∙ ap (λ (ns : List ℕ). length ns) (append-nil _) ∙ length-map tags (value_index texts) in
      let same : (column_count KEYS os == column_count VALS os) ≡ true = grind (arith, nat_tests, keys, values) in
      rw (there, once, same) refl

  no_id_value : in_last ID (out_of_range 62 low_i64) os ≡ []
  no_id_value =
      let good : is_within (pos (2 ^ 62)) (low_i64 (sign_extended id)) ≡ true = ap (is_within (pos (2 ^ 62))) (stored_read id ready.stored) ∙ within_true (pos (2 ^ 62)) id ready.stored in
      in_last_written ID (out_of_range 62 low_i64) at slots fits room ((λ place. rw good refl), tt)

  no_value : entity_values limit os ≡ []
  no_value =
      let named = tags_named texts tags ready.named in
      let keys = named_good texts ready.good.few (joined KEYS os) (map (key_index texts) tags) keys_column named.0 in
      let values = named_good texts ready.good.few (joined VALS os) (map (value_index texts) tags) values_column named.1 in
      let infos = fields_quiet (entered INFO (info_values limit)) at slots (quiet (info_values limit) (λ place begin. info_quiet texts meta ready.good begin info_short place)) fits room in
      rw (keys, values, infos) refl

  pub entity_written : IsWritten texts id meta tags a b c at (message slots)
  entity_written = record {
    id_read = ap (λ (v : Option ℕ). option_map_or low_i64 v (pos 0)) (last_written ID at slots fits room) ∙ stored_read id ready.stored;
    meta_read = meta_is;
    tags_read = ap₂ (λ (ks vs : List ℕ). paired_tags (table_of texts) ks vs) keys_column values_column ∙ tags_given texts ready.good.few tags ready.named;
    first = column_written 8 at slots fits room ∙ append-nil a;
    second = column_written 9 at slots fits room ∙ append-nil b;
    third = column_written 10 at slots fits room ∙ append-nil c;
    firsts = counted_written WAY_KINDS 8 at slots refl known fits room ∙ ap (λ (ns : List ℕ). length ns) (append-nil a);
    seconds = counted_written WAY_KINDS 9 at slots refl known fits room ∙ ap (λ (ns : List ℕ). length ns) (append-nil b);
    thirds = counted_written WAY_KINDS 10 at slots refl known fits room ∙ ap (λ (ns : List ℕ). length ns) (append-nil c);
    wire = λ place. no_fault_within WAY_KINDS (entered INFO (leaf_faults INFO_KINDS)) at slots known (quiet (leaf_faults INFO_KINDS) (λ place begin. info_wire texts meta ready.good begin info_short place)) fits room;
    structure = no_structure;
    id_value = no_id_value;
    values = no_value;
  }

-- ---- locations

locations_stored : (locations : List LocationSpec) → AllByRecursion LocationFits locations → AllByRecursion IsStored (map (λ l. l.0) locations) × AllByRecursion IsStored (map (λ l. l.1) locations)
locations_stored [] h = (tt, tt)
locations_stored (l ∷ ls) h = let rest = locations_stored ls h.1 in ((h.0.0, rest.0), (h.0.1, rest.1))

zipped : (locations : List LocationSpec) → zip (map (λ l. l.0) locations) (map (λ l. l.1) locations) ≡ locations
zipped [] = refl
zipped (l ∷ ls) = ap (λ (ls : List LocationSpec). l ∷ ls) (zipped ls)

located : (refs : List ℤ) (locations : List LocationSpec) → AreLocated refs locations → (length locations == length locations && (length locations == 0 || length locations == length refs)) ≡ true
located refs locations (inl none) = rw none refl
located refs locations (inr all) = grind (arith, nat_tests)

-- ---- the way

module _ (texts : List (List ℕ)) (w : WaySpec) (h : WayFits w) (typed : EntityTyped (way w)) (among : AllByRecursion (λ text. has_text texts text ≡ true) (way_texts w)) (few : length (table_of texts) ≤ 1048576) where
  abbrev lats : List ℤ
  lats = map (λ l. l.0) w.locations

  abbrev lons : List ℤ
  lons = map (λ l. l.1) w.locations

  way_ready : IsReady texts w.id w.meta w.tags
  way_ready = record {
    stored = h.id;
    good = record { version = typed.version; fits = h.meta; user = user_among texts w.meta.user (all_right _ (tag_texts w.tags) (option_to_list w.meta.user) among); few = few };
    named = all_left _ (tag_texts w.tags) (option_to_list w.meta.user) among;
  }

  way_written : (at : ℕ) → IsWritten texts w.id w.meta w.tags (deltas w.refs) (deltas lats) (deltas lons) at (way_message texts w)
  unfolding way_message
  way_written at =
      let stored = locations_stored w.locations h.locations in
      entity_written texts w.id w.meta w.tags (deltas w.refs) (deltas lats) (deltas lons) way_ready (deltas_fit w.refs h.refs, deltas_fit lats stored.0, deltas_fit lons stored.1) at (way_short texts w h)

  pub way_read : (at : ℕ) → way_in indexed (table_of texts) w.scale (fields_in at (way_message texts w)) ≡ w
  unfolding way_in
  way_read at =
      let e = way_written at in
      let os = fields_in at (way_message texts w) in
      rw (e.id_read, e.meta_read, e.tags_read, values_read REFS os w.refs e.first, values_read WAY_LAT os lats e.second, values_read WAY_LON os lons e.third, zipped w.locations) refl

  pub way_no_wire : (place at : ℕ) → nested_faults WAY_KINDS INFO INFO_KINDS place at (way_message texts w) ≡ []
  way_no_wire place at = (way_written at).wire place

  pub way_no_structure : (place at : ℕ) → way_structure place at (way_message texts w) ≡ []
  way_no_structure place at =
      let e = way_written at in
      let refs = e.firsts ∙ deltas_length w.refs in
      let lats_long = e.seconds ∙ deltas_length lats ∙ length-map w.locations (λ l. l.0) in
      let lons_long = e.thirds ∙ deltas_length lons ∙ length-map w.locations (λ l. l.1) in
      let good : are_located (fields_in at (way_message texts w)) ≡ true = rw (lats_long, lons_long, refs) (located w.refs w.locations h.located) in
      rw (e.structure place, good) refl

  pub way_no_value : (place at : ℕ) → way_values (length (table_of texts)) place at (way_message texts w) ≡ []
  way_no_value place at =
      let e = way_written at in
      let os = fields_in at (way_message texts w) in
      let stored = locations_stored w.locations h.locations in
      let good = wide_good (pos (2 ^ 62)) in
      rw (e.id_value, e.values, good (joined REFS os) w.refs e.first h.refs, good (joined WAY_LAT os) lats e.second stored.0, good (joined WAY_LON os) lons e.third stored.1) refl

-- ---- members

roles_named : (texts : List (List ℕ)) (members : List MemberSpec) → AreAmong texts (map (λ m. m.role) members) → AllByRecursion (IsNamed texts) (map (role_index texts) members)
roles_named texts [] h = tt
roles_named texts (m ∷ ms) h = (index_below texts m.role h.0, roles_named texts ms h.1)

kind_small : (k : MemberKind) → kind_number k < 3
kind_small kind.Node = omega arith
kind_small kind.Way = omega arith
kind_small kind.Relation = omega arith

kinds_small : (members : List MemberSpec) → AllByRecursion (λ v. v < 3) (map (λ m. kind_number m.kind) members)
kinds_small [] = tt
kinds_small (m ∷ ms) = (kind_small m.kind, kinds_small ms)

kind_back : (k : MemberKind) → member_kind (kind_number k) ≡ k
kind_back kind.Node = refl
kind_back kind.Way = refl
kind_back kind.Relation = refl

abbrev member_with : MemberKind → ℤ → List ℕ → MemberSpec
member_with kind id role = record { kind = kind; id = id; role = role }

members_given : (texts : List (List ℕ)) (members : List MemberSpec) → length (table_of texts) ≤ 1048576 → AreAmong texts (map (λ m. m.role) members)
    → column_members (table_of texts) (map (λ m. kind_number m.kind) members) (map (λ m. m.id) members) (map (role_index texts) members) ≡ members
members_given texts [] few h = refl
members_given texts (m ∷ ms) few h =
    ap₂ (λ (x : MemberSpec) (xs : List MemberSpec). x ∷ xs)
    (ap₂ (λ (k : MemberKind) (role : List ℕ). member_with k m.id role) (kind_back m.kind) (named_read texts few m.role h.0)) (members_given texts ms few h.1)

-- ---- the relation

module _ (texts : List (List ℕ)) (r : RelationSpec) (h : RelationFits r) (typed : EntityTyped (relation r)) (among : AllByRecursion (λ text. has_text texts text ≡ true) (relation_texts r)) (few : length (table_of texts) ≤ 1048576) where
  abbrev roles : List ℕ
  roles = map (role_index texts) r.members

  abbrev ids : List ℤ
  ids = map (λ m. m.id) r.members

  abbrev kinds : List ℕ
  kinds = map (λ m. kind_number m.kind) r.members

  behind : AreAmong texts (option_to_list r.meta.user ++ map (λ m. m.role) r.members)
  behind = all_right _ (tag_texts r.tags) _ among

  roles_among : AreAmong texts (map (λ m. m.role) r.members)
  roles_among = all_right _ (option_to_list r.meta.user) _ behind

  relation_ready : IsReady texts r.id r.meta r.tags
  relation_ready = record {
    stored = h.id;
    good = record { version = typed.version; fits = h.meta; user = user_among texts r.meta.user (all_left _ (option_to_list r.meta.user) (map (λ m. m.role) r.members) behind); few = few };
    named = all_left _ (tag_texts r.tags) (option_to_list r.meta.user ++ map (λ m. m.role) r.members) among;
  }

  ids_stored : AllByRecursion IsStored ids
  ids_stored = all_map IsStored (λ m. m.id) r.members h.members

  relation_written : (at : ℕ) → IsWritten texts r.id r.meta r.tags roles (deltas ids) kinds at (relation_message texts r)
  unfolding relation_message
  relation_written at =
      let sids = named_fit texts few roles (roles_named texts r.members roles_among) in
      let small = all_weaker (λ v. v < 3) (λ v. v < 2 ^ 64) (λ v lt. omega (arith, lt)) kinds (kinds_small r.members) in
      entity_written texts r.id r.meta r.tags roles (deltas ids) kinds relation_ready (sids, deltas_fit ids ids_stored, small) at (relation_short texts r h)

  pub relation_read : (at : ℕ) → relation_in indexed (table_of texts) r.scale (fields_in at (relation_message texts r)) ≡ r
  unfolding relation_in
  relation_read at =
      let e = relation_written at in
      rw (e.id_read, e.meta_read, e.tags_read, e.third, values_read MEMIDS (fields_in at (relation_message texts r)) ids e.second, e.first, members_given texts r.members few roles_among) refl

  pub relation_no_wire : (place at : ℕ) → nested_faults RELATION_KINDS INFO INFO_KINDS place at (relation_message texts r) ≡ []
  relation_no_wire place at = (relation_written at).wire place

  pub relation_no_structure : (place at : ℕ) → relation_structure place at (relation_message texts r) ≡ []
  relation_no_structure place at =
      let e = relation_written at in
      let sids = e.firsts ∙ length-map r.members (role_index texts) in
      let memids = e.seconds ∙ deltas_length ids ∙ length-map r.members (λ m. m.id) in
      let types = e.thirds ∙ length-map r.members (λ m. kind_number m.kind) in
      let good : are_members (fields_in at (relation_message texts r)) ≡ true = grind (arith, nat_tests, sids, memids, types) in
      rw (e.structure place, good) refl

  pub relation_no_value : (place at : ℕ) → relation_values (length (table_of texts)) place at (relation_message texts r) ≡ []
  relation_no_value place at =
      let e = relation_written at in
      let os = fields_in at (relation_message texts r) in
      let sids = named_good texts few (joined ROLES_SID os) roles e.first (roles_named texts r.members roles_among) in
      let memids = wide_good (pos (2 ^ 62)) (joined MEMIDS os) ids e.second ids_stored in
      let low = all_weaker (λ v. v < 3) (λ v. v % 2 ^ 32 < 3) (λ v lt. omega (arith, lt)) kinds (kinds_small r.members) in
      let types : flat_map (below_fault WrongKind 3) (joined TYPES os) ≡ [] = below_good WrongKind 3 (joined TYPES os) (subst (λ (ns : List ℕ). AllByRecursion (λ v. v % 2 ^ 32 < 3) ns) (sym e.third) low) in
      rw (e.id_value, e.values, sids, memids, types) refl
