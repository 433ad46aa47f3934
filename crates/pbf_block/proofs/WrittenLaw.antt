-- A written block has no fault and holds its entities: if its group does, and for entities that may share one block.
use Rattle.std.proofs.Common.{◌≡◌, ℕ, ◌^◌, ◌<◌, ◌≤◌, ◌==◌, ℤ, pos, Bool, true, false, List, [], ◌∷◌, ◌++◌, length, map, drop, Option, Some, None, refl, sym, ap, ap₂, ◌∙◌, arith}
use Rattle.std.specs.Prelude.{◌≤ℤ◌, int_lt, nat_lt, if◌then◌else◌}
use Rattle.std.specs.List.{flat_map, AllByRecursion, list_all}
use Rattle.std.specs.Option.{option_map_or, option_to_list, is_some}
use Rattle.std.specs.Ordering.{int_eq}
use Rattle.std.proofs.lemmas.Int.{ints}
use Rattle.std.proofs.lemmas.Bool.{le-ltb, and_parts}
use Rattle.std.proofs.lemmas.Bool.Decides.{Decides-int_eq}
use Rattle.std.proofs.lemmas.List.{append-nil}
use Rattle.pbf_wire.specs.declared.fault.Fault.{Fault}
use Rattle.pbf_wire.specs.declared.fault.Reason.{Reason}
use Rattle.pbf_wire.specs.declared.fault.Reason.TheVariants.{Granularity, DateGranularity}
use Rattle.pbf_wire.specs.Occurrence.{Occurrence, Number}
use Rattle.pbf_wire.specs.Reading.{occurrence_text}
use Rattle.pbf_wire.specs.Signed.{low_i32, low_i64, sign_extended}
use Rattle.pbf_wire.specs.Faults.{fault_where, fields_in, leaf_faults, missing, twice, entered, inside}
use Rattle.pbf_wire.specs.Message.{Slot, Scalar, Each, message, SlotFits, SlotIs}
use Rattle.pbf_wire.proofs.MessageLemmas.{embedded_below}
use Rattle.pbf_wire.proofs.SumLemmas.{signs_fit, signs_read, low_signs_read}
use Rattle.pbf_wire.proofs.NoFaultLemmas.{field_at, SlotQuiet, SlotGives, scalar_quiet, quiet_gives, fields_quiet, fields_give, no_fault_within, leaf_quiet, present_written, once_written, last_held}
use Rattle.pbf_strings.specs.Texts.{texts, table_kinds}
use Rattle.pbf_strings.specs.TableOut.{table_message, table_of as written_table, has_text, table_of}
use Rattle.pbf_strings.proofs.WrittenTable.{written_texts}
use Rattle.osm_entity.specs.declared.scale.Scale.{Scale}
use Rattle.osm_entity.specs.Scale.{ScaleFits}
use Rattle.osm_entity.specs.Ranges.{IsInt32, ScaleTyped, IfPresent, EntityFits, EntityTyped}
use Rattle.osm_entity.specs.Entity.{EntitySpec, MetaSpec, NodeSpec, node, way, relation, entity_meta, entity_scale}
use Rattle.pbf_block.specs.Group.{in_group, group_wire, group_structure, member_values, member_weights, member_entities}
use Rattle.pbf_block.specs.declared.primitive_block.TheConstants.{STRINGTABLE, PRIMITIVEGROUP, BLOCK_KINDS, GRANULARITY, DATE_GRANULARITY, LAT_OFFSET, LON_OFFSET}
use Rattle.pbf_block.specs.Scale.{number_or, scale_of, stored_texts}
use Rattle.pbf_block.specs.PrimitiveBlock.{part_wire, wire_faults, table_structure, part_structure, structure_faults, value_faults, payload_weights, block_fault, positive, indexed, entities}
use Rattle.pbf_block.specs.WrittenBlock.{unless_default, block_slots, same_scale, iff, same_fields, are_alike, all_alike, is_block, scale_among, texts_of_all, nodes_among, group_message, block_message}
use Rattle.pbf_block.specs.declared.scale.TheConstants.{DEFAULT_SCALE}
use Rattle.pbf_wire.proofs.AllLemmas.{all_map, all_weaker}
use Rattle.pbf_header.proofs.OneNumber.{numbers_for, all_given, number_read, number_quiet}
use Rattle.pbf_block.proofs.EntityLaw.{int32_fits}
use Rattle.pbf_block.proofs.GroupLaw.{GroupGood, nodes_all, nodes_named, dense_short, nodes_good, number_of, IsLike, others_good}
use Rattle.std.proofs.lemmas.List.Elements.{recursion_from_All}
use Rattle.std.proofs.lemmas.List.Sums.{AllPass-from_list_all}
use Rattle.pbf_strings.proofs.UsedTexts.{has_used}
use Rattle.osm_entity.specs.EntityTexts.{entity_texts}
use Rattle.pbf_dense.specs.WrittenDense.{HaveSameFields}
use Rattle.pbf_block.specs.declared.group.TheConstants.{DENSE}
use Rattle.pbf_block.proofs.LengthLaw.{once_few, parts_are, block_parts, block_fits}

-- ---- a number that is left out if it is the default

default_fits : (number : ℕ) (default z : ℤ) → 0 < number → number < 2 ^ 29 → sign_extended z < 2 ^ 64 → SlotFits (Scalar number (unless_default default z))
default_fits number default z positive small fits = elim (int_eq z default) as (λ b. SlotFits (Scalar number (if b then None else Some (sign_extended z)))) [ true ↦ tt | false ↦ (positive, small, fits) ]

default_read : (read : ℕ → ℤ) (default z : ℤ) → read (sign_extended z) ≡ z → option_map_or read (unless_default default z) default ≡ z
default_read read default z back =
    elim (int_eq z default) as (λ b. int_eq z default ≡ b → option_map_or read (if b then None else Some (sign_extended z)) default ≡ z) [ true ↦ λ e. sym ((Decides-int_eq z default).0 e) | false ↦ λ _. back ] refl

default_all : (P : ℕ → Type 0) (default z : ℤ) → P (sign_extended z) → AllByRecursion P (option_to_list (unless_default default z))
default_all P default z p = elim (int_eq z default) as (λ b. AllByRecursion P (option_to_list (if b then None else Some (sign_extended z)))) [ true ↦ tt | false ↦ (p, tt) ]

positive_quiet : (reason : Reason) (z : ℤ) → IsInt32 z → pos 1 ≤ℤ z → (place : ℕ) → positive reason place (sign_extended z) ≡ []
positive_quiet reason z h le place =
    ap (λ z. fault_where (int_lt z (pos 1)) place reason) (low_signs_read z h.0 h.1) ∙ ap (λ b. fault_where b place reason) (not_below z le)
  where
    not_below : (z : ℤ) → pos 1 ≤ℤ z → int_lt z (pos 1) ≡ false
    not_below z le = grind (arith, ints)

-- a number is no message
no_message : {X : Type 0} (k number place value : ℕ) (f : ℕ → ℕ → List ℕ → List X) → entered k f (field_at place number (Number value)) ≡ []
no_message {X = X} k number place value f = elim (number == k) as (λ b. (if b then inside (f place) (Number value) else []) ≡ []) [ true ↦ refl | false ↦ refl ]

no_group : {X : Type 0} (f : Occurrence → List X) (number place value : ℕ) → in_group f (field_at place number (Number value)) ≡ []
no_group f number place value = no_message PRIMITIVEGROUP number place value (λ place at m. flat_map f (fields_in at m))

-- ---- the block

module _ (scale : Scale) (used : List (List ℕ)) (group : List ℕ) (es : List EntitySpec) (good : GroupGood (written_table used) scale group es) (typed : ScaleTyped scale) (fit : ScaleFits scale) (few : length used ≤ 1048575)
    (short : length (message (block_slots scale used group)) < 2 ^ 64) where
  abbrev slots : List Slot
  slots = block_slots scale used group

  abbrev numbers : List Slot
  numbers = drop 2 slots

  abbrev table : List (List ℕ)
  table = written_table used

  fits : AllByRecursion SlotFits slots
  fits =
      let places = default_fits GRANULARITY DEFAULT_SCALE.granularity scale.granularity (omega arith) (omega arith) (int32_fits scale.granularity typed.granularity) in
      let dates = default_fits DATE_GRANULARITY DEFAULT_SCALE.date_granularity scale.date_granularity (omega arith) (omega arith) (int32_fits scale.date_granularity typed.date_granularity) in
      let lats = default_fits LAT_OFFSET DEFAULT_SCALE.lat_offset scale.lat_offset (omega arith) (omega arith) (signs_fit scale.lat_offset typed.lat_offset.0 typed.lat_offset.1) in
      let lons = default_fits LON_OFFSET DEFAULT_SCALE.lon_offset scale.lon_offset (omega arith) (omega arith) (signs_fit scale.lon_offset typed.lon_offset.0 typed.lon_offset.1) in
      ((omega arith, omega arith), ((omega arith, omega arith), (places, (dates, (lats, (lons, tt))))))

  known : AllByRecursion (SlotIs BLOCK_KINDS) slots
  known = (refl, (refl, (refl, (refl, (refl, (refl, tt))))))

  table_short : length (table_message used) < 2 ^ 64
  table_short = (embedded_below (2 ^ 64) slots short).0.0

  -- what gives nothing at the numbers
  numbers_quiet : {X : Type 0} (f : Occurrence → List X) → ((number place value : ℕ) → f (field_at place number (Number value)) ≡ []) → AllByRecursion (SlotQuiet f) numbers
  numbers_quiet f none = (scalar_quiet f GRANULARITY _ (none GRANULARITY), (scalar_quiet f DATE_GRANULARITY _ (none DATE_GRANULARITY), (scalar_quiet f LAT_OFFSET _ (none LAT_OFFSET), (scalar_quiet f LON_OFFSET _ (none LON_OFFSET), tt))))

  -- and at what is in the table and in the group gives nothing at all
  parts_quiet : (g h : ℕ → ℕ → List ℕ → List Fault) → ((place begin : ℕ) → g place begin (table_message used) ≡ []) → ((place begin : ℕ) → h place begin group ≡ []) → AllByRecursion (SlotQuiet (λ o. entered STRINGTABLE g o ++ entered PRIMITIVEGROUP h o)) slots
  parts_quiet g h tables groups =
      let f = λ (o : Occurrence). entered STRINGTABLE g o ++ entered PRIMITIVEGROUP h o in
      let both = λ (number place value : ℕ). ap₂ (λ (xs ys : List Fault). xs ++ ys) (no_message STRINGTABLE number place value g) (no_message PRIMITIVEGROUP number place value h) in
      (((λ place begin. ap (λ (fs : List Fault). fs ++ []) (tables place begin)), tt), ((groups, tt), numbers_quiet f both))

  -- what gives nothing in the group gives nothing in the groups
  groups_quiet : (f : Occurrence → List Fault) (at : ℕ) → ((at : ℕ) → flat_map f (fields_in at group) ≡ []) → flat_map (in_group f) (fields_in at (message slots)) ≡ []
  groups_quiet f at none = fields_quiet (in_group f) at slots (((λ place begin. refl), tt), (((λ place begin. none begin), tt), numbers_quiet (in_group f) (no_group f))) fits short

  table_leaf : (place at : ℕ) → leaf_faults table_kinds place at (table_message used) ≡ []
  table_leaf place at = leaf_quiet table_kinds place at (Each 1 table ∷ []) (refl, tt) ((omega arith, omega arith), tt) table_short

  wire_sound : (at : ℕ) → wire_faults at (message slots) ≡ []
  unfolding wire_faults
  wire_sound at = no_fault_within BLOCK_KINDS part_wire at slots known (parts_quiet (leaf_faults table_kinds) group_wire table_leaf good.wire) fits short

  -- ---- structure

  table_read : texts (table_message used) ≡ table
  table_read = written_texts used table_short

  counted : (place begin : ℕ) → table_structure place begin (table_message used) ≡ []
  counted place begin =
      let e : nat_lt 1048576 (length (texts (table_message used))) ≡ false = le-ltb _ _ (omega (arith, ap (λ (ts : List (List ℕ)). length ts) table_read, few)) in
      rw e refl

  structure_sound : (at : ℕ) → structure_faults at (message slots) ≡ []
  unfolding structure_faults
  structure_sound at =
      let there : missing STRINGTABLE at (fields_in at (message slots)) ≡ [] = present_written STRINGTABLE at at slots fits short (omega arith) in
      let once : twice STRINGTABLE (fields_in at (message slots)) ≡ [] = once_written STRINGTABLE at slots fits short (omega (arith, ap (λ (ns : List ℕ). length ns) (all_given STRINGTABLE slots))) in
      let parts = fields_quiet part_structure at slots (parts_quiet table_structure group_structure counted good.structure) fits short in
      rw (there, once, parts) refl

  -- ---- the table and the scale

  table_is : (at : ℕ) → stored_texts (fields_in at (message slots)) ≡ table
  table_is at =
      let held = last_held STRINGTABLE at slots (table_message used) fits short refl (all_given STRINGTABLE slots) in
      ap (λ (o : Option Occurrence). texts (occurrence_text o)) held.2 ∙ table_read

  number_is : (at k : ℕ) (read : ℕ → ℤ) (default z : ℤ) → numbers_for k slots ≡ unless_default default z ∷ [] → read (sign_extended z) ≡ z → number_or default read k (fields_in at (message slots)) ≡ z
  number_is at k read default z one back = ap (λ (o : Option ℕ). option_map_or read o default) (number_read at slots fits short k (unless_default default z) one) ∙ default_read read default z back

  scale_is : (at : ℕ) → scale_of (fields_in at (message slots)) ≡ scale
  scale_is at =
      let places = number_is at GRANULARITY low_i32 DEFAULT_SCALE.granularity scale.granularity refl (low_signs_read scale.granularity typed.granularity.0 typed.granularity.1) in
      let dates = number_is at DATE_GRANULARITY low_i32 DEFAULT_SCALE.date_granularity scale.date_granularity refl (low_signs_read scale.date_granularity typed.date_granularity.0 typed.date_granularity.1) in
      let lats = number_is at LAT_OFFSET low_i64 DEFAULT_SCALE.lat_offset scale.lat_offset refl (signs_read scale.lat_offset typed.lat_offset.0 typed.lat_offset.1) in
      let lons = number_is at LON_OFFSET low_i64 DEFAULT_SCALE.lon_offset scale.lon_offset refl (signs_read scale.lon_offset typed.lon_offset.0 typed.lon_offset.1) in
      rw (places, dates, lats, lons) refl

  -- ---- values

  values_good : (at : ℕ) → value_faults (length table) at (message slots) ≡ []
  unfolding value_faults
  values_good at =
      let quiet = number_quiet at slots fits short in
      let none = λ (reason : Reason) (default z : ℤ) (typed : IsInt32 z) (le : pos 1 ≤ℤ z). default_all (λ v. (place : ℕ) → positive reason place v ≡ []) default z (positive_quiet reason z typed le) in
      let places = quiet GRANULARITY _ refl (positive Granularity) (none Granularity DEFAULT_SCALE.granularity scale.granularity typed.granularity fit.places) in
      let dates = quiet DATE_GRANULARITY _ refl (positive DateGranularity) (none DateGranularity DEFAULT_SCALE.date_granularity scale.date_granularity typed.date_granularity fit.dates) in
      rw (places, dates, groups_quiet (member_values (length table)) at good.values) refl

  values_sound : (at : ℕ) → value_faults (length (stored_texts (fields_in at (message slots)))) at (message slots) ≡ []
  values_sound at = ap (λ (ts : List (List ℕ)). value_faults (length ts) at (message slots)) (table_is at) ∙ values_good at

  -- ---- weights

  weights_sound : (at : ℕ) → payload_weights at (message slots) ≡ []
  unfolding payload_weights
  weights_sound at =
      ap₂ (λ (ts : List (List ℕ)) (s : Scale). flat_map (in_group (member_weights indexed ts s)) (fields_in at (message slots))) (table_is at) (scale_is at) ∙ groups_quiet (member_weights indexed table scale) at good.weights

  pub block_sound : (at : ℕ) → block_fault at (message slots) ≡ None
  unfolding block_fault
  block_sound at = rw (wire_sound at, structure_sound at, values_sound at, weights_sound at) refl

  -- ---- entities

  pub block_read : (at : ℕ) → entities at (message slots) ≡ es
  unfolding entities
  block_read at =
      let f = in_group (member_entities indexed table scale) in
      let rest = numbers_quiet f (no_group (member_entities indexed table scale)) in
      ap₂ (λ (ts : List (List ℕ)) (s : Scale). flat_map (in_group (member_entities indexed ts s)) (fields_in at (message slots))) (table_is at) (scale_is at)
      ∙ fields_give f at ((Each STRINGTABLE (table_message used ∷ []), []) ∷ (Each PRIMITIVEGROUP (group ∷ []), es) ∷ map (λ s. (s, [])) numbers)
      (quiet_gives f (Each STRINGTABLE (table_message used ∷ [])) ((λ place begin. refl), tt), (one_group, all_map (λ (g : Slot × List EntitySpec). SlotGives f g.0 g.1) (λ s. (s, [])) numbers (all_weaker (SlotQuiet f) _ (quiet_gives f) numbers rest)))
      fits short ∙ append-nil es
    where
      one_group : SlotGives (in_group (member_entities indexed table scale)) (Each PRIMITIVEGROUP (group ∷ [])) es
      one_group = λ at. append-nil _ ∙ good.entities _

-- ---- what the tests of likeness say

equal : (x y : ℤ) → int_eq x y ≡ true → y ≡ x
equal x y e = sym ((Decides-int_eq x y).0 e)

scale_same : (s t : Scale) → same_scale s t ≡ true → t ≡ s
scale_same s t e =
    let c = and_parts _ (int_eq s.lon_offset t.lon_offset) e in
    let b = and_parts _ (int_eq s.lat_offset t.lat_offset) c.0 in
    let a = and_parts (int_eq s.granularity t.granularity) _ b.0 in
    let places = equal s.granularity t.granularity a.0 in
    let dates = equal s.date_granularity t.date_granularity a.1 in
    let lats = equal s.lat_offset t.lat_offset b.1 in
    let lons = equal s.lon_offset t.lon_offset c.1 in
    λ i. record { granularity = places i; date_granularity = dates i; lat_offset = lats i; lon_offset = lons i }

both_are : (a b : Bool) → iff a b ≡ true → b ≡ a
both_are true b e = e
both_are false true e = absurd cc
both_are false false e = refl

record SameFields (m n : MetaSpec) : Type 0 where
  version : is_some n.version ≡ is_some m.version
  timestamp : is_some n.timestamp ≡ is_some m.timestamp
  changeset : is_some n.changeset ≡ is_some m.changeset
  uid : is_some n.uid ≡ is_some m.uid
  user : is_some n.user ≡ is_some m.user
  visible : is_some n.visible ≡ is_some m.visible

fields_same : (m n : MetaSpec) → same_fields m n ≡ true → SameFields m n
fields_same m n h =
    let e = and_parts _ (iff (is_some m.visible) (is_some n.visible)) h in
    let d = and_parts _ (iff (is_some m.user) (is_some n.user)) e.0 in
    let c = and_parts _ (iff (is_some m.uid) (is_some n.uid)) d.0 in
    let b = and_parts _ (iff (is_some m.changeset) (is_some n.changeset)) c.0 in
    let a = and_parts (iff (is_some m.version) (is_some n.version)) _ b.0 in
    record { version = both_are _ _ a.0; timestamp = both_are _ _ a.1; changeset = both_are _ _ b.1; uid = both_are _ _ c.1; user = both_are _ _ d.1; visible = both_are _ _ e.1 }

alike_fields : (m : MetaSpec) (metas : List MetaSpec) → AllByRecursion (SameFields m) metas → HaveSameFields (m ∷ metas)
alike_fields m metas h =
    let all = λ (there : MetaSpec → Bool) (same : (n : MetaSpec) → SameFields m n → there n ≡ there m). all_weaker (SameFields m) (λ n. there n ≡ there m) same metas h in
    record {
      version = (is_some m.version, (refl, all (λ n. is_some n.version) (λ n s. s.version)));
      timestamp = (is_some m.timestamp, (refl, all (λ n. is_some n.timestamp) (λ n s. s.timestamp)));
      changeset = (is_some m.changeset, (refl, all (λ n. is_some n.changeset) (λ n s. s.changeset)));
      uid = (is_some m.uid, (refl, all (λ n. is_some n.uid) (λ n s. s.uid)));
      user = (is_some m.user, (refl, all (λ n. is_some n.user) (λ n s. s.user)));
      visible = (is_some m.visible, (refl, all (λ n. is_some n.visible) (λ n s. s.visible)));
    }

like : (e f : EntitySpec) → are_alike e f ≡ true → IsLike e f
like (node m) (node n) h = record { number = refl; scale = scale_same m.scale n.scale (and_parts (same_scale m.scale n.scale) (same_fields m.meta n.meta) h).0 }
like (way v) (way w) h = record { number = refl; scale = scale_same v.scale w.scale h }
like (relation q) (relation r) h = record { number = refl; scale = scale_same q.scale r.scale h }
like e f h = absurd cc

-- entities that are like the first
likes : (e : EntitySpec) (es : List EntitySpec) → AllByRecursion (λ f. are_alike e f ≡ true) es → AllByRecursion (IsLike e) (e ∷ es)
likes e es same = (record { number = refl; scale = refl }, all_weaker (λ f. are_alike e f ≡ true) (IsLike e) (like e) es same)

all_like : (e : EntitySpec) (es : List EntitySpec) → list_all (are_alike e) es ≡ true → AllByRecursion (λ f. are_alike e f ≡ true) es
all_like e es h = recursion_from_All _ es (AllPass-from_list_all (are_alike e) es h)

-- entities of one block are in one field
pub block_number : (e : EntitySpec) (es : List EntitySpec) → is_block (e ∷ es) ≡ true → AllByRecursion (λ f. number_of f ≡ number_of e) (e ∷ es)
block_number e es h = all_weaker (IsLike e) (λ f. number_of f ≡ number_of e) (λ f l. l.number) (e ∷ es) (likes e es (all_like e es (block_parts (e ∷ es) h).alike))

-- ---- the group

-- these entities are written in a group with these texts
record Ready (texts : List (List ℕ)) (es : List EntitySpec) : Type 0 where
  fit : AllByRecursion EntityFits es
  typed : AllByRecursion EntityTyped es
  among : AllByRecursion (λ text. has_text texts text ≡ true) (flat_map entity_texts es)
  few : length (table_of texts) ≤ 1048576
  short : length (group_message texts es) < 2 ^ 64

abbrev Good : List (List ℕ) → Scale → List EntitySpec → Type 0
Good texts scale es = GroupGood (table_of texts) scale (group_message texts es) es

no_entities : (texts : List (List ℕ)) (scale : Scale) → Ready texts [] → Good texts scale []
no_entities texts scale h = nodes_good texts [] tt h.short scale (record {
  fit = tt;
  versions = tt;
  scaled = tt;
  alike = record { version = (true, tt); timestamp = (true, tt); changeset = (true, tt); uid = (true, tt); user = (true, tt); visible = (true, tt) };
  named = tt;
  few = h.few;
  short = dense_short texts [] tt h.short;
})

others : (texts : List (List ℕ)) (e : EntitySpec) (es : List EntitySpec) → AllByRecursion (λ f. are_alike e f ≡ true) es → Ready texts (e ∷ es) → ¬ (number_of e ≡ DENSE) → Good texts (entity_scale e) (e ∷ es)
others texts e es same h other = others_good texts h.few e other (e ∷ es) (likes e es same) h.fit h.typed h.among h.short

nodes_ready : (texts : List (List ℕ)) (m : NodeSpec) (es : List EntitySpec) → AllByRecursion (λ f. are_alike (node m) f ≡ true) es → Ready texts (node m ∷ es) → Good texts m.scale (node m ∷ es)
nodes_ready texts m es same h =
    let all = likes (node m) es same in
    let dense = all_weaker (IsLike (node m)) (λ f. number_of f ≡ DENSE) (λ f l. l.number) (node m ∷ es) all in
    let alike = nodes_all (λ f. are_alike (node m) f ≡ true) es same in
    nodes_good texts (node m ∷ es) dense h.short m.scale (record {
      fit = nodes_all EntityFits (node m ∷ es) h.fit;
      versions = nodes_all (λ f. IfPresent IsInt32 (entity_meta f).version) (node m ∷ es) (all_weaker EntityTyped _ (λ f t. t.version) (node m ∷ es) h.typed);
      scaled = nodes_all (λ f. entity_scale f ≡ m.scale) (node m ∷ es) (all_weaker (IsLike (node m)) _ (λ f l. l.scale) (node m ∷ es) all);
      alike = alike_fields m.meta (map (λ n. n.meta) (nodes_among es)) (all_map (SameFields m.meta) (λ n. n.meta) (nodes_among es)
          (all_weaker _ (λ n. SameFields m.meta n.meta) (λ n e. fields_same m.meta n.meta (and_parts (same_scale m.scale n.scale) (same_fields m.meta n.meta) e).1) (nodes_among es) alike));
      named = nodes_named texts (node m ∷ es) dense h.among;
      few = h.few;
      short = dense_short texts (node m ∷ es) dense h.short;
    })

-- what is like the first is a good group
alike_good : (texts : List (List ℕ)) (es : List EntitySpec) → all_alike es ≡ true → Ready texts es → Good texts (scale_among es) es
alike_good texts [] a h = no_entities texts (scale_among []) h
alike_good texts (e ∷ es) a h = by e h (all_like e es a)
  where
    by : (e : EntitySpec) → Ready texts (e ∷ es) → AllByRecursion (λ f. are_alike e f ≡ true) es → Good texts (entity_scale e) (e ∷ es)
    by (node m) h same = nodes_ready texts m es same h
    by (way v) h same = others texts (way v) es same h (λ n. omega (arith, n))
    by (relation q) h same = others texts (relation q) es same h (λ n. omega (arith, n))

-- ---- the block

default_typed : ScaleTyped (scale_among [])
default_typed = record {
  granularity = (omega (arith, ints), omega (arith, ints));
  date_granularity = (omega (arith, ints), omega (arith, ints));
  lat_offset = (omega (arith, ints), omega (arith, ints));
  lon_offset = (omega (arith, ints), omega (arith, ints));
}

scale_typed : (es : List EntitySpec) → AllByRecursion EntityTyped es → ScaleTyped (scale_among es)
scale_typed [] h = default_typed
scale_typed (e ∷ es) h = h.0.scale

first_fits : (e : EntitySpec) → EntityFits e → ScaleFits (entity_scale e)
first_fits (node n) h = h.scale
first_fits e h = h.scale

scale_fits : (es : List EntitySpec) → AllByRecursion EntityFits es → ScaleFits (scale_among es)
scale_fits [] h = record { places = omega (arith, ints); dates = omega (arith, ints) }
scale_fits (e ∷ es) h = first_fits e h.0

module _ (es : List EntitySpec) (is : is_block es ≡ true) (fit : AllByRecursion EntityFits es) (typed : AllByRecursion EntityTyped es) where
  abbrev used : List (List ℕ)
  used = texts_of_all es

  slots_short : length (message (block_slots (scale_among es) used (group_message used es))) < 2 ^ 64
  unfolding block_message
  slots_short = omega (arith, block_fits es is)

  few : length used ≤ 750000
  few = omega (arith, once_few es, (parts_are [] es).few, (block_parts es is).light)

  good : Good used (scale_among es) es
  good = alike_good used es (block_parts es is).alike (record {
    fit = fit;
    typed = typed;
    among = has_used (flat_map entity_texts es) [];
    few = omega (arith, few);
    short = (embedded_below (2 ^ 64) (block_slots (scale_among es) used (group_message used es)) slots_short).1.0.0;
  })

  pub written_sound : (at : ℕ) → block_fault at (block_message es) ≡ None
  unfolding block_message
  written_sound at = block_sound (scale_among es) used (group_message used es) es good (scale_typed es typed) (scale_fits es fit) (omega (arith, few)) slots_short at

  pub written_read : (at : ℕ) → entities at (block_message es) ≡ es
  unfolding block_message
  written_read at = block_read (scale_among es) used (group_message used es) es good (scale_typed es typed) (scale_fits es fit) (omega (arith, few)) slots_short at
