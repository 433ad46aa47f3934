-- The entities of a payload without faults can be written again, and their numbers have the types of the format.
use Rattle.std.proofs.Common.{◌≡◌, inl, inr, ◌==◌, ◌&&◌, ◌||◌, ℕ, ◌≤◌, ◌^◌, ℤ, pos, true, false, List, [], ◌∷◌, length, map, refl, sym, ◌∙◌, arith, eqb}
use Rattle.std.specs.Prelude.{Option, Some, None, ◌≤ℤ◌, int_lt}
use Rattle.std.specs.Option.{option_map, option_map_or}
use Rattle.std.specs.List.{flat_map, zip, AllByRecursion}
use Rattle.std.proofs.lemmas.Bool.Decides.{nat_tests}
use Rattle.std.proofs.lemmas.List.{length-map}
use Rattle.std.proofs.lemmas.List.FromFn.{length-map-range_with_len}
use Rattle.std.proofs.lemmas.Slice.Zip.{length-zip}
use Rattle.pbf_wire.specs.declared.fault.Fault.{Fault}
use Rattle.pbf_wire.specs.declared.fault.Reason.TheVariants.{LocationColumns, OutOfRange, StringIndex, Granularity, DateGranularity, EntityLarge}
use Rattle.pbf_wire.specs.declared.kind.Kind.{Kind}
use Rattle.pbf_wire.specs.declared.kind.Kind.TheVariants as kind
use Rattle.pbf_wire.specs.Occurrence.{Content, Bytes, Occurrence, items}
use Rattle.pbf_wire.specs.Columns.{joined, column}
use Rattle.pbf_wire.specs.Wire.{kind_of}
use Rattle.pbf_wire.specs.Reading.{last_value, last_number}
use Rattle.pbf_wire.specs.Signed.{IsWithin, is_within, unzigzag, low_i32, low_i64}
use Rattle.pbf_wire.specs.Sums.{sum_at}
use Rattle.pbf_wire.specs.Faults.{inside, entered, fields_in, embedded, leaf_faults, column_count, below_fault, of_value, in_last, nested_faults}
use Rattle.pbf_wire.proofs.SumLemmas.{small_zero, within_is}
use Rattle.pbf_wire.proofs.SoundLemmas.{both_nil, all_nil, is_right, sums_within_limit, count_is_length, fields_sound, IsSound, not_wrong}
use Rattle.osm_entity.specs.declared.scale.Scale.{Scale}
use Rattle.osm_entity.specs.Scale.{ScaleFits}
use Rattle.osm_entity.specs.Entity.{EntitySpec, node, way, relation}
use Rattle.osm_entity.specs.Ranges.{IsStored, IsUid, IfPresent, MetaFits, LocationFits, MemberFits, AreLocated, EntityFits, IsInt32, IsInt64, ScaleTyped, EntityTyped}
use Rattle.osm_entity.specs.Sources.{column_members}
use Rattle.osm_entity.specs.Weight.{entity_weight}
use Rattle.pbf_dense.specs.Judged.{range_faults}
use Rattle.pbf_dense.specs.declared.dense_info.TheConstants.{TIMESTAMP, CHANGESET, UID, USER_SID, VERSION}
use Rattle.pbf_block.specs.declared.node.TheConstants.{NODE_LAT, NODE_LON}
use Rattle.pbf_block.specs.declared.way.TheConstants.{WAY_KINDS, REFS, WAY_LAT, WAY_LON}
use Rattle.pbf_block.specs.declared.relation.TheConstants.{MEMIDS, TYPES, ROLES_SID}
use Rattle.pbf_block.specs.declared.info.TheConstants.{INFO_KINDS}
use Rattle.pbf_block.specs.declared.entity.TheConstants.{ID, INFO}
use Rattle.pbf_block.specs.Info.{info_in, info_values, out_of_range}
use Rattle.pbf_block.specs.Entity.{values_in, entity_structure, entity_values}
use Rattle.pbf_block.specs.Node.{node_in, node_values}
use Rattle.pbf_block.specs.Way.{way_in, are_located, way_structure, way_values}
use Rattle.pbf_block.specs.Relation.{relation_in, relation_values}
use Rattle.pbf_block.specs.PrimitiveBlock.{indexed, entities, payload_weights, block_fault, value_faults, positive}
use Rattle.pbf_block.specs.Scale.{number_or, scale_of, stored_texts}
use Rattle.pbf_block.proofs.PayloadLemmas.{cond_all, inside_all, InGroup, groups_all, groups_nil, IsClean, HoldsClean, payload_clean, table_few, no_fault}
use Rattle.osm_entity.specs.declared.weight.TheConstants.{HIGHEST_WEIGHT}
use Rattle.std.proofs.lemmas.Int.{ints}
use Rattle.std.proofs.lemmas.Bool.{eqb-true, ltb-false}
use Rattle.pbf_wire.specs.declared.fault.Reason.{Reason}
use Rattle.osm_entity.proofs.RangeLemmas.{int32_typed, int64_typed}
use Rattle.pbf_wire.proofs.AllLemmas.{all_append, all_weaker, all_map}
use Rattle.pbf_dense.proofs.SoundDense.{embedded_has, nodes_fit, nodes_typed, version_typed}
use Rattle.pbf_block.specs.Group.{in_group, message_entities, member_entities, member_values, weight_fault, member_weights}
use Rattle.pbf_block.specs.declared.primitive_block.TheConstants.{PRIMITIVEGROUP, GRANULARITY, DATE_GRANULARITY, LAT_OFFSET, LON_OFFSET}
use Rattle.pbf_block.specs.declared.group.TheConstants.{NODES, DENSE, WAYS, RELATIONS}
use Rattle.pbf_block.specs.declared.scale.TheConstants.{DEFAULT_SCALE}

-- ---- the last number of a field

-- what a number without a fault shows of it, as it is read, holds of the last
module _ (f : ℕ → ℕ → List Fault) (P : ℤ → Type 0) (read : ℕ → ℤ) (clean : (place v : ℕ) → f place v ≡ [] → P (read v)) where
  if_present : (last : Option (ℕ × ℕ)) → of_value f last ≡ [] → IfPresent P (option_map read (option_map (λ p. p.1) last))
  if_present None e = tt
  if_present (Some p) e = clean p.0 p.1 e

  pub or_else : (otherwise : ℤ) (last : Option (ℕ × ℕ)) → P otherwise → of_value f last ≡ [] → P (option_map_or read (option_map (λ p. p.1) last) otherwise)
  or_else otherwise None d e = d
  or_else otherwise (Some p) d e = clean p.0 p.1 e

in_range : (bits : ℕ) (read : ℕ → ℤ) (place v : ℕ) → out_of_range bits read place v ≡ [] → IsWithin (pos (2 ^ bits)) (read v)
in_range bits read place v e = within_is (pos (2 ^ bits)) (read v) (is_right (is_within (pos (2 ^ bits)) (read v)) place OutOfRange e)

stored : (read : ℕ → ℤ) (k : ℕ) (os : List Occurrence) → in_last k (out_of_range 62 read) os ≡ [] → IsStored (number_or (pos 0) read k os)
stored read k os e = or_else (out_of_range 62 read) IsStored read (in_range 62 read) (pos 0) (last_value k os) small_zero e

-- ---- metadata

module _ (limit : ℕ) (table : List (List ℕ)) where
  info_fits : (place at : ℕ) (m : List ℕ) → info_values limit place at m ≡ [] → MetaFits (info_in table (fields_in at m))
  info_fits place at m v =
      let os = fields_in at m in
      let uids = both_nil _ _ (both_nil _ (in_last USER_SID (λ place v. below_fault StringIndex limit (v, place)) os) v).0 in
      let changesets = both_nil _ _ uids.0 in
      record {
        timestamp = if_present (out_of_range 62 low_i64) IsStored low_i64 (in_range 62 low_i64) (last_value TIMESTAMP os) changesets.0;
        changeset = if_present (out_of_range 62 low_i64) IsStored low_i64 (in_range 62 low_i64) (last_value CHANGESET os) changesets.1;
        uid = if_present (out_of_range 30 low_i32) IsUid low_i32 (in_range 30 low_i32) (last_value UID os) uids.1;
      }

  meta_fits : (os : List Occurrence) → entity_values limit os ≡ [] → MetaFits (info_in table (embedded INFO os))
  meta_fits os v =
      embedded_has INFO (info_values limit) (λ os. MetaFits (info_in table os)) info_fits (record { timestamp = tt; changeset = tt; uid = tt }) os (both_nil _ (flat_map (entered INFO (info_values limit)) os) v).1

-- ---- the columns of ways and relations

locations_fit : (lats lons : List ℤ) → AllByRecursion IsStored lats → AllByRecursion IsStored lons → AllByRecursion LocationFits (zip lats lons)
locations_fit (lat ∷ lats) (lon ∷ lons) p q = ((p.0, q.0), locations_fit lats lons p.1 q.1)
locations_fit lats lons p q = tt

located : (lats lons refs : List ℤ) → (length lats == length lons && (length lats == 0 || length lats == length refs)) ≡ true → AreLocated refs (zip lats lons)
located [] lons refs e = inl refl
located (lat ∷ lats) lons refs e =
    let same : length (lat ∷ lats) ≡ length lons = grind (arith, nat_tests) in
    let all : length (lat ∷ lats) ≡ length refs = grind (arith, nat_tests) in
    inr (omega (arith, length-zip (lat ∷ lats) lons, same, all))

members_fit : (table : List (List ℕ)) (kinds : List ℕ) (ids : List ℤ) (roles : List ℕ) → AllByRecursion IsStored ids → AllByRecursion MemberFits (column_members table kinds ids roles)
members_fit table (k ∷ kinds) (id ∷ ids) (role ∷ roles) h = (h.0, members_fit table kinds ids roles h.1)
members_fit table kinds ids roles h = tt

values_counted : (kinds : List (ℕ × Kind)) (inner : Occurrence → List Fault) (k : ℕ) (os : List Occurrence) → kind_of kinds k ≡ Some kind.Column → AllByRecursion (IsSound kinds inner) os → length (values_in indexed k os) ≡ column_count k os
values_counted kinds inner k os known sound =
    let entries = map unzigzag (column k os) in
    length-map-range_with_len (sum_at entries) 0 (length entries) ∙ length-map (column k os) unzigzag ∙ length-map (joined k os) (λ p. p.0)
    ∙ sym (count_is_length kinds inner k os known sound)

values_fit : (k : ℕ) (os : List Occurrence) → range_faults k os ≡ [] → AllByRecursion IsStored (values_in indexed k os)
values_fit k os e = sums_within_limit (pos (2 ^ 62)) OutOfRange false (joined k os) e

-- ---- entities, if they are light

abbrev pub IsLight : EntitySpec → Type 0
IsLight e = entity_weight e ≤ HIGHEST_WEIGHT

-- an entity that is light can be written
abbrev pub FitsLight : EntitySpec → Type 0
FitsLight e = IsLight e → EntityFits e

module _ (limit : ℕ) (table : List (List ℕ)) (scale : Scale) (scaled : ScaleFits scale) where
  pub node_fits : (place at : ℕ) (m : List ℕ) → node_values limit place at m ≡ [] → FitsLight (node (node_in table scale (fields_in at m)))
  unfolding node_in
  node_fits place at m v light =
      let os = fields_in at m in
      let lons = both_nil _ (in_last NODE_LON (out_of_range 62 unzigzag) os) v in
      let lats = both_nil _ (in_last NODE_LAT (out_of_range 62 unzigzag) os) lons.0 in
      let alike = both_nil (in_last ID (out_of_range 62 unzigzag) os) (entity_values limit os) lats.0 in
      record { id = stored unzigzag ID os alike.0; lat = stored unzigzag NODE_LAT os lats.1; lon = stored unzigzag NODE_LON os lons.1; meta = meta_fits limit table os alike.1; scale = scaled; light = light }

  pub way_fits : (place at : ℕ) (m : List ℕ) → nested_faults WAY_KINDS INFO INFO_KINDS place at m ≡ [] → way_structure place at m ≡ [] → way_values limit place at m ≡ [] → FitsLight (way (way_in indexed table scale (fields_in at m)))
  unfolding way_in
  way_fits place at m w s v light =
      let os = fields_in at m in
      let inner = entered INFO (leaf_faults INFO_KINDS) in
      let sound = fields_sound WAY_KINDS inner (items at m) w in
      let lons = both_nil _ (range_faults WAY_LON os) v in
      let lats = both_nil _ (range_faults WAY_LAT os) lons.0 in
      let refs = both_nil _ (range_faults REFS os) lats.0 in
      let alike = both_nil (in_last ID (out_of_range 62 low_i64) os) (entity_values limit os) refs.0 in
      let counts = is_right (are_located os) place LocationColumns (both_nil (entity_structure place os) _ s).1 in
      record {
        id = stored low_i64 ID os alike.0;
        meta = meta_fits limit table os alike.1;
        scale = scaled;
        refs = values_fit REFS os refs.1;
        locations = locations_fit _ _ (values_fit WAY_LAT os lats.1) (values_fit WAY_LON os lons.1);
        located = located (values_in indexed WAY_LAT os) (values_in indexed WAY_LON os) (values_in indexed REFS os)
            (rw (values_counted WAY_KINDS inner WAY_LAT os refl sound, values_counted WAY_KINDS inner WAY_LON os refl sound, values_counted WAY_KINDS inner REFS os refl sound) counts);
        light = light;
      }

  pub relation_fits : (place at : ℕ) (m : List ℕ) → relation_values limit place at m ≡ [] → FitsLight (relation (relation_in indexed table scale (fields_in at m)))
  unfolding relation_in
  relation_fits place at m v light =
      let os = fields_in at m in
      let kinds = both_nil _ _ v in
      let ids = both_nil _ (range_faults MEMIDS os) kinds.0 in
      let roles = both_nil _ _ ids.0 in
      let alike = both_nil (in_last ID (out_of_range 62 low_i64) os) (entity_values limit os) roles.0 in
      record {
        id = stored low_i64 ID os alike.0;
        meta = meta_fits limit table os alike.1;
        scale = scaled;
        members = members_fit table (column TYPES os) (values_in indexed MEMIDS os) (column ROLES_SID os) (values_fit MEMIDS os ids.1);
        light = light;
      }

-- ---- weights

light : (place : ℕ) (e : EntitySpec) → weight_fault place e ≡ [] → IsLight e
light place e h = ltb-false HIGHEST_WEIGHT (entity_weight e) (not_wrong _ place EntityLarge h)

module _ (table : List (List ℕ)) (scale : Scale) where
  abbrev weights : Occurrence → List Fault
  weights = member_weights indexed table scale

  abbrev held : Occurrence → List EntitySpec
  held = member_entities indexed table scale

  member_light : (o : Occurrence) → weights o ≡ [] → AllByRecursion IsLight (held o)
  member_light o e = all_weaker (λ x. weight_fault o.place x ≡ []) IsLight (light o.place) (held o) (all_nil (weight_fault o.place) (held o) e)

  payload_light : (os : List Occurrence) → flat_map (in_group weights) os ≡ [] → AllByRecursion IsLight (flat_map (in_group held) os)
  payload_light os e = groups_all IsLight held (λ o. weights o ≡ []) member_light os (groups_nil weights os e)

-- ---- the scale

at_least_one : (reason : Reason) (place v : ℕ) → positive reason place v ≡ [] → pos 1 ≤ℤ low_i32 v
at_least_one reason place v e = by (low_i32 v) (not_wrong _ place reason e) where
  by : (z : ℤ) → int_lt z (pos 1) ≡ false → pos 1 ≤ℤ z
  by z e = grind (arith, ints)

scale_fits : (limit at : ℕ) (m : List ℕ) → value_faults limit at m ≡ [] → ScaleFits (scale_of (fields_in at m))
unfolding value_faults
scale_fits limit at m v =
    let os = fields_in at m in
    let both = both_nil (in_last GRANULARITY (positive Granularity) os) (in_last DATE_GRANULARITY (positive DateGranularity) os) (both_nil _ (flat_map (in_group (member_values limit)) os) v).0 in
    record {
      places = or_else (positive Granularity) (λ z. pos 1 ≤ℤ z) low_i32 (at_least_one Granularity) DEFAULT_SCALE.granularity (last_value GRANULARITY os) (omega (arith, ints)) both.0;
      dates = or_else (positive DateGranularity) (λ z. pos 1 ≤ℤ z) low_i32 (at_least_one DateGranularity) DEFAULT_SCALE.date_granularity (last_value DATE_GRANULARITY os) (omega (arith, ints)) both.1;
    }

-- ---- the entities of a group

module _ (table : List (List ℕ)) (few : length table ≤ 2 ^ 62) (scale : Scale) (scaled : ScaleFits scale) where
  abbrev limit : ℕ
  limit = length table

  message_fits : (k place at : ℕ) (m : List ℕ) → IsClean limit k place at m → AllByRecursion FitsLight (message_entities indexed table scale k (fields_in at m))
  message_fits k place at m h =
      cond_all FitsLight (eqb k NODES) _ _ (λ t. let is = eqb-true k NODES t in (node_fits limit table scale scaled place at m (h.node_numbers is), tt))
      (cond_all FitsLight (eqb k DENSE) _ _
      (λ t. let is = eqb-true k DENSE t in all_map FitsLight node _ (nodes_fit table scale at m scaled (record { place = place; few = few; wire = h.dense_form is; structure = h.dense_parts is; values = h.dense_numbers is })))
      (cond_all FitsLight (eqb k WAYS) _ _ (λ t. let is = eqb-true k WAYS t in (way_fits limit table scale scaled place at m (h.way_form is) (h.way_parts is) (h.way_numbers is), tt))
      (cond_all FitsLight (eqb k RELATIONS) _ _ (λ t. let is = eqb-true k RELATIONS t in (relation_fits limit table scale scaled place at m (h.relation_numbers is), tt)) tt)))

  payload_fits : (os : List Occurrence) → AllByRecursion (InGroup (HoldsClean limit)) os → AllByRecursion FitsLight (flat_map (in_group (member_entities indexed table scale)) os)
  payload_fits os clean =
      groups_all FitsLight (member_entities indexed table scale) (HoldsClean limit) (λ o h. inside_all FitsLight _ _ o.content (λ at m p. message_fits o.number o.place at m p) h) os clean

both : (es : List EntitySpec) → AllByRecursion FitsLight es → AllByRecursion IsLight es → AllByRecursion EntityFits es
both [] f l = tt
both (e ∷ es) f l = (f.0 l.0, both es f.1 l.1)

pub entities_fit : (at : ℕ) (m : List ℕ) → block_fault at m ≡ None → AllByRecursion EntityFits (entities at m)
unfolding entities payload_weights
entities_fit at m e =
    let os = fields_in at m in
    let none = no_fault at m e in
    let few : length (stored_texts os) ≤ 2 ^ 62 = omega (arith, table_few at m none.1) in
    let scaled = scale_fits (length (stored_texts os)) at m none.2 in
    both (flat_map (in_group (member_entities indexed (stored_texts os) (scale_of os))) os) (payload_fits (stored_texts os) few (scale_of os) scaled os (payload_clean (length (stored_texts os)) at m none.0 none.1 none.2)) (payload_light (stored_texts os) (scale_of os) os none.3)

-- ---- types

all_flat : {X Y : Type 0} (P : Y → Type 0) (f : X → List Y) (xs : List X) → ((x : X) → AllByRecursion P (f x)) → AllByRecursion P (flat_map f xs)
all_flat P f [] each = tt
all_flat P f (x ∷ xs) each = all_append P (f x) (flat_map f xs) (each x) (all_flat P f xs each)

module _ (table : List (List ℕ)) (scale : Scale) (scaled : ScaleTyped scale) where
  message_typed : (k : ℕ) (os : List Occurrence) → AllByRecursion EntityTyped (message_entities indexed table scale k os)
  unfolding node_in way_in relation_in
  message_typed k os =
      let version = version_typed (last_number VERSION (embedded INFO os)) in
      cond_all EntityTyped (eqb k NODES) _ _ (λ t. (record { version = version; scale = scaled }, tt))
      (cond_all EntityTyped (eqb k DENSE) _ _ (λ t. all_map EntityTyped node _ (nodes_typed table scale scaled os))
      (cond_all EntityTyped (eqb k WAYS) _ _ (λ t. (record { version = version; scale = scaled }, tt))
      (cond_all EntityTyped (eqb k RELATIONS) _ _ (λ t. (record { version = version; scale = scaled }, tt)) tt)))

  inside_typed : (f : ℕ → List ℕ → List EntitySpec) (c : Content) → ((at : ℕ) (m : List ℕ) → AllByRecursion EntityTyped (f at m)) → AllByRecursion EntityTyped (inside f c)
  inside_typed f (Bytes bytes at) each = each at bytes
  inside_typed f c each = tt

  member_typed : (o : Occurrence) → AllByRecursion EntityTyped (member_entities indexed table scale o)
  member_typed o = inside_typed _ o.content (λ at m. message_typed o.number (fields_in at m))

  group_typed : (o : Occurrence) → AllByRecursion EntityTyped (in_group (member_entities indexed table scale) o)
  group_typed o = cond_all EntityTyped (eqb o.number PRIMITIVEGROUP) _ _ (λ t. inside_typed _ o.content (λ at m. all_flat EntityTyped (member_entities indexed table scale) (fields_in at m) member_typed)) tt

int32_or : (otherwise : ℤ) (o : Option ℕ) → IsInt32 otherwise → IsInt32 (option_map_or low_i32 o otherwise)
int32_or otherwise None h = h
int32_or otherwise (Some v) h = int32_typed v

int64_or : (otherwise : ℤ) (o : Option ℕ) → IsInt64 otherwise → IsInt64 (option_map_or low_i64 o otherwise)
int64_or otherwise None h = h
int64_or otherwise (Some v) h = int64_typed v

scale_typed : (os : List Occurrence) → ScaleTyped (scale_of os)
scale_typed os = record {
  granularity = int32_or DEFAULT_SCALE.granularity (last_number GRANULARITY os) (omega (arith, ints), omega (arith, ints));
  date_granularity = int32_or DEFAULT_SCALE.date_granularity (last_number DATE_GRANULARITY os) (omega (arith, ints), omega (arith, ints));
  lat_offset = int64_or DEFAULT_SCALE.lat_offset (last_number LAT_OFFSET os) (omega (arith, ints), omega (arith, ints));
  lon_offset = int64_or DEFAULT_SCALE.lon_offset (last_number LON_OFFSET os) (omega (arith, ints), omega (arith, ints));
}

-- whatever is wrong with the payload
pub entities_typed : (at : ℕ) (m : List ℕ) → AllByRecursion EntityTyped (entities at m)
unfolding entities
entities_typed at m =
    let os = fields_in at m in
    all_flat EntityTyped (in_group (member_entities indexed (stored_texts os) (scale_of os))) os (group_typed (stored_texts os) (scale_of os) (scale_typed os))
