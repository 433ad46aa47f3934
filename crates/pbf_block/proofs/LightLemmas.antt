-- Entities of few parts are light, if no text is long.
use Rattle.std.proofs.Common.{◌≡◌, ◌≤◌, ◌==◌, ℕ, zero, suc, ◌+◌, ◌*◌, ◌/◌, ◌^◌, ℤ, pos, negsuc, Bool, true, false, List, [], ◌∷◌, ◌++◌, length, map, refl, ap₂, arith}
use Rattle.std.specs.Prelude.{Option, Some, None, slice_get, if◌then◌else◌}
use Rattle.std.specs.Option.{option_map}
use Rattle.std.specs.List.{flat_map, zip}
use Rattle.std.proofs.Math.Nat.{suc-mul, mul-le-mul_right}
use Rattle.std.proofs.lemmas.Bool.{le-ltb}
use Rattle.std.proofs.lemmas.List.{length-map}
use Rattle.pbf_wire.specs.declared.fault.Fault.{Fault}
use Rattle.pbf_wire.specs.Columns.{joined, column}
use Rattle.pbf_wire.specs.Faults.{column_count, fields_in, embedded}
use Rattle.pbf_wire.specs.Occurrence.{Occurrence}
use Rattle.pbf_wire.specs.Reading.{last_number}
use Rattle.pbf_wire.specs.Signed.{unzigzag}
use Rattle.pbf_wire.proofs.SoundLemmas.{length_counted}
use Rattle.pbf_wire.proofs.FaultLemmas.{count_short}
use Rattle.pbf_strings.specs.Texts.{text, longest}
use Rattle.osm_entity.specs.declared.scale.Scale.{Scale}
use Rattle.osm_entity.specs.Entity.{EntitySpec, node, way, relation}
use Rattle.osm_entity.specs.Sources.{low_32, named, tag_of, run, member_of}
use Rattle.osm_entity.specs.Weight.{tags_weight, members_weight, text_weight, node_weight, way_weight, relation_weight, entity_weight}
use Rattle.pbf_dense.specs.Info.{InfoSpec, meta_at, user_text, info_along, info_rest}
use Rattle.pbf_dense.specs.Nodes.{nodes_of_columns, nodes_along}
use Rattle.pbf_dense.specs.Runs.{after_run}
use Rattle.pbf_dense.specs.declared.dense_nodes.TheConstants.{KEYS_VALS}
use Rattle.pbf_dense.specs.declared.dense_info.TheConstants.{USER_SID}
use Rattle.pbf_block.specs.declared.group.TheConstants.{NODES, DENSE, WAYS, RELATIONS}
use Rattle.pbf_block.specs.declared.entity.TheConstants.{KEYS, VALS, INFO}
use Rattle.pbf_block.specs.declared.way.TheConstants.{REFS, WAY_LAT, WAY_LON}
use Rattle.pbf_block.specs.declared.relation.TheConstants.{ROLES_SID, MEMIDS, TYPES}
use Rattle.pbf_block.specs.Node.{node_in}
use Rattle.pbf_block.specs.Way.{way_in}
use Rattle.pbf_block.specs.Relation.{relation_in}
use Rattle.pbf_block.specs.Entity.{values_in}
use Rattle.pbf_block.specs.Group.{message_entities, weight_fault}
use Rattle.pbf_block.specs.PrimitiveBlock.{streaming}
use Rattle.osm_entity.specs.declared.weight.TheConstants.{HIGHEST_WEIGHT}
use Rattle.pbf_wire.proofs.SpanLemmas.{sums_fit}

-- ---- texts

text_short : (table : List (List ℕ)) (i : ℕ) → length (text table i) ≤ longest table
text_short (t ∷ ts) (suc i) = omega (arith, text_short ts i)
text_short table i = omega arith

user_short : (table : List (List ℕ)) (n : Option ℕ) → text_weight (option_map (named table) n) ≤ longest table
user_short table None = omega arith
user_short table (Some n) = text_short table (low_32 n)

user_text_short : (table : List (List ℕ)) (z : ℤ) → length (user_text table z) ≤ longest table
user_text_short table (pos n) = text_short table n
user_text_short table (negsuc n) = omega arith

user_at_short : (table : List (List ℕ)) (z : Option ℤ) → text_weight (option_map (user_text table) z) ≤ longest table
user_at_short table None = omega arith
user_at_short table (Some z) = user_text_short table z

-- ---- parts, each at most u

module _ (table : List (List ℕ)) (u : ℕ) (h : 32 + 2 * longest table ≤ u) where
  tags_short : (pairs : List (ℕ × ℕ)) → tags_weight (map (tag_of table) pairs) ≤ length pairs * u
  tags_short [] = omega arith
  tags_short (p ∷ ps) = omega (arith, h, suc-mul (length ps) u, text_short table p.0, text_short table p.1, tags_short ps)

  members_short : (xs : List (ℕ × (ℤ × ℕ))) → members_weight (map (member_of table) xs) ≤ length xs * u
  members_short [] = omega arith
  members_short (x ∷ xs) = omega (arith, h, suc-mul (length xs) u, text_short table (low_32 x.1.1), members_short xs)

-- ---- how many there are

zip_short : {X Y : Type 0} (xs : List X) (ys : List Y) → length (zip xs ys) ≤ length xs
zip_short (x ∷ xs) (y ∷ ys) = omega (arith, zip_short xs ys)
zip_short xs ys = omega arith

column_counted : (k : ℕ) (os : List Occurrence) → length (column k os) ≤ column_count k os
column_counted k os = omega (arith, length-map {B = ℕ} (joined k os) (λ p. p.0), length_counted k os)

column_short : (k at : ℕ) (m : List ℕ) → length (column k (fields_in at m)) ≤ length m
column_short k at m = omega (arith, column_counted k (fields_in at m), count_short k at m)

values_short : (k at : ℕ) (m : List ℕ) → length (values_in streaming k (fields_in at m)) ≤ length m
values_short k at m =
    omega (arith, sums_fit (pos (2 ^ 62)) (pos 0) (map unzigzag (column k (fields_in at m))), length-map {B = ℤ} (column k (fields_in at m)) unzigzag, column_short k at m)

pairs_short : (at : ℕ) (m : List ℕ) → length (zip (map low_32 (column KEYS (fields_in at m))) (map low_32 (column VALS (fields_in at m)))) ≤ length m
pairs_short at m =
    let os = fields_in at m in
    omega (arith, zip_short (map low_32 (column KEYS os)) (map low_32 (column VALS os)), length-map {B = ℕ} (column KEYS os) low_32, column_short KEYS at m)

run_short : (numbers : List ℕ) → 2 * length (run numbers) ≤ length numbers
run_short (suc key ∷ value ∷ rest) = omega (arith, run_short rest)
run_short numbers = omega arith

after_short : (numbers : List ℕ) → length (after_run numbers) ≤ length numbers
after_short (suc key ∷ value ∷ rest) = omega (arith, after_short rest)
after_short numbers = omega arith

-- ---- entities

light_none : (place : ℕ) (entity : EntitySpec) → entity_weight entity ≤ HIGHEST_WEIGHT → weight_fault place entity ≡ []
light_none place entity le = rw (le-ltb HIGHEST_WEIGHT (entity_weight entity) le) refl

-- what a message of this length holds weighs this much at most
module _ (table : List (List ℕ)) (scale : Scale) (u : ℕ) (h : 32 + 2 * longest table ≤ u) (at : ℕ) (m : List ℕ) where
  below : (n : ℕ) → n ≤ length m → n * u ≤ length m * u
  below n le = mul-le-mul_right u le

  times_32 : (n : ℕ) → 32 * n ≤ n * u
  times_32 zero = omega arith
  times_32 (suc n) = omega (arith, h, suc-mul n u, times_32 n)

  node_light : node_weight (node_in table scale (fields_in at m)) ≤ 160 + longest table + 3 * (length m * u)
  unfolding node_in
  node_light =
      let os = fields_in at m in
      let pairs = zip (map low_32 (column KEYS os)) (map low_32 (column VALS os)) in
      omega (arith, user_short table (last_number USER_SID (embedded INFO os)), tags_short table u h pairs, below (length pairs) (pairs_short at m))

  way_light : way_weight (way_in streaming table scale (fields_in at m)) ≤ 160 + longest table + 3 * (length m * u)
  unfolding way_in
  way_light =
      let os = fields_in at m in
      let pairs = zip (map low_32 (column KEYS os)) (map low_32 (column VALS os)) in
      let refs = values_in streaming REFS os in
      let lats = values_in streaming WAY_LAT os in
      let places = zip lats (values_in streaming WAY_LON os) in
      omega (
        arith,
        user_short table (last_number USER_SID (embedded INFO os)),
        tags_short table u h pairs,
        below (length pairs) (pairs_short at m),
        times_32 (length refs),
        below (length refs) (values_short REFS at m),
        times_32 (length places),
        mul-le-mul_right u (zip_short lats (values_in streaming WAY_LON os)),
        below (length lats) (values_short WAY_LAT at m),
      )

  relation_light : relation_weight (relation_in streaming table scale (fields_in at m)) ≤ 160 + longest table + 3 * (length m * u)
  unfolding relation_in
  relation_light =
      let os = fields_in at m in
      let pairs = zip (map low_32 (column KEYS os)) (map low_32 (column VALS os)) in
      let kinds = column TYPES os in
      let others = zip (values_in streaming MEMIDS os) (column ROLES_SID os) in
      omega (
        arith,
        user_short table (last_number USER_SID (embedded INFO os)),
        tags_short table u h pairs,
        below (length pairs) (pairs_short at m),
        members_short table u h (zip kinds others),
        mul-le-mul_right u (zip_short kinds others),
        below (length kinds) (column_short TYPES at m),
      )

-- ---- dense nodes

module _ (table : List (List ℕ)) (scale : Scale) (u c : ℕ) (h : 32 + 2 * longest table ≤ u) (few : 160 + longest table + c * u ≤ HIGHEST_WEIGHT) (place : ℕ) where
  moving_light : (ids lats lons : List ℤ) (info : InfoSpec) (keys_vals : List ℕ) → length keys_vals ≤ 2 * c + 1 → flat_map (weight_fault place) (map node (nodes_of_columns table scale ids lats lons info keys_vals)) ≡ []
  moving_light (id ∷ ids) (lat ∷ lats) (lon ∷ lons) info keys_vals le =
      let runs : length (run keys_vals) ≤ c = omega (arith, run_short keys_vals, le) in
      let light : 160 + text_weight (option_map (user_text table) (slice_get info.users 0)) + tags_weight (map (tag_of table) (run keys_vals)) ≤ HIGHEST_WEIGHT = omega (arith, few, user_at_short table (slice_get info.users 0), tags_short table u h (run keys_vals), mul-le-mul_right u runs) in
      ap₂ (λ (a b : List Fault). a ++ b) (light_none place (node (record { id = id; lat = lat; lon = lon; meta = meta_at table info 0; tags = map (tag_of table) (run keys_vals); scale = scale })) light) (moving_light ids lats lons (info_rest info) (after_run keys_vals) (omega (arith, after_short keys_vals, le)))
  moving_light ids lats lons info keys_vals le = refl

-- a dense message with so many numbers of texts has no heavy node
pub dense_member : (table : List (List ℕ)) (scale : Scale) (most place k : ℕ) (os : List Occurrence) → longest table ≤ most → k ≡ DENSE
    → 160 + most + (column_count KEYS_VALS os / 2) * (32 + 2 * most) ≤ HIGHEST_WEIGHT → flat_map (weight_fault place) (message_entities streaming table scale k os) ≡ []
unfolding nodes_along
dense_member table scale most place k os short same few =
    let u = 32 + 2 * most in
    let c = column_count KEYS_VALS os / 2 in
    let long : length (map low_32 (column KEYS_VALS os)) ≤ 2 * c + 1 = omega (arith, length-map {B = ℕ} (column KEYS_VALS os) low_32, column_counted KEYS_VALS os) in
    rw same (moving_light table scale u c (omega (arith, short)) (omega (arith, few, short)) place _ _ _ (info_along (embedded 5 os)) (map low_32 (column KEYS_VALS os)) long)

one_light : (place : ℕ) (entity : EntitySpec) → entity_weight entity ≤ HIGHEST_WEIGHT → flat_map (weight_fault place) (entity ∷ []) ≡ []
one_light place entity le = rw (light_none place entity le) refl

-- a message of this length that isn't dense has no heavy entity
pub other_member : (table : List (List ℕ)) (scale : Scale) (most place k at : ℕ) (m : List ℕ) → longest table ≤ most → ¬ (k ≡ DENSE)
    → 160 + most + (3 * length m) * (32 + 2 * most) ≤ HIGHEST_WEIGHT → flat_map (weight_fault place) (message_entities streaming table scale k (fields_in at m)) ≡ []
other_member table scale most place k at m short unlike few =
    let other : (k == DENSE) ≡ false = grind (arith, unlike) in
    let u = 32 + 2 * most in
    let h : 32 + 2 * longest table ≤ u = omega (arith, short) in
    let room : 160 + longest table + 3 * (length m * u) ≤ HIGHEST_WEIGHT = omega (arith, few, short) in
    let os = fields_in at m in
    rw other (by_kind (k == NODES) (k == WAYS) (k == RELATIONS) _ _ _
    (one_light place (node (node_in table scale os)) (omega (arith, room, node_light table scale u h at m)))
    (one_light place (way (way_in streaming table scale os)) (omega (arith, room, way_light table scale u h at m)))
    (one_light place (relation (relation_in streaming table scale os)) (omega (arith, room, relation_light table scale u h at m))))
  where
    by_kind : (a b c : Bool) (x y z : List EntitySpec) → flat_map (weight_fault place) x ≡ [] → flat_map (weight_fault place) y ≡ [] → flat_map (weight_fault place) z ≡ []
        → flat_map (weight_fault place) (if a then x else (if b then y else (if c then z else []))) ≡ []
    by_kind true b c x y z p q r = p
    by_kind false true c x y z p q r = q
    by_kind false false true x y z p q r = r
    by_kind false false false x y z p q r = refl

-- no product is too large
pub product_small : (a b : ℕ) → a ≤ HIGHEST_WEIGHT → b ≤ HIGHEST_WEIGHT → a * (32 + 2 * b) ≤ 288000384000000
product_small a b p q = omega (arith, mul-le-mul_right (32 + 2 * b) p, q)
