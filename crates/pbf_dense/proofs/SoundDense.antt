-- What a dense message without faults is: what is read along its columns is what indices give, and its nodes can be written again.
use Rattle.std.proofs.Common.{◌≡◌, ℕ, ◌^◌, pos, List, length, map, refl, ap, ◌∙◌, ◌≤◌, ◌==◌, ◌&&◌, ℤ, negsuc, true, false, [], ◌∷◌, sym, arith, zero, suc, subst}
use Rattle.std.specs.List.{range_with_len, AllByRecursion, flat_map, last_or}
use Rattle.std.proofs.lemmas.List.{length-map}
use Rattle.pbf_wire.specs.Occurrence.{Occurrence, Content, Bytes, items}
use Rattle.pbf_wire.specs.Columns.{column, joined}
use Rattle.pbf_wire.specs.Faults.{embedded, inside, entered, fields_in, fields_of, leaf_faults, column_count, index_faults, sum_faults, index_sum_faults, is_index}
use Rattle.pbf_wire.specs.Signed.{unzigzag, low_sint32, IsWithin, low_i32}
use Rattle.pbf_wire.specs.Sums.{sums, sum_at}
use Rattle.pbf_wire.proofs.SumLemmas.{sums_in_range}
use Rattle.osm_entity.specs.declared.scale.Scale.{Scale}
use Rattle.osm_entity.specs.Sources.{low_32}
use Rattle.pbf_dense.specs.declared.dense_nodes.TheConstants.{ID, DENSEINFO, LAT, LON, KEYS_VALS, DENSE_KINDS}
use Rattle.pbf_dense.specs.declared.dense_info.TheConstants.{TIMESTAMP, CHANGESET, UID, USER_SID, DENSEINFO_KINDS, VERSION}
use Rattle.pbf_dense.specs.Info.{info_along, dense_meta}
use Rattle.pbf_dense.specs.Nodes.{nodes, nodes_along, values_along, node_at, value_at}
use Rattle.pbf_dense.proofs.MovingLemmas.{info_of, moving_same, moving_by_index}
use Rattle.std.specs.Prelude.{Option, Some, None, filter, if◌then◌else◌, slice_get}
use Rattle.std.proofs.lemmas.Int.{ints}
use Rattle.std.proofs.lemmas.Bool.{ltb-true, and_parts}
use Rattle.std.proofs.lemmas.List.FromFn.{length-map-range_with_len}
use Rattle.pbf_wire.specs.declared.fault.Fault.{Fault}
use Rattle.pbf_wire.specs.declared.fault.Reason.TheVariants.{ColumnLengths, OutOfRange, StringIndex}
use Rattle.pbf_wire.specs.declared.kind.Kind.TheVariants as kind
use Rattle.pbf_wire.specs.Wire.{kind_of}
use Rattle.pbf_wire.proofs.AllLemmas.{all_weaker}
use Rattle.pbf_wire.proofs.SoundLemmas.{both_nil, all_nil, is_right, sums_good, sums_within_limit, fields_sound, count_is_length, no_least}
use Rattle.pbf_dense.specs.Judged.{id_count, dense_wire, dense_structure, dense_values, coordinate_counts, dense_info_values, range_faults, texts_named, IsSoundDense, dense_weights, as_stored, fault_before_weights, dense_fault, if_none}
use Rattle.std.specs.Option.{option_or, option_map}
use Rattle.pbf_wire.specs.Least.{least}
use Rattle.osm_entity.specs.Entity.{NodeSpec, node}
use Rattle.osm_entity.specs.Scale.{ScaleFits}
use Rattle.osm_entity.specs.Ranges.{IsStored, IsUid, IfPresent, IsInt32, MetaFits, NodeFits, ScaleTyped, EntityTyped}
use Rattle.osm_entity.specs.Weight.{node_weight}
use Rattle.osm_entity.proofs.RangeLemmas.{int32_typed}
use Rattle.osm_entity.specs.declared.weight.TheConstants.{HIGHEST_WEIGHT}

abbrev pub InRange : ℕ → List Occurrence → Type 0
InRange k os = AllByRecursion (IsWithin (pos (2 ^ 62))) (sums (map unzigzag (column k os)))

-- the sums of a DenseInfo are in range
pub record InfoReads (os : List Occurrence) : Type 0 where
  pub timestamps : InRange TIMESTAMP os
  pub changesets : InRange CHANGESET os
  pub uids : AllByRecursion (IsWithin (pos (2 ^ 30))) (sums (map low_sint32 (column UID os)))
  pub users : AllByRecursion (IsWithin (pos (2 ^ 62))) (sums (map low_sint32 (column USER_SID os)))

-- the sums of a dense message are in range, and its columns are of one count
pub record DenseReads (os : List Occurrence) : Type 0 where
  pub ids : InRange ID os
  pub lats : InRange LAT os
  pub lons : InRange LON os
  pub lats_long : length (column LAT os) ≡ length (column ID os)
  pub lons_long : length (column LON os) ≡ length (column ID os)
  pub info : InfoReads (embedded DENSEINFO os)

pub info_same : (os : List Occurrence) → InfoReads os → info_along os ≡ info_of os
unfolding info_along info_of
info_same os h = rw (sums_in_range (pos (2 ^ 62)) (map unzigzag (column TIMESTAMP os)) h.timestamps, sums_in_range (pos (2 ^ 62)) (map unzigzag (column CHANGESET os)) h.changesets, sums_in_range (pos (2 ^ 30)) (map low_sint32 (column UID os)) h.uids, sums_in_range (pos (2 ^ 62)) (map low_sint32 (column USER_SID os)) h.users) refl

whole : (k : ℕ) (os : List Occurrence) (n : ℕ) → InRange k os → length (column k os) ≡ n → values_along k os ≡ map (sum_at (map unzigzag (column k os))) (range_with_len 0 n)
whole k os n h long = sums_in_range (pos (2 ^ 62)) (map unzigzag (column k os)) h ∙ ap (λ (n : ℕ). map (sum_at (map unzigzag (column k os))) (range_with_len 0 n)) (length-map (column k os) unzigzag ∙ long)

pub reads_same : (table : List (List ℕ)) (scale : Scale) (os : List Occurrence) → DenseReads os → nodes_along table scale os ≡ nodes table scale os
unfolding nodes nodes_along info_of
reads_same table scale os h =
    let n = length (column ID os) in
    moving_same table scale _ _ _ _ _ _ _ _ (map low_32 (column KEYS_VALS os)) (whole ID os n h.ids refl) (whole LAT os n h.lats h.lats_long) (whole LON os n h.lons h.lons_long) (info_same (embedded DENSEINFO os) h.info)
    ∙ moving_by_index table scale (sum_at (map unzigzag (column ID os))) (sum_at (map unzigzag (column LAT os))) (sum_at (map unzigzag (column LON os))) n (info_of (embedded DENSEINFO os)) (map low_32 (column KEYS_VALS os))

-- ---- the last message that a field holds

module _ (k : ℕ) (f : ℕ → ℕ → List ℕ → List Fault) (Q : List Occurrence → Type 0) (step : (place at : ℕ) (bytes : List ℕ) → f place at bytes ≡ [] → Q (fields_in at bytes)) (none : Q []) where
  held : (place : ℕ) (c : Content) → inside (f place) c ≡ [] → Q (inside fields_in c)
  held place (Bytes bytes at) e = step place at bytes e
  held place c e = none

  of_kept : (os : List Occurrence) (s : Option Occurrence) → AllByRecursion (λ o. entered k f o ≡ []) os → Q (fields_of s) → Q (fields_of (last_or s (filter (λ o. o.number == k) os)))
  of_kept [] s h q = q
  of_kept (o ∷ os) s h q =
      let left = filter (λ o. o.number == k) os in
      (elim (o.number == k) as (λ b. (if b then inside (f o.place) o.content else []) ≡ [] → Q (fields_of (last_or s (if b then o ∷ left else left)))) [
        | true ↦ λ e. of_kept os (Some o) h.1 (held o.place o.content e)
        | false ↦ λ e. of_kept os s h.1 q
      ]) h.0

  -- if no message at the field k has a fault, the last has what that shows
  pub embedded_has : (os : List Occurrence) → flat_map (entered k f) os ≡ [] → Q (embedded k os)
  embedded_has os e = of_kept os None (all_nil (entered k f) os e) none

-- ---- values

in_range : (k : ℕ) (os : List Occurrence) → range_faults k os ≡ [] → InRange k os
in_range k os e = sums_within_limit (pos (2 ^ 62)) OutOfRange false (joined k os) e

index_small : (limit : ℕ) (z : ℤ) → limit ≤ 2 ^ 62 → is_index limit z ≡ true → IsWithin (pos (2 ^ 62)) z
index_small limit (pos n) few h = let lt = ltb-true n limit h in record { above = omega (arith, ints); below = omega (arith, ints) }
index_small limit (negsuc n) few h = absurd (cc)

info_reads : (limit : ℕ) → limit ≤ 2 ^ 62 → (place at : ℕ) (bytes : List ℕ) → dense_info_values limit place at bytes ≡ [] → InfoReads (fields_in at bytes)
info_reads limit few place at bytes e =
    let os = fields_in at bytes in
    let first = both_nil (range_faults TIMESTAMP os) _ e in
    let second = both_nil (range_faults CHANGESET os) _ first.1 in
    let third = both_nil (sum_faults (pos (2 ^ 30)) true (joined UID os)) (index_sum_faults limit (joined USER_SID os)) second.1 in
    record {
      timestamps = in_range TIMESTAMP os first.0;
      changesets = in_range CHANGESET os second.0;
      uids = sums_within_limit (pos (2 ^ 30)) OutOfRange true (joined UID os) third.0;
      users = all_weaker _ (IsWithin (pos (2 ^ 62))) (λ z i. index_small limit z few i) _ (sums_good (is_index limit) StringIndex true (joined USER_SID os) third.1);
    }

no_info : InfoReads []
no_info = record { timestamps = tt; changesets = tt; uids = tt; users = tt }

-- ---- counts

module _ (at : ℕ) (m : List ℕ) (e : dense_wire 0 at m ≡ []) where
  counted : (k : ℕ) → kind_of DENSE_KINDS k ≡ Some kind.Column → column_count k (fields_in at m) ≡ length (column k (fields_in at m))
  unfolding dense_wire
  counted k known =
      let inner = entered DENSEINFO (leaf_faults DENSEINFO_KINDS) in
      count_is_length DENSE_KINDS inner k (fields_in at m) known (fields_sound DENSE_KINDS inner (items at m) e)
      ∙ sym (length-map (joined k (fields_in at m)) (λ p. p.0))

  as_long : (k : ℕ) → kind_of DENSE_KINDS k ≡ Some kind.Column → (column_count k (fields_in at m) == column_count ID (fields_in at m)) ≡ true → length (column k (fields_in at m)) ≡ length (column ID (fields_in at m))
  as_long k known h =
      let same : column_count k (fields_in at m) ≡ column_count ID (fields_in at m) = grind arith in
      sym (counted k known) ∙ same ∙ counted ID refl

wire_anywhere : (place at : ℕ) (m : List ℕ) → dense_wire place at m ≡ dense_wire 0 at m
unfolding dense_wire
wire_anywhere place at m = refl

-- ---- how many nodes there are

-- without a wire fault each varint of the column of ids is an id
pub ids_counted : (place at : ℕ) (m : List ℕ) → dense_wire place at m ≡ [] → id_count (fields_in at m) ≡ length (column ID (fields_in at m))
ids_counted place at m e = counted at m (sym (wire_anywhere place at m) ∙ e) ID refl

pub ids_are_nodes : (place at : ℕ) (m : List ℕ) (table : List (List ℕ)) (scale : Scale) → dense_wire place at m ≡ [] → id_count (fields_in at m) ≡ length (nodes table scale (fields_in at m))
unfolding nodes
ids_are_nodes place at m table scale e =
    let os = fields_in at m in
    let n = length (column ID os) in
    ids_counted place at m e ∙ sym (length-map-range_with_len (node_at table scale os) 0 n)

-- ---- the whole message

pub dense_reads : (table : List (List ℕ)) (at : ℕ) (m : List ℕ) → IsSoundDense table at m → DenseReads (fields_in at m)
unfolding dense_structure dense_values
dense_reads table at m h =
    let os = fields_in at m in
    let wire : dense_wire 0 at m ≡ [] = sym (wire_anywhere h.place at m) ∙ h.wire in
    let counts = both_nil (coordinate_counts h.place os) _ h.structure in
    let long = and_parts _ _ (is_right ((column_count LAT os == column_count ID os) && (column_count LON os == column_count ID os)) h.place ColumnLengths counts.0) in
    let ids = both_nil (range_faults ID os) _ h.values in
    let lats = both_nil (range_faults LAT os) _ ids.1 in
    let lons = both_nil (range_faults LON os) _ lats.1 in
    let infos = both_nil (index_faults (length table) (texts_named false (joined KEYS_VALS os))) _ lons.1 in
    record {
      ids = in_range ID os ids.0;
      lats = in_range LAT os lats.0;
      lons = in_range LON os lons.0;
      lats_long = as_long at m wire LAT refl long.0;
      lons_long = as_long at m wire LON refl long.1;
      info = embedded_has DENSEINFO (dense_info_values (length table)) InfoReads (info_reads (length table) h.few) no_info os infos.1;
    }

-- what is read along the columns is what indices give
pub nodes_same : (table : List (List ℕ)) (scale : Scale) (at : ℕ) (m : List ℕ) → IsSoundDense table at m → nodes_along table scale (fields_in at m) ≡ nodes table scale (fields_in at m)
nodes_same table scale at m h = reads_same table scale (fields_in at m) (dense_reads table at m h)

-- ---- the phases of judgement, one after the other

no_first : (f g : Option Fault) → option_or f g ≡ None → f ≡ None
no_first None g e = refl
no_first (Some f) g e = absurd (cc)

no_second : (f g : Option Fault) → option_or f g ≡ None → g ≡ None
no_second None g e = e
no_second (Some f) g e = absurd (cc)

pub early_sound : (table : List (List ℕ)) (place at : ℕ) (m : List ℕ) → length table ≤ 2 ^ 62 → fault_before_weights (length table) place at m ≡ None → IsSoundDense table at m
unfolding fault_before_weights
early_sound table place at m few e =
    let later = no_second (least (dense_wire place at m)) _ e in
    record {
      place = place;
      few = few;
      wire = no_least (dense_wire place at m) (no_first (least (dense_wire place at m)) _ e);
      structure = no_least (dense_structure place at m) (no_first (least (dense_structure place at m)) _ later);
      values = no_least (dense_values (length table) place at m) (no_second (least (dense_structure place at m)) _ later);
    }

pub sound_at : (table : List (List ℕ)) (place at : ℕ) (m : List ℕ) → length table ≤ 2 ^ 62 → dense_fault place at table m ≡ None → IsSoundDense table at m
unfolding dense_fault
sound_at table place at m few e = early_sound table place at m few (no_first (fault_before_weights (length table) place at m) _ e)

-- without a fault before them, the weights are those of the nodes by index
pub weights_last : (table : List (List ℕ)) (place at : ℕ) (m : List ℕ) → length table ≤ 2 ^ 62 → fault_before_weights (length table) place at m ≡ None
    → least (dense_weights place (nodes_along table as_stored (fields_in at m))) ≡ least (if_none (fault_before_weights (length table) place at m) (dense_weights place (nodes table as_stored (fields_in at m))))
weights_last table place at m few e =
    ap (λ (ns : List NodeSpec). least (dense_weights place ns)) (nodes_same table as_stored at m (early_sound table place at m few e))
    ∙ ap (λ (f : Option Fault). least (if_none f (dense_weights place (nodes table as_stored (fields_in at m))))) (sym e)

-- ---- ranges

get_all : (P : ℤ → Type 0) (zs : List ℤ) (i : ℕ) → AllByRecursion P zs → IfPresent P (slice_get zs i)
get_all P [] i h = tt
get_all P (z ∷ zs) zero h = h.0
get_all P (z ∷ zs) (suc i) h = get_all P zs i h.1

meta_fits : (table : List (List ℕ)) (os : List Occurrence) (i : ℕ) → InfoReads os → MetaFits (dense_meta table os i)
meta_fits table os i h = record { timestamp = get_all IsStored _ i h.timestamps; changeset = get_all IsStored _ i h.changesets; uid = get_all IsUid _ i h.uids }

-- a node that is light can be written
abbrev pub FitsLight : NodeSpec → Type 0
FitsLight n = node_weight n ≤ HIGHEST_WEIGHT → NodeFits n

module _ (table : List (List ℕ)) (scale : Scale) (scaled : ScaleFits scale) (os : List Occurrence) (h : DenseReads os) where
  in_all : (k n : ℕ) → InRange k os → length (column k os) ≡ n → AllByRecursion IsStored (map (value_at k os) (range_with_len 0 n))
  in_all k n stored long = subst (λ (n : ℕ). AllByRecursion IsStored (map (value_at k os) (range_with_len 0 n))) (length-map (column k os) unzigzag ∙ long) stored

  each_fits : (places : List ℕ) → AllByRecursion IsStored (map (value_at ID os) places) → AllByRecursion IsStored (map (value_at LAT os) places) → AllByRecursion IsStored (map (value_at LON os) places)
      → AllByRecursion FitsLight (map (node_at table scale os) places)
  each_fits [] ids lats lons = tt
  each_fits (i ∷ places) ids lats lons =
      (λ light. record { id = ids.0; lat = lats.0; lon = lons.0; meta = meta_fits table (embedded DENSEINFO os) i h.info; scale = scaled; light = light }, each_fits places ids.1 lats.1 lons.1)

  all_fit : AllByRecursion FitsLight (nodes table scale os)
  unfolding nodes
  all_fit = let n = length (column ID os) in each_fits (range_with_len 0 n) (in_all ID n h.ids refl) (in_all LAT n h.lats h.lats_long) (in_all LON n h.lons h.lons_long)

pub nodes_fit : (table : List (List ℕ)) (scale : Scale) (at : ℕ) (m : List ℕ) → ScaleFits scale → IsSoundDense table at m → AllByRecursion FitsLight (nodes table scale (fields_in at m))
nodes_fit table scale at m scaled h = all_fit table scale scaled (fields_in at m) (dense_reads table at m h)

-- ---- types

pub version_typed : (version : Option ℕ) → IfPresent IsInt32 (option_map low_i32 version)
version_typed None = tt
version_typed (Some v) = int32_typed v

module _ (table : List (List ℕ)) (scale : Scale) (scaled : ScaleTyped scale) (os : List Occurrence) where
  each_typed : (places : List ℕ) → AllByRecursion (λ n. EntityTyped (node n)) (map (node_at table scale os) places)
  each_typed [] = tt
  each_typed (i ∷ places) = (record { version = version_typed (slice_get (column VERSION (embedded DENSEINFO os)) i); scale = scaled }, each_typed places)

  pub nodes_typed : AllByRecursion (λ n. EntityTyped (node n)) (nodes table scale os)
  unfolding nodes
  nodes_typed = each_typed (range_with_len 0 (length (column ID os)))
