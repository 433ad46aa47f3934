-- A dense message that is written has no fault, and its nodes are those that it was written of.
use Rattle.pbf_dense.proofs.MovingLemmas.{runs_on, info_of, moving_same, moving_by_index, run_on}
use Rattle.pbf_wire.specs.Wire.{kind_of}
use Rattle.pbf_wire.specs.declared.kind.Kind.TheVariants as kind
use Rattle.std.proofs.Common.{◌≡◌, ℕ, suc, ◌%◌, ◌^◌, ◌<◌, ◌≤◌, ◌==◌, ℤ, pos, Bool, true, false, List, [], ◌∷◌, ◌++◌, length, map, Option, Some, None, refl, sym, ap, ap₂, subst, ◌∙◌, arith, true≢false}
use Rattle.std.specs.Prelude.{not, if◌then◌else◌, unwrap_or}
use Rattle.std.specs.List.{flat_map, filter_map, cons_option, AllByRecursion, list_any, range_with_len}
use Rattle.std.specs.Option.{option_map, option_to_list}
use Rattle.std.proofs.lemmas.Int.{ints}
use Rattle.std.proofs.lemmas.Bool.{lt-ltb, le-ltb, or_parts}
use Rattle.std.proofs.lemmas.List.{append-nil, length-map}
use Rattle.pbf_wire.specs.declared.fault.Fault.{Fault}
use Rattle.pbf_wire.specs.declared.fault.Reason.TheVariants.{KeysVals, EntityLarge}
use Rattle.pbf_wire.specs.Occurrence.{Bytes, Occurrence}
use Rattle.pbf_wire.specs.Columns.{joined, column}
use Rattle.pbf_wire.specs.Signed.{sign_extended, unzigzag}
use Rattle.pbf_wire.specs.Sums.{deltas, sums, sum_at}
use Rattle.pbf_wire.specs.Faults.{fault_where, entered, fields_in, leaf_faults, column_count, index_faults, is_index, twice, embedded}
use Rattle.pbf_wire.specs.Message.{message, unless_empty, SlotFits, SlotIs, numbers_at, messages_at}
use Rattle.pbf_wire.proofs.MessageLemmas.{column_written, embedded_below}
use Rattle.pbf_wire.proofs.SumLemmas.{deltas_fit, signs_fit, sums_of_deltas}
use Rattle.pbf_wire.proofs.NoFaultLemmas.{SlotQuiet, field_at, column_quiet, fields_quiet, no_fault_within, counted_written, indexes_good, once_written, unless_all, unless_below, unless_few, column_passed, embedded_or_none}
use Rattle.pbf_strings.specs.TableOut.{has_text, index_in, table_of}
use Rattle.pbf_strings.proofs.UsedTexts.{index_below, text_at_index}
use Rattle.osm_entity.specs.Entity.{TagSpec, MetaSpec, NodeSpec}
use Rattle.osm_entity.specs.EntityTexts.{tag_texts, node_texts}
use Rattle.osm_entity.specs.Ranges.{NodeFits, MetaFits, IfPresent, IsInt32, IsStored, IsUid}
use Rattle.osm_entity.specs.Sources.{low_32, tag_of, run}
use Rattle.osm_entity.specs.declared.scale.Scale.{Scale}
use Rattle.pbf_wire.proofs.AllLemmas.{all_append, all_left, all_right, all_map, all_weaker}
use Rattle.pbf_dense.specs.declared.dense_nodes.TheConstants.{DENSE_KINDS, ID, DENSEINFO, LAT, LON, KEYS_VALS}
use Rattle.pbf_dense.specs.declared.dense_info.TheConstants.{DENSEINFO_KINDS}
use Rattle.pbf_dense.specs.Judged.{dense_wire, dense_structure, dense_values, coordinate_counts, are_runs, are_tag_runs, run_faults, info_counts, texts_named, dense_info_values, node_weight_fault, dense_weights, as_stored, fault_before_weights, dense_fault}
use Rattle.pbf_dense.specs.WrittenDense.{bit_of, info_columns, dense_info_slots, dense_info_message, tag_numbers, run_of, DenseColumns, columns_of, dense_slots, dense_message, HaveSameFields, NodesHeld, are_some, has_tag}
use Rattle.pbf_dense.proofs.InfoLaw.{InfoFits, InfoCounts, no_faults_joined, wide_good, deltas_length, info_leaf, info_counted, info_valued, all_or_none, mapped, alike_later, meta_given, info_later, info_read}
use Rattle.osm_entity.proofs.TagLemmas.{run_goes_on}
use Rattle.pbf_dense.specs.Info.{InfoSpec}
use Rattle.pbf_dense.specs.Runs.{after_run}
use Rattle.pbf_dense.specs.Nodes.{nodes, nodes_of_columns}

-- ---- what each node has

abbrev pub NamedNode : List (List ℕ) → NodeSpec → Type 0
NamedNode texts n = AllByRecursion (λ text. has_text texts text ≡ true) (tag_texts n.tags) × AllByRecursion (λ text. has_text texts text ≡ true) (option_to_list n.meta.user)

-- the texts of each node are among the texts
pub nodes_named : (texts : List (List ℕ)) (ns : List NodeSpec) → AllByRecursion (λ text. has_text texts text ≡ true) (flat_map node_texts ns) → AllByRecursion (NamedNode texts) ns
nodes_named texts [] h = tt
nodes_named texts (n ∷ ns) h =
    let own = all_left (λ text. has_text texts text ≡ true) (node_texts n) (flat_map node_texts ns) h in (
      (all_left (λ text. has_text texts text ≡ true) (tag_texts n.tags) (option_to_list n.meta.user) own, all_right (λ text. has_text texts text ≡ true) (tag_texts n.tags) (option_to_list n.meta.user) own),
      nodes_named texts ns (all_right (λ text. has_text texts text ≡ true) (node_texts n) (flat_map node_texts ns) h),
    )

-- what holds of a field of each
present_all : {X Y : Type 0} (P : Y → Type 0) (Q : X → Type 0) (f : X → Option Y) (xs : List X) → ((x : X) (y : Y) → Q x → f x ≡ Some y → P y) → AllByRecursion Q xs → AllByRecursion P (filter_map f xs)
present_all P Q f [] each h = tt
present_all P Q f (x ∷ xs) each h =
    let rest = present_all P Q f xs each h.1 in
    elim (f x) as (λ o. f x ≡ o → AllByRecursion P (cons_option o (filter_map f xs))) [ None ↦ λ _. rest | Some y ↦ λ e. (each x y h.0 e, rest) ] refl

-- ---- the columns of metadata

abbrev IsNamed : List (List ℕ) → MetaSpec → Type 0
IsNamed texts m = AllByRecursion (λ text. has_text texts text ≡ true) (option_to_list m.user)

abbrev Good : List (List ℕ) → MetaSpec → Type 0
Good texts m = IfPresent IsInt32 m.version × MetaFits m × IsNamed texts m

if_present : (P : ℤ → Type 0) (o : Option ℤ) (z : ℤ) → IfPresent P o → o ≡ Some z → P z
if_present P o z h e = subst (IfPresent P) e h

version_fits : (o : Option ℤ) (v : ℕ) → IfPresent IsInt32 o → option_map sign_extended o ≡ Some v → v < 2 ^ 64
version_fits None v h e = absurd cc
version_fits (Some z) v h e = let same : sign_extended z ≡ v = cc in subst (λ v. v < 2 ^ 64) same (signs_fit z (omega (arith, ints, h.0)) (omega (arith, ints, h.1)))

index_is : (texts : List (List ℕ)) (o : Option (List ℕ)) (z : ℤ) → AllByRecursion (λ text. has_text texts text ≡ true) (option_to_list o) → option_map (λ text. pos (index_in texts text)) o ≡ Some z → is_index (length (table_of texts)) z ≡ true
index_is texts None z h e = absurd cc
index_is texts (Some text) z h e =
    let same : pos (index_in texts text) ≡ z = cc in
    subst (λ z. is_index (length (table_of texts)) z ≡ true) same (lt-ltb _ _ (index_below texts text h.0))

bit_fits : (o : Option Bool) (v : ℕ) → option_map bit_of o ≡ Some v → v < 2 ^ 64
bit_fits None v e = absurd cc
bit_fits (Some true) v e = let same : 1 ≡ v = cc in omega (arith, same)
bit_fits (Some false) v e = let same : 0 ≡ v = cc in omega (arith, same)

info_fits : (texts : List (List ℕ)) (metas : List MetaSpec) → AllByRecursion (Good texts) metas → InfoFits (length (table_of texts)) (info_columns texts metas)
info_fits texts metas h = record {
  versions = present_all (λ v. v < 2 ^ 64) (Good texts) (λ m. option_map sign_extended m.version) metas (λ m v good e. version_fits m.version v good.0 e) h;
  timestamps = present_all IsStored (Good texts) (λ m. m.timestamp) metas (λ m z good e. if_present IsStored m.timestamp z good.1.timestamp e) h;
  changesets = present_all IsStored (Good texts) (λ m. m.changeset) metas (λ m z good e. if_present IsStored m.changeset z good.1.changeset e) h;
  uids = present_all IsUid (Good texts) (λ m. m.uid) metas (λ m z good e. if_present IsUid m.uid z good.1.uid e) h;
  users = present_all (λ z. is_index (length (table_of texts)) z ≡ true) (Good texts) (λ m. option_map (λ text. pos (index_in texts text)) m.user) metas (λ m z good e. index_is texts m.user z good.2 e) h;
  visible = present_all (λ v. v < 2 ^ 64) (Good texts) (λ m. option_map bit_of m.visible) metas (λ m v good e. bit_fits m.visible v e) h;
}

info_counts_are : (texts : List (List ℕ)) (metas : List MetaSpec) → HaveSameFields metas → InfoCounts (length metas) (info_columns texts metas)
info_counts_are texts metas h = record {
  versions = all_or_none (λ m. option_map sign_extended m.version) metas (mapped (λ m. m.version) sign_extended metas h.version);
  timestamps = all_or_none (λ m. m.timestamp) metas h.timestamp;
  changesets = all_or_none (λ m. m.changeset) metas h.changeset;
  uids = all_or_none (λ m. m.uid) metas h.uid;
  users = all_or_none (λ m. option_map (λ text. pos (index_in texts text)) m.user) metas (mapped (λ m. m.user) (λ text. pos (index_in texts text)) metas h.user);
  visible = all_or_none (λ m. option_map bit_of m.visible) metas (mapped (λ m. m.visible) bit_of metas h.visible);
}

-- ---- the tags

abbrev below_32 : ℕ → Type 0
below_32 n = n < 2 ^ 32

tags_below : (texts : List (List ℕ)) (tags : List TagSpec) → AllByRecursion (λ text. has_text texts text ≡ true) (tag_texts tags) → AllByRecursion (λ n. n < length (table_of texts)) (tag_numbers texts tags)
tags_below texts [] h = tt
tags_below texts (t ∷ tags) h = (index_below texts t.0 h.0, (index_below texts t.1 h.1.0, tags_below texts tags h.1.1))

runs_below : (texts : List (List ℕ)) (ns : List NodeSpec) → AllByRecursion (NamedNode texts) ns → AllByRecursion (λ n. n < length (table_of texts)) (flat_map (λ n. run_of texts n.tags) ns)
runs_below texts [] h = tt
runs_below texts (n ∷ ns) h =
    all_append (λ n. n < length (table_of texts)) (run_of texts n.tags) (flat_map (λ n. run_of texts n.tags) ns)
    (all_append (λ n. n < length (table_of texts)) (tag_numbers texts n.tags) (0 ∷ []) (tags_below texts n.tags h.0.0) (omega arith, tt))
    (runs_below texts ns h.1)

-- the runs, if a node has a tag
abbrev pub written_runs : Bool → List ℕ → List ℕ
written_runs tagged runs = if tagged then runs else []

if_written : (P : ℕ → Type 0) (tagged : Bool) (runs : List ℕ) → AllByRecursion P runs → AllByRecursion P (written_runs tagged runs)
if_written P true runs h = h
if_written P false runs h = tt

index_positive : (texts : List (List ℕ)) (text : List ℕ) → 0 < index_in texts text
index_positive texts text = omega arith

run_is : (texts : List (List ℕ)) (tags : List TagSpec) (n : ℕ) (rest : List ℕ) → are_runs (suc n) (run_of texts tags ++ rest) ≡ are_runs n rest
run_is texts [] n rest = refl
run_is texts (t ∷ tags) n rest = runs_on (suc n) (index_in texts t.0) (index_in texts t.1) (run_of texts tags ++ rest) (omega arith) (index_positive texts t.0) ∙ run_is texts tags n rest

runs_are : (texts : List (List ℕ)) (ns : List NodeSpec) → are_runs (length ns) (flat_map (λ n. run_of texts n.tags) ns) ≡ true
runs_are texts [] = refl
runs_are texts (n ∷ ns) = run_is texts n.tags (length ns) (flat_map (λ n. run_of texts n.tags) ns) ∙ runs_are texts ns

runs_or_none : (n : ℕ) (column : List ℕ) → are_runs n column ≡ true → are_tag_runs n column ≡ true
runs_or_none n [] h = refl
runs_or_none n (x ∷ column) h = h

tags_are : (tagged : Bool) (n : ℕ) (runs : List ℕ) → are_runs n runs ≡ true → are_tag_runs n (written_runs tagged runs) ≡ true
tags_are true n runs h = runs_or_none n runs h
tags_are false n runs h = refl

all_low : (ns : List ℕ) → AllByRecursion below_32 ns → map low_32 ns ≡ ns
all_low [] h = refl
all_low (n ∷ ns) h = ap₂ (λ (x : ℕ) (xs : List ℕ). x ∷ xs) (omega (arith, h.0)) (all_low ns h.1)

below_more : (limit more : ℕ) (ns : List ℕ) → limit ≤ more → AllByRecursion (λ n. n < limit) ns → AllByRecursion (λ n. n < more) ns
below_more limit more ns le h = all_weaker _ _ (λ n lt. omega (arith, lt, le)) ns h

-- what holds of all numbers holds of those that name texts
named_all : (P : ℕ → Type 0) (in_value : Bool) (xs : List (ℕ × ℕ)) → AllByRecursion P (map (λ p. p.0) xs) → AllByRecursion P (map (λ p. p.0) (texts_named in_value xs))
named_all P in_value [] h = tt
named_all P true (x ∷ xs) h = (h.0, named_all P false xs h.1)
named_all P false (x ∷ xs) h =
    elim (low_32 x.0 == 0) as (λ b. AllByRecursion P (map (λ p. p.0) (if b then texts_named false xs else x ∷ texts_named true xs))) [ true ↦ named_all P false xs h.1 | false ↦ (h.0, named_all P true xs h.1) ]

-- ---- the message

metas_good : (texts : List (List ℕ)) (ns : List NodeSpec) → AllByRecursion NodeFits ns → AllByRecursion (λ n. IfPresent IsInt32 n.meta.version) ns → AllByRecursion (NamedNode texts) ns → AllByRecursion (Good texts) (map (λ n. n.meta) ns)
metas_good texts [] fit versions named = tt
metas_good texts (n ∷ ns) fit versions named = ((versions.0, fit.0.meta, named.0.1), metas_good texts ns fit.1 versions.1 named.1)

stored_all : (f : NodeSpec → ℤ) (ns : List NodeSpec) → ((n : NodeSpec) → NodeFits n → IsStored (f n)) → AllByRecursion NodeFits ns → AllByRecursion IsStored (map f ns)
stored_all f ns each h = all_map IsStored f ns (all_weaker _ _ each ns h)

pub column_long : (f : NodeSpec → ℤ) (ns : List NodeSpec) → length (deltas (map f ns) ++ []) ≡ length ns
column_long f ns = ap (λ (w : List ℕ). length w) (append-nil (deltas (map f ns))) ∙ deltas_length (map f ns) ∙ length-map ns f

-- only the DenseInfo is a message
pub infos_are : (c : DenseColumns) → flat_map (messages_at DENSEINFO) (dense_slots c) ≡ unless_empty (dense_info_message c.info)
infos_are c =
    column_passed DENSEINFO ID (deltas c.ids) _ refl
    ∙ ap (λ (w : List (List ℕ)). unless_empty (dense_info_message c.info) ++ w)
    (column_passed DENSEINFO LAT (deltas c.lats) _ refl ∙ column_passed DENSEINFO LON (deltas c.lons) _ refl ∙ column_passed DENSEINFO KEYS_VALS (written_runs c.tagged c.runs) [] refl)
    ∙ append-nil _

module _ (texts : List (List ℕ)) (scale : Scale) (ns : List NodeSpec) (h : NodesHeld texts scale ns) where
  abbrev written : DenseColumns
  written = columns_of texts ns

  named : AllByRecursion (NamedNode texts) ns
  named = nodes_named texts ns h.named

  pub short : length (message (dense_slots (columns_of texts ns))) < 2 ^ 64
  unfolding dense_message
  short = h.short

  pub info_short : length (message (dense_info_slots written.info)) < 2 ^ 64
  unfolding dense_info_message
  info_short = unless_below (2 ^ 64) (dense_info_message written.info) (omega arith) (embedded_below (2 ^ 64) (dense_slots written) short).1.0

  pub info_fit : InfoFits (length (table_of texts)) written.info
  info_fit = info_fits texts (map (λ n. n.meta) ns) (metas_good texts ns h.fit h.versions named)

  runs_fit : AllByRecursion (λ n. n < length (table_of texts)) (written_runs written.tagged written.runs)
  runs_fit = if_written (λ n. n < length (table_of texts)) written.tagged written.runs (runs_below texts ns named)

  pub dense_fits : AllByRecursion SlotFits (dense_slots written)
  dense_fits = (
    (omega arith, omega arith, deltas_fit written.ids (stored_all (λ n. n.id) ns (λ n f. f.id) h.fit)),
    (
      (omega arith, omega arith),
      (
        (omega arith, omega arith, deltas_fit written.lats (stored_all (λ n. n.lat) ns (λ n f. f.lat) h.fit)),
        (
          (omega arith, omega arith, deltas_fit written.lons (stored_all (λ n. n.lon) ns (λ n f. f.lon) h.fit)),
          ((omega arith, omega arith, below_more (length (table_of texts)) (2 ^ 64) _ (omega (arith, h.few)) runs_fit), tt),
        ),
      ),
    ),
  )

  dense_are : AllByRecursion (SlotIs DENSE_KINDS) (dense_slots written)
  dense_are = (refl, (refl, (refl, (refl, (refl, tt)))))

  -- what is required of DenseInfos is required of the written one
  only_info : (g : ℕ → ℕ → List ℕ → List Fault) → ((place at : ℕ) → g place at (dense_info_message written.info) ≡ []) → AllByRecursion (SlotQuiet (entered DENSEINFO g)) (dense_slots written)
  only_info g e = (
    column_quiet (entered DENSEINFO g) ID (deltas written.ids) (λ place at bytes. refl),
    (
      unless_all (λ m. (place at : ℕ) → entered DENSEINFO g (field_at place DENSEINFO (Bytes m at)) ≡ []) (dense_info_message written.info) e,
      (
        column_quiet (entered DENSEINFO g) LAT (deltas written.lats) (λ place at bytes. refl),
        (
          column_quiet (entered DENSEINFO g) LON (deltas written.lons) (λ place at bytes. refl),
          (column_quiet (entered DENSEINFO g) KEYS_VALS (written_runs written.tagged written.runs) (λ place at bytes. refl), tt),
        ),
      ),
    ),
  )

  info_wire : (place at : ℕ) → leaf_faults DENSEINFO_KINDS place at (dense_info_message written.info) ≡ []
  unfolding dense_info_message
  info_wire = info_leaf (length (table_of texts)) written.info info_fit h.few info_short

  pub wire_written : (place at : ℕ) → dense_wire place at (dense_message texts ns) ≡ []
  unfolding dense_wire dense_message
  wire_written place at =
      no_fault_within DENSE_KINDS (entered DENSEINFO (leaf_faults DENSEINFO_KINDS)) at (dense_slots written) dense_are (only_info (leaf_faults DENSEINFO_KINDS) info_wire) dense_fits short

  -- ---- structure

  count_of : (k at : ℕ) → kind_of DENSE_KINDS k ≡ Some kind.Column → column_count k (fields_in at (message (dense_slots written))) ≡ length (flat_map (numbers_at k) (dense_slots written))
  count_of k at known = counted_written DENSE_KINDS k at (dense_slots written) known dense_are dense_fits short

  ids_counted : (at : ℕ) → column_count ID (fields_in at (message (dense_slots written))) ≡ length ns
  ids_counted at = count_of ID at refl ∙ column_long (λ n. n.id) ns

  lats_counted : (at : ℕ) → column_count LAT (fields_in at (message (dense_slots written))) ≡ length ns
  lats_counted at = count_of LAT at refl ∙ column_long (λ n. n.lat) ns

  lons_counted : (at : ℕ) → column_count LON (fields_in at (message (dense_slots written))) ≡ length ns
  lons_counted at = count_of LON at refl ∙ column_long (λ n. n.lon) ns

  pub dense_column : (k at : ℕ) → column k (fields_in at (message (dense_slots written))) ≡ flat_map (numbers_at k) (dense_slots written)
  dense_column k at = column_written k at (dense_slots written) dense_fits short

  coordinates_counted : (place at : ℕ) → coordinate_counts place (fields_in at (message (dense_slots written))) ≡ []
  coordinates_counted place at = grind (arith, lats_counted at, lons_counted at, ids_counted at)

  pub low_runs : (at : ℕ) → map low_32 (column KEYS_VALS (fields_in at (message (dense_slots written)))) ≡ written_runs written.tagged written.runs
  low_runs at =
      ap (λ (w : List ℕ). map low_32 w) (dense_column KEYS_VALS at ∙ append-nil (written_runs written.tagged written.runs))
      ∙ all_low (written_runs written.tagged written.runs) (below_more (length (table_of texts)) (2 ^ 32) _ (omega (arith, h.few)) runs_fit)

  runs_sound : (place at : ℕ) → run_faults place (fields_in at (message (dense_slots written))) ≡ []
  runs_sound place at =
      ap₂ (λ (n : ℕ) (w : List ℕ). fault_where (not (are_tag_runs n w)) place KeysVals) (ids_counted at) (low_runs at)
      ∙ ap (λ b. fault_where (not b) place KeysVals) (tags_are written.tagged (length ns) written.runs (runs_are texts ns))

  info_once : (at : ℕ) → twice DENSEINFO (fields_in at (message (dense_slots written))) ≡ []
  info_once at = once_written DENSEINFO at (dense_slots written) dense_fits short (omega (arith, ap (λ (w : List (List ℕ)). length w) (infos_are written), unless_few (dense_info_message written.info)))

  info_sound : (n place at : ℕ) → n ≡ length ns → info_counts n place at (dense_info_message written.info) ≡ []
  unfolding dense_info_message
  info_sound n place at e =
      info_counted (length (table_of texts)) written.info info_fit h.few info_short n place at
      (subst (λ n. InfoCounts n written.info) (length-map ns (λ n. n.meta) ∙ sym e) (info_counts_are texts (map (λ n. n.meta) ns) h.alike))

  infos_sound : (at : ℕ) → flat_map (entered DENSEINFO (info_counts (column_count ID (fields_in at (message (dense_slots written)))))) (fields_in at (message (dense_slots written))) ≡ []
  infos_sound at =
      let n = column_count ID (fields_in at (message (dense_slots written))) in
      fields_quiet (entered DENSEINFO (info_counts n)) at (dense_slots written) (only_info (info_counts n) (λ place inner. info_sound n place inner (ids_counted at))) dense_fits short

  pub structure_written : (place at : ℕ) → dense_structure place at (dense_message texts ns) ≡ []
  unfolding dense_structure dense_message
  structure_written place at =
      no_faults_joined _ _ (coordinates_counted place at) (no_faults_joined _ _ (runs_sound place at) (no_faults_joined _ _ (info_once at) (infos_sound at)))

  -- ---- values

  info_good : (place at : ℕ) → dense_info_values (length (table_of texts)) place at (dense_info_message written.info) ≡ []
  unfolding dense_info_message
  info_good = info_valued (length (table_of texts)) written.info info_fit h.few info_short

  infos_good : (at : ℕ) → flat_map (entered DENSEINFO (dense_info_values (length (table_of texts)))) (fields_in at (message (dense_slots written))) ≡ []
  infos_good at = fields_quiet (entered DENSEINFO (dense_info_values (length (table_of texts)))) at (dense_slots written) (only_info (dense_info_values (length (table_of texts))) info_good) dense_fits short

  runs_good : (at : ℕ) → index_faults (length (table_of texts)) (texts_named false (joined KEYS_VALS (fields_in at (message (dense_slots written))))) ≡ []
  runs_good at =
      let limit = length (table_of texts) in
      let all = all_weaker _ (λ n. n % 2 ^ 32 < limit) (λ n lt. omega (arith, lt, h.few)) _ runs_fit in
      indexes_good limit _ (named_all (λ n. n % 2 ^ 32 < limit) false (joined KEYS_VALS (fields_in at (message (dense_slots written))))
      (subst (λ (w : List ℕ). AllByRecursion (λ n. n % 2 ^ 32 < limit) w) (sym (dense_column KEYS_VALS at ∙ append-nil (written_runs written.tagged written.runs))) all))

  pub values_written : (place at : ℕ) → dense_values (length (table_of texts)) place at (dense_message texts ns) ≡ []
  unfolding dense_values dense_message
  values_written place at =
      no_faults_joined _ _ (wide_good (pos (2 ^ 62)) _ written.ids (dense_column ID at ∙ append-nil _) (stored_all (λ n. n.id) ns (λ n f. f.id) h.fit))
      (no_faults_joined _ _ (wide_good (pos (2 ^ 62)) _ written.lats (dense_column LAT at ∙ append-nil _) (stored_all (λ n. n.lat) ns (λ n f. f.lat) h.fit))
      (no_faults_joined _ _ (wide_good (pos (2 ^ 62)) _ written.lons (dense_column LON at ∙ append-nil _) (stored_all (λ n. n.lon) ns (λ n f. f.lon) h.fit))
      (no_faults_joined _ _ (runs_good at) (infos_good at))))

-- ---- by index is by columns that move together, whatever is in them

nodes_moving : (table : List (List ℕ)) (scale : Scale) (os : List Occurrence) → length (column LAT os) ≡ length (column ID os) → length (column LON os) ≡ length (column ID os)
    → nodes table scale os ≡ nodes_of_columns table scale (sums (map unzigzag (column ID os))) (sums (map unzigzag (column LAT os))) (sums (map unzigzag (column LON os))) (info_of (embedded DENSEINFO os)) (map low_32 (column KEYS_VALS os))
unfolding nodes info_of
nodes_moving table scale os lats lons =
    let n = length (column ID os) in
    let along : (k : ℕ) → length (column k os) ≡ n → map (sum_at (map unzigzag (column k os))) (range_with_len 0 n) ≡ sums (map unzigzag (column k os)) =
    λ k e. ap (λ n. map (sum_at (map unzigzag (column k os))) (range_with_len 0 n)) (sym (length-map (column k os) unzigzag ∙ e)) in
    sym (moving_by_index table scale (sum_at (map unzigzag (column ID os))) (sum_at (map unzigzag (column LAT os))) (sum_at (map unzigzag (column LON os))) n (info_of (embedded DENSEINFO os)) (map low_32 (column KEYS_VALS os)))
    ∙ moving_same table scale _ _ _ _ _ _ _ _ (map low_32 (column KEYS_VALS os)) (along ID refl) (along LAT lats) (along LON lons) refl

-- ---- runs

tag_named : (texts : List (List ℕ)) (t : TagSpec) → has_text texts t.0 ≡ true → has_text texts t.1 ≡ true → tag_of (table_of texts) (index_in texts t.0, index_in texts t.1) ≡ t
tag_named texts t p q =
    ap₂ (λ (k v : Option (List ℕ)). (unwrap_or k [], unwrap_or v [])) (text_at_index texts t.0 p) (text_at_index texts t.1 q)

-- a written run gives its tags
run_given : (texts : List (List ℕ)) (tags : List TagSpec) (rest : List ℕ) → AllByRecursion (λ text. has_text texts text ≡ true) (tag_texts tags) → map (tag_of (table_of texts)) (run (run_of texts tags ++ rest)) ≡ tags
run_given texts [] rest h = refl
run_given texts (t ∷ tags) rest h =
    ap (map (tag_of (table_of texts))) (run_goes_on (index_in texts t.0) (index_in texts t.1) (run_of texts tags ++ rest) (omega arith))
    ∙ ap₂ (λ (x : TagSpec) (xs : List TagSpec). x ∷ xs) (tag_named texts t h.0 h.1.0) (run_given texts tags rest h.1.1)

run_passed : (texts : List (List ℕ)) (tags : List TagSpec) (rest : List ℕ) → after_run (run_of texts tags ++ rest) ≡ rest
run_passed texts [] rest = refl
run_passed texts (t ∷ tags) rest = run_on (index_in texts t.0) (index_in texts t.1) (run_of texts tags ++ rest) (omega arith) ∙ run_passed texts tags rest

-- the column gives the tags of these nodes, one after the other
abbrev GivesTags : List (List ℕ) → List ℕ → List NodeSpec → Type 0
GivesTags table column [] = Unit {0}
GivesTags table column (n ∷ ns) = (map (tag_of table) (run column) ≡ n.tags) × GivesTags table (after_run column) ns

runs_give : (texts : List (List ℕ)) (ns : List NodeSpec) (column : List ℕ) → column ≡ flat_map (λ n. run_of texts n.tags) ns → AllByRecursion (NamedNode texts) ns → GivesTags (table_of texts) column ns
runs_give texts [] column e h = tt
runs_give texts (n ∷ ns) column e h =
    let rest = flat_map (λ n. run_of texts n.tags) ns in (
      ap (λ (w : List ℕ). map (tag_of (table_of texts)) (run w)) e ∙ run_given texts n.tags rest h.0.0,
      runs_give texts ns (after_run column) (ap after_run e ∙ run_passed texts n.tags rest) h.1,
    )

no_tags : (tags : List TagSpec) → are_some tags ≡ false → tags ≡ []
no_tags [] e = refl
no_tags (t ∷ tags) e = absurd (true≢false e)

none_give : (table : List (List ℕ)) (ns : List NodeSpec) → list_any has_tag ns ≡ false → GivesTags table [] ns
none_give table [] e = tt
none_give table (n ∷ ns) e = let both = or_parts (has_tag n) (list_any has_tag ns) e in (sym (no_tags n.tags both.0), none_give table ns both.1)

tags_given : (texts : List (List ℕ)) (ns : List NodeSpec) → AllByRecursion (NamedNode texts) ns → GivesTags (table_of texts) (written_runs (list_any has_tag ns) (flat_map (λ n. run_of texts n.tags) ns)) ns
tags_given texts ns h =
    elim (list_any has_tag ns) as (λ b. list_any has_tag ns ≡ b → GivesTags (table_of texts) (written_runs b (flat_map (λ n. run_of texts n.tags) ns)) ns)
    [ true ↦ λ _. runs_give texts ns _ refl h | false ↦ λ e. none_give (table_of texts) ns e ] refl

-- ---- nodes

-- the node with the numbers that it has at another scale
abbrev at_scale : Scale → NodeSpec → NodeSpec
at_scale scale n = record n { scale = scale }

node_same : (n : NodeSpec) (meta : MetaSpec) (tags : List TagSpec) (scale : Scale) → meta ≡ n.meta → tags ≡ n.tags
    → ◌≡◌ {A = NodeSpec} (record { id = n.id; lat = n.lat; lon = n.lon; meta = meta; tags = tags; scale = scale }) (at_scale scale n)
node_same n meta tags scale p q = rw (p, q) refl

columns_give : (texts : List (List ℕ)) (scale : Scale) (ns : List NodeSpec) (column : List ℕ) → HaveSameFields (map (λ n. n.meta) ns) → AllByRecursion (λ n. IfPresent IsInt32 n.meta.version) ns → AllByRecursion (NamedNode texts) ns
    → GivesTags (table_of texts) column ns → nodes_of_columns (table_of texts) scale (map (λ n. n.id) ns) (map (λ n. n.lat) ns) (map (λ n. n.lon) ns) (info_columns texts (map (λ n. n.meta) ns)) column ≡ map (at_scale scale) ns
columns_give texts scale [] column alike versions known given = refl
columns_give texts scale (n ∷ ns) column alike versions known given =
    let metas = map (λ n. n.meta) ns in
    ap₂ (λ (x : NodeSpec) (xs : List NodeSpec). x ∷ xs)
    (node_same n _ _ scale (meta_given texts n.meta metas alike versions.0 known.0.1) given.0)
    (ap (λ (info : InfoSpec). nodes_of_columns (table_of texts) scale (map (λ n. n.id) ns) (map (λ n. n.lat) ns) (map (λ n. n.lon) ns) info (after_run column)) (info_later texts n.meta metas alike)
    ∙ columns_give texts scale ns (after_run column) (alike_later n.meta metas alike) versions.1 known.1 given.1)

one_scaled : (scale : Scale) (n : NodeSpec) → n.scale ≡ scale → at_scale scale n ≡ n
one_scaled scale n e = ap (λ (s : Scale). at_scale s n) (sym e)

all_scaled : (scale : Scale) (ns : List NodeSpec) → AllByRecursion (λ n. n.scale ≡ scale) ns → map (at_scale scale) ns ≡ ns
all_scaled scale [] h = refl
all_scaled scale (n ∷ ns) h = ap₂ (λ (x : NodeSpec) (xs : List NodeSpec). x ∷ xs) (one_scaled scale n h.0) (all_scaled scale ns h.1)

all_light : (place : ℕ) (scale : Scale) (ns : List NodeSpec) → AllByRecursion NodeFits ns → flat_map (node_weight_fault place) (map (at_scale scale) ns) ≡ []
all_light place scale [] h = refl
all_light place scale (n ∷ ns) h = no_faults_joined _ _ (ap (λ b. fault_where b place EntityLarge) (le-ltb _ _ h.0.light)) (all_light place scale ns h.1)

-- ---- the message

module _ (texts : List (List ℕ)) (scale : Scale) (ns : List NodeSpec) (h : NodesHeld texts scale ns) where
  info_there : (at : ℕ) → info_of (fields_in at (dense_info_message (info_columns texts (map (λ n. n.meta) ns)))) ≡ info_columns texts (map (λ n. n.meta) ns)
  unfolding dense_info_message
  info_there at = info_read (length (table_of texts)) (info_columns texts (map (λ n. n.meta) ns)) (info_fit texts scale ns h) h.few (info_short texts scale ns h) at

  info_back : (at : ℕ) → info_of (embedded DENSEINFO (fields_in at (message (dense_slots (columns_of texts ns))))) ≡ info_columns texts (map (λ n. n.meta) ns)
  info_back at =
      let c = columns_of texts ns in
      let held = embedded_or_none DENSEINFO at (dense_slots c) (dense_info_message c.info) (dense_fits texts scale ns h) (short texts scale ns h) (infos_are c) refl in
      ap info_of held.1 ∙ info_there held.0

  values_back : (k at : ℕ) (values : List ℤ) → column k (fields_in at (message (dense_slots (columns_of texts ns)))) ≡ deltas values ++ [] → sums (map unzigzag (column k (fields_in at (message (dense_slots (columns_of texts ns)))))) ≡ values
  values_back k at values e = ap (λ (ns : List ℕ). sums (map unzigzag ns)) (e ∙ append-nil (deltas values)) ∙ sums_of_deltas values

  long : (k at : ℕ) (f : NodeSpec → ℤ) → column k (fields_in at (message (dense_slots (columns_of texts ns)))) ≡ deltas (map f ns) ++ [] → length (column k (fields_in at (message (dense_slots (columns_of texts ns))))) ≡ length ns
  long k at f e = ap (λ (w : List ℕ). length w) e ∙ column_long f ns

  nodes_at_scale : (other : Scale) (at : ℕ) → nodes (table_of texts) other (fields_in at (dense_message texts ns)) ≡ map (at_scale other) ns
  unfolding dense_message
  nodes_at_scale other at =
      let at_column : (k : ℕ) → column k (fields_in at (message (dense_slots (columns_of texts ns)))) ≡ flat_map (numbers_at k) (dense_slots (columns_of texts ns)) = λ k. dense_column texts scale ns h k at in
      let ids = long ID at (λ n. n.id) (at_column ID) in
      let named = nodes_named texts ns h.named in
      nodes_moving (table_of texts) other _ (long LAT at (λ n. n.lat) (at_column LAT) ∙ sym ids) (long LON at (λ n. n.lon) (at_column LON) ∙ sym ids)
      ∙ (moving_same (table_of texts) other _ _ _ _ _ _ _ _ _ (values_back ID at _ (at_column ID)) (values_back LAT at _ (at_column LAT)) (values_back LON at _ (at_column LON)) (info_back at)
      ∙ (ap (nodes_of_columns (table_of texts) other (map (λ n. n.id) ns) (map (λ n. n.lat) ns) (map (λ n. n.lon) ns) (info_columns texts (map (λ n. n.meta) ns))) (low_runs texts scale ns h at)
      ∙ columns_give texts other ns _ h.alike h.versions named (tags_given texts ns named)))

  -- the nodes are read back
  pub nodes_written : (at : ℕ) → nodes (table_of texts) scale (fields_in at (dense_message texts ns)) ≡ ns
  nodes_written at = nodes_at_scale scale at ∙ all_scaled scale ns h.scaled

  weights_written : (place at : ℕ) → dense_weights place (nodes (table_of texts) as_stored (fields_in at (dense_message texts ns))) ≡ []
  unfolding dense_weights
  weights_written place at = ap (flat_map (node_weight_fault place)) (nodes_at_scale as_stored at) ∙ all_light place as_stored ns h.fit

  -- and the message has no fault
  pub dense_sound : (place at : ℕ) → dense_fault place at (table_of texts) (dense_message texts ns) ≡ None
  unfolding dense_fault fault_before_weights
  dense_sound place at = rw (wire_written texts scale ns h place at, structure_written texts scale ns h place at, values_written texts scale ns h place at, weights_written place at) refl

pub ruleset clauses = (wire_written, structure_written, values_written, nodes_written, dense_sound)
