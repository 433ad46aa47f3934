-- If a payload has no fault of the wire form, of structure and of values, cursors give the entities that are said by index, and as
-- many are counted.
use Rattle.std.proofs.Common.{◌≡◌, ℕ, ℤ, pos, ◌^◌, ◌≤◌, eqb, false, List, [], ◌∷◌, length, map, refl, ap, ap₂, subst, sym, ◌∙◌, arith}
use Rattle.std.specs.Prelude.{filter, None}
use Rattle.std.specs.List.{flat_map, range_with_len, AllByRecursion, zip}
use Rattle.std.proofs.lemmas.Bool.{eqb-true}
use Rattle.pbf_wire.specs.Columns.{joined, column}
use Rattle.pbf_wire.specs.Faults.{sum_faults, fields_in}
use Rattle.pbf_wire.specs.declared.fault.Reason.TheVariants.{OutOfRange}
use Rattle.pbf_wire.specs.Occurrence.{Occurrence}
use Rattle.pbf_wire.specs.Signed.{unzigzag}
use Rattle.pbf_wire.proofs.SumLemmas.{sums_in_range}
use Rattle.pbf_wire.proofs.SoundLemmas.{both_nil, sums_within_limit}
use Rattle.osm_entity.specs.declared.scale.Scale.{Scale}
use Rattle.osm_entity.specs.Entity.{WaySpec, EntitySpec, node, way, relation}
use Rattle.osm_entity.specs.Ranges.{EntityFits}
use Rattle.osm_entity.specs.Sources.{column_members}
use Rattle.pbf_dense.specs.Judged.{dense_wire, dense_structure, dense_values}
use Rattle.pbf_dense.specs.Nodes.{node_at, nodes}
use Rattle.pbf_dense.proofs.SoundDense.{nodes_same, ids_counted}
use Rattle.pbf_block.specs.Group.{in_group, message_entities, member_entities, weight_fault, member_weights}
use Rattle.pbf_block.specs.declared.group.TheConstants.{NODES, DENSE, WAYS, RELATIONS}
use Rattle.pbf_block.specs.declared.kinds.Kinds.{Kinds}
use Rattle.pbf_block.specs.declared.way.TheConstants.{REFS, WAY_LAT, WAY_LON}
use Rattle.pbf_block.specs.declared.relation.TheConstants.{MEMIDS, ROLES_SID, TYPES}
use Rattle.pbf_block.specs.Entity.{Decoding, values_in}
use Rattle.pbf_block.specs.Kinds.{is_among, entities_among}
use Rattle.pbf_block.specs.Numbers.{counting}
use Rattle.pbf_block.specs.Way.{way_in, way_values}
use Rattle.pbf_block.specs.Relation.{relation_in, relation_values}
use Rattle.pbf_block.specs.PrimitiveBlock.{block_fault, indexed, streaming, entities}
use Rattle.pbf_block.specs.Scale.{scale_of, stored_texts}
use Rattle.pbf_block.proofs.FitsLaw.{entities_fit}
use Rattle.pbf_block.proofs.KindLemmas.{all_kept}
use Rattle.pbf_block.proofs.PayloadLemmas.{inside_same, cond_same, InGroup, groups_same, IsClean, HoldsClean, payload_clean, no_fault, table_few}
use Rattle.pbf_wire.proofs.AllLemmas.{all_filter}

-- the sums of the column k are in range
abbrev InRange : ℕ → List Occurrence → Type 0
InRange k os = sum_faults (pos (2 ^ 62)) false (joined k os) ≡ []

-- what is read of columns and of dense messages in which nothing is wrong is what is said by index
record Agrees (how : Decoding) (table : List (List ℕ)) (scale : Scale) : Type 0 where
  values : (k : ℕ) (os : List Occurrence) → InRange k os → values_in how k os ≡ values_in indexed k os
  dense : (place at : ℕ) (m : List ℕ) → dense_wire place at m ≡ [] → dense_structure place at m ≡ [] → dense_values (length table) place at m ≡ [] → how.dense table scale (fields_in at m) ≡ nodes table scale (fields_in at m)

cursors_agree : (table : List (List ℕ)) (scale : Scale) → length table ≤ 2 ^ 62 → Agrees streaming table scale
cursors_agree table scale few = record {
  values = λ k os e. sums_in_range (pos (2 ^ 62)) (map unzigzag (column k os)) (sums_within_limit (pos (2 ^ 62)) OutOfRange false (joined k os) e);
  dense = λ place at m w s v. nodes_same table scale at m (record { place = place; few = few; wire = w; structure = s; values = v });
}

counts_agree : (table : List (List ℕ)) (scale : Scale) → Agrees counting table scale
unfolding nodes
counts_agree table scale = record {
  values = λ k os e. refl;
  dense = λ place at m w s v. ap (λ n. map (node_at table scale (fields_in at m)) (range_with_len 0 n)) (ids_counted place at m w);
}

module _ (how : Decoding) (table : List (List ℕ)) (scale : Scale) (agree : Agrees how table scale) where
  -- ---- one message

  way_same : (limit place at : ℕ) (m : List ℕ) → way_values limit place at m ≡ [] → way_in how table scale (fields_in at m) ≡ way_in indexed table scale (fields_in at m)
  unfolding way_in
  way_same limit place at m e =
      let os = fields_in at m in
      let lons = both_nil _ _ e in
      let lats = both_nil _ _ lons.0 in
      let refs = both_nil _ _ lats.0 in
      let all : List ℤ → List ℤ → List ℤ → WaySpec = λ r a o. record (way_in how table scale os) { refs = r; locations = zip a o } in
      ap (λ r. all r (values_in how WAY_LAT os) (values_in how WAY_LON os)) (agree.values REFS os refs.1)
      ∙ ap₂ (all (values_in indexed REFS os)) (agree.values WAY_LAT os lats.1) (agree.values WAY_LON os lons.1)

  relation_same : (limit place at : ℕ) (m : List ℕ) → relation_values limit place at m ≡ [] → relation_in how table scale (fields_in at m) ≡ relation_in indexed table scale (fields_in at m)
  unfolding relation_in
  relation_same limit place at m e =
      let os = fields_in at m in
      let ids = both_nil _ _ (both_nil _ _ e).0 in
      ap (λ ids. record (relation_in how table scale os) { members = column_members table (column TYPES os) ids (column ROLES_SID os) }) (agree.values MEMIDS os ids.1)

  message_same : (k place at : ℕ) (m : List ℕ) → IsClean (length table) k place at m → message_entities how table scale k (fields_in at m) ≡ message_entities indexed table scale k (fields_in at m)
  message_same k place at m h =
      cond_same (eqb k NODES) _ _ _ _ (λ t. refl)
      (cond_same (eqb k DENSE) _ _ _ _ (λ t. let is = eqb-true k DENSE t in ap (map node) (agree.dense place at m (h.dense_form is) (h.dense_parts is) (h.dense_numbers is)))
      (cond_same (eqb k WAYS) _ _ _ _ (λ t. ap (λ w. way w ∷ []) (way_same (length table) place at m (h.way_numbers (eqb-true k WAYS t))))
      (cond_same (eqb k RELATIONS) _ _ _ _ (λ t. ap (λ r. relation r ∷ []) (relation_same (length table) place at m (h.relation_numbers (eqb-true k RELATIONS t)))) refl)))

  -- ---- all groups

  member_same : (o : Occurrence) → HoldsClean (length table) o → member_entities how table scale o ≡ member_entities indexed table scale o
  member_same o h = inside_same _ _ _ o.content (λ at m p. message_same o.number o.place at m p) h

  all_same : (os : List Occurrence) → AllByRecursion (InGroup (HoldsClean (length table))) os → flat_map (in_group (member_entities how table scale)) os ≡ flat_map (in_group (member_entities indexed table scale)) os
  all_same os h = groups_same (member_entities how table scale) (member_entities indexed table scale) (HoldsClean (length table)) member_same os h

pub weights_same : (table : List (List ℕ)) → length table ≤ 2 ^ 62 → (scale : Scale) (os : List Occurrence) → AllByRecursion (InGroup (HoldsClean (length table))) os
    → flat_map (in_group (member_weights streaming table scale)) os ≡ flat_map (in_group (member_weights indexed table scale)) os
weights_same table few scale os h =
    groups_same (member_weights streaming table scale) (member_weights indexed table scale) (HoldsClean (length table)) (λ o p. ap (flat_map (weight_fault o.place)) (member_same streaming table scale (cursors_agree table scale few) o p)) os h

-- ---- a payload without a fault

module _ (at : ℕ) (m : List ℕ) (sound : block_fault at m ≡ None) where
  clean : AllByRecursion (InGroup (HoldsClean (length (stored_texts (fields_in at m))))) (fields_in at m)
  clean = let none = no_fault at m sound in payload_clean (length (stored_texts (fields_in at m))) at m none.0 none.1 none.2

  -- as many entities are counted
  pub ends_same : let os = fields_in at m in flat_map (in_group (member_entities counting (stored_texts os) (scale_of os))) os ≡ entities at m
  unfolding entities
  ends_same = let os = fields_in at m in all_same counting (stored_texts os) (scale_of os) (counts_agree (stored_texts os) (scale_of os)) os clean

  along_same : (table : List (List ℕ)) (scale : Scale) → table ≡ stored_texts (fields_in at m) → scale ≡ scale_of (fields_in at m) → flat_map (in_group (member_entities streaming table scale)) (fields_in at m) ≡ entities at m
  unfolding entities
  along_same table scale texts scaled =
      let os = fields_in at m in
      let few : length (stored_texts os) ≤ 2 ^ 62 = omega (arith, table_few at m (no_fault at m sound).1) in
      ap₂ (λ (t : List (List ℕ)) (s : Scale). flat_map (in_group (member_entities streaming t s)) os) texts scaled ∙ all_same streaming (stored_texts os) (scale_of os) (cursors_agree (stored_texts os) (scale_of os) few) os clean

-- what cursors give of some kinds
module _ (at : ℕ) (m : List ℕ) (kinds : Kinds) (table : List (List ℕ)) (scale : Scale) (texts : table ≡ stored_texts (fields_in at m)) (scaled : scale ≡ scale_of (fields_in at m)) (es : List EntitySpec) (are : es ≡ entities_among kinds streaming table scale (fields_in at m)) where
  -- they are the entities of these kinds
  pub among_same : block_fault at m ≡ None → es ≡ filter (is_among kinds) (entities at m)
  among_same sound = are ∙ all_kept kinds streaming table scale (fields_in at m) ∙ ap (filter (is_among kinds)) (along_same at m sound table scale texts scaled)

  -- and can be written
  pub among_fit : block_fault at m ≡ None → AllByRecursion EntityFits es
  among_fit sound = subst (λ (l : List EntitySpec). AllByRecursion EntityFits l) (sym (among_same sound)) (all_filter EntityFits (is_among kinds) (entities at m) (entities_fit at m sound))
