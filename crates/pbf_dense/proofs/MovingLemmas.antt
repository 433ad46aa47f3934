-- Columns that move together give what indices into whole columns give.
use Rattle.std.proofs.Common.{◌≡◌, ◌≤◌, ℕ, List, [], ◌∷◌, drop, length, refl, sym, ap, ◌∙◌, ◌+◌, arith, ◌<◌, ◌-◌, zero, suc, false, ℤ, ◌++◌, replicate, map, get_or, ap₂, add-one}
use Rattle.std.specs.Prelude.{slice_get, None}
use Rattle.std.proofs.lemmas.List.{drop-drop, drop_all, length-drop}
use Rattle.pbf_dense.specs.Judged.{are_runs}
use Rattle.std.proofs.Math.Seq.{drop-nil}
use Rattle.osm_entity.specs.declared.scale.Scale.{Scale}
use Rattle.osm_entity.specs.Entity.{TagSpec, MetaSpec, NodeSpec}
use Rattle.osm_entity.specs.Sources.{low_32, tag_of, run}
use Rattle.pbf_dense.specs.Info.{InfoSpec, meta_at, info_rest, info_past}
use Rattle.pbf_dense.specs.Runs.{after_run, after_runs, with_pair, runs_in, tags_at}
use Rattle.pbf_dense.specs.Nodes.{nodes_of_columns}
use Rattle.std.specs.List.{range_with_len}
use Rattle.pbf_wire.specs.Occurrence.{Occurrence}
use Rattle.pbf_wire.specs.Columns.{column}
use Rattle.pbf_wire.specs.Signed.{unzigzag, low_sint32}
use Rattle.pbf_wire.specs.Sums.{sums}
use Rattle.pbf_wire.proofs.SumLemmas.{from_index, same_map}
use Rattle.pbf_dense.specs.declared.dense_info.TheConstants.{VERSION, TIMESTAMP, CHANGESET, UID, USER_SID, VISIBLE}

nothing_first : {A : Type 0} (xs : List A) → slice_get xs 0 ≡ None → xs ≡ []
nothing_first [] h = refl
nothing_first (x ∷ xs) h = absurd cc

pub passed_one : {A : Type 0} (n : ℕ) (xs : List A) → drop 1 (drop n xs) ≡ drop (n + 1) xs
passed_one n xs = drop-drop 1 n xs

-- if a column has no entry after n, there is none after more either
pub all_passed : {A : Type 0} (n count : ℕ) (xs : List A) → n ≤ count → slice_get (drop n xs) 0 ≡ None → drop 1 (drop n xs) ≡ drop count xs
all_passed n count xs within h =
    let e = nothing_first (drop n xs) h in ap (drop 1) e ∙ sym (drop_all count xs (omega (arith, within, ap length e, length-drop n xs)))

-- ---- the form of the tags, step by step

pub runs_end : (n key : ℕ) (rest : List ℕ) → 0 < n → key ≡ 0 → are_runs n (key ∷ rest) ≡ are_runs (n - 1) rest
runs_end (suc n) zero rest p h = let less : n ≡ suc n - 1 = omega arith in ap (λ k. are_runs k rest) less
runs_end n key rest p h = absurd (omega arith)

pub runs_cut : (n key : ℕ) → 0 < n → 0 < key → are_runs n (key ∷ []) ≡ false
runs_cut (suc n) (suc key) p h = refl
runs_cut n key p h = absurd (omega arith)

pub runs_on : (n key value : ℕ) (rest : List ℕ) → 0 < n → 0 < key → are_runs n (key ∷ value ∷ rest) ≡ are_runs n rest
runs_on (suc n) (suc key) value rest p h = refl
runs_on n key value rest p h = absurd (omega arith)

pub runs_missing : (n : ℕ) → 0 < n → are_runs n [] ≡ false
runs_missing zero p = absurd (omega arith)
runs_missing (suc n) p = refl

pub ruleset runs_steps = (runs_end, runs_cut, runs_on, runs_missing)

-- ---- columns that move together give what indices into whole columns give

pub no_lats : (table : List (List ℕ)) (scale : Scale) (ids lons : List ℤ) (info : InfoSpec) (keys_vals : List ℕ) → nodes_of_columns table scale ids [] lons info keys_vals ≡ []
no_lats table scale [] lons info keys_vals = refl
no_lats table scale (id ∷ ids) lons info keys_vals = refl

pub no_lons : (table : List (List ℕ)) (scale : Scale) (ids lats : List ℤ) (info : InfoSpec) (keys_vals : List ℕ) → nodes_of_columns table scale ids lats [] info keys_vals ≡ []
no_lons table scale (id ∷ ids) (lat ∷ lats) info keys_vals = refl
no_lons table scale ids lats info keys_vals = refl

-- ---- many nodes at once

-- one entry first, and then n more
pub drop_one : {A : Type 0} (n : ℕ) (xs : List A) → drop (suc n) xs ≡ drop n (drop 1 xs)
drop_one n [] = sym (drop-nil n)
drop_one n (x ∷ xs) = refl

pub run_first : (n : ℕ) (keys_vals : List ℕ) → after_runs (suc n) keys_vals ≡ after_runs n (after_run keys_vals)
run_first zero keys_vals = refl
run_first (suc n) keys_vals = ap after_run (run_first n keys_vals)

-- columns that are moved on by n each give what comes after the first n nodes
pub moving_on : (table : List (List ℕ)) (scale : Scale) (n : ℕ) (ids lats lons : List ℤ) (info : InfoSpec) (keys_vals : List ℕ)
    → nodes_of_columns table scale (drop n ids) (drop n lats) (drop n lons) (info_past n info) (after_runs n keys_vals) ≡ drop n (nodes_of_columns table scale ids lats lons info keys_vals)
moving_on table scale zero ids lats lons info keys_vals = refl
moving_on table scale (suc n) [] lats lons info keys_vals = refl
moving_on table scale (suc n) (id ∷ ids) [] lons info keys_vals = no_lats table scale (drop n ids) (drop (suc n) lons) (info_past (suc n) info) (after_runs (suc n) keys_vals)
moving_on table scale (suc n) (id ∷ ids) (lat ∷ lats) [] info keys_vals = no_lons table scale (drop n ids) (drop n lats) (info_past (suc n) info) (after_runs (suc n) keys_vals)
moving_on table scale (suc n) (id ∷ ids) (lat ∷ lats) (lon ∷ lons) info keys_vals =
    simp (drop_one, run_first) (moving_on table scale n ids lats lons (info_rest info) (after_run keys_vals))

-- one run less
pub one_run : (left : ℕ) (keys_vals : List ℕ) → 0 < left → after_runs (left - 1) (after_run keys_vals) ≡ after_runs left keys_vals
one_run left keys_vals some =
    let all : left ≡ suc (left - 1) = omega (arith, some) in
    sym (ap (λ k. after_runs k keys_vals) all ∙ run_first (left - 1) keys_vals)

-- each of some zeros ends a run
zero_runs : (n left : ℕ) (rest : List ℕ) → after_runs (left + n) (replicate n 0 ++ rest) ≡ after_runs left rest
zero_runs zero left rest = let same : left + 0 ≡ left = omega arith in ap (λ k. after_runs k rest) same
zero_runs (suc n) left rest =
    let count : left + suc n ≡ suc (left + n) = omega arith in
    ap (λ k. after_runs k (0 ∷ replicate n 0 ++ rest)) count ∙ run_first (left + n) (0 ∷ replicate n 0 ++ rest) ∙ zero_runs n left rest

pub bare_runs : (left n : ℕ) (keys_vals rest : List ℕ) → n ≤ left → keys_vals ≡ replicate n 0 ++ rest → after_runs (left - n) rest ≡ after_runs left keys_vals
bare_runs left n keys_vals rest enough e =
    let count : left - n + n ≡ left = omega (arith, enough) in
    sym (ap (after_runs left) e ∙ ap (λ k. after_runs k (replicate n 0 ++ rest)) (sym count) ∙ zero_runs n (left - n) rest)

-- the same of what their low 32 bits are
pub low_zeros : (n : ℕ) (numbers : List ℕ) → map low_32 (replicate n 0 ++ numbers) ≡ replicate n 0 ++ map low_32 numbers
low_zeros zero numbers = refl
low_zeros (suc n) numbers = ap (λ (xs : List ℕ). 0 ∷ xs) (low_zeros n numbers)

-- ---- runs, step by step

pub run_over : (key : ℕ) (rest : List ℕ) → key ≡ 0 → after_run (key ∷ rest) ≡ rest
run_over zero rest h = refl
run_over (suc key) rest h = absurd (omega arith)

pub run_cut : (key : ℕ) → after_run (key ∷ []) ≡ []
run_cut zero = refl
run_cut (suc key) = refl

pub run_on : (key value : ℕ) (rest : List ℕ) → 0 < key → after_run (key ∷ value ∷ rest) ≡ after_run rest
run_on zero value rest h = absurd (omega arith)
run_on (suc key) value rest h = refl

pub ruleset run_steps = (run_over, run_cut, run_on)

-- ---- one node

abbrev pub node_made : ℤ → ℤ → ℤ → MetaSpec → List TagSpec → Scale → NodeSpec
node_made id lat lon meta tags scale = record { id = id; lat = lat; lon = lon; meta = meta; tags = tags; scale = scale }

-- a node is made of the first of each column, and the others of what is left
pub one_node : (table : List (List ℕ)) (scale : Scale) (ids more_ids lats more_lats lons more_lons : List ℤ) (id i lat a lon o : ℤ) (info more : InfoSpec) (keys_vals rest : List ℕ) (meta : MetaSpec) (tags : List TagSpec) (node : NodeSpec)
    → ids ≡ id ∷ more_ids → lats ≡ lat ∷ more_lats → lons ≡ lon ∷ more_lons → i ≡ id → a ≡ lat → o ≡ lon
    → meta ≡ meta_at table info 0 → more ≡ info_rest info → tags ≡ map (tag_of table) (run keys_vals) → rest ≡ after_run keys_vals → node ≡ node_made i a o meta tags scale
    → nodes_of_columns table scale ids lats lons info keys_vals ≡ node ∷ nodes_of_columns table scale more_ids more_lats more_lons more rest
one_node table scale ids more_ids lats more_lats lons more_lons id i lat a lon o info more keys_vals rest meta tags node e f g same_id same_lat same_lon metas infos all_tags runs is =
    rw (e, f, g, is, same_id, same_lat, same_lon, metas, infos, all_tags, runs) refl

-- ---- runs

first_with : (pair : ℕ × ℕ) (runs : List (List (ℕ × ℕ))) → get_or (with_pair pair runs) 0 [] ≡ pair ∷ get_or runs 0 []
first_with pair [] = refl
first_with pair (run ∷ info_rest) = refl

later_with : (pair : ℕ × ℕ) (runs : List (List (ℕ × ℕ))) (i : ℕ) → get_or (with_pair pair runs) (suc i) [] ≡ get_or runs (suc i) []
later_with pair [] i = refl
later_with pair (run ∷ info_rest) i = refl

first_run : (column : List ℕ) → get_or (runs_in column) 0 [] ≡ run column
first_run (suc key ∷ value ∷ rest) = first_with (suc key, value) (runs_in rest) ∙ ap (λ (pairs : List (ℕ × ℕ)). (suc key, value) ∷ pairs) (first_run rest)
first_run column = refl

run_later : (column : List ℕ) (i : ℕ) → get_or (runs_in (after_run column)) i [] ≡ get_or (runs_in column) (suc i) []
run_later (suc key ∷ value ∷ rest) i = run_later rest i ∙ sym (later_with (suc key, value) (runs_in rest) i)
run_later column i = refl

tags_at_first : (table : List (List ℕ)) (column : List ℕ) → map (tag_of table) (run column) ≡ tags_at table column 0
unfolding tags_at
tags_at_first table column = ap (λ (pairs : List (ℕ × ℕ)). map (tag_of table) pairs) (sym (first_run column))

tags_at_later : (table : List (List ℕ)) (column : List ℕ) (i : ℕ) → tags_at table (after_run column) i ≡ tags_at table column (i + 1)
unfolding tags_at
tags_at_later table column i = rw (add-one i) (ap (λ (pairs : List (ℕ × ℕ)). map (tag_of table) pairs) (run_later column i))

-- ---- metadata

-- the columns in the occurrences of a DenseInfo
unfoldable pub info_of : List Occurrence → InfoSpec
info_of os = record {
  versions = column VERSION os;
  timestamps = sums (map unzigzag (column TIMESTAMP os));
  changesets = sums (map unzigzag (column CHANGESET os));
  uids = sums (map low_sint32 (column UID os));
  users = sums (map low_sint32 (column USER_SID os));
  visible = column VISIBLE os;
}

get_later : {X : Type 0} (xs : List X) (i : ℕ) → slice_get (drop 1 xs) i ≡ slice_get xs (suc i)
get_later [] i = refl
get_later (x ∷ xs) i = refl

meta_later : (table : List (List ℕ)) (info : InfoSpec) (i : ℕ) → meta_at table (info_rest info) i ≡ meta_at table info (i + 1)
meta_later table info i = rw (add-one i, get_later info.versions i, get_later info.timestamps i, get_later info.changesets i, get_later info.uids i, get_later info.users i, get_later info.visible i) refl

-- ---- nodes

abbrev as_node : Scale → ℤ → ℤ → ℤ → MetaSpec → List TagSpec → NodeSpec
as_node scale id lat lon meta tags = record { id = id; lat = lat; lon = lon; meta = meta; tags = tags; scale = scale }

pub moving_same : (table : List (List ℕ)) (scale : Scale) (ks bs cs xs ys zs : List ℤ) (info info' : InfoSpec) (column : List ℕ) → ks ≡ xs → bs ≡ ys → cs ≡ zs → info ≡ info'
    → nodes_of_columns table scale ks bs cs info column ≡ nodes_of_columns table scale xs ys zs info' column
moving_same table scale ks bs cs xs ys zs info info' column p q r s = cc

pub moving_by_index : (table : List (List ℕ)) (scale : Scale) (f g h : ℕ → ℤ) (n : ℕ) (info : InfoSpec) (column : List ℕ)
    → nodes_of_columns table scale (map f (range_with_len 0 n)) (map g (range_with_len 0 n)) (map h (range_with_len 0 n)) info column
    ≡ map (λ i. as_node scale (f i) (g i) (h i) (meta_at table info i) (tags_at table column i)) (range_with_len 0 n)
moving_by_index table scale f g h zero info column = refl
moving_by_index table scale f g h (suc n) info column =
    let first = ap (as_node scale (f 0) (g 0) (h 0) (meta_at table info 0)) (tags_at_first table column) in
    let others = moving_by_index table scale (λ i. f (i + 1)) (λ i. g (i + 1)) (λ i. h (i + 1)) n (info_rest info) (after_run column)
    ∙ same_map (λ i. as_node scale (f (i + 1)) (g (i + 1)) (h (i + 1)) (meta_at table (info_rest info) i) (tags_at table (after_run column) i))
    (λ i. as_node scale (f (i + 1)) (g (i + 1)) (h (i + 1)) (meta_at table info (i + 1)) (tags_at table column (i + 1))) 0 n
    (λ i. ap₂ (as_node scale (f (i + 1)) (g (i + 1)) (h (i + 1))) (meta_later table info i) (tags_at_later table column i)) in
    moving_same table scale _ _ _ _ _ _ info info column (from_index f n) (from_index g n) (from_index h n) refl
    ∙ (ap₂ (λ (x : NodeSpec) (xs : List NodeSpec). x ∷ xs) first others
    ∙ sym (from_index (λ i. as_node scale (f i) (g i) (h i) (meta_at table info i) (tags_at table column i)) n))
