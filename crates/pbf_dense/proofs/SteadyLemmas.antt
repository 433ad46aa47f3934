-- Nodes whose columns have an entry for each of them, or none, and what they weigh together.
use Rattle.std.proofs.Common.{◌≡◌, ◌≤◌, inl, inr, ℕ, suc, Bool, true, false, ℤ, List, [], ◌∷◌, length, drop, map, refl, sym, ap, subst, ◌∙◌, arith, ◌+◌, ◌-◌, ◌*◌, ◌^◌, ◌<◌, min, zero, ◌++◌, replicate, take, add-one}
use Rattle.std.specs.Prelude.{Option, slice_get}
use Rattle.std.specs.List.{AllByRecursion, sum_by}
use Rattle.std.specs.Option.{is_some}
use Rattle.pbf_wire.specs.Cursors.{numbers_left, sums_left}
use Rattle.osm_entity.specs.declared.scale.Scale.{Scale}
use Rattle.osm_entity.specs.Entity.{MetaSpec, NodeSpec}
use Rattle.osm_entity.specs.Sources.{low_32, tag_of, run}
use Rattle.pbf_dense.specs.Cursors.{dense_left, info_left}
use Rattle.pbf_dense.specs.Info.{InfoSpec, meta_at, info_rest, user_text}
use Rattle.pbf_dense.specs.Nodes.{nodes_of_columns}
use Rattle.pbf_dense.specs.Runs.{after_run, after_runs}
use Rattle.pbf_dense.specs.Steady.{InEachOrNone, IsInfoSteady, IsSteady, AreSame, first_weight}
use Rattle.pbf_dense.specs.WrittenDense.{InAllOrNone, HaveSameFields}
use Rattle.pbf_dense.specs.declared.dense.Dense.{Dense}
use Rattle.pbf_dense.proofs.InfoLaw.{same_there}
use Rattle.std.proofs.Math.Nat.{le-mul_of_pos_right, mul_comm}
use Rattle.std.proofs.lemmas.List.Sums.{sum_by-cons}
use Rattle.osm_entity.specs.Weight.{node_weight}
use Rattle.pbf_dense.proofs.MovingLemmas.{passed_one, drop_one, run_first, node_made}

-- a list has so many entries, or none
abbrev Lasts : {X : Type 0} → Bool → ℕ → List X → Type 0
Lasts true n xs = n ≤ length xs
Lasts false n xs = xs ≡ []

first_there : {X : Type 0} (there : Bool) (n : ℕ) (xs : List X) → Lasts there (suc n) xs → is_some (slice_get xs 0) ≡ there
first_there true n [] h = absurd (omega arith)
first_there true n (x ∷ xs) h = refl
first_there false n xs h = ap (λ ys. is_some (slice_get ys 0)) h

later_there : {X : Type 0} (there : Bool) (n : ℕ) (xs : List X) → Lasts there (suc n) xs → Lasts there n (drop 1 xs)
later_there true n [] h = absurd (omega arith)
later_there true n (x ∷ xs) h = omega (arith, h)
later_there false n xs h = ap (drop 1) h

module _ (table : List (List ℕ)) (scale : Scale) where
  abbrev metas : List ℤ → List ℤ → List ℤ → InfoSpec → List ℕ → List MetaSpec
  metas ids lats lons info keys_vals = map (λ (n : NodeSpec). n.meta) (nodes_of_columns table scale ids lats lons info keys_vals)

  module _ {X Y : Type 0} (get : InfoSpec → List X) (field : MetaSpec → Option Y) (rests : (info : InfoSpec) → get (info_rest info) ≡ drop 1 (get info))
      (seen : (info : InfoSpec) → is_some (field (meta_at table info 0)) ≡ is_some (slice_get (get info) 0)) where
    along : (there : Bool) (ids lats lons : List ℤ) (info : InfoSpec) (keys_vals : List ℕ) → Lasts there (length ids) (get info) → AllByRecursion (λ m. is_some (field m) ≡ there) (metas ids lats lons info keys_vals)
    along there (id ∷ ids) (lat ∷ lats) (lon ∷ lons) info keys_vals h =
        let later = later_there there (length ids) (get info) h in (
          seen info ∙ first_there there (length ids) (get info) h,
          along there ids lats lons (info_rest info) (after_run keys_vals) (subst (Lasts there (length ids)) (sym (rests info)) later),
        )
    along there ids lats lons info keys_vals h = tt

    pub in_all_or_none : (ids lats lons : List ℤ) (info : InfoSpec) (keys_vals : List ℕ) → InEachOrNone (length ids) (get info) → InAllOrNone field (metas ids lats lons info keys_vals)
    in_all_or_none ids lats lons info keys_vals h = elim h [
      | inl enough ↦ (true, along true ids lats lons info keys_vals enough)
      | inr none ↦ (false, along false ids lats lons info keys_vals none)
    ]

  counted : (ids lats lons : List ℤ) (info : InfoSpec) (keys_vals : List ℕ) → length lats ≡ length ids → length lons ≡ length ids → length (nodes_of_columns table scale ids lats lons info keys_vals) ≡ length ids
  counted (id ∷ ids) (lat ∷ lats) (lon ∷ lons) info keys_vals h k = ap suc (counted ids lats lons (info_rest info) (after_run keys_vals) (omega (arith, h)) (omega (arith, k)))
  counted ids lats lons info keys_vals h k = omega (arith, h, k)

  alike : (ids lats lons : List ℤ) (info : InfoSpec) (keys_vals : List ℕ) → IsInfoSteady (length ids) info → HaveSameFields (metas ids lats lons info keys_vals)
  alike ids lats lons info keys_vals h = record {
    version = in_all_or_none (λ i. i.versions) (λ m. m.version) (λ i. refl) (λ i. same_there _ (slice_get i.versions 0)) ids lats lons info keys_vals h.versions;
    timestamp = in_all_or_none (λ i. i.timestamps) (λ m. m.timestamp) (λ i. refl) (λ i. refl) ids lats lons info keys_vals h.timestamps;
    changeset = in_all_or_none (λ i. i.changesets) (λ m. m.changeset) (λ i. refl) (λ i. refl) ids lats lons info keys_vals h.changesets;
    uid = in_all_or_none (λ i. i.uids) (λ m. m.uid) (λ i. refl) (λ i. refl) ids lats lons info keys_vals h.uids;
    user = in_all_or_none (λ i. i.users) (λ m. m.user) (λ i. refl) (λ i. same_there _ (slice_get i.users 0)) ids lats lons info keys_vals h.users;
    visible = in_all_or_none (λ i. i.visible) (λ m. m.visible) (λ i. refl) (λ i. same_there _ (slice_get i.visible 0)) ids lats lons info keys_vals h.visible;
  }

pub steady_is : (dense : Dense) (count : ℕ) → count ≡ length (sums_left dense.ids) → length (sums_left dense.lats) ≡ count → length (sums_left dense.lons) ≡ count → IsInfoSteady count (info_left dense.info) → IsSteady count dense
unfolding dense_left
steady_is dense count ids lats lons h =
    let table = dense.table.now in
    let keys_vals = map low_32 (numbers_left dense.keys_vals) in
    record {
      counted = counted table dense.scale (sums_left dense.ids) (sums_left dense.lats) (sums_left dense.lons) (info_left dense.info) keys_vals (omega (arith, ids, lats)) (omega (arith, ids, lons)) ∙ sym ids;
      alike = alike table dense.scale (sums_left dense.ids) (sums_left dense.lats) (sums_left dense.lons) (info_left dense.info) keys_vals (subst (λ n. IsInfoSteady n (info_left dense.info)) ids h);
    }

-- ---- many nodes

module _ (table : List (List ℕ)) where
  abbrev weights : ℕ → List ℤ → List ℕ → ℕ
  weights zero users keys_vals = 0
  weights (suc n) users keys_vals = first_weight table users keys_vals + weights n (drop 1 users) (after_run keys_vals)

  of_nodes : (scale : Scale) (n : ℕ) (ids lats lons : List ℤ) (info : InfoSpec) (keys_vals : List ℕ) → n ≤ length (nodes_of_columns table scale ids lats lons info keys_vals)
      → sum_by node_weight (take n (nodes_of_columns table scale ids lats lons info keys_vals)) ≡ weights n info.users keys_vals
  of_nodes scale zero ids lats lons info keys_vals enough = refl
  of_nodes scale (suc n) (id ∷ ids) (lat ∷ lats) (lon ∷ lons) info keys_vals enough =
      sum_by-cons node_weight (node_made id lat lon (meta_at table info 0) (map (tag_of table) (run keys_vals)) scale) (take n (nodes_of_columns table scale ids lats lons (info_rest info) (after_run keys_vals)))
      ∙ ap (λ w. first_weight table info.users keys_vals + w) (of_nodes scale n ids lats lons (info_rest info) (after_run keys_vals) (omega (arith, enough)))
  of_nodes scale (suc n) ids lats lons info keys_vals enough = absurd (omega (arith, enough))

  one_later : (n : ℕ) (users : List ℤ) (keys_vals : List ℕ) → weights (suc n) users keys_vals ≡ weights n users keys_vals + first_weight table (drop n users) (after_runs n keys_vals)
  one_later zero users keys_vals = omega arith
  one_later (suc n) users keys_vals =
      let h = one_later n (drop 1 users) (after_run keys_vals) in
      let last : first_weight table (drop n (drop 1 users)) (after_runs n (after_run keys_vals)) ≡ first_weight table (drop (suc n) users) (after_runs (suc n) keys_vals) =
      ap (λ (us : List ℤ). first_weight table us (after_runs n (after_run keys_vals))) (sym (drop_one n users)) ∙ ap (first_weight table (drop (suc n) users)) (sym (run_first n keys_vals)) in
      omega (arith, h, last)

  -- so many are weighed, and the columns are moved on by as many
  pub record AreWeighed (users : List ℤ) (keys_vals : List ℕ) (later : List ℤ) (rest : List ℕ) (count weight : ℕ) : Type 0 where
    pub sum : weight ≡ weights count users keys_vals
    pub passed : later ≡ drop count users
    pub runs : rest ≡ after_runs count keys_vals

  pub one_weighed : (users later next : List ℤ) (keys_vals rest after : List ℕ) (count weight one : ℕ) → AreWeighed users keys_vals later rest count weight → one ≡ first_weight table later rest → next ≡ drop 1 later → after ≡ after_run rest
      → AreWeighed users keys_vals next after (count + 1) (weight + one)
  one_weighed users later next keys_vals rest after count weight one h is moved run =
      let more : weights (suc count) users keys_vals ≡ weight + one = one_later count users keys_vals
      ∙ omega (arith, h.sum, is, ap (λ us. first_weight table us rest) h.passed, ap (first_weight table (drop count users)) h.runs) in
      record {
        sum = rw add-one (sym more);
        passed = moved ∙ ap (drop 1) h.passed ∙ passed_one count users;
        runs = rw add-one (run ∙ ap after_run h.runs);
      }

  -- nodes more, which have no tags and the same user
  module _ (user : ℤ) where
    abbrev bare : ℕ
    bare = 160 + length (user_text table user)

    module _ (users : List ℤ) (keys_vals : List ℕ) where
      one_bare : (later : List ℤ) (rest : List ℕ) (count weight : ℕ) → AreWeighed users keys_vals (user ∷ later) (0 ∷ rest) count weight → AreWeighed users keys_vals later rest (count + 1) (weight + bare)
      one_bare later rest count weight h = one_weighed users (user ∷ later) later keys_vals (0 ∷ rest) rest count weight bare h (omega arith) refl refl

      bare_run : (n : ℕ) (later : List ℤ) (rest : List ℕ) (count weight : ℕ) → AreWeighed users keys_vals (replicate n user ++ later) (replicate n 0 ++ rest) count weight → AreWeighed users keys_vals later rest (count + n) (weight + n * bare)
      bare_run zero later rest count weight h =
          let all : count ≡ count + 0 = omega arith in
          let sum : weight ≡ weight + 0 * bare = omega arith in
          subst (λ n. AreWeighed users keys_vals later rest n (weight + 0 * bare)) all (subst (AreWeighed users keys_vals later rest count) sum h)
      bare_run (suc n) later rest count weight h =
          let all : count + 1 + n ≡ count + suc n = omega arith in
          let sum : weight + bare + n * bare ≡ weight + suc n * bare = omega arith in
          subst (λ k. AreWeighed users keys_vals later rest k (weight + suc n * bare)) all (subst (AreWeighed users keys_vals later rest (count + 1 + n)) sum
          (bare_run n later rest (count + 1) (weight + bare) (one_bare (replicate n user ++ later) (replicate n 0 ++ rest) count weight h)))

  pub same_weighed : (users later next : List ℤ) (keys_vals rest after : List ℕ) (count weight n more : ℕ) → AreWeighed users keys_vals later rest count weight → AreSame table later next rest after n more → AreWeighed users keys_vals next after (count + n) (weight + more)
  same_weighed users later next keys_vals rest after count weight n more h e =
      let here = subst (λ us. AreWeighed users keys_vals us (replicate n 0 ++ after) count weight) e.users_are (subst (λ ks. AreWeighed users keys_vals later ks count weight) e.runs_are h) in
      subst (λ w. AreWeighed users keys_vals next after (count + n) (weight + w)) (sym e.weight_is) (bare_run e.user users keys_vals n next after count weight here)

-- what they weigh, if that is no more than there is room for
pub bare_weight : (size count one weight room : ℕ) → 0 < count → one ≡ min (size + 160) (2 ^ 64 - 1) → weight ≡ min (one * count) (2 ^ 64 - 1) → weight ≤ room → room < 2 ^ 64 - 1 → weight ≡ count * (160 + size)
bare_weight size count one weight room some one_is weight_is light few =
    let whole : weight ≡ one * count = omega (arith, weight_is, light, few) in
    let exact : one ≡ 160 + size = omega (arith, one_is, whole, light, few, le-mul_of_pos_right one some) in
    whole ∙ ap (λ n. n * count) exact ∙ mul_comm (160 + size) count

-- the columns of a dense message
pub nodes_weighed : (dense : Dense) (later : List ℤ) (rest : List ℕ) (count weight : ℕ) → count ≤ length (dense_left dense) → AreWeighed dense.table.now (sums_left dense.info.users) (map low_32 (numbers_left dense.keys_vals)) later rest count weight
    → weight ≡ sum_by node_weight (take count (dense_left dense))
unfolding dense_left
nodes_weighed dense later rest count weight enough h =
    h.sum ∙ sym (of_nodes dense.table.now dense.scale count (sums_left dense.ids) (sums_left dense.lats) (sums_left dense.lons) (info_left dense.info) (map low_32 (numbers_left dense.keys_vals)) enough)
