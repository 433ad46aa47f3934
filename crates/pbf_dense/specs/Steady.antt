-- Nodes that are written many at a time.
use Rattle.std.specs.Prelude.{◌≡◌, ◌⊎◌, ◌≤◌, ◌+◌, ◌*◌, ℕ, ℤ, List, [], ◌++◌, length, map, replicate, slice_get}
use Rattle.std.specs.Option.{option_map}
use Rattle.osm_entity.specs.Entity.{NodeSpec}
use Rattle.osm_entity.specs.Sources.{tag_of, run}
use Rattle.osm_entity.specs.declared.weight.TheConstants.{ENTITY_WEIGHT}
use Rattle.osm_entity.specs.Weight.{tags_weight, text_weight}
use Rattle.osm_entity.specs.Ranges.{IsStored, MetaFits}
use Rattle.pbf_dense.specs.Cursors.{dense_left}
use Rattle.pbf_dense.specs.Info.{InfoSpec, user_text}
use Rattle.pbf_dense.specs.WrittenDense.{HaveSameFields}
use Rattle.pbf_dense.specs.declared.dense.Dense.{Dense}

-- so many nodes are still to come, and all have the same fields of metadata
pub record IsSteady (count : ℕ) (dense : Dense) : Type 0 where
  pub counted : length (dense_left dense) ≡ count
  pub alike : HaveSameFields (map (λ (n : NodeSpec). n.meta) (dense_left dense))

-- a column has an entry for each of so many nodes, or none
abbrev pub InEachOrNone : {X : Type 0} → ℕ → List X → Type 0
InEachOrNone count xs = (count ≤ length xs) ⊎ (xs ≡ [])

-- so it is of each column of metadata
pub record IsInfoSteady (count : ℕ) (info : InfoSpec) : Type 0 where
  pub versions : InEachOrNone count info.versions
  pub timestamps : InEachOrNone count info.timestamps
  pub changesets : InEachOrNone count info.changesets
  pub uids : InEachOrNone count info.uids
  pub users : InEachOrNone count info.users
  pub visible : InEachOrNone count info.visible

-- ---- what nodes weigh, by the columns of users and of tags

-- the text of the first user
abbrev pub user_weight : List (List ℕ) → List ℤ → ℕ
user_weight table users = text_weight (option_map (user_text table) (slice_get users 0))

-- the first node
abbrev pub first_weight : List (List ℕ) → List ℤ → List ℕ → ℕ
first_weight table users keys_vals = ENTITY_WEIGHT + user_weight table users + tags_weight (map (tag_of table) (run keys_vals))

-- nodes without tags that have the same user
pub record AreSame (table : List (List ℕ)) (users later : List ℤ) (runs rest : List ℕ) (count weight : ℕ) : Type 0 where
  pub user : ℤ
  pub users_are : users ≡ replicate count user ++ later
  pub runs_are : runs ≡ replicate count 0 ++ rest
  pub weight_is : weight ≡ count * (ENTITY_WEIGHT + length (user_text table user))

-- ---- what is written

-- the numbers of a node are in their ranges, whatever it weighs and whatever its scale is
pub record NumbersFit (n : NodeSpec) : Type 0 where
  pub id : IsStored n.id
  pub lat : IsStored n.lat
  pub lon : IsStored n.lon
  pub meta : MetaFits n.meta
