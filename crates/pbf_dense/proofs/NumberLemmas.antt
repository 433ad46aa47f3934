-- The numbers of a dense message's nodes are in their ranges, whatever is wrong with it: its columns end before one that isn't.
use Rattle.std.proofs.Common.{ℕ, ℤ, List, [], ◌∷◌, drop}
use Rattle.std.specs.Prelude.{slice_get}
use Rattle.std.specs.List.{AllByRecursion}
use Rattle.osm_entity.specs.declared.scale.Scale.{Scale}
use Rattle.osm_entity.specs.Ranges.{IsStored, IsUid, IfPresent}
use Rattle.pbf_dense.specs.Cursors.{dense_left}
use Rattle.pbf_dense.specs.Info.{InfoSpec, info_rest}
use Rattle.pbf_dense.specs.Runs.{after_run}
use Rattle.pbf_dense.specs.Nodes.{nodes_of_columns}
use Rattle.pbf_dense.specs.Steady.{NumbersFit}
use Rattle.pbf_dense.specs.declared.dense.Dense.{Dense}
use Rattle.pbf_dense.proofs.InfoLemmas.{stored_all}

-- the columns of metadata
record InfoFits (info : InfoSpec) : Type 0 where
  timestamps : AllByRecursion IsStored info.timestamps
  changesets : AllByRecursion IsStored info.changesets
  uids : AllByRecursion IsUid info.uids

first : (P : ℤ → Type 0) (zs : List ℤ) → AllByRecursion P zs → IfPresent P (slice_get zs 0)
first P [] h = tt
first P (z ∷ zs) h = h.0

later : (P : ℤ → Type 0) (zs : List ℤ) → AllByRecursion P zs → AllByRecursion P (drop 1 zs)
later P [] h = tt
later P (z ∷ zs) h = h.1

columns_fit : (table : List (List ℕ)) (scale : Scale) (ids lats lons : List ℤ) (info : InfoSpec) (keys_vals : List ℕ)
    → AllByRecursion IsStored ids → AllByRecursion IsStored lats → AllByRecursion IsStored lons → InfoFits info → AllByRecursion NumbersFit (nodes_of_columns table scale ids lats lons info keys_vals)
columns_fit table scale (id ∷ ids) (lat ∷ lats) (lon ∷ lons) info keys_vals a b c h = (
  record {
    id = a.0;
    lat = b.0;
    lon = c.0;
    meta = record { timestamp = first IsStored info.timestamps h.timestamps; changeset = first IsStored info.changesets h.changesets; uid = first IsUid info.uids h.uids };
  },
  columns_fit table scale ids lats lons (info_rest info) (after_run keys_vals) a.1 b.1 c.1 (record {
    timestamps = later IsStored info.timestamps h.timestamps;
    changesets = later IsStored info.changesets h.changesets;
    uids = later IsUid info.uids h.uids;
  }),
)
columns_fit table scale ids lats lons info keys_vals a b c h = tt

-- those of the nodes that are still to come
pub dense_fits : (dense : Dense) → AllByRecursion NumbersFit (dense_left dense)
unfolding dense_left
dense_fits dense =
    columns_fit _ _ _ _ _ _ _ (stored_all _ _ dense.ids_stored) (stored_all _ _ dense.lats_stored) (stored_all _ _ dense.lons_stored)
    (record { timestamps = stored_all _ _ dense.info.timestamps_stored; changesets = stored_all _ _ dense.info.changesets_stored; uids = stored_all _ _ dense.info.narrow })
