-- Ids and places, read without the rest, are those of the nodes.
use Rattle.std.proofs.Common.{◌≡◌, ◌+◌, ℕ, ℤ, List, [], ◌∷◌, drop, map, refl, sym, ap, ◌∙◌}
use Rattle.std.proofs.lemmas.List.{drop-drop}
use Rattle.pbf_wire.specs.declared.sums.Sums.{Sums}
use Rattle.pbf_wire.specs.Cursors.{sums_left}
use Rattle.osm_entity.specs.declared.scale.Scale.{Scale}
use Rattle.osm_entity.specs.Scale.{nano_lat, nano_lon}
use Rattle.pbf_dense.specs.Info.{InfoSpec, info_rest}
use Rattle.pbf_dense.specs.Runs.{after_run}
use Rattle.pbf_dense.specs.Nodes.{nodes_of_columns}
use Rattle.pbf_dense.specs.declared.dense.Dense.{Dense}
use Rattle.pbf_dense.specs.Cursors.{AreIdsAfter}
use Rattle.pbf_dense.specs.declared.places.Place.{Place}
use Rattle.pbf_dense.specs.Places.{node_place, BeginWithIds, places_along}

pub places_are : (table : List (List ℕ)) (scale : Scale) (ids lats lons : List ℤ) (info : InfoSpec) (keys_vals : List ℕ) → places_along scale ids lats lons ≡ map node_place (nodes_of_columns table scale ids lats lons info keys_vals)
places_are table scale (id ∷ ids) (lat ∷ lats) (lon ∷ lons) info keys_vals = ap (λ (l : List Place). record { id = id; lat = nano_lat scale lat; lon = nano_lon scale lon } ∷ l) (places_are table scale ids lats lons (info_rest info) (after_run keys_vals))
places_are table scale ids lats lons info keys_vals = refl

pub ids_begin : (table : List (List ℕ)) (scale : Scale) (ids lats lons : List ℤ) (info : InfoSpec) (keys_vals : List ℕ) → BeginWithIds ids (nodes_of_columns table scale ids lats lons info keys_vals)
ids_begin table scale (id ∷ ids) (lat ∷ lats) (lon ∷ lons) info keys_vals =
    let (more, e) = ids_begin table scale ids lats lons (info_rest info) (after_run keys_vals) in (more, ap (λ (l : List ℤ). id ∷ l) e)
ids_begin table scale ids lats lons info keys_vals = (ids, refl)

-- ---- a column that has ended

pub no_lats : (scale : Scale) (ids lons : List ℤ) → places_along scale ids [] lons ≡ []
no_lats scale [] lons = refl
no_lats scale (id ∷ ids) lons = refl

pub no_lons : (scale : Scale) (ids lats : List ℤ) → places_along scale ids lats [] ≡ []
no_lons scale (id ∷ ids) (lat ∷ lats) = refl
no_lons scale ids lats = refl

-- ---- a cursor over the ids that goes ahead of the nodes

pub passed_ids : (dense : Dense) (old new : Sums) (n m : ℕ) → AreIdsAfter n dense old → sums_left new ≡ drop m (sums_left old) → AreIdsAfter (n + m) dense new
unfolding AreIdsAfter
passed_ids dense old new n m after passed = passed ∙ (ap (drop m) after ∙ drop-drop m n (sums_left dense.ids))

pub read_id : (dense : Dense) (old new : Sums) (n : ℕ) (id : ℤ) → AreIdsAfter n dense old → sums_left old ≡ id ∷ sums_left new → AreIdsAfter (n + 1) dense new
read_id dense old new n id after read = passed_ids dense old new n 1 after (sym (ap (drop 1) read))
